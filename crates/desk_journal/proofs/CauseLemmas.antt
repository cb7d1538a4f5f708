-- What the entries of a history cause to be sent: an advice by an instruction that is paired with an earlier one, two
-- notices by each pair that a run settles, and nothing by any other entry.
use Rattle.std.proofs.Common.{◌≡◌, ℕ, suc, ◌*◌, ◌<◌, ◌⊎◌, inl, inr, Bool, true, false, cond, if◌then◌else◌, List, [], ◌∷◌, ◌++◌, map, Some, None, refl, sym, ◌∙◌, ap, arith, append-nil}
use Rattle.std.specs.Prelude.{◌==◌, replicate, option_and_then}
use Rattle.std.specs.List.{flat_map}
use Rattle.std.proofs.lemmas.Bool.{cases_Bool, eqb-true, eq-eqb, ltb-true}
use Rattle.std.proofs.lemmas.List.{map-append}
use Rattle.std.proofs.lemmas.List.Concat.{flat_map-cons}
use Rattle.std.proofs.lemmas.List.Sums.{sum_by-cons}
use Rattle.desk_rules.specs.declared.history.entry.Entry.{Entry}
use Rattle.desk_rules.specs.declared.history.entry.Entry.TheVariants.{Participant, Account, Security, Issue, Redeem, PayIn, PayOut, Instruct, Cancel, Run}
use Rattle.desk_rules.specs.declared.history.entry.Instructed.{Instructed}
use Rattle.desk_rules.specs.declared.history.entry.RunRule.{RunRule}
use Rattle.desk_rules.specs.declared.history.pair.Pair.{Pair}
use Rattle.desk_rules.specs.declared.history.pair.Settled.{Settled}
use Rattle.desk_rules.specs.declared.answers.reply.Notice.{Notice}
use Rattle.desk_rules.specs.History.{entry_at, instructed, instruction_at, run_day}
use Rattle.desk_rules.specs.Pairing.{IsSide, mate_in, other_side, mate_of}
use Rattle.desk_rules.specs.Settlement.{day_of, settled_count}
use Rattle.desk_rules.specs.Sent.{told_of_pair, told_of_settled, told_by}
use Rattle.desk_rules.specs.Books.{Books, AreBooks}
use Rattle.desk_rules.proofs.Decided.{In, Contains-from_In, Ordered}
use Rattle.desk_rules.proofs.HistoryLemmas.{some_before}
use Rattle.desk_rules.proofs.PairingLemmas.{lower}
use Rattle.desk_rules.proofs.SettlementLemmas.{due_facts, ordered_pairs}
use Rattle.desk_rules.proofs.SettlementGrowth.{by_none}
use Rattle.desk_rules.proofs.SentFronts.{flat-none, if_not, other_number}
use Rattle.desk_rules.proofs.StandsAccepted.{pair_or_none}
use Rattle.desk_rules.proofs.StandsLemmas.{pair_at}
use Rattle.desk_journal.specs.Sending.{blank}

if_so : {X : Type 0} (test : Bool) (x y : X) → test ≡ true → (if test then x else y) ≡ x
if_so test x y e = rw e refl

some_number : (a b : ℕ) → Some a ≡ Some b → a ≡ b
some_number a b e = cc

-- the notice of a pair, and one of a settlement whose instruction is left out
abbrev of_pair : ℕ → Notice
of_pair m = record { about = m; run = None }

abbrev of_run : ℕ → Notice
of_run n = record { about = 0; run = Some n }

-- an instruction is no run
no_run_day : (e : Entry) (i : Instructed) → instructed e ≡ Some i → run_day e ≡ None
no_run_day (Participant reference bic) i is = absurd (cc)
no_run_day (Account reference bic account) i is = absurd (cc)
no_run_day (Security reference isin kind) i is = absurd (cc)
no_run_day (Issue movement) i is = absurd (cc)
no_run_day (Redeem movement) i is = absurd (cc)
no_run_day (PayIn payment) i is = absurd (cc)
no_run_day (PayOut payment) i is = absurd (cc)
no_run_day (Instruct sender instruction) i is = refl
no_run_day (Cancel sender order) i is = absurd (cc)
no_run_day (Run reference date rule) i is = absurd (cc)

-- of pairs that rise by number the one of a number tells of itself alone
one_told : (ps : List Pair) (p : Pair) (n : ℕ) → Ordered lower ps → In ps p → p.later ≡ n → flat_map (told_of_pair n) ps ≡ of_pair p.earlier ∷ []
one_told [] p n order i at = absurd i
one_told (x ∷ ps) p n order (inl e) at =
    let here : x.later ≡ n = ap (λ (z : Pair). z.later) e ∙ at in
    let earlier : x.earlier ≡ p.earlier = ap (λ (z : Pair). z.earlier) e in
    let none = flat-none (told_of_pair n) ps (λ q j.
    let above = ltb-true x.later q.later (order.0 q j) in
    if_not (q.later == n) _ [] (other_number q.later n (omega (arith, above, here)))) in
    flat_map-cons (told_of_pair n) x ps
    ∙ ap (λ z. z ++ flat_map (told_of_pair n) ps) (if_so (x.later == n) _ [] (eq-eqb x.later n here))
    ∙ ap (λ z. of_pair x.earlier ∷ z) none
    ∙ ap (λ m. of_pair m ∷ []) earlier
one_told (x ∷ ps) p n order (inr i) at =
    let below = ltb-true x.later p.later (order.0 p i) in
    flat_map-cons (told_of_pair n) x ps
    ∙ ap (λ z. z ++ flat_map (told_of_pair n) ps) (if_not (x.later == n) _ [] (unlike x.later n (omega (arith, below, at))))
    ∙ one_told ps p n order.1 i at
  where
    unlike : (a b : ℕ) → a < b → (a == b) ≡ false
    unlike a b lt = elim (cases_Bool (a == b)) [ inl e ↦ let same = eqb-true a b e in absurd (omega (arith, same, lt)) | inr e ↦ e ]

abbrev one_if : Bool → ℕ
one_if test = cond test 1 0

-- what a run settled tells two notices each
run_told : (history : List Entry) (n : ℕ) (ss : List Settled) → map blank (flat_map (told_of_settled history n) ss) ≡ replicate (2 * settled_count ss n) (of_run n)
run_told history n [] = refl
run_told history n (s ∷ ss) =
    let f = told_of_settled history n in
    let rest = run_told history n ss in
    let count = sum_by-cons (λ (t : Settled). one_if (t.run == n)) s ss in
    let both = ap (map blank) (flat_map-cons f s ss) ∙ map-append blank (f s) (flat_map f ss) in
    elim (cases_Bool (s.run == n)) [
      | inl e ↦
          let one : one_if (s.run == n) ≡ 1 = ap one_if e in
          let more : suc (suc (2 * settled_count ss n)) ≡ 2 * settled_count (s ∷ ss) n = omega (arith, count, one) in
          both
          ∙ ap (λ z. map blank z ++ map blank (flat_map f ss)) (if_so (s.run == n) _ [] e)
          ∙ ap (λ z. of_run n ∷ of_run n ∷ z) rest
          ∙ ap (λ k. replicate k (of_run n)) more
      | inr e ↦
          let none : one_if (s.run == n) ≡ 0 = ap one_if e in
          let same : 2 * settled_count ss n ≡ 2 * settled_count (s ∷ ss) n = omega (arith, count, none) in
          both
          ∙ ap (λ z. map blank z ++ map blank (flat_map f ss)) (if_not (s.run == n) _ [] e)
          ∙ rest
          ∙ ap (λ k. replicate k (of_run n)) same
    ]

module _ (books : Books) (are : AreBooks books) where
  -- what is no instruction is the number of no pair
  no_pair_told : (n : ℕ) → ((i : Instructed) → instruction_at books.history n ≡ Some i → ⊥) → flat_map (told_of_pair n) books.pairs ≡ []
  no_pair_told n none = flat-none (told_of_pair n) books.pairs (λ p i. if_not (p.later == n) _ [] (elim (cases_Bool (p.later == n)) [
    | inr e ↦ e
    | inl e ↦
        let mate = (are.pairing.exact p).0 (Contains-from_In books.pairs p i) in
        let opposite = mate.candidate.opposite in
        absurd (none opposite.second (ap (instruction_at books.history) (sym (eqb-true p.later n e)) ∙ opposite.is_second))
  ]))

  -- what is no run settles nothing
  no_run_told : (n : ℕ) (e : Entry) → entry_at books.history n ≡ Some e → run_day e ≡ None → flat_map (told_of_settled books.history n) books.settled ≡ []
  no_run_told n e at no_day = flat-none (told_of_settled books.history n) books.settled (λ s i. if_not (s.run == n) _ [] (elim (cases_Bool (s.run == n)) [
    | inr other ↦ other
    | inl same ↦
        let settles = (are.settlement.exact s).0 (Contains-from_In books.settled s i) in
        let due = due_facts books.history s.run s.pair settles.due in
        absurd (by_none run_day (entry_at books.history s.run) e (day_of books.history s.pair) (ap (entry_at books.history) (eqb-true s.run n same) ∙ at) no_day due.by)
  ]))

  instruction_alone : (n : ℕ) (i : Instructed) → instruction_at books.history n ≡ Some i → flat_map (told_of_settled books.history n) books.settled ≡ []
  instruction_alone n i is =
      let found = some_before instructed (entry_at books.history n) i is in
      no_run_told n found.0 found.1 (no_run_day found.0 i found.2)

  below_later : (p : Pair) → In books.pairs p → p.earlier < p.later
  below_later p i = let mate = (are.pairing.exact p).0 (Contains-from_In books.pairs p i) in mate.candidate.earlier

  -- an instruction that is paired with an earlier one tells of that
  pub told_paired : (n m : ℕ) (i : Instructed) → instruction_at books.history n ≡ Some i → mate_of books.pairs n ≡ Some m → m < n → told_by books n ≡ record { about = m; run = None } ∷ []
  told_paired n m i is mate lt = elim (pair_or_none books.pairs n) [
    | inl none ↦ absurd (let clash : None ≡ Some m = sym (ap (other_side n) none.is) ∙ mate in cc)
    | inr has ↦
        let p = has.pair in
        let other : mate_in p n ≡ m = some_number (mate_in p n) m (sym (ap (other_side n) has.is) ∙ mate) in
        let rising = below_later p has.member in
        let sides = by_side p (cases_Bool (p.earlier == n)) has.side other rising in
        ap (λ z. flat_map (told_of_pair n) books.pairs ++ z) (instruction_alone n i is)
        ∙ append-nil (flat_map (told_of_pair n) books.pairs)
        ∙ one_told books.pairs p n (ordered_pairs books.history books.pairs are.pairing) has.member sides.0
        ∙ ap (λ k. of_pair k ∷ []) sides.1
  ]
    where
      by_side : (p : Pair) → ((p.earlier == n) ≡ true) ⊎ ((p.earlier == n) ≡ false) → IsSide p n → mate_in p n ≡ m → p.earlier < p.later → (p.later ≡ n) × (p.earlier ≡ m)
      by_side p (inl e) side other rising =
          let at = eqb-true p.earlier n e in
          let is_m : p.later ≡ m = sym (if_so (p.earlier == n) p.later p.earlier e) ∙ other in
          absurd (omega (arith, at, is_m, rising, lt))
      by_side p (inr e) (inl side) other rising = absurd (let clash : true ≡ false = sym (eq-eqb p.earlier n side) ∙ e in cc)
      by_side p (inr e) (inr side) other rising = (side, sym (if_not (p.earlier == n) p.later p.earlier e) ∙ other)

  -- an instruction that is not paired with an earlier one tells nothing
  pub told_unpaired : (n : ℕ) (i : Instructed) → instruction_at books.history n ≡ Some i → ((m : ℕ) → mate_of books.pairs n ≡ Some m → m < n → ⊥) → told_by books n ≡ []
  told_unpaired n i is alone =
      let none = flat-none (told_of_pair n) books.pairs (λ p j. if_not (p.later == n) _ [] (elim (cases_Bool (p.later == n)) [
        | inr other ↦ other
        | inl e ↦
            let at = eqb-true p.later n e in
            let rising = below_later p j in
            let less : p.earlier < n = omega (arith, at, rising) in
            let mate : mate_of books.pairs n ≡ Some (mate_in p n) = ap (other_side n) (pair_at books are n p (Contains-from_In books.pairs p j) (inr at)) in
            let other : mate_in p n ≡ p.earlier = if_not (p.earlier == n) p.later p.earlier (elim (cases_Bool (p.earlier == n)) [ inr f ↦ f | inl f ↦ let same = eqb-true p.earlier n f in absurd (omega (arith, same, less)) ]) in
            absurd (alone p.earlier (mate ∙ ap Some other) less)
      ])) in
      ap (λ z. z ++ flat_map (told_of_settled books.history n) books.settled) none ∙ instruction_alone n i is

  -- what is neither an instruction nor a run tells nothing
  pub told_none : (n : ℕ) (e : Entry) → entry_at books.history n ≡ Some e → instructed e ≡ None → run_day e ≡ None → told_by books n ≡ []
  told_none n e at no_instruction no_day =
      let none = no_pair_told n (λ i is. let clash : None ≡ Some i = sym (ap (option_and_then instructed) at ∙ no_instruction) ∙ is in cc) in
      ap (λ z. z ++ flat_map (told_of_settled books.history n) books.settled) none ∙ no_run_told n e at no_day

  -- a run tells two notices of each pair that it settles
  pub told_run : (n : ℕ) (reference day : List ℕ) (rule : RunRule) → entry_at books.history n ≡ Some (Run reference day rule) → map blank (told_by books n) ≡ replicate (2 * settled_count books.settled n) (record { about = 0; run = Some n })
  told_run n reference day rule at =
      let none = no_pair_told n (λ i is. let clash : None ≡ Some i = sym (ap (option_and_then instructed) at) ∙ is in cc) in
      ap (λ z. map blank (z ++ flat_map (told_of_settled books.history n) books.settled)) none ∙ run_told books.history n books.settled
