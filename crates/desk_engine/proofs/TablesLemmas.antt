-- How the tables of a history become those of a longer one.
use Rattle.std.proofs.Common.{◌≡◌, ◌⊎◌, inl, inr, ℕ, ◌+◌, ◌-◌, ◌<◌, ◌≤◌, ◌^◌, ◌==◌, Bool, true, false, ◌||◌, ◌&&◌, not, if◌then◌else◌, List, [], ◌∷◌, ◌++◌, length, drop, Contains, bytes_eq, sum_by, Option, Some, None, refl, ap, sym, ◌∙◌, subst, arith, length-append, append-nil}
use Rattle.std.specs.Prelude.{nat_lt, is_none}
use Rattle.std.specs.List.{list_any}
use Rattle.std.proofs.lemmas.Bool.{cases_lt, cases_eq}
use Rattle.std.proofs.lemmas.List.{length-map, map-append, drop-append-le}
use Rattle.std.proofs.lemmas.List.Folds.{list_any-append}
use Rattle.desk_rules.specs.declared.history.entry.Entry.{Entry}
use Rattle.desk_rules.specs.declared.history.entry.Entry.TheVariants.{Participant, Account, Security, Issue, Redeem, PayIn, PayOut, Instruct, Cancel, Run}
use Rattle.desk_rules.specs.declared.history.pair.Pair.{Pair}
use Rattle.desk_rules.specs.declared.history.pair.Settled.{Settled}
use Rattle.desk_rules.specs.declared.history.standing.State.{State}
use Rattle.desk_rules.specs.declared.history.standing.State.TheVariants as states
use Rattle.desk_rules.specs.declared.history.standing.State.TheVariants.{NoInstruction, Unmatched, Matched, Cancelled}
use Rattle.desk_msg.specs.declared.writing.status.Reason.{Reason}
use Rattle.desk_rules.specs.declared.history.standing.Standing.{Standing}
use Rattle.desk_rules.specs.declared.answers.verdict.Verdict.TheVariants.{Accept}
use Rattle.desk_rules.specs.declared.history.entry.Instructed.{Instructed}
use Rattle.desk_rules.specs.History.{before, instruction_at, entry_at, run_day, instructed}
use Rattle.desk_rules.specs.Cancelled.{requests_cancel, is_cancel_requested, is_cancel_requested_by, is_cancelled_pair}
use Rattle.desk_rules.specs.Pairing.{IsPairing, IsFree, IsSide}
use Rattle.desk_rules.specs.Balances.{credits, debits, issued, redeemed}
use Rattle.desk_rules.specs.Covered.{lack_of}
use Rattle.desk_rules.specs.Settlement.{IsSettlement, is_due, last_pass, passes_of, settled_before, precedes}
use Rattle.desk_rules.specs.Books.{Books, AreBooks}
use Rattle.desk_rules.specs.Verdict.{WasAccepted, IsVerdict, check}
use Rattle.desk_rules.specs.Content.{Content, history_of}
use Rattle.desk_rules.specs.Standing.{no_standing, reason_of_lack}
use Rattle.desk_rules.specs.Stands.{IsAlone, IsInPair, IsReason, StandsAt, StandsSo, reason_found}
use Rattle.desk_engine.specs.Tables.{Tables, Grown, is_booking}
use Rattle.desk_engine.proofs.SentLemmas.{sends_nothing}
use Rattle.desk_rules.proofs.Decided.{In, In-from_Contains, Contains-from_In, In-left, In-cases, filter-same}
use Rattle.desk_rules.proofs.HistoryLemmas.{entry_at-known, entry_at-front, entry_at-end, before-front, before-all, instruction_at-known, instruction_at-front}
use Rattle.desk_rules.proofs.PairingLemmas.{one_pairing, decided_pairing}
use Rattle.desk_rules.proofs.SettlementLemmas.{one_settlement, ordered_pairs, IsRanged, decided_settlement, due_facts, due_known}
use Rattle.desk_rules.proofs.SettlementGrowth.{in_passes-front, is_due-front, precedes-front, by_none}
use Rattle.std.proofs.lemmas.Bool.{cases_Bool, ltb-false, ne_eqb, not-false}
use Rattle.std.proofs.lemmas.Bool.Decides.{nat_tests}
use Rattle.std.proofs.Common.{lit<}
use Rattle.std.specs.Prelude.{Result, Ok, Err, OnOk}
use Rattle.desk_register.specs.declared.register.Fault.{Fault}
use Rattle.desk_rules.specs.declared.history.entry.Movement.{Movement}
use Rattle.desk_codes.specs.declared.currency.Ccy.{Ccy}
use Rattle.desk_rules.specs.declared.answers.verdict.Refusal.TheVariants.{AccountUnknown, NotEnough, OverLimit, ParticipantUnknown}
use Rattle.desk_engine.specs.Tables.{IsAccepted}
use Rattle.std.proofs.lemmas.Slice.Eq.{bytes_eq-Decides}
use Rattle.std.proofs.lemmas.List.Sums.{sum_by-cons}
use Rattle.desk_rules.specs.declared.answers.reply.Kept.{Kept}
use Rattle.desk_rules.specs.declared.answers.reply.Reply.{Reply}
use Rattle.desk_register.specs.Changes.{appended, cash_after, cash_at, first_standing, positions_after, requests_noted, moved_to, BalancesAllow}
use Rattle.desk_rules.specs.Facts.{is_participant, owner_of, accounts_of, participants_of}
use Rattle.desk_rules.specs.declared.limits.TheConstants.{MOST_PAID, MOST_QUANTITY}
use Rattle.desk_rules.specs.Balances.{cash_credits, cash_debits, issued_by, redeemed_by, movement_on, paid_in, paid_in_by, paid_out, paid_out_by, payment_of, quantity_if, same_ccy}
use Rattle.desk_rules.specs.declared.history.entry.Payment.{Payment}
use Rattle.desk_rules.proofs.PairingLemmas.{pairing_alone}
use Rattle.desk_rules.proofs.SettlementGrowth.{settlement_alone}
use Rattle.desk_rules.proofs.BalanceLemmas.{IsIn, cash_credits-entry, cash_debits-entry, credits-entry, debits-entry}
use Rattle.desk_rules.proofs.Accepted.{passes}
use Rattle.desk_rules.proofs.NonNegative.{never_negative}
use Rattle.desk_rules.proofs.Conservation.{securities_add_up, cash_adds_up, owned, takes_part, is_none_false}
use Rattle.desk_rules.proofs.Deciding.{same_ccy-true}
use Rattle.std.specs.Prelude.{option_and_then}

-- Two books of one history are one.
pub one_books : (a b : Books) → a.history ≡ b.history → AreBooks a → AreBooks b → a ≡ b
one_books a b same are others =
    let P : List Entry → Type 0 = λ h. IsPairing h a.pairs in
    let pairing : IsPairing b.history a.pairs = subst P same are.pairing in
    let pairs : a.pairs ≡ b.pairs = one_pairing b.history a.pairs b.pairs pairing others.pairing in
    let Q : List Entry → Type 0 = λ h. IsSettlement h a.pairs a.settled in
    let R : List Pair → Type 0 = λ ps. IsSettlement b.history ps a.settled in
    let settlement : IsSettlement b.history b.pairs a.settled = subst R pairs (subst Q same are.settlement) in
    let settled : a.settled ≡ b.settled = one_settlement b.history b.pairs a.settled b.settled (ordered_pairs b.history b.pairs others.pairing) settlement others.settlement in
    by_parts a.history b.history a.pairs b.pairs a.settled b.settled same pairs settled
  where
    by_parts : (h h' : List Entry) (p p' : List Pair) (s s' : List Settled) → h ≡ h' → p ≡ p' → s ≡ s' → (let x : Books = record { history = h; pairs = p; settled = s } in x) ≡ (let y : Books = record { history = h'; pairs = p'; settled = s' } in y)
    by_parts h h' p p' s s' e f g = rw (e, f, g) refl

-- What was accepted, and one accepted entry more.
pub accepted_more : (limit : ℕ) (books : Books) (e : Entry) → AreBooks books → WasAccepted limit books.history → IsVerdict limit books e Accept → WasAccepted limit (books.history ++ e ∷ [])
accepted_more limit books e are was verdict = record {
  each = λ n entry other at history others.
      let h = books.history in
      let known = entry_at-known (h ++ e ∷ []) n entry at in
      let most : n ≤ length h + 1 = (let l = length-append h (e ∷ []) in let k : n ≤ length (h ++ e ∷ []) = known.1 in omega arith) in
      elim (cases_lt n (length h + 1)) [
        | inl lt ↦ was.each n entry other (sym (entry_at-front h (e ∷ []) n (omega arith)) ∙ at) (history ∙ before-front h (e ∷ []) n (omega arith)) others
        | inr ge ↦
            let last : n ≡ length h + 1 = omega arith in
            let same : Some e ≡ Some entry = sym (entry_at-end h e n last) ∙ at in
            let is : e ≡ entry = cc in
            let front : other.history ≡ h = history ∙ before-all h (e ∷ []) n last in
            let one : books ≡ other = one_books books other (sym front) are others in
            let P : Books → Type 0 = λ b. IsVerdict limit b e Accept in
            let Q : Entry → Type 0 = λ x. IsVerdict limit other x Accept in
            subst Q is (subst P one verdict)
      ];
}

-- Where an instruction stands does not change by an entry that neither settles it, nor calls it off, nor pairs it.

pub record IsQuiet (h : List Entry) (e : Entry) (ps more : List Pair) (settled : List Settled) : Type 0 where
  pub no_run : run_day e ≡ None
  pub within_pairs : (p : Pair) → In ps p → IsIn h p
  pub within : (s : Settled) → In settled s → IsRanged (length h) s

or_false : (b : Bool) → (b || (false || false)) ≡ b
or_false true = refl
or_false false = refl

pub not_cancelled : (h : List Entry) (e : Entry) (k : ℕ) → k ≤ length h → ((i : Instructed) → instruction_at h k ≡ Some i → requests_cancel e i ≡ false) → is_cancel_requested (h ++ e ∷ []) k ≡ is_cancel_requested h k
not_cancelled h e k le none =
    let front : instruction_at (h ++ e ∷ []) k ≡ instruction_at h k = instruction_at-front h (e ∷ []) k le in
    let rest : drop k (h ++ e ∷ []) ≡ drop k h ++ e ∷ [] = drop-append-le k h (e ∷ []) le in
    ap (λ xs. is_cancel_requested_by xs (instruction_at (h ++ e ∷ []) k)) rest ∙ ap (λ o. is_cancel_requested_by (drop k h ++ e ∷ []) o) front ∙ by_instruction (drop k h) (instruction_at h k) refl
  where
    by_instruction : (xs : List Entry) (o : Option Instructed) → instruction_at h k ≡ o → is_cancel_requested_by (xs ++ e ∷ []) o ≡ is_cancel_requested_by xs o
    by_instruction xs None at = refl
    by_instruction xs (Some i) at =
        let both = list_any-append (λ x. requests_cancel x i) xs (e ∷ []) in
        both ∙ ap (λ b. list_any (λ x. requests_cancel x i) xs || (b || false)) (none i at) ∙ or_false (list_any (λ x. requests_cancel x i) xs)

-- An entry does not call an instruction off: whether it is cancelled, alone or with its pair, stays as it was.
pub record IsUnasked (h : List Entry) (e : Entry) (ps : List Pair) (k : ℕ) : Type 0 where
  pub alone : IsFree ps k → is_cancel_requested (h ++ e ∷ []) k ≡ is_cancel_requested h k
  pub pair : (p : Pair) → Contains ps p → IsSide p k → is_cancelled_pair (h ++ e ∷ []) p ≡ is_cancelled_pair h p

-- where an entry requests of neither side of a pair, the pair stays as it was
pub both_asked : (h : List Entry) (e : Entry) (p : Pair) → is_cancel_requested (h ++ e ∷ []) p.earlier ≡ is_cancel_requested h p.earlier → is_cancel_requested (h ++ e ∷ []) p.later ≡ is_cancel_requested h p.later
    → is_cancelled_pair (h ++ e ∷ []) p ≡ is_cancelled_pair h p
both_asked h e p earlier later = ap (λ b. b && is_cancel_requested (h ++ e ∷ []) p.later) earlier ∙ ap (λ b. is_cancel_requested h p.earlier && b) later

-- what requests nothing calls nothing off
pub unasked : (h : List Entry) (e : Entry) (ps : List Pair) (k : ℕ) → ((p : Pair) → In ps p → IsIn h p) → ((i : Instructed) → requests_cancel e i ≡ false) → k ≤ length h → IsUnasked h e ps k
unasked h e ps k within none le = record {
  alone = λ free. not_cancelled h e k le (λ i at. none i);
  pair = λ p c side.
      let is = within p (In-from_Contains ps p c) in
      both_asked h e p (not_cancelled h e p.earlier is.earlier (λ i at. none i)) (not_cancelled h e p.later is.later (λ i at. none i));
}

-- a run tries a pair in the longer history exactly where it does in the shorter one
due_more : (h : List Entry) (e : Entry) (p : Pair) (run : ℕ) → run_day e ≡ None → is_due h run p ≡ true → is_due (h ++ e ∷ []) run p ≡ true
due_more h e p run no_run due =
    let f = due_facts h run p due in
    is_due-front h (e ∷ []) run p (due_known h run p due) f.numbered ∙ due

due_less : (h : List Entry) (e : Entry) (p : Pair) (run : ℕ) → run_day e ≡ None → is_due (h ++ e ∷ []) run p ≡ true → is_due h run p ≡ true
due_less h e p run no_run due =
    let f = due_facts (h ++ e ∷ []) run p due in
    let longer = length-append h (e ∷ []) in
    let known : run ≤ length (h ++ e ∷ []) = due_known (h ++ e ∷ []) run p due in
    elim (cases_lt run (length h + 1)) [
      | inl lt ↦ sym (is_due-front h (e ∷ []) run p (omega arith) f.numbered) ∙ due
      | inr ge ↦ absurd (by_none run_day (entry_at (h ++ e ∷ []) run) e _ (entry_at-end h e run (omega arith)) no_run f.by)
    ]

-- the last pass of an earlier run found what it found
found_more : (h : List Entry) (e : Entry) (ps more : List Pair) (settled : List Settled) (p : Pair) (n : ℕ) → IsQuiet h e ps more settled → p.later ≤ length h → n ≤ length h
    → reason_found (record { history = h ++ e ∷ []; pairs = ps ++ more; settled = settled }) p n ≡ reason_found (record { history = h; pairs = ps; settled = settled }) p n
found_more h e ps more settled p n quiet le known =
    let pass = passes_of h settled n in
    let t : Settled = record { run = n; pass = pass; pair = p } in
    let same : settled_before (h ++ e ∷ []) t settled ≡ settled_before h t settled =
    filter-same (λ s. precedes (h ++ e ∷ []) s t) (λ s. precedes h s t) settled (λ s i. let r = quiet.within s i in precedes-front h (e ∷ []) s t (let a : s.pair.later < s.run = r.numbered in let b : s.run ≤ length h = r.run in omega arith) le) in
    ap (λ b. reason_of_lack (lack_of (before n (h ++ e ∷ [])) (settled_before (h ++ e ∷ []) (record { run = n; pass = if b then last_pass settled n + 1 else 1; pair = p }) settled) p)) (in_passes-front h (e ∷ []) n known)
    ∙ ap (λ z. reason_of_lack (lack_of z (settled_before (h ++ e ∷ []) t settled) p)) (before-front h (e ∷ []) n (omega arith))
    ∙ ap (λ z. reason_of_lack (lack_of (before n h) z p)) same

reason_more : (h : List Entry) (e : Entry) (ps more : List Pair) (settled : List Settled) (p : Pair) (reason : Reason) → IsQuiet h e ps more settled → p.later ≤ length h
    → IsReason (record { history = h; pairs = ps; settled = settled }) p reason → IsReason (record { history = h ++ e ∷ []; pairs = ps ++ more; settled = settled }) p reason
reason_more h e ps more settled p reason quiet le why =
    let longer = length-append h (e ∷ []) in
    elim why [
      | inl untried ↦ inl (record {
        none = λ run below due. (let less = due_less h e p run quiet.no_run due in let known : run ≤ length h = due_known h run p less in untried.none run (omega arith) less);
        future = untried.future;
      })
      | inr tried ↦
          let known : tried.run ≤ length h = due_known h tried.run p tried.due in
          inr (record {
            run = tried.run;
            below = omega arith;
            due = due_more h e p tried.run quiet.no_run tried.due;
            last = λ later lt below due. (let less = due_less h e p later quiet.no_run due in let here : later ≤ length h = due_known h later p less in tried.last later lt (omega arith) less);
            found = tried.found ∙ sym (found_more h e ps more settled p tried.run quiet le known);
          })
    ]

free_more : (ps more : List Pair) (k : ℕ) → IsFree ps k → IsFree more k → IsFree (ps ++ more) k
free_more ps more k free rest = λ p c. elim (In-cases ps more p (In-from_Contains (ps ++ more) p c)) [
  | inl i ↦ free p (Contains-from_In ps p i)
  | inr i ↦ rest p (Contains-from_In more p i)
]

contains_more : (ps more : List Pair) (p : Pair) → Contains ps p → Contains (ps ++ more) p
contains_more ps more p c = Contains-from_In (ps ++ more) p (In-left ps more p (In-from_Contains ps p c))

alone_more : (h : List Entry) (e : Entry) (ps more : List Pair) (settled : List Settled) (k : ℕ) (mate : Option ℕ) (is_gone : Bool) → IsUnasked h e ps k → IsFree more k
    → IsAlone (record { history = h; pairs = ps; settled = settled }) k mate is_gone → IsAlone (record { history = h ++ e ∷ []; pairs = ps ++ more; settled = settled }) k mate is_gone
alone_more h e ps more settled k mate is_gone stays free is = record { none = is.none; free = free_more ps more k is.free free; gone = stays.alone is.free ∙ is.gone }

in_pair_more : (h : List Entry) (e : Entry) (ps more : List Pair) (settled : List Settled) (k : ℕ) (mate : Option ℕ) (p : Pair) (is_gone : Bool) → IsUnasked h e ps k
    → IsInPair (record { history = h; pairs = ps; settled = settled }) k mate p is_gone → IsInPair (record { history = h ++ e ∷ []; pairs = ps ++ more; settled = settled }) k mate p is_gone
in_pair_more h e ps more settled k mate p is_gone stays is = record {
  paired = contains_more ps more p is.paired;
  side = is.side;
  other = is.other;
  unsettled = is.unsettled;
  gone = stays.pair p is.paired is.side ∙ is.gone;
}

pub stands_more : (h : List Entry) (e : Entry) (ps more : List Pair) (settled : List Settled) (k : ℕ) (mate : Option ℕ) (state : State) → IsQuiet h e ps more settled → IsUnasked h e ps k → IsFree more k
    → StandsSo (record { history = h; pairs = ps; settled = settled }) k mate state → StandsSo (record { history = h ++ e ∷ []; pairs = ps ++ more; settled = settled }) k mate state
stands_more h e ps more settled k mate NoInstruction quiet stays free is = is
stands_more h e ps more settled k mate Unmatched quiet stays free is = alone_more h e ps more settled k mate false stays free is
stands_more h e ps more settled k mate Cancelled quiet stays free is = elim is [
  | inl alone ↦ inl (alone_more h e ps more settled k mate true stays free alone)
  | inr side ↦ inr (record { pair = side.pair; in_pair = in_pair_more h e ps more settled k mate side.pair true stays side.in_pair })
]
stands_more h e ps more settled k mate (Matched reason) quiet stays free is = record {
  pair = is.pair;
  in_pair = in_pair_more h e ps more settled k mate is.pair false stays is.in_pair;
  why = (let within = quiet.within_pairs is.pair (In-from_Contains ps is.pair is.in_pair.paired) in reason_more h e ps more settled is.pair reason quiet within.later is.why);
}
stands_more h e ps more settled k mate states.Settled quiet stays free is = record { settlement = is.settlement; settled = is.settled; side = is.side; other = is.other }

pub cases_Option : {A : Type 0} (o : Option A) → ((a : A) × (o ≡ Some a)) ⊎ (o ≡ None)
cases_Option None = inr refl
cases_Option (Some a) = inl (a, refl)

pub beyond : (h : List Entry) (k : ℕ) → length h < k → instruction_at h k ≡ None
beyond h k above = elim (cases_Option (instruction_at h k)) [
  | inr none ↦ none
  | inl some ↦ let known = instruction_at-known h k some.0 some.1 in let le : k ≤ length h = known.1 in absurd (omega arith)
]

at_old : (h : List Entry) (e : Entry) (ps more : List Pair) (settled : List Settled) (k : ℕ) (s : Standing) (o : Option Instructed) → IsQuiet h e ps more settled
    → IsUnasked h e ps k → is_cancel_requested (h ++ e ∷ []) k ≡ is_cancel_requested h k → IsFree more k
    → StandsAt (record { history = h; pairs = ps; settled = settled }) k o s → StandsAt (record { history = h ++ e ∷ []; pairs = ps ++ more; settled = settled }) k o s
at_old h e ps more settled k s None quiet stays asked free is = is
at_old h e ps more settled k s (Some i) quiet stays asked free is = record { so = stands_more h e ps more settled k s.mate s.state quiet stays free is.so; requested = is.requested ∙ sym asked }

-- every number but that of the new entry, those that it is paired with, and those that it calls off
pub stands_by : (h : List Entry) (e : Entry) (ps more : List Pair) (settled : List Settled) (k : ℕ) (s : Standing) → IsQuiet h e ps more settled → (k ≡ length h + 1 → ⊥)
    → (k ≤ length h → IsUnasked h e ps k) → (k ≤ length h → is_cancel_requested (h ++ e ∷ []) k ≡ is_cancel_requested h k) → IsFree more k
    → StandsAt (record { history = h; pairs = ps; settled = settled }) k (instruction_at h k) s → StandsAt (record { history = h ++ e ∷ []; pairs = ps ++ more; settled = settled }) k (instruction_at (h ++ e ∷ []) k) s
stands_by h e ps more settled k s quiet not_new stays asked free is = elim (cases_lt (length h) k) [
  | inr le ↦ rw (instruction_at-front h (e ∷ []) k le) (at_old h e ps more settled k s (instruction_at h k) quiet (stays le) (asked le) free is)
  | inl above ↦
      let old : instruction_at h k ≡ None = beyond h k above in
      let new : instruction_at (h ++ e ∷ []) k ≡ None = beyond (h ++ e ∷ []) k (let l = length-append h (e ∷ []) in omega arith) in
      let P : Option Instructed → Type 0 = λ o. StandsAt (record { history = h; pairs = ps; settled = settled }) k o s in
      let plain = subst P old is in
      rw new plain
]

-- where the entry requests nothing: every number but that of the new entry, and those that it is paired with
pub stands_rest : (h : List Entry) (e : Entry) (ps more : List Pair) (settled : List Settled) (k : ℕ) (s : Standing) → IsQuiet h e ps more settled → ((i : Instructed) → requests_cancel e i ≡ false)
    → (k ≡ length h + 1 → ⊥) → IsFree more k
    → StandsAt (record { history = h; pairs = ps; settled = settled }) k (instruction_at h k) s → StandsAt (record { history = h ++ e ∷ []; pairs = ps ++ more; settled = settled }) k (instruction_at (h ++ e ∷ []) k) s
stands_rest h e ps more settled k s quiet none not_new free is =
    stands_by h e ps more settled k s quiet not_new (λ le. unasked h e ps k quiet.within_pairs none le) (λ le. not_cancelled h e k le (λ i at. none i)) free is

-- What a booking does.

pub record IsPlain (e : Entry) : Type 0 where
  pub no_run : run_day e ≡ None
  pub no_instruction : instructed e ≡ None
  pub no_cancel : (i : Instructed) → requests_cancel e i ≡ false
  pub first : first_standing e ≡ no_standing
  pub no_request : (h : List Entry) (standing : ℕ → Standing) → requests_noted h e standing ≡ standing

plain_entry : (e : Entry) → is_booking e ≡ true → IsPlain e
plain_entry (Participant reference bic) is = record { no_run = refl; no_instruction = refl; no_cancel = λ i. refl; first = refl; no_request = λ h standing. refl }
plain_entry (Account reference bic account) is = record { no_run = refl; no_instruction = refl; no_cancel = λ i. refl; first = refl; no_request = λ h standing. refl }
plain_entry (Security reference isin kind) is = record { no_run = refl; no_instruction = refl; no_cancel = λ i. refl; first = refl; no_request = λ h standing. refl }
plain_entry (Issue movement) is = record { no_run = refl; no_instruction = refl; no_cancel = λ i. refl; first = refl; no_request = λ h standing. refl }
plain_entry (Redeem movement) is = record { no_run = refl; no_instruction = refl; no_cancel = λ i. refl; first = refl; no_request = λ h standing. refl }
plain_entry (PayIn p) is = record { no_run = refl; no_instruction = refl; no_cancel = λ i. refl; first = refl; no_request = λ h standing. refl }
plain_entry (PayOut p) is = record { no_run = refl; no_instruction = refl; no_cancel = λ i. refl; first = refl; no_request = λ h standing. refl }
plain_entry (Instruct sender i) is = absurd (cc)
plain_entry (Cancel sender order) is = absurd (cc)
plain_entry (Run reference day rule) is = absurd (cc)

same_bytes : (a b : List ℕ) → bytes_eq a b ≡ true → a ≡ b
same_bytes a b e = let d = bytes_eq-Decides a b in d.0 e

issue_position : (d c pos : List ℕ → List ℕ → ℕ) (account isin a i : List ℕ) (q : ℕ) → ((a i : List ℕ) → pos a i + d a i ≡ c a i)
    → moved_to pos account isin (pos account isin + q) a i + (d a i + 0) ≡ c a i + quantity_if (bytes_eq account a) (quantity_if (bytes_eq isin i) q)
issue_position d c pos account isin a i q all =
    let here : pos a i + d a i ≡ c a i = all a i in
    elim (cases_Bool (bytes_eq account a)) [
      | inr other ↦ rw other (omega arith)
      | inl on ↦ elim (cases_Bool (bytes_eq isin i)) [
        | inr other ↦ rw (on, other) (omega arith)
        | inl of ↦
            let first : pos account isin ≡ pos a i = ap (λ x. pos x isin) (same_bytes account a on) ∙ ap (λ x. pos a x) (same_bytes isin i of) in
            rw (on, of) (omega arith)
      ]
    ]

redeem_position : (d c pos : List ℕ → List ℕ → ℕ) (account isin a i : List ℕ) (q : ℕ) → q ≤ pos account isin → ((a i : List ℕ) → pos a i + d a i ≡ c a i)
    → moved_to pos account isin (pos account isin - q) a i + (d a i + quantity_if (bytes_eq account a) (quantity_if (bytes_eq isin i) q)) ≡ c a i + 0
redeem_position d c pos account isin a i q there all =
    let here : pos a i + d a i ≡ c a i = all a i in
    elim (cases_Bool (bytes_eq account a)) [
      | inr other ↦ rw other (omega arith)
      | inl on ↦ elim (cases_Bool (bytes_eq isin i)) [
        | inr other ↦ rw (on, other) (omega arith)
        | inl of ↦
            let first : pos account isin ≡ pos a i = ap (λ x. pos x isin) (same_bytes account a on) ∙ ap (λ x. pos a x) (same_bytes isin i of) in
            rw (on, of) (omega arith)
      ]
    ]

pay_in_cash : (d c cash : List ℕ → Ccy → ℕ) (bic : List ℕ) (ccy : Ccy) (b : List ℕ) (y : Ccy) (n : ℕ) → ((b : List ℕ) (y : Ccy) → cash b y + d b y ≡ c b y)
    → cash_at cash bic ccy (cash bic ccy + n) b y + (d b y + 0) ≡ c b y + quantity_if (bytes_eq bic b) (quantity_if (same_ccy ccy y) n)
pay_in_cash d c cash bic ccy b y n all =
    let here : cash b y + d b y ≡ c b y = all b y in
    elim (cases_Bool (bytes_eq bic b)) [
      | inr other ↦ rw other (omega arith)
      | inl on ↦ elim (cases_Bool (same_ccy ccy y)) [
        | inr other ↦ rw (on, other) (omega arith)
        | inl of ↦
            let first : cash bic ccy ≡ cash b y = ap (λ x. cash x ccy) (same_bytes bic b on) ∙ ap (λ x. cash b x) (same_ccy-true ccy y of) in
            rw (on, of) (omega arith)
      ]
    ]

pay_out_cash : (d c cash : List ℕ → Ccy → ℕ) (bic : List ℕ) (ccy : Ccy) (b : List ℕ) (y : Ccy) (n : ℕ) → n ≤ cash bic ccy → ((b : List ℕ) (y : Ccy) → cash b y + d b y ≡ c b y)
    → cash_at cash bic ccy (cash bic ccy - n) b y + (d b y + quantity_if (bytes_eq bic b) (quantity_if (same_ccy ccy y) n)) ≡ c b y + 0
pay_out_cash d c cash bic ccy b y n there all =
    let here : cash b y + d b y ≡ c b y = all b y in
    elim (cases_Bool (bytes_eq bic b)) [
      | inr other ↦ rw other (omega arith)
      | inl on ↦ elim (cases_Bool (same_ccy ccy y)) [
        | inr other ↦ rw (on, other) (omega arith)
        | inl of ↦
            let first : cash bic ccy ≡ cash b y = ap (λ x. cash x ccy) (same_bytes bic b on) ∙ ap (λ x. cash b x) (same_ccy-true ccy y of) in
            rw (on, of) (omega arith)
      ]
    ]

booked_position : (d c : List ℕ → List ℕ → ℕ) (content : Content) (e : Entry) (a i : List ℕ) → is_booking e ≡ true → BalancesAllow e content → ((a i : List ℕ) → content.position a i + d a i ≡ c a i)
    → positions_after e content.position a i + (d a i + redeemed_by (movement_on a i) e) ≡ c a i + issued_by (movement_on a i) e
booked_position d c content (Participant reference bic) a i is allows all = let here : content.position a i + d a i ≡ c a i = all a i in omega arith
booked_position d c content (Account reference bic account) a i is allows all = let here : content.position a i + d a i ≡ c a i = all a i in omega arith
booked_position d c content (Security reference isin kind) a i is allows all = let here : content.position a i + d a i ≡ c a i = all a i in omega arith
booked_position d c content (Issue m) a i is allows all = issue_position d c content.position m.account m.isin a i m.quantity all
booked_position d c content (Redeem m) a i is allows all = redeem_position d c content.position m.account m.isin a i m.quantity allows.0 all
booked_position d c content (PayIn p) a i is allows all = let here : content.position a i + d a i ≡ c a i = all a i in omega arith
booked_position d c content (PayOut p) a i is allows all = let here : content.position a i + d a i ≡ c a i = all a i in omega arith
booked_position d c content (Instruct sender j) a i is allows all = absurd (cc)
booked_position d c content (Cancel sender order) a i is allows all = absurd (cc)
booked_position d c content (Run reference day rule) a i is allows all = absurd (cc)

booked_cash : (d c : List ℕ → Ccy → ℕ) (content : Content) (e : Entry) (b : List ℕ) (y : Ccy) → is_booking e ≡ true → BalancesAllow e content → ((b : List ℕ) (y : Ccy) → content.cash b y + d b y ≡ c b y)
    → cash_after e content.cash b y + (d b y + paid_out_by (payment_of b y) e) ≡ c b y + paid_in_by (payment_of b y) e
booked_cash d c content (Participant reference bic) b y is allows all = let here : content.cash b y + d b y ≡ c b y = all b y in omega arith
booked_cash d c content (Account reference bic account) b y is allows all = let here : content.cash b y + d b y ≡ c b y = all b y in omega arith
booked_cash d c content (Security reference isin kind) b y is allows all = let here : content.cash b y + d b y ≡ c b y = all b y in omega arith
booked_cash d c content (Issue m) b y is allows all = let here : content.cash b y + d b y ≡ c b y = all b y in omega arith
booked_cash d c content (Redeem m) b y is allows all = let here : content.cash b y + d b y ≡ c b y = all b y in omega arith
booked_cash d c content (PayIn p) b y is allows all = pay_in_cash d c content.cash p.bic p.ccy b y p.amount all
booked_cash d c content (PayOut p) b y is allows all = pay_out_cash d c content.cash p.bic p.ccy b y p.amount allows.0 all
booked_cash d c content (Instruct sender j) b y is allows all = absurd (cc)
booked_cash d c content (Cancel sender order) b y is allows all = absurd (cc)
booked_cash d c content (Run reference day rule) b y is allows all = absurd (cc)

pub history_more : (content : Content) (e : Entry) (reply : Reply) (h : List Entry) → history_of content ≡ h → history_of (appended e reply content) ≡ h ++ e ∷ []
history_more content e reply h is =
    map-append (λ (k : Kept). k.entry) content.register (record { entry = e; reply = reply } ∷ []) ∙ ap (λ z. z ++ e ∷ []) is

pub length_is : (content : Content) (h : List Entry) → history_of content ≡ h → length content.register ≡ length h
length_is content h is = sym (length-map content.register (λ k. k.entry)) ∙ ap length is

-- what the books have is of numbers that the history has
pub pairs_known : (h : List Entry) (ps : List Pair) → IsPairing h ps → (p : Pair) → In ps p → IsIn h p
pairs_known h ps is p i =
    let d = decided_pairing h ps is in
    let late : p.later ≤ length h = d.within p i in
    let mate = (is.exact p).0 (Contains-from_In ps p i) in
    let below : p.earlier < p.later = mate.candidate.earlier in
    record { earlier = omega arith; later = late }

pub settled_known : (h : List Entry) (ps : List Pair) (settled : List Settled) → IsSettlement h ps settled → (s : Settled) → In settled s → IsRanged (length h) s
settled_known h ps settled is s i = let d = decided_settlement h ps settled is in d.within s i

pub settled_in_history : (books : Books) → AreBooks books → (s : Settled) → In books.settled s → IsIn books.history s.pair
settled_in_history books are s i =
    let r = settled_known books.history books.pairs books.settled are.settlement s i in
    let d = decided_settlement books.history books.pairs books.settled are.settlement in
    let c = (d.exact s (d.within s i)).0 i in
    let mate = (are.pairing.exact s.pair).0 c.paired in
    let below : s.pair.earlier < s.pair.later = mate.candidate.earlier in
    let a : s.pair.later < s.run = r.numbered in
    let b : s.run ≤ length books.history = r.run in
    record { earlier = omega arith; later = omega arith }

pub free_of_none : (k : ℕ) → IsFree [] k
free_of_none k = λ p c. absurd (In-from_Contains [] p c)

pub tables_booking : (limit : ℕ) (books : Books) (content : Content) (e : Entry) (reply : Reply) → is_booking e ≡ true → Tables limit books content → IsVerdict limit books e Accept
    → BalancesAllow e content → Grown limit books e (appended e reply content)
tables_booking limit books content e reply is tables verdict allows =
    let h = books.history in
    let plain = plain_entry e is in
    let are = tables.are_books in
    let quiet : IsQuiet h e books.pairs [] books.settled = record {
      no_run = plain.no_run;
      within_pairs = pairs_known h books.pairs are.pairing;
      within = settled_known h books.pairs books.settled are.settlement;
    } in
    let nothing : books.pairs ++ [] ≡ books.pairs = append-nil books.pairs in
    let pairing : IsPairing (h ++ e ∷ []) books.pairs = pairing_alone h e books.pairs are.pairing (λ k c.
    let second = c.opposite.is_second in
    let P : Option Entry → Type 0 = λ o. option_and_then instructed o ≡ Some c.opposite.second in
    let clash : instructed e ≡ Some c.opposite.second = subst P (entry_at-end h e (length h + 1) refl) second in
    let never : None ≡ Some c.opposite.second = sym plain.no_instruction ∙ clash in
    absurd (cc)) in
    let settlement : IsSettlement (h ++ e ∷ []) books.pairs books.settled = settlement_alone h e books.pairs books.pairs books.settled (λ p le. ((λ c. c), (λ c. c))) plain.no_run are.settlement in
    let P : List Pair → Type 0 = λ ps. IsPairing (h ++ e ∷ []) ps in
    let Q : List Pair → Type 0 = λ ps. IsSettlement (h ++ e ∷ []) ps books.settled in
    let number : length content.register ≡ length h = length_is content h tables.history in
    record {
      pairs = books.pairs ++ [];
      settled = books.settled;
      tables = record {
        history = history_more content e reply h tables.history;
        are_books = record { pairing = subst P (sym nothing) pairing; settlement = subst Q (sym nothing) settlement };
        accepted = accepted_more limit books e are tables.accepted verdict;
        standing = λ k. elim (cases_eq k (length h + 1)) [
          | inl last ↦
              let new : k == length content.register + 1 ≡ true = grind (arith, nat_tests) in
              let none : instruction_at (h ++ e ∷ []) k ≡ None = ap (option_and_then instructed) (entry_at-end h e k last) ∙ plain.no_instruction in
              rw (plain.no_request (history_of content) content.standing, new, none) plain.first
          | inr other ↦
              let old : k == length content.register + 1 ≡ false = ne_eqb k (length content.register + 1) (λ (q : k ≡ length content.register + 1). other (omega arith)) in
              rw (plain.no_request (history_of content) content.standing, old) (stands_rest h e books.pairs [] books.settled k (content.standing k) quiet plain.no_cancel other (free_of_none k) (tables.standing k))
        ];
        position = λ account isin.
            let within = settled_in_history books are in
            let more = credits-entry h e books.settled within account isin in
            let less = debits-entry h e books.settled within account isin in
            rw (more, less) (booked_position (debits h books.settled) (credits h books.settled) content e account isin is allows tables.position);
        cash = λ bic ccy.
            let within = settled_in_history books are in
            let more = cash_credits-entry h e books.settled within bic ccy in
            let less = cash_debits-entry h e books.settled within bic ccy in
            rw (more, less) (booked_cash (cash_debits h books.settled) (cash_credits h books.settled) content e bic ccy is allows tables.cash);
        sent = tables.sent ∙ sym (sends_nothing books e are);
      };
    }

-- An issue can be counted.

sum_le : {X : Type 0} (f g : X → ℕ) (xs : List X) → ((x : X) → g x ≤ f x) → sum_by g xs ≤ sum_by f xs
sum_le f g [] below = omega arith
sum_le f g (y ∷ ys) below =
    let here : g y ≤ f y = below y in
    let rest = sum_le f g ys below in
    let a = sum_by-cons f y ys in
    let b = sum_by-cons g y ys in
    omega arith

pub sum_member : {X : Type 0} (f g : X → ℕ) (xs : List X) (x : X) → ((x : X) → g x ≤ f x) → In xs x → f x + sum_by g xs ≤ g x + sum_by f xs
sum_member f g [] x below i = absurd i
sum_member f g (y ∷ ys) x below i =
    let here : g y ≤ f y = below y in
    let a = sum_by-cons f y ys in
    let b = sum_by-cons g y ys in
    elim i [
      | inl same ↦
          let rest = sum_le f g ys below in
          let p : f y ≡ f x = ap f same in
          let q : g y ≡ g x = ap g same in
          omega arith
      | inr later ↦ (let rest = sum_member f g ys x below later in omega arith)
    ]

-- a registered account holds no more of a security than is outstanding
pub position_within : (limit : ℕ) (books : Books) (content : Content) (account isin : List ℕ) → Tables limit books content → In (accounts_of books.history) account
    → content.position account isin + redeemed books.history isin ≤ issued books.history isin
position_within limit books content account isin tables member =
    let h = books.history in
    let ss = books.settled in
    let are = tables.are_books in
    let all = securities_add_up limit h tables.accepted books.pairs ss are.pairing are.settlement isin in
    let never = never_negative limit h books.pairs ss tables.accepted are.pairing are.settlement in
    let one = sum_member (λ a. credits h ss a isin) (λ a. debits h ss a isin) (accounts_of h) account (λ a. never.now.positions a isin) member in
    let here : content.position account isin + debits h ss account isin ≡ credits h ss account isin = tables.position account isin in
    omega arith

issue_fits : (limit : ℕ) (books : Books) (content : Content) (movement : Movement) → Tables limit books content → IsVerdict limit books (Issue movement) Accept → BalancesAllow (Issue movement) content
issue_fits limit books content movement tables verdict =
    let h = books.history in
    let p = passes limit books (Issue movement) verdict in
    let first : is_none (owner_of h movement.account) ≡ false = p.checks (check (is_none (owner_of h movement.account)) AccountUnknown) (inl refl) in
    let third : nat_lt (redeemed h movement.isin + MOST_QUANTITY) (issued h movement.isin + movement.quantity) ≡ false =
    p.checks (check (nat_lt (redeemed h movement.isin + MOST_QUANTITY) (issued h movement.isin + movement.quantity)) OverLimit) (inr (inr (inl refl))) in
    let within : issued h movement.isin + movement.quantity ≤ redeemed h movement.isin + MOST_QUANTITY = ltb-false _ _ third in
    let owner = is_none_false (owner_of h movement.account) first in
    let member = owned h movement.account owner.0 owner.1 in
    let here : content.position movement.account movement.isin + redeemed h movement.isin ≤ issued h movement.isin = position_within limit books content movement.account movement.isin tables member in
    let most : MOST_QUANTITY < 2 ^ 63 = lit< tt in
    let counted : content.position movement.account movement.isin + movement.quantity < 2 ^ 63 = omega arith in
    (counted, rw tables.history within)

-- a participant has no more of a currency than is paid in less paid out
pub cash_within : (limit : ℕ) (books : Books) (content : Content) (bic : List ℕ) (ccy : Ccy) → Tables limit books content → In (participants_of books.history) bic
    → content.cash bic ccy + paid_out books.history ccy ≤ paid_in books.history ccy
cash_within limit books content bic ccy tables member =
    let h = books.history in
    let ss = books.settled in
    let are = tables.are_books in
    let all = cash_adds_up limit h tables.accepted books.pairs ss are.pairing are.settlement ccy in
    let never = never_negative limit h books.pairs ss tables.accepted are.pairing are.settlement in
    let one = sum_member (λ b. cash_credits h ss b ccy) (λ b. cash_debits h ss b ccy) (participants_of h) bic (λ b. never.now.cash b ccy) member in
    let here : content.cash bic ccy + cash_debits h ss bic ccy ≡ cash_credits h ss bic ccy = tables.cash bic ccy in
    omega arith

-- What is redeemed or paid out is there, and what is paid in can be counted.

enough : (balance debits credits amount : ℕ) → nat_lt credits (debits + amount) ≡ false → balance + debits ≡ credits → amount ≤ balance
enough balance debits credits amount test is = (let le : debits + amount ≤ credits = ltb-false _ _ test in omega arith)

redemption_fits : (limit : ℕ) (books : Books) (content : Content) (m : Movement) → Tables limit books content → IsVerdict limit books (Redeem m) Accept → BalancesAllow (Redeem m) content
redemption_fits limit books content m tables verdict =
    let h = books.history in
    let p = passes limit books (Redeem m) verdict in
    let first : is_none (owner_of h m.account) ≡ false = p.checks (check (is_none (owner_of h m.account)) AccountUnknown) (inl refl) in
    let third : nat_lt (credits h books.settled m.account m.isin) (debits h books.settled m.account m.isin + m.quantity) ≡ false =
    p.checks (check (nat_lt (credits h books.settled m.account m.isin) (debits h books.settled m.account m.isin + m.quantity)) NotEnough) (inr (inr (inl refl))) in
    let there = enough (content.position m.account m.isin) (debits h books.settled m.account m.isin) (credits h books.settled m.account m.isin) m.quantity third (tables.position m.account m.isin) in
    let owner = is_none_false (owner_of h m.account) first in
    let member = owned h m.account owner.0 owner.1 in
    let here : content.position m.account m.isin + redeemed h m.isin ≤ issued h m.isin = position_within limit books content m.account m.isin tables member in
    let within : redeemed h m.isin + m.quantity ≤ issued h m.isin = omega arith in
    (there, rw tables.history within)

member_of : (h : List Entry) (bic : List ℕ) → not (is_participant h bic) ≡ false → In (participants_of h) bic
member_of h bic known = takes_part h bic (not-false (is_participant h bic) known)

pay_in_fits : (limit : ℕ) (books : Books) (content : Content) (p : Payment) → Tables limit books content → IsVerdict limit books (PayIn p) Accept → BalancesAllow (PayIn p) content
pay_in_fits limit books content p tables verdict =
    let h = books.history in
    let passed = passes limit books (PayIn p) verdict in
    let first : not (is_participant h p.bic) ≡ false = passed.checks (check (not (is_participant h p.bic)) ParticipantUnknown) (inl refl) in
    let second : nat_lt (paid_out h p.ccy + MOST_PAID) (paid_in h p.ccy + p.amount) ≡ false = passed.checks (check (nat_lt (paid_out h p.ccy + MOST_PAID) (paid_in h p.ccy + p.amount)) OverLimit) (inr (inl refl)) in
    let within : paid_in h p.ccy + p.amount ≤ paid_out h p.ccy + MOST_PAID = ltb-false _ _ second in
    let here = cash_within limit books content p.bic p.ccy tables (member_of h p.bic first) in
    let most : MOST_PAID < 2 ^ 63 = lit< tt in
    let counted : content.cash p.bic p.ccy + p.amount < 2 ^ 63 = omega arith in
    (counted, rw tables.history within)

pay_out_fits : (limit : ℕ) (books : Books) (content : Content) (p : Payment) → Tables limit books content → IsVerdict limit books (PayOut p) Accept → BalancesAllow (PayOut p) content
pay_out_fits limit books content p tables verdict =
    let h = books.history in
    let passed = passes limit books (PayOut p) verdict in
    let first : not (is_participant h p.bic) ≡ false = passed.checks (check (not (is_participant h p.bic)) ParticipantUnknown) (inl refl) in
    let second : nat_lt (cash_credits h books.settled p.bic p.ccy) (cash_debits h books.settled p.bic p.ccy + p.amount) ≡ false =
    passed.checks (check (nat_lt (cash_credits h books.settled p.bic p.ccy) (cash_debits h books.settled p.bic p.ccy + p.amount)) NotEnough) (inr (inl refl)) in
    let there = enough (content.cash p.bic p.ccy) (cash_debits h books.settled p.bic p.ccy) (cash_credits h books.settled p.bic p.ccy) p.amount second (tables.cash p.bic p.ccy) in
    let here = cash_within limit books content p.bic p.ccy tables (member_of h p.bic first) in
    let within : paid_out h p.ccy + p.amount ≤ paid_in h p.ccy = omega arith in
    (there, rw tables.history within)

pub booking_allowed : (limit : ℕ) (content : Content) (e : Entry) → is_booking e ≡ true → IsAccepted limit e content → BalancesAllow e content
booking_allowed limit content (Participant reference bic) is accepted = tt
booking_allowed limit content (Account reference bic account) is accepted = tt
booking_allowed limit content (Security reference isin kind) is accepted = tt
booking_allowed limit content (Issue movement) is accepted = issue_fits limit accepted.books content movement accepted.tables accepted.verdict
booking_allowed limit content (Redeem movement) is accepted = redemption_fits limit accepted.books content movement accepted.tables accepted.verdict
booking_allowed limit content (PayIn payment) is accepted = pay_in_fits limit accepted.books content payment accepted.tables accepted.verdict
booking_allowed limit content (PayOut payment) is accepted = pay_out_fits limit accepted.books content payment accepted.tables accepted.verdict
booking_allowed limit content (Instruct sender instruction) is accepted = absurd (cc)
booking_allowed limit content (Cancel sender order) is accepted = absurd (cc)
booking_allowed limit content (Run reference day rule) is accepted = absurd (cc)

-- the verdict on the entry, in any books that the content is the tables of
pub accepted_in : (limit : ℕ) (books : Books) (content : Content) (e : Entry) → Tables limit books content → IsAccepted limit e content → IsVerdict limit books e Accept
accepted_in limit books content e tables accepted =
    let one : accepted.books ≡ books = one_books accepted.books books (sym accepted.tables.history ∙ tables.history) accepted.tables.are_books tables.are_books in
    let P : Books → Type 0 = λ b. IsVerdict limit b e Accept in
    subst P one accepted.verdict

pub booked_ok : (limit : ℕ) (books : Books) (old new : Content) (e : Entry) (reply : Reply) (r : Result (Unit {0}) Fault) → is_booking e ≡ true → Tables limit books old → IsAccepted limit e old
    → OnOk r (new ≡ appended e reply old) → OnOk r (Grown limit books e new)
booked_ok limit books old new e reply (Ok done) is tables accepted added =
    let P : Content → Type 0 = λ c. Grown limit books e c in
    subst P (sym added) (tables_booking limit books old e reply is tables (accepted_in limit books old e tables accepted) (booking_allowed limit old e is accepted))
booked_ok limit books old new e reply (Err fault) is tables accepted added = added
