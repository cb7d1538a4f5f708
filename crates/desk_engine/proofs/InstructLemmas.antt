-- An instruction takes the tables of a history to those of the longer one, and finds its mate there.
use Rattle.std.proofs.Common.{◌≡◌, inl, inr, ℕ, ◌+◌, ◌<◌, ◌≤◌, ◌==◌, ◌&&◌, Bool, true, false, List, [], ◌∷◌, ◌++◌, length, Contains, Option, Some, None, refl, ap, sym, ◌∙◌, subst, arith, length-append, append-nil}
use Rattle.std.specs.Prelude.{option_and_then, Result, Ok, Err, OnOk}
use Rattle.std.proofs.lemmas.Bool.{cases_eq, ne_eqb}
use Rattle.std.proofs.lemmas.Bool.Decides.{nat_tests}
use Rattle.std.proofs.lemmas.List.{drop_all}
use Rattle.desk_msg.specs.declared.instruction.Instruction.{Instruction}
use Rattle.desk_rules.specs.declared.history.entry.Entry.{Entry}
use Rattle.desk_rules.specs.declared.history.entry.Entry.TheVariants.{Instruct}
use Rattle.desk_rules.specs.declared.history.pair.Pair.{Pair}
use Rattle.desk_rules.specs.declared.history.pair.Settled.{Settled}
use Rattle.desk_register.specs.declared.register.Fault.{Fault}
use Rattle.desk_rules.specs.declared.answers.reply.Reply.{Reply}
use Rattle.desk_rules.specs.declared.history.standing.State.{State}
use Rattle.desk_rules.specs.declared.history.standing.Standing.{Standing}
use Rattle.desk_rules.specs.declared.history.standing.State.TheVariants as states
use Rattle.desk_rules.specs.declared.history.standing.State.TheVariants.{NoInstruction, Unmatched, Matched, Cancelled}
use Rattle.desk_msg.specs.declared.writing.status.Reason.TheVariants.{Future}
use Rattle.desk_rules.specs.declared.answers.verdict.Verdict.TheVariants.{Accept}
use Rattle.desk_rules.specs.declared.history.entry.Instructed.{Instructed}
use Rattle.desk_rules.specs.History.{instruction_at, instructed}
use Rattle.desk_rules.specs.Opposite.{AreOpposite}
use Rattle.desk_rules.specs.Cancelled.{is_cancel_requested, is_cancel_requested_by}
use Rattle.desk_rules.specs.Pairing.{IsPairing, IsFree, IsSide, IsCandidate, IsMate, mate_in}
use Rattle.desk_codes.specs.declared.currency.Ccy.{Ccy}
use Rattle.desk_rules.specs.Balances.{cash_credits, cash_debits, credits, debits}
use Rattle.desk_rules.specs.Settlement.{IsSettlement, is_due}
use Rattle.desk_rules.specs.Books.{Books, AreBooks}
use Rattle.desk_rules.specs.Verdict.{IsVerdict}
use Rattle.desk_rules.specs.Content.{Content, history_of}
use Rattle.desk_register.specs.Changes.{appended, paired, CanPair}
use Rattle.desk_register.specs.Looked.{IsOppositeAt, IsFirstOpposite}
use Rattle.desk_rules.specs.Stands.{InstructionStands, IsAlone, IsMatched, StandsAt, StandsSo}
use Rattle.desk_rules.specs.declared.answers.reply.Notice.{Notice}
use Rattle.desk_rules.specs.Sent.{told, told_to}
use Rattle.desk_engine.specs.Sending.{with_advised}
use Rattle.desk_engine.specs.Tables.{Tables, Grown, IsAccepted}
use Rattle.desk_engine.proofs.SentLemmas.{sends_advice, sends_nothing}
use Rattle.desk_rules.proofs.Decided.{In, In-from_Contains, Contains-from_In, In-right}
use Rattle.desk_rules.proofs.HistoryLemmas.{entry_at-end, before-all, instruction_at-known, instruction_at-front}
use Rattle.desk_rules.proofs.PairingLemmas.{pairing_alone, pairing_mated}
use Rattle.desk_rules.proofs.SettlementLemmas.{IsRanged, due_facts, due_known, decided_settlement}
use Rattle.desk_rules.proofs.SettlementGrowth.{settlement_alone, same_pairs_push}
use Rattle.desk_rules.proofs.BalanceLemmas.{cash_credits-entry, cash_debits-entry, credits-entry, debits-entry}
use Rattle.desk_engine.proofs.TablesLemmas.{IsQuiet, not_cancelled, stands_rest, accepted_more, accepted_in, history_more, length_is, pairs_known, settled_known, settled_in_history, free_of_none}

-- a settled pair is one of the pairs
pub settled_paired : (books : Books) → AreBooks books → (s : Settled) → Contains books.settled s → Contains books.pairs s.pair
settled_paired books are s c =
    let d = decided_settlement books.history books.pairs books.settled are.settlement in
    let i = In-from_Contains books.settled s c in
    let m = (d.exact s (d.within s i)).0 i in
    m.paired

pub not_free : (ps : List Pair) (p : Pair) (k : ℕ) → Contains ps p → IsSide p k → IsFree ps k → ⊥
not_free ps p k c side free = elim side [ inl e ↦ (let f = free p c in f.0 e) | inr e ↦ (let f = free p c in f.1 e) ]

-- an instruction that is in no pair and not cancelled is unmatched
free_unmatched : (books : Books) (k : ℕ) (mate : Option ℕ) (state : State) → AreBooks books → StandsSo books k mate state → IsFree books.pairs k → is_cancel_requested books.history k ≡ false → state ≡ Unmatched
free_unmatched books k mate NoInstruction are is free stays = absurd is
free_unmatched books k mate Unmatched are is free stays = refl
free_unmatched books k mate Cancelled are is free stays = elim is [
  | inl alone ↦ (let clash : false ≡ true = sym stays ∙ alone.gone in absurd (cc))
  | inr side ↦ absurd (not_free books.pairs side.pair k side.in_pair.paired side.in_pair.side free)
]
free_unmatched books k mate (Matched reason) are is free stays = absurd (not_free books.pairs is.pair k is.in_pair.paired is.in_pair.side free)
free_unmatched books k mate states.Settled are is free stays = absurd (not_free books.pairs is.settlement.pair k (settled_paired books are is.settlement is.settled) is.side free)

-- where an instruction stands
pub stands_known : (limit : ℕ) (books : Books) (content : Content) (k : ℕ) (i : Instructed) → Tables limit books content → instruction_at books.history k ≡ Some i → InstructionStands books k (content.standing k)
stands_known limit books content k i tables at =
    let P : Option Instructed → Type 0 = λ o. StandsAt books k o (content.standing k) in
    subst P at (tables.standing k)

-- A candidate for the new instruction is an unmatched opposite one, and the other way round.

to_opposite : (limit : ℕ) (books : Books) (content : Content) (sender : List ℕ) (instruction : Instruction) (k : ℕ) → Tables limit books content
    → IsCandidate (books.history ++ Instruct sender instruction ∷ []) books.pairs (length books.history + 1) k → IsOppositeAt content (record { sender = sender; instruction = instruction }) k
to_opposite limit books content sender instruction k tables c =
    let h = books.history in
    let e : Entry = Instruct sender instruction in
    let i : Instructed = record { sender = sender; instruction = instruction } in
    let less : k < length h + 1 = c.earlier in
    let le : k ≤ length h = omega arith in
    let o = c.opposite in
    let first : instruction_at h k ≡ Some o.first = sym (instruction_at-front h (e ∷ []) k le) ∙ o.is_first in
    let second : Some i ≡ Some o.second = sym (ap (option_and_then instructed) (entry_at-end h e (length h + 1) refl)) ∙ o.is_second in
    let is : o.second ≡ i = cc in
    let P : Instructed → Type 0 = λ x. AreOpposite o.first x in
    let stays : is_cancel_requested h k ≡ false = ap (λ z. is_cancel_requested z k) (sym (before-all h (e ∷ []) (length h + 1) refl)) ∙ c.stands in
    record {
      other = o.first;
      is_other = ap (λ z. instruction_at z k) tables.history ∙ first;
      opposite = subst P is o.opposite;
      unmatched = free_unmatched books k (content.standing k).mate (content.standing k).state tables.are_books (let known = stands_known limit books content k o.first tables first in known.so) c.free stays;
    }

to_candidate : (limit : ℕ) (books : Books) (content : Content) (sender : List ℕ) (instruction : Instruction) (k : ℕ) → Tables limit books content
    → IsOppositeAt content (record { sender = sender; instruction = instruction }) k → IsCandidate (books.history ++ Instruct sender instruction ∷ []) books.pairs (length books.history + 1) k
to_candidate limit books content sender instruction k tables o =
    let h = books.history in
    let e : Entry = Instruct sender instruction in
    let i : Instructed = record { sender = sender; instruction = instruction } in
    let first : instruction_at h k ≡ Some o.other = ap (λ z. instruction_at z k) (sym tables.history) ∙ o.is_other in
    let known = instruction_at-known h k o.other first in
    let le : k ≤ length h = known.1 in
    let P : State → Type 0 = λ s. StandsSo books k (content.standing k).mate s in
    let alone : IsAlone books k (content.standing k).mate false = subst P o.unmatched (let stands = stands_known limit books content k o.other tables first in stands.so) in
    record {
      earlier = omega arith;
      opposite = record {
        first = o.other;
        second = i;
        is_first = instruction_at-front h (e ∷ []) k le ∙ first;
        is_second = ap (option_and_then instructed) (entry_at-end h e (length h + 1) refl);
        opposite = o.opposite;
      };
      free = alone.free;
      stands = ap (λ z. is_cancel_requested z k) (before-all h (e ∷ []) (length h + 1) refl) ∙ alone.gone;
    }

quiet_instruction : (limit : ℕ) (books : Books) (content : Content) (sender : List ℕ) (instruction : Instruction) (more : List Pair) → Tables limit books content
    → IsQuiet books.history (Instruct sender instruction) books.pairs more books.settled
quiet_instruction limit books content sender instruction more tables = record {
  no_run = refl;
  within_pairs = pairs_known books.history books.pairs tables.are_books.pairing;
  within = settled_known books.history books.pairs books.settled tables.are_books.settlement;
}

instruction_position : (limit : ℕ) (books : Books) (content : Content) (sender : List ℕ) (instruction : Instruction) (account isin : List ℕ) → Tables limit books content
    → content.position account isin + debits (books.history ++ Instruct sender instruction ∷ []) books.settled account isin ≡ credits (books.history ++ Instruct sender instruction ∷ []) books.settled account isin
instruction_position limit books content sender instruction account isin tables =
    let within = settled_in_history books tables.are_books in
    let more = credits-entry books.history (Instruct sender instruction) books.settled within account isin in
    let less = debits-entry books.history (Instruct sender instruction) books.settled within account isin in
    let here : content.position account isin + debits books.history books.settled account isin ≡ credits books.history books.settled account isin = tables.position account isin in
    omega arith

instruction_cash : (limit : ℕ) (books : Books) (content : Content) (sender : List ℕ) (instruction : Instruction) (bic : List ℕ) (ccy : Ccy) → Tables limit books content
    → content.cash bic ccy + cash_debits (books.history ++ Instruct sender instruction ∷ []) books.settled bic ccy ≡ cash_credits (books.history ++ Instruct sender instruction ∷ []) books.settled bic ccy
instruction_cash limit books content sender instruction bic ccy tables =
    let within = settled_in_history books tables.are_books in
    let more = cash_credits-entry books.history (Instruct sender instruction) books.settled within bic ccy in
    let less = cash_debits-entry books.history (Instruct sender instruction) books.settled within bic ccy in
    let here : content.cash bic ccy + cash_debits books.history books.settled bic ccy ≡ cash_credits books.history books.settled bic ccy = tables.cash bic ccy in
    omega arith

-- nothing is cancelled after the last entry
last_stays : (h : List Entry) (n : ℕ) → length h ≤ n → is_cancel_requested h n ≡ false
last_stays h n le = ap (λ xs. is_cancel_requested_by xs (instruction_at h n)) (drop_all n h le) ∙ none (instruction_at h n)
  where
    none : (o : Option Instructed) → is_cancel_requested_by [] o ≡ false
    none None = refl
    none (Some i) = refl

-- the new instruction is in none of the pairs so far
new_is_free : (h : List Entry) (ps : List Pair) (n : ℕ) → IsPairing h ps → length h < n → IsFree ps n
new_is_free h ps n is above = λ p c.
    let i = In-from_Contains ps p c in
    let within = pairs_known h ps is p i in
    let early : p.earlier ≤ length h = within.earlier in
    let late : p.later ≤ length h = within.later in
    ((λ (q : p.earlier ≡ n). absurd (omega arith)), (λ (q : p.later ≡ n). absurd (omega arith)))

-- It finds no mate.
tables_unmatched : (limit : ℕ) (books : Books) (content : Content) (sender : List ℕ) (instruction : Instruction) (reply : Reply) → Tables limit books content
    → IsVerdict limit books (Instruct sender instruction) Accept → IsFirstOpposite content (record { sender = sender; instruction = instruction }) None
    → Grown limit books (Instruct sender instruction) (appended (Instruct sender instruction) reply content)
tables_unmatched limit books content sender instruction reply tables verdict none =
    let h = books.history in
    let e : Entry = Instruct sender instruction in
    let are = tables.are_books in
    let nothing : books.pairs ++ [] ≡ books.pairs = append-nil books.pairs in
    let pairing : IsPairing (h ++ e ∷ []) books.pairs = pairing_alone h e books.pairs are.pairing (λ k c. none k (to_opposite limit books content sender instruction k tables c)) in
    let settlement : IsSettlement (h ++ e ∷ []) books.pairs books.settled = settlement_alone h e books.pairs books.pairs books.settled (λ p le. ((λ c. c), (λ c. c))) refl are.settlement in
    let P : List Pair → Type 0 = λ ps. IsPairing (h ++ e ∷ []) ps in
    let Q : List Pair → Type 0 = λ ps. IsSettlement (h ++ e ∷ []) ps books.settled in
    let number : length content.register ≡ length h = length_is content h tables.history in
    let longer = length-append h (e ∷ []) in
    record {
      pairs = books.pairs ++ [];
      settled = books.settled;
      tables = record {
        history = history_more content e reply h tables.history;
        are_books = record { pairing = subst P (sym nothing) pairing; settlement = subst Q (sym nothing) settlement };
        accepted = accepted_more limit books e are tables.accepted verdict;
        standing = λ k. elim (cases_eq k (length h + 1)) [
          | inl last ↦
              let new : k == length content.register + 1 ≡ true = grind (arith, nat_tests) in
              let it : instruction_at (h ++ e ∷ []) k ≡ Some (record { sender = sender; instruction = instruction }) = ap (option_and_then instructed) (entry_at-end h e k last) in
              let G : List Pair → Type 0 = λ ps. IsFree ps k in
              let free : IsFree (books.pairs ++ []) k = subst G (sym nothing) (new_is_free h books.pairs k are.pairing (omega arith)) in
              let stays : is_cancel_requested (h ++ e ∷ []) k ≡ false = last_stays (h ++ e ∷ []) k (omega arith) in
              rw (new, it) (record { so = record { none = refl; free = free; gone = stays }; requested = sym stays })
          | inr other ↦
              let old : k == length content.register + 1 ≡ false = ne_eqb k (length content.register + 1) (λ (q : k ≡ length content.register + 1). other (omega arith)) in
              rw old (stands_rest h e books.pairs [] books.settled k (content.standing k) (quiet_instruction limit books content sender instruction [] tables) (λ i. refl) other (free_of_none k) (tables.standing k))
        ];
        position = λ account isin. instruction_position limit books content sender instruction account isin tables;
        cash = λ bic ccy. instruction_cash limit books content sender instruction bic ccy tables;
        sent = tables.sent ∙ sym (sends_nothing books e are);
      };
    }

-- It finds a mate.

pub same_test : (k n : ℕ) → k ≡ n → k == n ≡ true
same_test k n e = grind (arith, nat_tests)

not_due_yet : (h : List Entry) (p : Pair) (run : ℕ) → length h ≤ p.later → is_due h run p ≡ true → ⊥
not_due_yet h p run late due =
    let known : run ≤ length h = due_known h run p due in
    let f = due_facts h run p due in
    let numbered : p.later < run = f.numbered in
    omega arith

and_false : (a b : Bool) → b ≡ false → (a && b) ≡ false
and_false true b is = is
and_false false b is = refl

-- a side of the new pair
new_matched : (h : List Entry) (e : Entry) (ps : List Pair) (settled : List Settled) (p : Pair) (k m : ℕ) → p.later ≡ length h + 1 → IsSide p k → mate_in p k ≡ m
    → ((s : Settled) → In settled s → IsRanged (length h) s) → IsMatched (record { history = h ++ e ∷ []; pairs = ps ++ p ∷ []; settled = settled }) k (Some m) Future
new_matched h e ps settled p k m last side other ranged = record {
  pair = p;
  in_pair = record {
    paired = Contains-from_In (ps ++ p ∷ []) p (In-right ps (p ∷ []) p (inl refl));
    side = side;
    other = ap Some (sym other);
    unsettled = λ s c same.
        let r = ranged s (In-from_Contains settled s c) in
        let a : s.pair.later < s.run = r.numbered in
        let b : s.run ≤ length h = r.run in
        let q : s.pair.later ≡ p.later = ap (λ (z : Pair). z.later) same in
        absurd (omega arith);
    gone = and_false (is_cancel_requested (h ++ e ∷ []) p.earlier) (is_cancel_requested (h ++ e ∷ []) p.later) (last_stays (h ++ e ∷ []) p.later (let l = length-append h (e ∷ []) in omega arith));
  };
  why = inl (record { none = λ run below due. not_due_yet (h ++ e ∷ []) p run (let l = length-append h (e ∷ []) in omega arith) due; future = refl });
}

pub mate_earlier : (m n : ℕ) → mate_in (record { earlier = m; later = n }) m ≡ n
mate_earlier m n = rw (same_test m m refl) refl

pub mate_later : (m n : ℕ) → m < n → mate_in (record { earlier = m; later = n }) n ≡ m
mate_later m n lt = let other : m == n ≡ false = ne_eqb m n (λ (q : m ≡ n). absurd (omega arith)) in rw other refl

free_of_one : (p : Pair) (k : ℕ) → (p.earlier ≡ k → ⊥) → (p.later ≡ k → ⊥) → IsFree (p ∷ []) k
free_of_one p k a b = λ q c. elim (In-from_Contains (p ∷ []) q c) [
  | inl same ↦ ((λ (x : q.earlier ≡ k). a (ap (λ (z : Pair). z.earlier) same ∙ x)), (λ (x : q.later ≡ k). b (ap (λ (z : Pair). z.later) same ∙ x)))
  | inr none ↦ absurd none
]

tables_mated : (limit : ℕ) (books : Books) (content : Content) (sender : List ℕ) (instruction : Instruction) (reply : Reply) (n m : ℕ) → Tables limit books content
    → n ≡ length content.register + 1 → IsVerdict limit books (Instruct sender instruction) Accept → IsFirstOpposite content (record { sender = sender; instruction = instruction }) (Some m)
    → Grown limit books (Instruct sender instruction) (with_advised m (paired m n (appended (Instruct sender instruction) reply content)))
tables_mated limit books content sender instruction reply n m tables at verdict found =
    let h = books.history in
    let e : Entry = Instruct sender instruction in
    let are = tables.are_books in
    let number : length content.register ≡ length h = length_is content h tables.history in
    let last : n ≡ length h + 1 = omega arith in
    let p : Pair = record { earlier = m; later = n } in
    let candidate = to_candidate limit books content sender instruction m tables found.0 in
    let C : ℕ → Type 0 = λ z. IsCandidate (h ++ e ∷ []) books.pairs z m in
    let mate : IsMate (h ++ e ∷ []) books.pairs p = record {
      candidate = subst C (sym last) candidate;
      least = λ k lt c.
          let D : ℕ → Type 0 = λ z. IsCandidate (h ++ e ∷ []) books.pairs z k in
          found.1 k lt (to_opposite limit books content sender instruction k tables (subst D last c));
    } in
    let two : m < n = mate.candidate.earlier in
    let pairing : IsPairing (h ++ e ∷ []) (books.pairs ++ p ∷ []) = pairing_mated h e books.pairs p are.pairing last mate in
    let settlement : IsSettlement (h ++ e ∷ []) (books.pairs ++ p ∷ []) books.settled =
    settlement_alone h e books.pairs (books.pairs ++ p ∷ []) books.settled (same_pairs_push (length h) books.pairs p (omega arith)) refl are.settlement in
    let ranged = settled_known h books.pairs books.settled are.settlement in
    record {
      pairs = books.pairs ++ p ∷ [];
      settled = books.settled;
      tables = record {
        history = history_more content e reply h tables.history;
        are_books = record { pairing = pairing; settlement = settlement };
        accepted = accepted_more limit books e are tables.accepted verdict;
        standing = λ k. elim (cases_eq k n) [
          | inl new ↦
              let test : k == n ≡ true = same_test k n new in
              let it : instruction_at (h ++ e ∷ []) k ≡ Some (record { sender = sender; instruction = instruction }) = ap (option_and_then instructed) (entry_at-end h e k (omega arith)) in
              rw (test, it) (record {
                so = new_matched h e books.pairs books.settled p k m last (inr (sym new)) (ap (mate_in p) new ∙ mate_later m n two) ranged;
                requested = stood_new n last ∙ sym (last_stays (h ++ e ∷ []) k (let l = length-append h (e ∷ []) in omega arith));
              })
          | inr not_new ↦ elim (cases_eq k m) [
            | inl old ↦
                let test : k == n ≡ false = ne_eqb k n not_new in
                let mine : k == m ≡ true = same_test k m old in
                let it : instruction_at (h ++ e ∷ []) k ≡ Some mate.candidate.opposite.first = ap (λ z. instruction_at (h ++ e ∷ []) z) old ∙ mate.candidate.opposite.is_first in
                let first : instruction_at h m ≡ Some mate.candidate.opposite.first = sym (instruction_at-front h (e ∷ []) m (omega arith)) ∙ mate.candidate.opposite.is_first in
                let stood = stands_known limit books content m mate.candidate.opposite.first tables first in
                rw (test, mine, it) (record {
                  so = new_matched h e books.pairs books.settled p k n last (inl (sym old)) (ap (mate_in p) old ∙ mate_earlier m n) ranged;
                  requested = stood_old m (omega arith) ∙ stood.requested ∙ sym (not_cancelled h e m (omega arith) (λ i at. refl)) ∙ ap (is_cancel_requested (h ++ e ∷ [])) (sym old);
                })
            | inr not_old ↦
                let test : k == n ≡ false = ne_eqb k n not_new in
                let other : k == m ≡ false = ne_eqb k m not_old in
                let third : k == length content.register + 1 ≡ false = ne_eqb k (length content.register + 1) (λ (q : k ≡ length content.register + 1). not_new (omega arith)) in
                rw (test, other, third)
                (stands_rest h e books.pairs (p ∷ []) books.settled k (content.standing k) (quiet_instruction limit books content sender instruction (p ∷ []) tables) (λ i. refl)
                (λ (q : k ≡ length h + 1). not_new (omega arith))
                (free_of_one p k (λ (q : m ≡ k). not_old (sym q)) (λ (q : n ≡ k). not_new (sym q))) (tables.standing k))
          ]
        ];
        position = λ account isin. instruction_position limit books content sender instruction account isin tables;
        cash = λ bic ccy. instruction_cash limit books content sender instruction bic ccy tables;
        sent =
            let o = mate.candidate.opposite in
            let note : Notice = record { about = m; run = None } in
            ap (λ g. content.sent ++ told_to g (length content.sent + 1) note (instruction_at g m)) (history_more content e reply h tables.history)
            ∙ ap (λ i. content.sent ++ told_to (h ++ e ∷ []) (length content.sent + 1) note i) o.is_first
            ∙ ap (λ z. z ++ told (h ++ e ∷ []) (length z + 1) m None o.first ∷ []) tables.sent
            ∙ sym (sends_advice books e p o.first are last o.is_first);
      };
    }
  where
    added : Content
    added = appended (Instruct sender instruction) reply content

    stood_new : (k : ℕ) → k ≡ length books.history + 1 → (added.standing k).cancel_requested ≡ false
    stood_new k last =
        let number : length content.register ≡ length books.history = length_is content books.history tables.history in
        let test : k == length content.register + 1 ≡ true = same_test k (length content.register + 1) (omega arith) in
        rw test refl

    stood_old : (k : ℕ) → k ≤ length books.history → (added.standing k).cancel_requested ≡ (content.standing k).cancel_requested
    stood_old k le =
        let number : length content.register ≡ length books.history = length_is content books.history tables.history in
        let test : k == length content.register + 1 ≡ false = ne_eqb k (length content.register + 1) (λ (q : k ≡ length content.register + 1). absurd (omega arith)) in
        rw test refl

-- its number, and that of its mate
pub can_pair : (content : Content) (sender : List ℕ) (instruction : Instruction) (reply : Reply) (new : Content) (n m : ℕ) → n ≡ length content.register + 1
    → IsFirstOpposite content (record { sender = sender; instruction = instruction }) (Some m) → new ≡ appended (Instruct sender instruction) reply content → CanPair new m n
can_pair content sender instruction reply new n m at found is =
    let o = found.0 in
    let known = instruction_at-known (history_of content) m o.other o.is_other in
    let length_h : length content.register ≡ length (history_of content) = length_is content (history_of content) refl in
    let le : m ≤ length (history_of content) = known.1 in
    let h = history_of content in
    let e : Entry = Instruct sender instruction in
    let longer : history_of new ≡ h ++ e ∷ [] = ap history_of is ∙ history_more content e reply h refl in
    let before : m == length content.register + 1 ≡ false = ne_eqb m (length content.register + 1) (λ (q : m ≡ length content.register + 1). absurd (omega arith)) in
    let last : n == length content.register + 1 ≡ true = same_test n (length content.register + 1) at in
    let stands : (appended e reply content).standing m ≡ content.standing m = rw before refl in
    record {
      two = omega arith;
      earlier = o.other;
      later = record { sender = sender; instruction = instruction };
      is_earlier = ap (λ z. instruction_at z m) longer ∙ instruction_at-front h (e ∷ []) m le ∙ o.is_other;
      is_later = ap (λ z. instruction_at z n) longer ∙ ap (option_and_then instructed) (entry_at-end h e n (omega arith));
      opposite = o.opposite;
      earlier_unmatched = ap (λ (c : Content). (c.standing m).state) is ∙ ap (λ (s : Standing). s.state) stands ∙ o.unmatched;
      later_unmatched = ap (λ (c : Content). (c.standing n).state) is ∙ (rw last refl);
    }

pub instructed_alone : (limit : ℕ) (books : Books) (old new : Content) (sender : List ℕ) (instruction : Instruction) (reply : Reply) (mate : Option ℕ) → mate ≡ None → Tables limit books old
    → IsAccepted limit (Instruct sender instruction) old → IsFirstOpposite old (record { sender = sender; instruction = instruction }) mate
    → new ≡ appended (Instruct sender instruction) reply old → Grown limit books (Instruct sender instruction) new
instructed_alone limit books old new sender instruction reply mate is tables accepted first added =
    let P : Content → Type 0 = λ c. Grown limit books (Instruct sender instruction) c in
    subst P (sym added) (tables_unmatched limit books old sender instruction reply tables (accepted_in limit books old (Instruct sender instruction) tables accepted) (rw is at first))

pub instructed_paired : (limit : ℕ) (books : Books) (old mid new : Content) (sender : List ℕ) (instruction : Instruction) (reply : Reply) (n m : ℕ) (mate : Option ℕ) (r : Result (Unit {0}) Fault) → mate ≡ Some m
    → n ≡ length old.register + 1 → Tables limit books old → IsAccepted limit (Instruct sender instruction) old → IsFirstOpposite old (record { sender = sender; instruction = instruction }) mate
    → mid ≡ appended (Instruct sender instruction) reply old → OnOk r (new ≡ with_advised m (paired m n mid)) → OnOk r (Grown limit books (Instruct sender instruction) new)
instructed_paired limit books old mid new sender instruction reply n m mate (Ok done) is at tables accepted first added second =
    let P : Content → Type 0 = λ c. Grown limit books (Instruct sender instruction) c in
    let Q : Content → Type 0 = λ c. new ≡ with_advised m (paired m n c) in
    subst P (sym (subst Q added second)) (tables_mated limit books old sender instruction reply n m tables at (accepted_in limit books old (Instruct sender instruction) tables accepted) (rw is at first))
instructed_paired limit books old mid new sender instruction reply n m mate (Err fault) is at tables accepted first added second = second
