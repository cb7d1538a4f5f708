-- What a settlement moves, and what an entry changes beside its settlements.
use Rattle.std.proofs.Common.{◌≡◌, ℕ, ◌+◌, true, List, [], ◌∷◌, ◌++◌, length, length-append, refl, sym, ◌∙◌, ap, subst, arith, inl, Contains, Option, Some, None}
use Rattle.std.specs.Prelude.{option_and_then}
use Rattle.desk_rules.specs.declared.history.entry.Entry.{Entry}
use Rattle.desk_rules.specs.declared.history.pair.Settled.{Settled}
use Rattle.desk_rules.specs.History.{entry_at, run_day}
use Rattle.desk_rules.specs.Balances.{quantity_on, amount_of, credits, debits, cash_credits, cash_debits}
use Rattle.desk_rules.specs.Pairing.{IsPairing}
use Rattle.desk_rules.specs.Settlement.{is_by, day_of, IsSettlement}
use Rattle.desk_rules.specs.Books.{Books, AreBooks}
use Rattle.desk_rules.specs.BothLegs.{Moves, ChangesOnly}
use Rattle.desk_rules.proofs.Decided.{In, In-from_Contains, Contains-from_In, In-right}
use Rattle.desk_rules.proofs.HistoryLemmas.{entry_at-end}
use Rattle.desk_rules.proofs.SettlementLemmas.{due_facts, due_known}
use Rattle.desk_rules.proofs.PairingLaws.{pairs_front, settled_front}
use Rattle.desk_rules.proofs.FreshParts.{fresh_settled}
use Rattle.desk_rules.proofs.BalanceLemmas.{IsIn, credits-entry, debits-entry, cash_credits-entry, cash_debits-entry, credits-push, debits-push, cash_credits-push, cash_debits-push}
use Rattle.desk_rules.proofs.ConfirmedSums.{legs_of}

pub moves : (books : Books) (s : Settled) (settled : List Settled) → AreBooks books → Contains books.settled s → Moves books.history settled s
moves books s settled are member =
    let settles = (are.settlement.exact s).0 member in
    let mate = (are.pairing.exact s.pair).0 settles.paired in
    let legs = legs_of books.history s.pair mate.candidate.opposite in
    record {
      delivery = legs.delivery;
      receipt = legs.receipt;
      delivered = legs.delivered;
      received = legs.received;
      delivers = legs.delivers;
      opposite = legs.opposite;
      payment = legs.delivery.instruction.paid;
      debited = λ account isin. debits-push books.history settled s account isin ∙ ap (λ o. debits books.history settled account isin + quantity_on account isin o) legs.delivered;
      credited = λ account isin. credits-push books.history settled s account isin ∙ ap (λ o. credits books.history settled account isin + quantity_on account isin o) legs.received;
      paying = λ bic ccy. cash_debits-push books.history settled s bic ccy ∙ ap (λ o. cash_debits books.history settled bic ccy + amount_of bic ccy o) legs.received;
      paid = λ bic ccy. cash_credits-push books.history settled s bic ccy ∙ ap (λ o. cash_credits books.history settled bic ccy + amount_of bic ccy o) legs.delivered;
    }

-- both sides of what a front settled are entries of it
inside : (front : Books) → AreBooks front → (s : Settled) → In front.settled s → IsIn front.history s.pair
inside front are s i =
    let settles = (are.settlement.exact s).0 (Contains-from_In front.settled s i) in
    let mate = (are.pairing.exact s.pair).0 settles.paired in
    let earlier = mate.candidate.earlier in
    let run = due_known front.history s.run s.pair settles.due in
    let due = due_facts front.history s.run s.pair settles.due in
    let numbered = due.numbered in
    record { earlier = omega (arith, earlier, run, numbered); later = omega (arith, run, numbered) }

none_in : (xs : List Settled) → ((s : Settled) → In xs s → ⊥) → xs ≡ []
none_in [] none = refl
none_in (x ∷ xs) none = absurd (none x (inl refl))

by_none : (day : ℕ) (o : Option ℕ) → is_by o day ≡ true → o ≡ None → ⊥
by_none day None by e = let clash = by in cc
by_none day (Some run) by e = cc

module _ (front : Books) (entry : Entry) (books : Books) (are : AreBooks front) (longer : AreBooks books) (at : books.history ≡ front.history ++ entry ∷ []) where
  pairing : IsPairing (front.history ++ entry ∷ []) books.pairs
  pairing = subst (λ z. IsPairing z books.pairs) at longer.pairing

  settlement : IsSettlement (front.history ++ entry ∷ []) books.pairs books.settled
  settlement = subst (λ z. IsSettlement z books.pairs books.settled) at longer.settlement

  more : (more : List Settled) × (books.settled ≡ front.settled ++ more)
  more = settled_front front.history (entry ∷ []) front.pairs books.pairs front.settled books.settled are.pairing pairing are.settlement settlement

  of_it : (s : Settled) → In more.0 s → s.run ≡ length books.history
  of_it s i =
      let pairs = pairs_front front.history (entry ∷ []) front.pairs books.pairs are.pairing pairing in
      let above = fresh_settled front.history (entry ∷ []) front.pairs pairs.0 front.settled more.0 are.pairing (subst (λ z. IsPairing (front.history ++ entry ∷ []) z) pairs.1 pairing)
      are.settlement (subst (λ z. IsSettlement (front.history ++ entry ∷ []) z (front.settled ++ more.0)) pairs.1 (subst (λ z. IsSettlement (front.history ++ entry ∷ []) books.pairs z) more.1 settlement)) s i in
      let member : In books.settled s = subst (λ z. In z s) (sym more.1) (In-right front.settled more.0 s i) in
      let known = due_known books.history s.run s.pair ((longer.settlement.exact s).0 (Contains-from_In books.settled s member)).due in
      let grown : length books.history ≡ length front.history + 1 = ap length at ∙ length-append front.history (entry ∷ []) in
      omega (arith, above, known, grown)

  settles_none : run_day entry ≡ None → (s : Settled) → In more.0 s → ⊥
  settles_none none s i =
      let member : In books.settled s = subst (λ z. In z s) (sym more.1) (In-right front.settled more.0 s i) in
      let due = due_facts books.history s.run s.pair ((longer.settlement.exact s).0 (Contains-from_In books.settled s member)).due in
      let run = of_it s i in
      let grown : length books.history ≡ length front.history + 1 = ap length at ∙ length-append front.history (entry ∷ []) in
      let entry_is : entry_at books.history s.run ≡ Some entry = ap (λ z. entry_at z s.run) at ∙ entry_at-end front.history entry s.run (omega (arith, run, grown)) in
      by_none (day_of books.history s.pair) (option_and_then run_day (entry_at books.history s.run)) due.by (ap (option_and_then run_day) entry_is ∙ none)

  pub changes : ChangesOnly front entry books
  changes = record {
    settled = more.0;
    settles = more.1;
    by_it = λ s c. of_it s (In-from_Contains more.0 s c);
    runs = λ none. none_in more.0 (settles_none none);
    credited = λ account isin. ap (λ z. credits z front.settled account isin) at ∙ credits-entry front.history entry front.settled (inside front are) account isin;
    debited = λ account isin. ap (λ z. debits z front.settled account isin) at ∙ debits-entry front.history entry front.settled (inside front are) account isin;
    paid = λ bic ccy. ap (λ z. cash_credits z front.settled bic ccy) at ∙ cash_credits-entry front.history entry front.settled (inside front are) bic ccy;
    paying = λ bic ccy. ap (λ z. cash_debits z front.settled bic ccy) at ∙ cash_debits-entry front.history entry front.settled (inside front are) bic ccy;
  }
