-- What is so of every accepted history.
use Rattle.std.proofs.Common.{◌≡◌, inl, inr, ℕ, zero, suc, Bool, true, false, not, List, [], ◌∷◌, ◌++◌, bytes_eq, sum_by, Option, Some, None, is_some, refl, sym, ap, ◌∙◌, arith}
use Rattle.std.specs.Prelude.{is_none, ◌||◌}
use Rattle.std.specs.List.{list_any}
use Rattle.std.proofs.lemmas.Bool.{both_ways, not-false}
use Rattle.std.proofs.lemmas.List.Sums.{sum_by-cons, sum_by_push}
use Rattle.desk_codes.specs.declared.currency.Ccy.{Ccy}
use Rattle.desk_rules.specs.declared.history.entry.Entry.{Entry}
use Rattle.desk_rules.specs.declared.history.entry.Entry.TheVariants.{Participant, Account, Security, Issue, Redeem, PayIn, PayOut, Instruct, Cancel, Run}
use Rattle.desk_rules.specs.declared.history.entry.Instructed.{Instructed}
use Rattle.desk_rules.specs.declared.history.pair.Settled.{Settled}
use Rattle.desk_rules.specs.Balances.{amount_of, cash_credits, credits, delivery_of, deliverer_of, issued_by, movement_of, movement_on, paid_in, paid_in_by, payment_in, payment_of, quantity_if, quantity_on, receipt_of, receiver_of, same_ccy}
use Rattle.desk_rules.specs.Books.{Books}
use Rattle.desk_rules.specs.Facts.{is_owner, is_participant, owner_by, owner_of, adds_participant}
use Rattle.desk_rules.specs.History.{instruction_at}
use Rattle.desk_rules.specs.Verdict.{WasAccepted}
use Rattle.desk_rules.proofs.Accepted.{Passes, accepted_last}
use Rattle.desk_rules.proofs.Conservation.{accepted_all, sum_zero}
use Rattle.desk_rules.proofs.Existence.{books_exist}
use Rattle.desk_register.specs.Looked.{pays_in}
use Rattle.desk_register.specs.RegisteredOnce.{AreRegisteredOnce, IsOfRegistered, is_account}
use Rattle.desk_register.proofs.CaseLemmas.{same_bytes}
use Rattle.desk_register.proofs.RegisteredLemmas.{IsFounded, account_push, not_before, once_more, participant_push}

-- ---- each account and each participant is registered once

some_there : {X : Type 0} (o : Option X) → is_none o ≡ false → is_some o ≡ true
some_there None e = absurd (cc)
some_there (Some x) e = refl

owner_there : (sender : List ℕ) (o : Option (List ℕ)) → not (is_owner sender o) ≡ false → is_some o ≡ true
owner_there sender None e = absurd (cc)
owner_there sender (Some owner) e = refl

founded_by : (b : Books) (e : Entry) → Passes b e → IsFounded b.history e
founded_by b (Participant reference bic) p = p.checks _ (inl refl)
founded_by b (Account reference bic account) p = p.checks _ (inl refl)
founded_by b (Security reference isin kind) p = tt
founded_by b (Issue movement) p = some_there (owner_of b.history movement.account) (p.checks _ (inl refl))
founded_by b (Redeem movement) p = some_there (owner_of b.history movement.account) (p.checks _ (inl refl))
founded_by b (PayIn x) p = not-false (is_participant b.history x.bic) (p.checks _ (inl refl))
founded_by b (PayOut x) p = not-false (is_participant b.history x.bic) (p.checks _ (inl refl))
founded_by b (Instruct sender i) p = record {
  account = owner_there sender (owner_of b.history i.account) (p.checks _ (inr (inr (inr (inl refl)))));
  sender = not-false (is_participant b.history sender) p.known;
}
founded_by b (Cancel sender order) p = tt
founded_by b (Run reference day rule) p = tt

founded : (limit : ℕ) (h : List Entry) (e : Entry) → WasAccepted limit (h ++ e ∷ []) → IsFounded h e
founded limit h e was = let own = books_exist h in founded_by (record { history = h; pairs = own.0; settled = own.1 }) e (accepted_last limit h e own.0 own.1 was own.2)

no_instruction : (n : ℕ) (i : Instructed) → instruction_at [] n ≡ Some i → ⊥
no_instruction zero i is = cc
no_instruction (suc n) i is = cc

pub registered_once : (limit : ℕ) (h : List Entry) → WasAccepted limit h → AreRegisteredOnce h
registered_once limit = accepted_all limit AreRegisteredOnce (record { accounts = λ account. refl; participants = λ bic. refl; instructions = λ n i is. absurd (no_instruction n i is) })
    (λ h e was once. once_more h e (founded limit h e was) once)

-- ---- nobody else holds or has anything

unless : (b : Bool) (n : ℕ) → (b ≡ true → ⊥) → quantity_if b n ≡ 0
unless true n never = absurd (never refl)
unless false n never = refl

module _ (account isin : List ℕ) where
  issues_none : (h : List Entry) (e : Entry) → IsFounded h e → is_account h account ≡ false → issued_by (movement_on account isin) e ≡ 0
  issues_none h (Participant reference bic) f none = refl
  issues_none h (Account reference bic a) f none = refl
  issues_none h (Security reference i kind) f none = refl
  issues_none h (Issue m) f none = unless (bytes_eq m.account account) (movement_of isin m) (λ is. both_ways (is_account h account) none (ap (is_account h) (sym (same_bytes m.account account is)) ∙ f))
  issues_none h (Redeem m) f none = refl
  issues_none h (PayIn x) f none = refl
  issues_none h (PayOut x) f none = refl
  issues_none h (Instruct sender i) f none = refl
  issues_none h (Cancel sender order) f none = refl
  issues_none h (Run reference day rule) f none = refl

  never_issued : (limit : ℕ) (h : List Entry) → WasAccepted limit h → is_account h account ≡ false → sum_by (issued_by (movement_on account isin)) h ≡ 0
  never_issued limit = accepted_all limit (λ h. is_account h account ≡ false → sum_by (issued_by (movement_on account isin)) h ≡ 0) (λ none. refl) (λ h e was before none.
      let earlier = not_before (is_account h account) (is_some (owner_by account e)) (sym (account_push h e account) ∙ none) in
      let old = before earlier in
      let new = issues_none h e (founded limit h e was) earlier in
      let all = sum_by_push (issued_by (movement_on account isin)) h e in
      omega arith)

  receives_none : (h : List Entry) (o : Option Instructed) → ((i : Instructed) → o ≡ Some i → IsOfRegistered h i) → is_account h account ≡ false → quantity_on account isin o ≡ 0
  receives_none h None each none = refl
  receives_none h (Some i) each none = unless (bytes_eq i.instruction.account account) _ (λ is. both_ways (is_account h account) none (ap (is_account h) (sym (same_bytes i.instruction.account account is)) ∙ (each i refl).account))

  pub no_credits : (limit : ℕ) (h : List Entry) (settled : List Settled) → WasAccepted limit h → is_account h account ≡ false → credits h settled account isin ≡ 0
  no_credits limit h settled was none =
      let once = registered_once limit h was in
      let issues = never_issued limit h was none in
      let receives = sum_zero (λ (s : Settled). quantity_on account isin (receipt_of h s.pair)) settled (λ s i. receives_none h (receipt_of h s.pair) (once.instructions (receiver_of h s.pair)) none) in
      omega arith

module _ (bic : List ℕ) (ccy : Ccy) where
  pays_none : (h : List Entry) (e : Entry) → IsFounded h e → is_participant h bic ≡ false → paid_in_by (payment_of bic ccy) e ≡ 0
  pays_none h (Participant reference b) f none = refl
  pays_none h (Account reference b a) f none = refl
  pays_none h (Security reference i kind) f none = refl
  pays_none h (Issue m) f none = refl
  pays_none h (Redeem m) f none = refl
  pays_none h (PayIn x) f none = unless (bytes_eq x.bic bic) (payment_in ccy x) (λ is. both_ways (is_participant h bic) none (ap (is_participant h) (sym (same_bytes x.bic bic is)) ∙ f))
  pays_none h (PayOut x) f none = refl
  pays_none h (Instruct sender i) f none = refl
  pays_none h (Cancel sender order) f none = refl
  pays_none h (Run reference day rule) f none = refl

  never_paid : (limit : ℕ) (h : List Entry) → WasAccepted limit h → is_participant h bic ≡ false → sum_by (paid_in_by (payment_of bic ccy)) h ≡ 0
  never_paid limit = accepted_all limit (λ h. is_participant h bic ≡ false → sum_by (paid_in_by (payment_of bic ccy)) h ≡ 0) (λ none. refl) (λ h e was before none.
      let earlier = not_before (is_participant h bic) (adds_participant bic e) (sym (participant_push h e bic) ∙ none) in
      let old = before earlier in
      let new = pays_none h e (founded limit h e was) earlier in
      let all = sum_by_push (paid_in_by (payment_of bic ccy)) h e in
      omega arith)

  delivers_none : (h : List Entry) (o : Option Instructed) → ((i : Instructed) → o ≡ Some i → IsOfRegistered h i) → is_participant h bic ≡ false → amount_of bic ccy o ≡ 0
  delivers_none h None each none = refl
  delivers_none h (Some i) each none = unless (bytes_eq i.sender bic) _ (λ is. both_ways (is_participant h bic) none (ap (is_participant h) (sym (same_bytes i.sender bic is)) ∙ (each i refl).sender))

  pub no_cash_credits : (limit : ℕ) (h : List Entry) (settled : List Settled) → WasAccepted limit h → is_participant h bic ≡ false → cash_credits h settled bic ccy ≡ 0
  no_cash_credits limit h settled was none =
      let once = registered_once limit h was in
      let pays = never_paid limit h was none in
      let delivers = sum_zero (λ (s : Settled). amount_of bic ccy (delivery_of h s.pair)) settled (λ s i. delivers_none h (delivery_of h s.pair) (once.instructions (deliverer_of h s.pair)) none) in
      omega arith

-- ---- before any pay in of a currency nothing was paid in

split_any : (a b : Bool) → (a || b) ≡ false → (a ≡ false) × (b ≡ false)
split_any false b e = (refl, e)
split_any true b e = absurd (cc)

pays_nothing : (ccy : Ccy) (e : Entry) → pays_in ccy e ≡ false → paid_in_by (payment_in ccy) e ≡ 0
pays_nothing ccy (Participant reference bic) none = refl
pays_nothing ccy (Account reference bic a) none = refl
pays_nothing ccy (Security reference i kind) none = refl
pays_nothing ccy (Issue m) none = refl
pays_nothing ccy (Redeem m) none = refl
pays_nothing ccy (PayIn x) none = unless (same_ccy x.ccy ccy) x.amount (λ is. both_ways (same_ccy x.ccy ccy) none is)
pays_nothing ccy (PayOut x) none = refl
pays_nothing ccy (Instruct sender i) none = refl
pays_nothing ccy (Cancel sender order) none = refl
pays_nothing ccy (Run reference day rule) none = refl

pub nothing_paid_in : (ccy : Ccy) (h : List Entry) → list_any (pays_in ccy) h ≡ false → paid_in h ccy ≡ 0
nothing_paid_in ccy [] none = refl
nothing_paid_in ccy (e ∷ h) none =
    let parts = split_any (pays_in ccy e) (list_any (pays_in ccy) h) none in
    let first = pays_nothing ccy e parts.0 in
    let rest = nothing_paid_in ccy h parts.1 in
    let all = sum_by-cons (paid_in_by (payment_in ccy)) e h in
    omega arith
