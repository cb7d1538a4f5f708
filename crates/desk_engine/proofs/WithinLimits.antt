-- What is outstanding of a security and what is paid in of a currency are within their limits, and so is what an account
-- holds and what a participant has, whatever pairs are settled.
use Rattle.std.proofs.Common.{◌≡◌, inl, inr, ℕ, ◌+◌, ◌≤◌, true, false, List, [], ◌∷◌, ◌++◌, Contains, bytes_eq, Some, refl, subst, arith}
use Rattle.std.specs.Prelude.{nat_lt}
use Rattle.std.proofs.lemmas.Bool.{cases_Bool, ltb-false}
use Rattle.std.proofs.lemmas.List.Sums.{sum_by_push}
use Rattle.std.proofs.lemmas.Slice.Eq.{bytes_eq-Decides}
use Rattle.desk_codes.specs.declared.currency.Ccy.{Ccy}
use Rattle.desk_rules.specs.declared.history.entry.Entry.{Entry}
use Rattle.desk_rules.specs.declared.history.entry.Entry.TheVariants.{Participant, Account, Security, Issue, Redeem, PayIn, PayOut, Instruct, Cancel, Run}
use Rattle.desk_rules.specs.declared.history.entry.Instructed.{Instructed}
use Rattle.desk_rules.specs.declared.limits.TheConstants.{MOST_PAID, MOST_QUANTITY}
use Rattle.desk_rules.specs.declared.history.pair.Settled.{Settled}
use Rattle.desk_rules.specs.declared.answers.verdict.Refusal.TheVariants.{OverLimit}
use Rattle.desk_rules.specs.History.{instruction_at}
use Rattle.desk_rules.specs.Balances.{credits, debits, issued, redeemed, issued_by, redeemed_by, movement_of, cash_credits, cash_debits, paid_in, paid_out, paid_in_by, paid_out_by, payment_in, same_ccy}
use Rattle.desk_rules.specs.Facts.{accounts_of, participants_of}
use Rattle.desk_rules.specs.Books.{Books, AreBooks}
use Rattle.desk_rules.specs.Verdict.{WasAccepted, check}
use Rattle.desk_rules.specs.Content.{CashBalances, Positions}
use Rattle.desk_rules.specs.Tables.{AreCashBalances, ArePositions}
use Rattle.desk_rules.proofs.Accepted.{accepted_last}
use Rattle.desk_rules.proofs.Conservation.{accepted_all, account_registered, sender_registered, paired_add_up, paired_cash_adds_up}
use Rattle.desk_rules.proofs.Decided.{In}
use Rattle.desk_rules.proofs.Deciding.{same_ccy-true}
use Rattle.desk_rules.proofs.Existence.{books_exist}
use Rattle.desk_engine.proofs.TablesLemmas.{sum_member}

-- Securities.

same_text : (a b : List ℕ) → bytes_eq a b ≡ true → a ≡ b
same_text a b e = let d = bytes_eq-Decides a b in d.0 e

outstanding_step : (h : List Entry) (e : Entry) (limit : ℕ) → WasAccepted limit (h ++ e ∷ []) → ((isin : List ℕ) → issued h isin ≤ redeemed h isin + MOST_QUANTITY)
    → (isin : List ℕ) → issued h isin + issued_by (movement_of isin) e ≤ redeemed h isin + redeemed_by (movement_of isin) e + MOST_QUANTITY
outstanding_step h (Participant reference bic) limit was all isin = let here = all isin in omega arith
outstanding_step h (Account reference bic account) limit was all isin = let here = all isin in omega arith
outstanding_step h (Security reference i kind) limit was all isin = let here = all isin in omega arith
outstanding_step h (Issue movement) limit was all isin =
    let here = all isin in
    elim (cases_Bool (bytes_eq movement.isin isin)) [
      | inr other ↦ rw other (omega arith)
      | inl of ↦
          let b = books_exist h in
          let p = accepted_last limit h (Issue movement) b.0 b.1 was b.2 in
          let third : nat_lt (redeemed h movement.isin + MOST_QUANTITY) (issued h movement.isin + movement.quantity) ≡ false =
          p.checks (check (nat_lt (redeemed h movement.isin + MOST_QUANTITY) (issued h movement.isin + movement.quantity)) OverLimit) (inr (inr (inl refl))) in
          let within : issued h movement.isin + movement.quantity ≤ redeemed h movement.isin + MOST_QUANTITY = ltb-false _ _ third in
          let same : movement.isin ≡ isin = same_text movement.isin isin of in
          let P : List ℕ → Type 0 = λ z. issued h z + movement.quantity ≤ redeemed h z + MOST_QUANTITY in
          let moved : issued h isin + movement.quantity ≤ redeemed h isin + MOST_QUANTITY = subst P same within in
          rw of (omega arith)
    ]
outstanding_step h (Redeem movement) limit was all isin = let here = all isin in omega arith
outstanding_step h (PayIn payment) limit was all isin = let here = all isin in omega arith
outstanding_step h (PayOut payment) limit was all isin = let here = all isin in omega arith
outstanding_step h (Instruct sender instruction) limit was all isin = let here = all isin in omega arith
outstanding_step h (Cancel sender order) limit was all isin = let here = all isin in omega arith
outstanding_step h (Run reference day rule) limit was all isin = let here = all isin in omega arith

pub record WithinLimit (h : List Entry) : Type 0 where
  pub each : (isin : List ℕ) → issued h isin ≤ redeemed h isin + MOST_QUANTITY

pub outstanding_within : (limit : ℕ) (h : List Entry) → WasAccepted limit h → WithinLimit h
outstanding_within limit h was =
    accepted_all limit WithinLimit (record { each = λ isin. omega arith })
    (λ front e was' within. record {
      each = λ isin.
          let more = sum_by_push (issued_by (movement_of isin)) front e in
          let less = sum_by_push (redeemed_by (movement_of isin)) front e in
          let step = outstanding_step front e limit was' within.each isin in
          omega arith;
    }) h was

-- what an account of an instruction holds is within the limit
pub instructed_position_within : (limit : ℕ) (books : Books) (settled : List Settled) (pos : Positions) (k : ℕ) (i : Instructed) (isin : List ℕ) → AreBooks books → WasAccepted limit books.history
    → ((s : Settled) → In settled s → Contains books.pairs s.pair) → ArePositions books.history settled pos → instruction_at books.history k ≡ Some i
    → pos i.instruction.account isin ≤ MOST_QUANTITY
instructed_position_within limit books settled pos k i isin are was inside all at =
    let h = books.history in
    let sums = paired_add_up limit h was books.pairs settled are.pairing inside isin in
    let member = account_registered limit h was k i at in
    let one = sum_member (λ a. credits h settled a isin) (λ a. debits h settled a isin) (accounts_of h) i.instruction.account (λ a. let e : pos a isin + debits h settled a isin ≡ credits h settled a isin = all a isin in omega arith) member in
    let here : pos i.instruction.account isin + debits h settled i.instruction.account isin ≡ credits h settled i.instruction.account isin = all i.instruction.account isin in
    let within = outstanding_within limit h was in
    let most = within.each isin in
    omega arith

-- Cash.

paid_step : (h : List Entry) (e : Entry) (limit : ℕ) → WasAccepted limit (h ++ e ∷ []) → ((ccy : Ccy) → paid_in h ccy ≤ paid_out h ccy + MOST_PAID)
    → (ccy : Ccy) → paid_in h ccy + paid_in_by (payment_in ccy) e ≤ paid_out h ccy + paid_out_by (payment_in ccy) e + MOST_PAID
paid_step h (Participant reference bic) limit was all ccy = let here = all ccy in omega arith
paid_step h (Account reference bic account) limit was all ccy = let here = all ccy in omega arith
paid_step h (Security reference i kind) limit was all ccy = let here = all ccy in omega arith
paid_step h (Issue movement) limit was all ccy = let here = all ccy in omega arith
paid_step h (Redeem movement) limit was all ccy = let here = all ccy in omega arith
paid_step h (PayIn payment) limit was all ccy =
    let here = all ccy in
    elim (cases_Bool (same_ccy payment.ccy ccy)) [
      | inr other ↦ rw other (omega arith)
      | inl of ↦
          let b = books_exist h in
          let p = accepted_last limit h (PayIn payment) b.0 b.1 was b.2 in
          let second : nat_lt (paid_out h payment.ccy + MOST_PAID) (paid_in h payment.ccy + payment.amount) ≡ false =
          p.checks (check (nat_lt (paid_out h payment.ccy + MOST_PAID) (paid_in h payment.ccy + payment.amount)) OverLimit) (inr (inl refl)) in
          let within : paid_in h payment.ccy + payment.amount ≤ paid_out h payment.ccy + MOST_PAID = ltb-false _ _ second in
          let same : payment.ccy ≡ ccy = same_ccy-true payment.ccy ccy of in
          let P : Ccy → Type 0 = λ z. paid_in h z + payment.amount ≤ paid_out h z + MOST_PAID in
          let moved : paid_in h ccy + payment.amount ≤ paid_out h ccy + MOST_PAID = subst P same within in
          rw of (omega arith)
    ]
paid_step h (PayOut payment) limit was all ccy = let here = all ccy in omega arith
paid_step h (Instruct sender instruction) limit was all ccy = let here = all ccy in omega arith
paid_step h (Cancel sender order) limit was all ccy = let here = all ccy in omega arith
paid_step h (Run reference day rule) limit was all ccy = let here = all ccy in omega arith

pub record PaidWithinLimit (h : List Entry) : Type 0 where
  pub each : (ccy : Ccy) → paid_in h ccy ≤ paid_out h ccy + MOST_PAID

pub paid_within : (limit : ℕ) (h : List Entry) → WasAccepted limit h → PaidWithinLimit h
paid_within limit h was =
    accepted_all limit PaidWithinLimit (record { each = λ ccy. omega arith })
    (λ front e was' within. record {
      each = λ ccy.
          let more = sum_by_push (paid_in_by (payment_in ccy)) front e in
          let less = sum_by_push (paid_out_by (payment_in ccy)) front e in
          let step = paid_step front e limit was' within.each ccy in
          omega arith;
    }) h was

-- what the sender of an instruction has is within the limit
pub instructed_cash_within : (limit : ℕ) (books : Books) (settled : List Settled) (cash : CashBalances) (k : ℕ) (i : Instructed) (ccy : Ccy) → AreBooks books → WasAccepted limit books.history
    → ((s : Settled) → In settled s → Contains books.pairs s.pair) → AreCashBalances books.history settled cash → instruction_at books.history k ≡ Some i
    → cash i.sender ccy ≤ MOST_PAID
instructed_cash_within limit books settled cash k i ccy are was inside all at =
    let h = books.history in
    let sums = paired_cash_adds_up limit h was books.pairs settled are.pairing inside ccy in
    let member = sender_registered limit h was k i at in
    let one = sum_member (λ b. cash_credits h settled b ccy) (λ b. cash_debits h settled b ccy) (participants_of h) i.sender (λ b. let e : cash b ccy + cash_debits h settled b ccy ≡ cash_credits h settled b ccy = all b ccy in omega arith) member in
    let here : cash i.sender ccy + cash_debits h settled i.sender ccy ≡ cash_credits h settled i.sender ccy = all i.sender ccy in
    let within = paid_within limit h was in
    let most = within.each ccy in
    omega arith
