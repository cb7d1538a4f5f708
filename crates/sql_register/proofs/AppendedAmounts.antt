-- What an entry moves, in the tables of amounts.
use Rattle.std.proofs.Common.{◌≡◌, refl, sym, ap, ◌∙◌, ℕ, ◌+◌, cond, Bool, List, [], Option, Some, true, false, unwrap_or, codes, length, arith}
use Rattle.std.specs.Prelude.{◌&&◌, bytes_eq}
use Rattle.sqlite.specs.Effect.{Database}
use Rattle.sql_rows.specs.Amounts.{amount_in}
use Rattle.sql_rows.specs.Changes.{SetsAmount, had}
use Rattle.sql_rows.specs.Keys.{is_of}
use Rattle.sql_rows.specs.declared.amounts.key.AmountKey.{AmountKey}
use Rattle.sql_rows.specs.declared.amounts.key.AmountKey.TheVariants.{Currency, Security as SecurityTotal}
use Rattle.sql_rows.specs.declared.amounts.key.AmountKey.TheVariants as keys
use Rattle.sql_rows.specs.declared.amounts.key.Ledger.{Ledger}
use Rattle.sql_rows.specs.declared.amounts.key.Ledger.TheVariants.{Balance, Cash, Total}
use Rattle.sql_rows.proofs.AmountLemmas.{SameAmounts, same_recorded}
use Rattle.desk_codes.specs.Currency.{letters_of}
use Rattle.desk_codes.specs.declared.currency.Ccy.{Ccy}
use Rattle.desk_register.specs.Changes.{cash_after, cash_at, moved_to, positions_after}
use Rattle.desk_register.proofs.CaseLemmas.{by_bool, same_bytes}
use Rattle.desk_rules.specs.declared.history.entry.Entry.{Entry}
use Rattle.desk_rules.specs.declared.history.entry.Entry.TheVariants.{Participant, Account, Security, Issue, Redeem, PayIn, PayOut, Instruct, Cancel, Run}
use Rattle.desk_rules.specs.Balances.{issued_by, movement_of, quantity_if, redeemed_by, same_ccy}
use Rattle.desk_rules.specs.Content.{CashBalances, Positions}
use Rattle.desk_rules.proofs.Conservation.{if_false, if_true}
use Rattle.sql_register.specs.Content.{content_in}
use Rattle.sql_register.specs.Holds.{outstanding_in, paid_in_table}
use Rattle.sql_register.proofs.AppendedTotals.{TotalsMore, paid_after}
use Rattle.sql_register.proofs.ContentLemmas.{same_cash, same_outstanding, same_paid, same_positions}

-- entries of the operator's that move nothing
abbrev pub IsAlone : Entry → Type 0
IsAlone (Participant reference bic) = Unit {0}
IsAlone (Account reference bic account) = Unit {0}
IsAlone (Security reference isin kind) = Unit {0}
IsAlone (Run reference day rule) = Unit {0}
IsAlone entry = ⊥

-- An entry that moves no securities, no cash.
pub record MovesNoSecurities (e : Entry) : Type 0 where
  pub positions : (p : Positions) → positions_after e p ≡ p
  pub issued : (isin : List ℕ) → issued_by (movement_of isin) e ≡ 0
  pub redeemed : (isin : List ℕ) → redeemed_by (movement_of isin) e ≡ 0

pub record MovesNoCash (e : Entry) : Type 0 where
  pub cash : (c : CashBalances) → cash_after e c ≡ c
  pub paid : (f : Ccy → Option ℕ) (c : Ccy) → paid_after e f c ≡ f c

pub alone_no_securities : (e : Entry) → IsAlone e → MovesNoSecurities e
alone_no_securities (Participant reference bic) is = record { positions = λ p. refl; issued = λ i. refl; redeemed = λ i. refl }
alone_no_securities (Account reference bic account) is = record { positions = λ p. refl; issued = λ i. refl; redeemed = λ i. refl }
alone_no_securities (Security reference isin kind) is = record { positions = λ p. refl; issued = λ i. refl; redeemed = λ i. refl }
alone_no_securities (Issue movement) is = absurd is
alone_no_securities (Redeem movement) is = absurd is
alone_no_securities (PayIn payment) is = absurd is
alone_no_securities (PayOut payment) is = absurd is
alone_no_securities (Instruct sender instruction) is = absurd is
alone_no_securities (Cancel sender order) is = absurd is
alone_no_securities (Run reference day rule) is = record { positions = λ p. refl; issued = λ i. refl; redeemed = λ i. refl }

pub alone_no_cash : (e : Entry) → IsAlone e → MovesNoCash e
alone_no_cash (Participant reference bic) is = record { cash = λ c. refl; paid = λ f c. refl }
alone_no_cash (Account reference bic account) is = record { cash = λ c. refl; paid = λ f c. refl }
alone_no_cash (Security reference isin kind) is = record { cash = λ c. refl; paid = λ f c. refl }
alone_no_cash (Issue movement) is = absurd is
alone_no_cash (Redeem movement) is = absurd is
alone_no_cash (PayIn payment) is = absurd is
alone_no_cash (PayOut payment) is = absurd is
alone_no_cash (Instruct sender instruction) is = absurd is
alone_no_cash (Cancel sender order) is = absurd is
alone_no_cash (Run reference day rule) is = record { cash = λ c. refl; paid = λ f c. refl }

-- What the tables of amounts have become.
pub record SecuritiesMove (old new : Database) (e : Entry) : Type 0 where
  pub positions : (account isin : List ℕ) → (content_in new).position account isin ≡ positions_after e (content_in old).position account isin
  pub outstanding : (isin : List ℕ) → outstanding_in new isin + redeemed_by (movement_of isin) e ≡ outstanding_in old isin + issued_by (movement_of isin) e
  pub named : (account : List ℕ) → positions_after e (content_in old).position account [] ≡ 0

pub record CashMoves (old new : Database) (e : Entry) : Type 0 where
  pub cash : (bic : List ℕ) (ccy : Ccy) → (content_in new).cash bic ccy ≡ cash_after e (content_in old).cash bic ccy
  pub paid : (ccy : Ccy) → paid_in_table new ccy ≡ paid_after e (paid_in_table old) ccy

pub no_securities : (old new : Database) (e : Entry) → MovesNoSecurities e → ((account isin : List ℕ) → (content_in new).position account isin ≡ (content_in old).position account isin)
    → ((isin : List ℕ) → outstanding_in new isin ≡ outstanding_in old isin) → ((account : List ℕ) → (content_in old).position account [] ≡ 0) → SecuritiesMove old new e
no_securities old new e none positions outstanding named = record {
  positions = λ a i. positions a i ∙ sym (λ k. none.positions (content_in old).position k a i);
  outstanding = λ i. (let x = none.issued i in let y = none.redeemed i in let z = outstanding i in omega arith);
  named = λ a. (λ k. none.positions (content_in old).position k a []) ∙ named a;
}

pub no_cash : (old new : Database) (e : Entry) → MovesNoCash e → ((bic : List ℕ) (ccy : Ccy) → (content_in new).cash bic ccy ≡ (content_in old).cash bic ccy)
    → ((ccy : Ccy) → paid_in_table new ccy ≡ paid_in_table old ccy) → CashMoves old new e
no_cash old new e none cash paid = record {
  cash = λ b c. cash b c ∙ sym (λ k. none.cash (content_in old).cash k b c);
  paid = λ c. paid c ∙ sym (none.paid (paid_in_table old) c);
}

-- where the tables of amounts are as they were
pub securities_same : (old new : Database) (e : Entry) → MovesNoSecurities e → SameAmounts old new → ((account : List ℕ) → (content_in old).position account [] ≡ 0) → SecuritiesMove old new e
securities_same old new e none same named = no_securities old new e none (same_positions old new same) (same_outstanding old new same) named

pub cash_same : (old new : Database) (e : Entry) → MovesNoCash e → SameAmounts old new → CashMoves old new e
cash_same old new e none same = no_cash old new e none (same_cash old new same) (same_paid old new same)

pub totals_of : (old new : Database) (e : Entry) → SecuritiesMove old new e → CashMoves old new e → TotalsMore old new e
totals_of old new e securities cash = record { outstanding = securities.outstanding; paid = cash.paid }

-- ---- two amounts, one after another

unwrap_if : (t : Bool) (m : ℕ) (o : Option ℕ) → unwrap_or (cond t (Some m) o) 0 ≡ cond t m (unwrap_or o 0)
unwrap_if true m o = refl
unwrap_if false m o = refl

and_false : (b : Bool) → (b && false) ≡ false
and_false true = refl
and_false false = refl

module _ (old d1 d2 new : Database) (same : SameAmounts old d1) (first second : AmountKey) (m n : ℕ) (a : SetsAmount d1 d2 first m) (b : SetsAmount d2 new second n) where
  both_recorded : (ledger : Ledger) (x y : List ℕ) → amount_in new ledger x y ≡ cond (is_of second ledger x y) (Some n) (cond (is_of first ledger x y) (Some m) (amount_in old ledger x y))
  both_recorded l x y = b.recorded l x y ∙ ap (λ o. cond (is_of second l x y) (Some n) o) (a.recorded l x y ∙ ap (λ o. cond (is_of first l x y) (Some m) o) (same_recorded old d1 same l x y))

-- of a security: what an account holds, and what is outstanding
module _ (old d1 d2 new : Database) (same : SameAmounts old d1) (account isin : List ℕ) (m n : ℕ) (a : SetsAmount d1 d2 (keys.Balance account isin) m) where
  pub outstanding_before : had d2 (SecurityTotal isin) ≡ outstanding_in old isin
  outstanding_before = ap (λ o. unwrap_or o 0) (a.recorded Total (codes "security") isin ∙ same_recorded old d1 same Total (codes "security") isin)

  module _ (b : SetsAmount d2 new (SecurityTotal isin) n) where
    position_is : (x i : List ℕ) → (content_in new).position x i ≡ moved_to (content_in old).position account isin m x i
    position_is x i = ap (λ o. unwrap_or o 0) (both_recorded old d1 d2 new same (keys.Balance account isin) (SecurityTotal isin) m n a b Balance x i) ∙ unwrap_if (bytes_eq account x && bytes_eq isin i) m (amount_in old Balance x i)

    outstanding_is : (i : List ℕ) → outstanding_in new i ≡ cond (bytes_eq isin i) n (outstanding_in old i)
    outstanding_is i = ap (λ o. unwrap_or o 0) (both_recorded old d1 d2 new same (keys.Balance account isin) (SecurityTotal isin) m n a b Total (codes "security") i) ∙ unwrap_if (bytes_eq isin i) n (amount_in old Total (codes "security") i)

    pub cash_still : (bic : List ℕ) (ccy : Ccy) → (content_in new).cash bic ccy ≡ (content_in old).cash bic ccy
    cash_still bic ccy = ap (λ o. unwrap_or o 0) (both_recorded old d1 d2 new same (keys.Balance account isin) (SecurityTotal isin) m n a b Cash bic (letters_of ccy))

    pub paid_still : (ccy : Ccy) → paid_in_table new ccy ≡ paid_in_table old ccy
    paid_still ccy = both_recorded old d1 d2 new same (keys.Balance account isin) (SecurityTotal isin) m n a b Total (codes "currency") (letters_of ccy)

    pub moves_securities : (e : Entry) (q r : ℕ) → positions_after e (content_in old).position ≡ moved_to (content_in old).position account isin m
        → ((i : List ℕ) → issued_by (movement_of i) e ≡ quantity_if (bytes_eq isin i) q) → ((i : List ℕ) → redeemed_by (movement_of i) e ≡ quantity_if (bytes_eq isin i) r) → n + r ≡ outstanding_in old isin + q
        → bytes_eq isin [] ≡ false → ((x : List ℕ) → (content_in old).position x [] ≡ 0) → SecuritiesMove old new e
    moves_securities e q r positions issued redeemed sum name named = record {
      positions = λ x i. position_is x i ∙ sym (λ k. positions k x i);
      outstanding = λ i.
          let more = issued i in
          let less = redeemed i in
          by_bool (bytes_eq isin i)
          (λ t.
          let now : outstanding_in new i ≡ n = outstanding_is i ∙ ap (λ z. cond z n (outstanding_in old i)) t in
          let was : outstanding_in old isin ≡ outstanding_in old i = ap (outstanding_in old) (same_bytes isin i t) in
          let up = if_true (bytes_eq isin i) q t in
          let down = if_true (bytes_eq isin i) r t in
          omega arith)
          (λ f.
          let now : outstanding_in new i ≡ outstanding_in old i = outstanding_is i ∙ ap (λ z. cond z n (outstanding_in old i)) f in
          let up = if_false (bytes_eq isin i) q f in
          let down = if_false (bytes_eq isin i) r f in
          omega arith);
      named = λ x.
          (λ k. positions k x []) ∙ ap (λ z. cond (bytes_eq account x && z) m ((content_in old).position x [])) name
          ∙ ap (λ z. cond z m ((content_in old).position x [])) (and_false (bytes_eq account x)) ∙ named x;
    }

-- of a currency: what a participant has, and what is paid
module _ (old d1 d2 new : Database) (same : SameAmounts old d1) (bic : List ℕ) (ccy : Ccy) (m n : ℕ) (a : SetsAmount d1 d2 (keys.Cash bic ccy) m) where
  pub paid_before : had d2 (Currency ccy) ≡ unwrap_or (paid_in_table old ccy) 0
  paid_before = ap (λ o. unwrap_or o 0) (a.recorded Total (codes "currency") (letters_of ccy) ∙ same_recorded old d1 same Total (codes "currency") (letters_of ccy))

  module _ (b : SetsAmount d2 new (Currency ccy) n) where
    pub positions_still : (x i : List ℕ) → (content_in new).position x i ≡ (content_in old).position x i
    positions_still x i = ap (λ o. unwrap_or o 0) (both_recorded old d1 d2 new same (keys.Cash bic ccy) (Currency ccy) m n a b Balance x i)

    pub outstanding_still : (i : List ℕ) → outstanding_in new i ≡ outstanding_in old i
    outstanding_still i = ap (λ o. unwrap_or o 0) (both_recorded old d1 d2 new same (keys.Cash bic ccy) (Currency ccy) m n a b Total (codes "security") i)

    cash_is : (x : List ℕ) (c : Ccy) → (content_in new).cash x c ≡ cash_at (content_in old).cash bic ccy m x c
    cash_is x c = ap (λ o. unwrap_or o 0) (both_recorded old d1 d2 new same (keys.Cash bic ccy) (Currency ccy) m n a b Cash x (letters_of c)) ∙ unwrap_if (bytes_eq bic x && same_ccy ccy c) m (amount_in old Cash x (letters_of c))

    paid_is : (c : Ccy) → paid_in_table new c ≡ cond (same_ccy ccy c) (Some n) (paid_in_table old c)
    paid_is c = both_recorded old d1 d2 new same (keys.Cash bic ccy) (Currency ccy) m n a b Total (codes "currency") (letters_of c)

    pub moves_cash : (e : Entry) → cash_after e (content_in old).cash ≡ cash_at (content_in old).cash bic ccy m
        → ((c : Ccy) → paid_after e (paid_in_table old) c ≡ cond (same_ccy ccy c) (Some n) (paid_in_table old c)) → CashMoves old new e
    moves_cash e cash paid = record {
      cash = λ x c. cash_is x c ∙ sym (λ k. cash k x c);
      paid = λ c. paid_is c ∙ sym (paid c);
    }

pub named_isin : (isin : List ℕ) → length isin ≡ 12 → bytes_eq isin [] ≡ false
named_isin isin len = by_bool (bytes_eq isin []) (λ t. absurd (let empty : length isin ≡ 0 = ap length (same_bytes isin [] t) in omega arith)) (λ f. f)
