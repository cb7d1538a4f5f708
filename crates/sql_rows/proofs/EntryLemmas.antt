-- What the entries of a content register, issue and redeem is all that it has.
use Rattle.std.proofs.Common.{◌≡◌, ◌⊎◌, inl, inr, ℕ, Bool, false, ◌||◌, List, [], ◌∷◌, Option, Some, None, bytes_eq, refl, sym, subst, ◌∙◌, arith}
use Rattle.std.specs.List.{AllByRecursion}
use Rattle.std.specs.Prelude.{if◌then◌else◌}
use Rattle.std.proofs.lemmas.Bool.{cases_Bool, cases_lt}
use Rattle.std.proofs.lemmas.List.Sums.{sum_by-cons}
use Rattle.sqlite.specs.Effect.{Database}
use Rattle.desk_codes.specs.declared.currency.Ccy.{Ccy}
use Rattle.desk_rules.specs.declared.history.entry.Entry.{Entry}
use Rattle.desk_rules.specs.declared.history.entry.Entry.TheVariants.{Participant, Account, Security, Issue, Redeem, PayIn, PayOut, Instruct, Cancel, Run}
use Rattle.desk_rules.specs.Balances.{issued, issued_by, movement_of, redeemed, redeemed_by}
use Rattle.desk_rules.specs.Content.{Content, history_of}
use Rattle.desk_rules.specs.Facts.{is_participant, owner_of, or_else}
use Rattle.desk_rules.proofs.Conservation.{if_false}
use Rattle.desk_register.proofs.CaseLemmas.{same_bytes}
use Rattle.sql_rows.specs.declared.amounts.key.Ledger.{Ledger}
use Rattle.sql_rows.specs.declared.amounts.key.Ledger.TheVariants as ledgers
use Rattle.sql_rows.specs.declared.amounts.key.AmountKey.{AmountKey}
use Rattle.sql_rows.specs.declared.amounts.key.AmountKey.TheVariants as keys
use Rattle.sql_rows.specs.Keys.{ledger_of, tree_of}
use Rattle.sql_rows.specs.Amounts.{AreAmounts, amount_at}
use Rattle.sql_rows.specs.Said.{HasAmounts, HasNoStranger, HasReadable}
use Rattle.sql_rows.specs.Shown.{AreTrueTables, IsTrueTable}
use Rattle.sql_rows.specs.Recorded.{AreAllRecorded, AreHoldingsRecorded, IsCashRecorded, IsEntryRecorded, IsPaidRecorded, IsRecorded, SaysAll}
use Rattle.sql_rows.proofs.AmountComparedRows.{IsSaidOrNought, said_or_nought}
use Rattle.sql_rows.proofs.TrueLemmas.{all_keyed}

module _ (db : Database) (content : Content) where
  abbrev Each : List Entry → Type 0
  Each h = AllByRecursion (IsEntryRecorded db content) h

  -- ---- an account that is registered

  module _ (account : List ℕ) where
    by_owner : (a bic : List ℕ) (rest : Option (List ℕ)) → AreHoldingsRecorded db content a → (rest ≡ None) ⊎ AreHoldingsRecorded db content account
        → (or_else (if bytes_eq a account then Some bic else None) rest ≡ None) ⊎ AreHoldingsRecorded db content account
    by_owner a bic rest here more = elim (cases_Bool (bytes_eq a account)) [
      | inl is ↦ inr (subst (AreHoldingsRecorded db content) (same_bytes a account is) here)
      | inr other ↦ rw other more
    ]

    pub owned : (h : List Entry) → Each h → (owner_of h account ≡ None) ⊎ AreHoldingsRecorded db content account
    owned [] all = inl refl
    owned (Participant reference bic ∷ h) all = owned h all.1
    owned (Account reference bic a ∷ h) all = by_owner a bic (owner_of h account) all.0 (owned h all.1)
    owned (Security reference isin kind ∷ h) all = owned h all.1
    owned (Issue movement ∷ h) all = owned h all.1
    owned (Redeem movement ∷ h) all = owned h all.1
    owned (PayIn payment ∷ h) all = owned h all.1
    owned (PayOut payment ∷ h) all = owned h all.1
    owned (Instruct sender instruction ∷ h) all = owned h all.1
    owned (Cancel sender order ∷ h) all = owned h all.1
    owned (Run reference day rule ∷ h) all = owned h all.1

  -- ---- a participant that is registered

  module _ (bic : List ℕ) where
    by_participant : (b : List ℕ) (rest : Bool) → IsCashRecorded db content b → (rest ≡ false) ⊎ IsCashRecorded db content bic
        → ((bytes_eq b bic || rest) ≡ false) ⊎ IsCashRecorded db content bic
    by_participant b rest here more = elim (cases_Bool (bytes_eq b bic)) [
      | inl is ↦ inr (subst (IsCashRecorded db content) (same_bytes b bic is) here)
      | inr other ↦ rw other more
    ]

    pub participates : (h : List Entry) → Each h → (is_participant h bic ≡ false) ⊎ IsCashRecorded db content bic
    participates [] all = inl refl
    participates (Participant reference b ∷ h) all = by_participant b (is_participant h bic) all.0 (participates h all.1)
    participates (Account reference b account ∷ h) all = participates h all.1
    participates (Security reference isin kind ∷ h) all = participates h all.1
    participates (Issue movement ∷ h) all = participates h all.1
    participates (Redeem movement ∷ h) all = participates h all.1
    participates (PayIn payment ∷ h) all = participates h all.1
    participates (PayOut payment ∷ h) all = participates h all.1
    participates (Instruct sender instruction ∷ h) all = participates h all.1
    participates (Cancel sender order ∷ h) all = participates h all.1
    participates (Run reference day rule ∷ h) all = participates h all.1

  -- ---- a security that is issued or redeemed

  module _ (isin : List ℕ) where
    record NeverMoved (h : List Entry) : Type 0 where
      issued : issued h isin ≡ 0
      redeemed : redeemed h isin ≡ 0

    none_of : (e : Entry) (h : List Entry) → issued_by (movement_of isin) e ≡ 0 → redeemed_by (movement_of isin) e ≡ 0 → NeverMoved h → NeverMoved (e ∷ h)
    none_of e h one two never = record {
      issued = (let all = sum_by-cons (issued_by (movement_of isin)) e h in let rest = never.issued in omega arith);
      redeemed = (let all = sum_by-cons (redeemed_by (movement_of isin)) e h in let rest = never.redeemed in omega arith);
    }

    abbrev MovedOr : List Entry → Type 0
    MovedOr h = NeverMoved h ⊎ IsRecorded db content (keys.Security isin)

    or_moved : (e : Entry) (h : List Entry) → issued_by (movement_of isin) e ≡ 0 → redeemed_by (movement_of isin) e ≡ 0 → MovedOr h → MovedOr (e ∷ h)
    or_moved e h one two (inl never) = inl (none_of e h one two never)
    or_moved e h one two (inr here) = inr here

    moved : (h : List Entry) → Each h → MovedOr h
    moved [] all = inl (record { issued = refl; redeemed = refl })
    moved (Participant reference bic ∷ h) all = or_moved _ h refl refl (moved h all.1)
    moved (Account reference bic account ∷ h) all = or_moved _ h refl refl (moved h all.1)
    moved (Security reference i kind ∷ h) all = or_moved _ h refl refl (moved h all.1)
    moved (Issue movement ∷ h) all = elim (cases_Bool (bytes_eq movement.isin isin)) [
      | inl is ↦ inr (subst (λ i. IsRecorded db content (keys.Security i)) (same_bytes movement.isin isin is) all.0)
      | inr other ↦ or_moved (Issue movement) h (if_false (bytes_eq movement.isin isin) movement.quantity other) refl (moved h all.1)
    ]
    moved (Redeem movement ∷ h) all = elim (cases_Bool (bytes_eq movement.isin isin)) [
      | inl is ↦ inr (subst (λ i. IsRecorded db content (keys.Security i)) (same_bytes movement.isin isin is) all.0)
      | inr other ↦ or_moved (Redeem movement) h refl (if_false (bytes_eq movement.isin isin) movement.quantity other) (moved h all.1)
    ]
    moved (PayIn payment ∷ h) all = or_moved _ h refl refl (moved h all.1)
    moved (PayOut payment ∷ h) all = or_moved _ h refl refl (moved h all.1)
    moved (Instruct sender instruction ∷ h) all = or_moved _ h refl refl (moved h all.1)
    moved (Cancel sender order ∷ h) all = or_moved _ h refl refl (moved h all.1)
    moved (Run reference day rule ∷ h) all = or_moved _ h refl refl (moved h all.1)

  -- ---- so the tables say what the content has

  pub true_of : AreTrueTables db content → (ledger : Ledger) → IsTrueTable db content ledger
  true_of trues ledgers.Balance = trues.balance
  true_of trues ledgers.Cash = trues.cash
  true_of trues ledgers.Total = trues.total

  pub amounts_of : AreTrueTables db content → AreAmounts db
  amounts_of trues ledger = let table = true_of trues ledger in record { are = table.rows; keyed = all_keyed content ledger (db.trees (tree_of ledger)) table.each }

  module _ (trues : AreTrueTables db content) (all : AreAllRecorded db content) (paid : IsPaidRecorded db content) (strange : HasNoStranger content) where
    abbrev h : List Entry
    h = history_of content

    nought : (key : AmountKey) → IsSaidOrNought content key (amount_at db key)
    nought key = said_or_nought content key (db.trees (tree_of (ledger_of key))) (true_of trues (ledger_of key)).each

    holds_none : (account isin : List ℕ) → content.position account isin ≡ 0 → IsRecorded db content (keys.Balance account isin)
    holds_none account isin none = elim (nought (keys.Balance account isin)) [ inl is ↦ is ∙ sym none | inr said ↦ said ]

    has_none : (bic : List ℕ) (ccy : Ccy) → content.cash bic ccy ≡ 0 → IsRecorded db content (keys.Cash bic ccy)
    has_none bic ccy none = elim (nought (keys.Cash bic ccy)) [ inl is ↦ is ∙ sym none | inr said ↦ said ]

    never : (isin : List ℕ) → NeverMoved isin h → IsRecorded db content (keys.Security isin)
    never isin none = elim (nought (keys.Security isin)) [
      | inl is ↦ (let i = none.issued in let r = none.redeemed in omega arith)
      | inr said ↦ said
    ]

    said : (key : AmountKey) → IsRecorded db content key
    said (keys.Balance account isin) = elim (cases_lt 0 (content.position account isin)) [
      | inl some ↦ elim (owned account h all.each) [
        | inl stranger ↦ holds_none account isin (strange.holds account isin stranger)
        | inr holdings ↦ holdings.each isin some
      ]
      | inr none ↦ holds_none account isin (omega (arith, none))
    ]
    said (keys.Cash bic ccy) = elim (participates bic h all.each) [
      | inl stranger ↦ has_none bic ccy (strange.pays bic ccy stranger)
      | inr cash ↦ cash.each ccy
    ]
    said (keys.Security isin) = elim (moved isin h all.each) [ inl none ↦ never isin none | inr here ↦ here ]
    said (keys.Currency ccy) = paid.each ccy

    pub has_all : HasAmounts db content
    has_all = record {
      amounts = amounts_of trues;
      each = λ ledger. (true_of trues ledger).each;
      said = said;
    }

-- ---- and where they do, each part of them does

pub tables_of : (db : Database) (content : Content) → HasAmounts db content → AreTrueTables db content
tables_of db content it = record {
  balance = of ledgers.Balance;
  cash = of ledgers.Cash;
  total = of ledgers.Total;
}
  where
    of : (ledger : Ledger) → IsTrueTable db content ledger
    of ledger = record { rows = (it.amounts ledger).are; each = it.each ledger }

pub says_all : (db : Database) (content : Content) → HasReadable content → HasAmounts db content → SaysAll db content
says_all db content can it = record { amounts = it.amounts; each = it.said; readable = can }
