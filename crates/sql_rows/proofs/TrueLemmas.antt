-- A row that says 0 or is a key's is true of a content that has what is recorded; and a true row says 0 or is a key's.
use Rattle.std.proofs.Common.{◌≡◌, inl, inr, List, [], ◌∷◌, Some, ap, subst, ◌∙◌}
use Rattle.std.specs.List.{AllByRecursion}
use Rattle.sqlite.specs.Effect.{Database}
use Rattle.sqlite.specs.Order.{Row}
use Rattle.desk_rules.specs.Content.{Content}
use Rattle.sql_rows.specs.declared.amounts.key.Ledger.{Ledger}
use Rattle.sql_rows.specs.declared.amounts.key.AmountKey.{AmountKey}
use Rattle.sql_rows.specs.Keys.{Texts, texts_of, tree_of}
use Rattle.sql_rows.specs.Amounts.{AreAmounts, IsKeyed, amount_at, amount_in, amount_on, recorded, texts_in}
use Rattle.sql_rows.specs.Said.{IsSaid, IsTrueRow}
use Rattle.sql_rows.proofs.AmountRowLemmas.{own_recorded}

-- ---- from true rows

keyed_row : (content : Content) (ledger : Ledger) (row : Row) → IsTrueRow content ledger row → IsKeyed ledger row
keyed_row content ledger row (inl none) = inl none
keyed_row content ledger row (inr had) = inr (record { key = had.key; ledger_is = had.ledger_is; texts_are = had.texts_are })

pub all_keyed : (content : Content) (ledger : Ledger) (rows : List Row) → AllByRecursion (IsTrueRow content ledger) rows → AllByRecursion (IsKeyed ledger) rows
all_keyed content ledger [] all = tt
all_keyed content ledger (row ∷ rows) all = (keyed_row content ledger row all.0, all_keyed content ledger rows all.1)

-- ---- to true rows

module _ (db : Database) (content : Content) (amounts : AreAmounts db) (said : (key : AmountKey) → IsSaid content key (amount_at db key)) (ledger : Ledger) where
  abbrev held : List Row
  held = db.trees (tree_of ledger)

  true_row : (row : Row) → IsKeyed ledger row → recorded held (texts_in row) ≡ Some (amount_on row) → IsTrueRow content ledger row
  true_row row (inl none) own = inl none
  true_row row (inr it) own =
      let is : amount_at db it.key ≡ Some (amount_on row) = ap (λ l. amount_in db l (texts_of it.key).0 (texts_of it.key).1) it.ledger_is ∙ ap (λ (t : Texts). recorded held (t.0, t.1)) it.texts_are ∙ own in
      inr (record { key = it.key; ledger_is = it.ledger_is; texts_are = it.texts_are; said = subst (IsSaid content it.key) is (said it.key) })

  each_true : (rows : List Row) → AllByRecursion (IsKeyed ledger) rows → AllByRecursion (λ row. recorded held (texts_in row) ≡ Some (amount_on row)) rows → AllByRecursion (IsTrueRow content ledger) rows
  each_true [] keyed own = tt
  each_true (row ∷ rows) keyed own = (true_row row keyed.0 own.0, each_true rows keyed.1 own.1)

  -- each row says 0, or what the content has under its two texts
  pub true_rows : AllByRecursion (IsTrueRow content ledger) held
  true_rows = each_true held (amounts ledger).keyed (own_recorded held (amounts ledger).are.apart)
