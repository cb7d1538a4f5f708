-- What an edit has to keep.
use Rattle.std.proofs.Common.{◌≡◌, ℤ, [], ◌∷◌, List, inl, inr, false, refl, subst}
use Rattle.std.specs.List.{list_any}
use Rattle.std.specs.Ordering.{is_eq}
use Rattle.std.proofs.lemmas.Bool.{cases_Bool}
use Rattle.sqlite.specs.Order.{Row, value_cmp}
use Rattle.sqlite.specs.declared.types.Value.TheVariants.{Int}
use Rattle.sqlite.specs.Edit.{edited}
use Rattle.sqlite.specs.Effect.{Database, IsDatabase}
use Rattle.sqlite.specs.Table.{Table}
use Rattle.sqlite.specs.Tree.{Trees, rowid, has_rowid, with_tree, without_rowid}
use Rattle.sqlite_schema.specs.Rules.{Keeps}
use Rattle.sqlite_schema.specs.declared.schema.Constraint.TheVariants.{Unique}
use Rattle.sql_tables.specs.Schema.{desk_schema}
use Rattle.sql_tables.proofs.BlameLemmas.{IsAllowed}

-- no two rows have the same key before the statement
pub unique_before : (db : Database) → IsDatabase db → db.schema ≡ desk_schema → Keeps Unique desk_schema db.trees
unique_before db obeyed has = subst (λ s. Keeps Unique s db.trees) has (obeyed.obeys.rules Unique)

-- nothing is put in
pub none_allowed : (db : Trees) (table : Table) (gone : List ℤ) → Keeps Unique desk_schema (with_tree db table.tree (edited db (record { table = table; gone = gone; news = [] }))) → IsAllowed db (record { table = table; gone = gone; news = [] })
none_allowed db table gone unique = record { rowids = refl; typed = refl; present = refl; checked = refl; fresh = refl; unique = unique }

-- the number of a row that is taken out is free
pub left_free : (id : ℤ) (rows : List Row) → list_any (λ r. is_eq (value_cmp (rowid r) (Int id))) (without_rowid id rows) ≡ false
left_free id [] = refl
left_free id (r ∷ rows) = elim (cases_Bool (has_rowid id r)) [
  | inl here ↦ rw here (left_free id rows)
  | inr apart ↦ rw (apart, apart) (left_free id rows)
]
