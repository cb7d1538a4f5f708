-- That no two rows have the same key stays so where the rows of one table change: of a table that has a key that is shown of its
-- new rows, of one that has none there is nothing to show.
use Rattle.std.proofs.Common.{◌≡◌, List, [], ◌∷◌, true, refl}
use Rattle.std.specs.List.{AllByRecursion}
use Rattle.sqlite.specs.Order.{Row}
use Rattle.sqlite.specs.Table.{Table}
use Rattle.sqlite.specs.Tree.{Trees, with_tree}
use Rattle.sqlite_schema.specs.Rules.{Keeps, passes}
use Rattle.sqlite_schema.specs.declared.schema.Constraint.TheVariants.{Unique}
use Rattle.sql_tables.specs.Schema.{desk_schema, register_table, state_table, sent_table, version_table}

-- no two of a table's new rows have the same key
abbrev pub AreUnique : Table → Trees → List Row → Type 0
AreUnique table db rows = AllByRecursion (λ row. passes Unique desk_schema (with_tree db table.tree rows) table row ≡ true) rows

abbrev KeepsUnique : Table → Trees → List Row → Type 0
KeepsUnique table db rows = Keeps Unique desk_schema db → Keeps Unique desk_schema (with_tree db table.tree rows)

free_rows : {P : Row → Type 0} → ((row : Row) → P row) → (rows : List Row) → AllByRecursion P rows
free_rows each [] = tt
free_rows each (x ∷ xs) = (each x, free_rows each xs)

module _ (db : Trees) (rows : List Row) where
  pub unique_register : AreUnique register_table db rows → KeepsUnique register_table db rows
  unique_register mine kept = (kept.0, (kept.1.0, (kept.1.1.0, (mine, kept.1.1.1.1))))

  pub unique_state : KeepsUnique state_table db rows
  unique_state kept = (kept.0, (kept.1.0, (kept.1.1.0, (kept.1.1.1.0, (free_rows (λ row. refl) rows, kept.1.1.1.1.1)))))

  pub unique_sent : KeepsUnique sent_table db rows
  unique_sent kept = (kept.0, (kept.1.0, (kept.1.1.0, (kept.1.1.1.0, (kept.1.1.1.1.0, (free_rows (λ row. refl) rows, kept.1.1.1.1.1.1))))))

  pub unique_version : KeepsUnique version_table db rows
  unique_version kept = (kept.0, (kept.1.0, (kept.1.1.0, (kept.1.1.1.0, (kept.1.1.1.1.0, (kept.1.1.1.1.1.0, (free_rows (λ row. refl) rows, tt)))))))
