-- The test of the third column of a table, and how it stands among the nodes of its terms.
use Rattle.std.specs.Prelude.{◌≡◌, ℕ, pos, Bool, true, false, List, [], ◌∷◌, slice_index_or}
use Rattle.sqlite.specs.Collation.TheVariants.{Binary}
use Rattle.sqlite.specs.declared.types.Value.TheVariants.{Int, Null}
use Rattle.sqlite.specs.Term.{Term}
use Rattle.sqlite_sql.specs.declared.ops.BinaryOp.TheVariants.{Compare}
use Rattle.sqlite_sql.specs.declared.ops.CompareOp.TheVariants.{Ge}
use Rattle.sqlite_schema.specs.declared.code.Op.{Op}
use Rattle.sqlite_schema.specs.declared.code.Op.TheVariants.{Literal, Column, Binary as Two}

-- the node at a place; past the end it is no test's
abbrev pub node_at : List Op → ℕ → Op
node_at nodes at = slice_index_or nodes at (Literal Null)

-- the node at a place compares the third column with 0
pub record IsTestAt (nodes : List Op) (at : ℕ) : Type 0 where
  pub left : ℕ
  pub right : ℕ
  pub is : node_at nodes at ≡ Two (Compare Ge Binary) left right
  pub third : node_at nodes left ≡ Column 1 3
  pub nought : node_at nodes right ≡ Literal (Int (pos 0))
