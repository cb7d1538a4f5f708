-- Queries of one table, and what they show. Only private contracts and proofs speak of them.
use Rattle.std.specs.Prelude.{◌≡◌, ◌⊎◌, ℕ, List, [], ◌∷◌, Bool, true, false, None, pos, negsuc}
use Rattle.std.specs.List.{list_all}
use Rattle.std.specs.Ordering.{is_lt}
use Rattle.sqlite.specs.declared.types.Value.TheVariants.{Int}
use Rattle.sqlite.specs.Order.{Row}
use Rattle.sqlite.specs.Term.{Term, lit, col, op2, eval, eval_all, holds}
use Rattle.sqlite.specs.Query.{Query, inner, end}
use Rattle.sqlite.specs.Collation.TheVariants.{Binary}
use Rattle.sqlite_value.specs.declared.keys.Key.{Key}
use Rattle.sqlite_value.specs.Keys.{by_key}
use Rattle.sqlite_sql.specs.declared.ops.BinaryOp.TheVariants.{Compare}
use Rattle.sqlite_sql.specs.declared.ops.CompareOp.TheVariants.{Eq}

-- some columns of the rows of a tree that pass each test
abbrev pub plain : ℕ → List Term → List Term → Query
plain tree tests shown = record {
  from = inner tree end;
  filter = tests;
  group = None;
  project = shown;
  distinct = false;
  collations = [];
  order = [];
  limit = lit (Int (negsuc 0));
  offset = lit (Int (pos 0));
}

-- the orders of a column: the least value first, or the greatest
abbrev pub rising : Key
rising = record { collation = Binary; descending = false }

abbrev pub falling : Key
falling = record { collation = Binary; descending = true }

-- those of the row, of these, that comes first by a column
abbrev pub first_of : ℕ → List Term → List Term → Term → Key → Query
first_of tree tests shown by key = record (plain tree tests shown) { limit = lit (Int (pos 1)); order = (by, key) ∷ [] }

-- a column of the row equals a parameter
abbrev pub equals : ℕ → ℕ → Term
equals at parameter = op2 (Compare Eq Binary) (col 1 at) (col 0 parameter)

-- whether a row passes each test
abbrev pub passes_all : List Term → Row → Row → Bool
passes_all tests params row = list_all (holds (params ∷ row ∷ [])) tests

-- one of a list
abbrev pub Among : {X : Type 0} → List X → X → Type 0
Among [] x = ⊥
Among (y ∷ ys) x = (x ≡ y) ⊎ Among ys x

-- of these rows there is none, or the one is shown that comes first by a column
abbrev pub IsFirst : List Row → Row → List Term → Term → Key → List Row → Type 0
IsFirst mine params shown by key rows =
    ((rows ≡ []) × (mine ≡ []))
    ⊎ ((r : Row) × Among mine r × (rows ≡ eval_all shown (params ∷ r ∷ []) ∷ []) × ((s : Row) → Among mine s → is_lt (by_key key (eval by (params ∷ s ∷ [])) (eval by (params ∷ r ∷ []))) ≡ false))
