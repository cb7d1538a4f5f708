-- The term at a place is the test of the third column exactly where the nodes spell it.
use Rattle.std.proofs.Common.{◌≡◌, ℕ, zero, suc, ◌<◌, pos, List, length, refl, ap, ◌∙◌, arith}
use Rattle.sqlite.specs.Collation.TheVariants.{Binary}
use Rattle.sqlite.specs.declared.types.Value.{Value}
use Rattle.sqlite.specs.declared.types.Value.TheVariants.{Int, Null}
use Rattle.sqlite_sql.specs.Term.{Term, lit, col, op2}
use Rattle.sqlite_sql.specs.declared.ops.BinaryOp.{BinaryOp}
use Rattle.sqlite_sql.specs.declared.ops.BinaryOp.TheVariants.{Compare}
use Rattle.sqlite_sql.specs.declared.ops.CompareOp.TheVariants.{Ge}
use Rattle.sqlite_schema.specs.Code.{op_term, term_in, term_to}
use Rattle.sqlite_schema.specs.declared.code.Op.{Op}
use Rattle.sqlite_schema.specs.declared.code.Op.TheVariants.{Literal, Column, Unary, Binary as Two, Case}
use Rattle.sql_tables.specs.Schema.{not_below_nought}
use Rattle.desk_file.specs.Checks.{node_at, IsTestAt}

-- which node a term is of

as_column : (below : ℕ → Term) (op : Op) (slot at : ℕ) → op_term below op ≡ col slot at → op ≡ Column slot at
as_column below (Literal v) slot at e = absurd (cc)
as_column below (Column s a) slot at e = cc
as_column below (Unary o a) slot at e = absurd (cc)
as_column below (Two o a b) slot at e = absurd (cc)
as_column below (Case t a b) slot at e = absurd (cc)

as_literal : (below : ℕ → Term) (op : Op) (v : Value) → op_term below op ≡ lit v → op ≡ Literal v
as_literal below (Literal w) v e = cc
as_literal below (Column s a) v e = absurd (cc)
as_literal below (Unary o a) v e = absurd (cc)
as_literal below (Two o a b) v e = absurd (cc)
as_literal below (Case t a b) v e = absurd (cc)

pub record IsTwo (below : ℕ → Term) (op : Op) (o : BinaryOp) (x y : Term) : Type 0 where
  pub left : ℕ
  pub right : ℕ
  pub is : op ≡ Two o left right
  pub first : below left ≡ x
  pub second : below right ≡ y

as_two : (below : ℕ → Term) (op : Op) (o : BinaryOp) (x y : Term) → op_term below op ≡ op2 o x y → IsTwo below op o x y
as_two below (Literal v) o x y e = absurd (cc)
as_two below (Column s a) o x y e = absurd (cc)
as_two below (Unary p a) o x y e = absurd (cc)
as_two below (Two p a b) o x y e =
    let same : p ≡ o = cc in
    record { left = a; right = b; is = ap (λ q. Two q a b) same; first = (let f : below a ≡ x = cc in f); second = (let s : below b ≡ y = cc in s) }
as_two below (Case t a b) o x y e = absurd (cc)

-- to a depth

said_to : (nodes : List Op) (depth root : ℕ) → IsTestAt nodes root → term_to nodes (suc (suc depth)) root ≡ not_below_nought 3
said_to nodes depth root is =
    ap (op_term (term_to nodes (suc depth))) is.is
    ∙ ap (λ x. op2 (Compare Ge Binary) x (term_to nodes (suc depth) is.right)) (ap (op_term (term_to nodes depth)) is.third)
    ∙ ap (λ y. op2 (Compare Ge Binary) (col 1 3) y) (ap (op_term (term_to nodes depth)) is.nought)

pub record IsFound (nodes : List Op) (depth root : ℕ) : Type 0 where
  pub deep : 1 < depth
  pub test : IsTestAt nodes root

found_to : (nodes : List Op) (depth root : ℕ) → term_to nodes depth root ≡ not_below_nought 3 → IsFound nodes depth root
found_to nodes zero root e = absurd (cc)
found_to nodes (suc zero) root e =
    let two = as_two (term_to nodes zero) (node_at nodes root) (Compare Ge Binary) (col 1 3) (lit (Int (pos 0))) e in
    absurd (let none : lit Null ≡ col 1 3 = two.first in cc)
found_to nodes (suc (suc depth)) root e =
    let two = as_two (term_to nodes (suc depth)) (node_at nodes root) (Compare Ge Binary) (col 1 3) (lit (Int (pos 0))) e in
    record {
      deep = omega arith;
      test = record {
        left = two.left;
        right = two.right;
        is = two.is;
        third = as_column (term_to nodes depth) (node_at nodes two.left) 1 3 two.first;
        nought = as_literal (term_to nodes depth) (node_at nodes two.right) (Int (pos 0)) two.second;
      };
    }

two_more : (n : ℕ) → 1 < n → (depth : ℕ) × (n ≡ suc (suc depth))
two_more zero h = absurd (omega arith)
two_more (suc zero) h = absurd (omega arith)
two_more (suc (suc depth)) h = (depth, refl)

pub test_said : (nodes : List Op) (root : ℕ) → 1 < length nodes → IsTestAt nodes root → term_in nodes root ≡ not_below_nought 3
test_said nodes root many is =
    let more = two_more (length nodes) many in
    ap (λ n. term_to nodes n root) more.1 ∙ said_to nodes more.0 root is

pub said_test : (nodes : List Op) (root : ℕ) → term_in nodes root ≡ not_below_nought 3 → IsFound nodes (length nodes) root
said_test nodes root e = found_to nodes (length nodes) root e
