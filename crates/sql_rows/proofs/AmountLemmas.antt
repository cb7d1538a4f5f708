-- The tables of amounts beside the others, and by themselves.
use Rattle.std.proofs.Common.{◌≡◌, inl, inr, ℕ, ◌+◌, ◌<◌, List, [], ◌∷◌, Bool, true, false, cond, None, Some, Option, unwrap_or, sym, ap, subst, refl, ◌∙◌, arith}
use Rattle.std.specs.List.Sorted.{IsPermutation}
use Rattle.sqlite.specs.Effect.{Database}
use Rattle.sqlite.specs.Tree.{IsTable}
use Rattle.sql_rows.specs.declared.amounts.key.Ledger.{Ledger}
use Rattle.sql_rows.specs.declared.amounts.key.Ledger.TheVariants.{Balance, Cash, Total}
use Rattle.sql_rows.specs.declared.amounts.key.AmountKey.{AmountKey}
use Rattle.sql_rows.specs.Keys.{is_of, ledger_of, texts_of, tree_of}
use Rattle.sql_rows.specs.Amounts.{AreAmounts, IsAmountTable, amount_at, amount_in, recorded}
use Rattle.sql_rows.specs.Changes.{IsShort, SetsAmount, had}
use Rattle.sql_tables.specs.Ends.{SparesOthers}
use Rattle.sql_rows.specs.Holdings.{IsLess}
use Rattle.sql_rows.proofs.EffectLemmas.{no_index}
use Rattle.sql_rows.proofs.PermutationLemmas.{permuted_table}

-- the trees of two databases that have the tables of amounts
pub record SameAmounts (a b : Database) : Type 0 where
  pub balance : a.trees 0 ≡ b.trees 0
  pub cash : a.trees 2 ≡ b.trees 2
  pub total : a.trees 4 ≡ b.trees 4

same_tree : (a b : Database) → SameAmounts a b → (ledger : Ledger) → a.trees (tree_of ledger) ≡ b.trees (tree_of ledger)
same_tree a b same Balance = same.balance
same_tree a b same Cash = same.cash
same_tree a b same Total = same.total

-- whatever else differs, the amounts are the same
pub same_amounts : (a b : Database) → SameAmounts a b → AreAmounts a → AreAmounts b
same_amounts a b same amounts ledger = subst (IsAmountTable ledger) (same_tree a b same ledger) (amounts ledger)

pub same_recorded : (a b : Database) → SameAmounts a b → (ledger : Ledger) (first second : List ℕ) → amount_in b ledger first second ≡ amount_in a ledger first second
same_recorded a b same ledger first second = ap (λ rows. recorded rows (first, second)) (sym (same_tree a b same ledger))

-- where the tables have the rows of others in another order, they are well formed too
pub permuted_amounts : (a b : Database) → ((ledger : Ledger) → IsPermutation (a.trees (tree_of ledger)) (b.trees (tree_of ledger))) → ((ledger : Ledger) → IsTable (b.trees (tree_of ledger))) → AreAmounts a → AreAmounts b
permuted_amounts a b same order amounts ledger = permuted_table ledger (a.trees (tree_of ledger)) (b.trees (tree_of ledger)) (same ledger) (amounts ledger) (order ledger)

-- a change of later tables leaves the amounts as they are
pub spared_amounts : (first end : ℕ) (old new : Database) → 4 < first → SparesOthers first end old new → SameAmounts old new
spared_amounts first end old new high spares = record {
  balance = sym (spares 0 (inl (omega arith)) (no_index Balance));
  cash = sym (spares 2 (inl (omega arith)) (no_index Cash));
  total = sym (spares 4 (inl (omega arith)) (no_index Total));
}

-- and so does a change of none
pub unchanged_amounts : (old new : Database) → SparesOthers 0 0 old new → SameAmounts old new
unchanged_amounts old new spares = record {
  balance = sym (spares 0 (inr (omega arith)) (no_index Balance));
  cash = sym (spares 2 (inr (omega arith)) (no_index Cash));
  total = sym (spares 4 (inr (omega arith)) (no_index Total));
}

-- an amount that is put where nothing was recorded, behind what changed nothing
module _ (old mid new : Database) (key : AmountKey) (amount : ℕ) (absent : amount_at old key ≡ None) (spares : SparesOthers 0 0 old mid) where
  pub amounts_still : AreAmounts old → AreAmounts mid
  amounts_still = same_amounts old mid (unchanged_amounts old mid spares)

  pub absent_still : amount_at mid key ≡ None
  absent_still = same_recorded old mid (unchanged_amounts old mid spares) (ledger_of key) (texts_of key).0 (texts_of key).1 ∙ absent

  pub first_put : SetsAmount mid new key amount → SetsAmount old new key (had old key + amount)
  first_put set =
      let P : Option ℕ → Type 0 = λ o. SetsAmount old new key (unwrap_or o 0 + amount) in
      let all : amount ≡ 0 + amount = omega arith in
      subst P (sym absent) (subst (λ n. SetsAmount old new key n) all (record {
        kept = set.kept;
        recorded = λ ledger first second. set.recorded ledger first second ∙ ap (λ o. cond (is_of key ledger first second) (Some amount) o) (same_recorded old mid (unchanged_amounts old mid spares) ledger first second);
        spares = λ tree outside none. set.spares tree outside none ∙ spares tree (inr (omega arith)) none;
      }))

-- tables with no row are well formed
pub empty_amounts : (db : Database) → ((ledger : Ledger) → db.trees (tree_of ledger) ≡ []) → AreAmounts db
empty_amounts db none ledger = subst (IsAmountTable ledger) (sym (none ledger)) (record { are = record { stored = tt; apart = tt; order = tt }; keyed = tt })

-- and record nothing
pub empty_recorded : (db : Database) → ((ledger : Ledger) → db.trees (tree_of ledger) ≡ []) → (ledger : Ledger) (first second : List ℕ) → amount_in db ledger first second ≡ None
empty_recorded db none ledger first second = ap (λ rows. recorded rows (first, second)) (none ledger)

or_nought : (b : Bool) (amount : ℕ) (others : Option ℕ) → unwrap_or (cond b (Some amount) others) 0 ≡ cond b amount (unwrap_or others 0)
or_nought true amount others = refl
or_nought false amount others = refl

-- what is recorded after one amount is set, where nothing counts as 0
pub set_amounts : (old new : Database) (key : AmountKey) (amount : ℕ) → SetsAmount old new key amount → (ledger : Ledger) (first second : List ℕ)
    → unwrap_or (amount_in new ledger first second) 0 ≡ cond (is_of key ledger first second) amount (unwrap_or (amount_in old ledger first second) 0)
set_amounts old new key amount set ledger first second =
    ap (λ o. unwrap_or o 0) (set.recorded ledger first second) ∙ or_nought (is_of key ledger first second) amount (amount_in old ledger first second)

-- where less is recorded than some, what is recorded is less, where nothing counts as 0
pub short_less : (recorded : Option ℕ) (amount : ℕ) → 0 < amount → IsShort recorded amount → unwrap_or recorded 0 < amount
short_less None amount some short = some
short_less (Some had) amount some short = short

-- every text but the empty one is above it
pub above_empty : (c : ℕ) (text : List ℕ) → IsLess [] (c ∷ text)
above_empty c text = refl
