-- A store that was given up, and a connection over it.
use Rattle.std.proofs.Common.{◌≡◌, inl, inr, ℕ, false, IsTrue, sym, ap, subst, ◌∙◌, Result, Ok, Err, IfOk, IfErr}
use Rattle.std.proofs.lemmas.Bool.{both_ways, cases_Bool}
use Rattle.sqlite.specs.Effect.{Database, IsDatabase}
use Rattle.sqlite.specs.Schema.{Schema}
use Rattle.sqlite.specs.State.{store_error}
use Rattle.sqlite.specs.Steps.{FailsToOpen, IsFresh}
use Rattle.sqlite.specs.declared.error.Error.{Error}
use Rattle.sqlite_catalog.specs.Listing.{IsSound, Lists}
use Rattle.sqlite_catalog.proofs.ReadLemmas.{lists_once}
use Rattle.sqlite_trees.specs.Objects.{catalog_tree, IsListed}
use Rattle.sqlite_trees.specs.Tree.{Trees}
use Rattle.sqlite_trees.specs.View.{View, IsClean, IsOrdered, IsQuiet, IsRolledBack}
use Rattle.sqlite_trees.specs.declared.error.StoreError.{StoreError}
use Rattle.sqlite_trees.specs.declared.error.StoreError.TheVariants as stored
use Rattle.sqlite_trees.specs.declared.store.Shape.{Shape}
use Rattle.desk_file.specs.Faults.{opening_fault_for, IsRefusal}
use Rattle.sql_tables.specs.Order.{AreInOrder}
use Rattle.desk_file.proofs.OrderLemmas.{in_shape}

-- ---- a store that was rolled back

module _ (a b : View) (undone : IsRolledBack a b) (clean : IsClean b) (now : IsTrue b.is_open) where
  pub trees_back : b.trees ≡ a.committed
  trees_back = (undone.undone now).0

  pub committed_back : b.committed ≡ a.committed
  committed_back = (undone.kept clean).committed now

  pub was_open : IsTrue a.is_open
  was_open = (undone.kept clean).was_open now

  pub fresh : IsTrue b.is_numbered → b.is_broken ≡ false → IsFresh b
  fresh numbered whole = record { sound = whole; numbered = numbered; clean = trees_back ∙ sym committed_back; unmarked = (undone.kept clean).marks now }

-- a store that is whole is open
pub whole_is_open : (b : View) → (b.is_open ≡ false → IsTrue b.is_broken) → b.is_broken ≡ false → IsTrue b.is_open
whole_is_open b law whole = elim (cases_Bool b.is_open) [ inl is ↦ is | inr shut ↦ absurd (both_ways _ whole (law shut)) ]

-- what a crash leaves, it leaves of the last commit
pub committed_stays : {S : Type 0} (view : S → View) (faults : S → ℕ) (recovers : S → Trees → Type 0) (shielded : S → Type 0) (a b : S)
    → ((s : S) (db : Trees) → IsTrue (view s).is_open → recovers s db → db ≡ (view s).committed) → ((s : S) → IsTrue (view s).is_open → recovers s (view s).committed)
    → IsQuiet view faults recovers shielded a b → IsTrue (view a).is_open → IsTrue (view b).is_open → (view b).committed ≡ (view a).committed
committed_stays view faults recovers shielded a b settled stays quiet before after = settled a (view b).committed before (quiet.outcomes (view b).committed (stays b after))

-- ---- the connection over it

-- trees list one schema
pub same_database : (a b : Database) → IsDatabase a → IsDatabase b → a.trees ≡ b.trees → a ≡ b
same_database a b x y trees =
    let schema : a.schema ≡ b.schema = lists_once (a.trees catalog_tree) a.schema b.schema x.lists (subst (λ (t : Trees). Lists (t catalog_tree) b.schema) (sym trees) y.lists) in
    ap (λ (s : Schema). record { schema = s; trees = a.trees }) schema ∙ ap (λ (t : Trees). record { schema = b.schema; trees = t }) trees

pub in_order : (shapes : ℕ → Shape) (reals : ℕ → ℕ) (trees : Trees) (db : Database) → IsListed (trees catalog_tree) shapes reals → IsOrdered shapes trees → db.trees ≡ trees → IsDatabase db
    → AreInOrder db.schema db.trees
in_order shapes reals trees db listed ordered same database =
    in_shape shapes reals db.schema db.trees (subst (λ (t : Trees). IsListed (t catalog_tree) shapes reals) (sym same) listed) (subst (IsOrdered shapes) (sym same) ordered) database.lists

-- ---- a store that is opened anew

-- the store's own failures refuse nothing
store_not_refused : (cause : StoreError) → ¬ IsRefusal (opening_fault_for (store_error cause))
store_not_refused stored.OutOfMemory = λ x. x
store_not_refused stored.Io = λ x. x
store_not_refused stored.Corrupt = λ x. x
store_not_refused stored.Full = λ x. x
store_not_refused stored.Broken = λ x. x
store_not_refused stored.Unstorable = λ x. x

-- nor are trees refused that are a database
pub not_refused : (schema : Schema) (db : Trees) (F : Type 0) (e : Error) → IsSound schema db → FailsToOpen db F e → ¬ IsRefusal (opening_fault_for e)
not_refused schema db F e sound (inl foreign) = absurd (foreign.1 schema sound)
not_refused schema db F e sound (inr failed) = subst (λ x. ¬ IsRefusal (opening_fault_for x)) (sym failed.1) (store_not_refused failed.0)

-- ---- what is told of a result, joined

pub joined_ok : {X E : Type 0} (A B C D : X → Type 0) (r : Result X E) → ((x : X) → A x → B x → C x → D x) → IfOk r A → IfOk r B → IfOk r C → IfOk r D
joined_ok A B C D (Ok x) f a b c = f x a b c
joined_ok A B C D (Err e) f a b c = tt

pub joined_err : {X E : Type 0} (A B C : E → Type 0) (r : Result X E) → ((e : E) → A e → B e → C e) → IfErr r A → IfErr r B → IfErr r C
joined_err A B C (Ok x) f a b = tt
joined_err A B C (Err e) f a b = f e a b
