-- What is opened of files that hold a database of these books, and that it is.
use Rattle.std.proofs.Common.{◌≡◌, ◌≤◌, ℕ, inl, inr, List, [], ◌∷◌, filter, length, refl, sym, ap, ◌∙◌, subst}
use Rattle.std.proofs.Math.Logic.{∥∥₁_elim, ∥∥₁_map}
use Rattle.std.specs.List.{AllZip}
use Rattle.sqlite.specs.Closing.{HoldsAlone}
use Rattle.sqlite.specs.Effect.{Database}
use Rattle.sqlite_catalog.specs.Listing.{IsSound, IsTableRow, is_table_row}
use Rattle.sqlite_trees.specs.Objects.{catalog_tree}
use Rattle.sqlite_trees.specs.Props.{Trees-set}
use Rattle.sqlite_trees.specs.Tree.{Trees}
use Rattle.sqlite_wal.specs.Recovery.{Image}
use Rattle.desk_rules.specs.Books.{Books}
use Rattle.desk_rules.specs.Content.{Content}
use Rattle.desk_rules.specs.WellFormed.{AreWellFormed}
use Rattle.desk_rules.specs.declared.limits.TheConstants.{MOST_ENTRIES}
use Rattle.desk_engine.specs.Ready.{KeepsFormed}
use Rattle.desk_engine.proofs.AcceptingLemmas.{entries_within}
use Rattle.sql_register.specs.Content.{content_in}
use Rattle.sql_tables.specs.Schema.{desk_schema, no_schema}
use Rattle.desk_file.specs.Desks.{IsDesks, IsDesksIn}
use Rattle.desk_file.specs.Opened.{FindsIn}
use Rattle.desk_file.specs.Said.{SaysBooks}
use Rattle.desk_file.proofs.LimitLemmas.{accepted_within}

-- two lists that go place by place with one are as long
both_none : {A B : Type 0} (R : A → B → Type 0) (xs : List A) (y : B) (ys : List B) → AllZip R xs (y ∷ ys) → AllZip R xs [] → ⊥
both_none R [] y ys some none = some
both_none R (x ∷ xs) y ys some none = none

-- trees that list the desk's tables do not list none
not_none : (trees : Trees) → IsSound desk_schema trees → IsSound no_schema trees → ⊥
not_none trees desk none = both_none IsTableRow (filter is_table_row (trees catalog_tree)) _ _ desk.lists.listed.tables none.lists.listed.tables

pub found_so : (image : Image) (db : Database) (books : Books) → SaysBooks db books → HoldsAlone image db.trees → (opened : Database) (content : Content) → FindsIn image opened content → KeepsFormed MOST_ENTRIES books content
found_so image db books says alone opened content found =
    let same : found.old.trees ≡ db.trees = ∥∥₁_elim alone.both (Trees-set _ _) (found.only db.trees) in
    let schema : db.schema ≡ desk_schema = says.tables.desk.schema in
    let desk : IsSound desk_schema db.trees = subst (λ s. IsSound s db.trees) schema says.is in
    elim found.finds [
      | inl none ↦ absurd (not_none db.trees desk (subst (λ t. IsSound no_schema t) same (subst (λ s. IsSound s found.old.trees) none.0 found.is)))
      | inr it ↦ (
          let of_old : found.old.schema ≡ db.schema = it.1.desk.schema ∙ sym schema in
          let with_trees : record db { schema = found.old.schema; trees = found.old.trees } ≡ record db { schema = db.schema; trees = found.old.trees } = ap (λ s. record db { schema = s; trees = found.old.trees }) of_old in
          let with_all : record db { schema = db.schema; trees = found.old.trees } ≡ db = ap (λ t. record db { schema = db.schema; trees = t }) same in
          let content_is : says.content ≡ content = sym says.tables.content_is ∙ sym (ap content_in (with_trees ∙ with_all)) ∙ it.1.content_is in
          subst (KeepsFormed MOST_ENTRIES books) content_is says.keeps
          )
    ]

-- ---- and that it is opened

pub desks_of : (db : Database) (limit : ℕ) (books : Books) → SaysBooks db books → length books.history ≤ limit → IsDesks limit db
desks_of db limit books says few =
    let kept = says.keeps.tables in
    inr (
      says.content,
      record {
        becomes = says.tables;
        held = record { books = books; keeps = record { tables = kept.tables; accepted = accepted_within MOST_ENTRIES limit books.history few kept.accepted }; register = refl };
        formed = subst AreWellFormed (sym kept.tables.history) says.keeps.formed;
      },
    )

pub desks_in : (image : Image) (db : Database) (limit : ℕ) (books : Books) → SaysBooks db books → length books.history ≤ limit → HoldsAlone image db.trees → ∥ IsDesksIn limit image ∥₁
desks_in image db limit books says few alone = ∥∥₁_map alone.both (λ holds. inr (db, says.is, holds, desks_of db limit books says few))

-- the books of a desk that may hold the most have no more entries than that
pub desks_in_most : (image : Image) (db : Database) (books : Books) → SaysBooks db books → HoldsAlone image db.trees → ∥ IsDesksIn MOST_ENTRIES image ∥₁
desks_in_most image db books says = desks_in image db MOST_ENTRIES books says (entries_within MOST_ENTRIES books.history says.keeps.tables.accepted)
