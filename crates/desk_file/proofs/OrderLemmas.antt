-- The trees that an open finds in files are in order.
use Rattle.std.proofs.Common.{ℕ, List, true, inl, inr, sym, subst, arith}
use Rattle.std.proofs.Math.Logic.{∥∥₁_elim}
use Rattle.sqlite_trees.specs.Tree.{Trees}
use Rattle.sqlite_trees.specs.View.{IsOrdered, IsShaped}
use Rattle.sqlite_trees.specs.Props.{IsOrdered-prop}
use Rattle.sqlite_trees.specs.Objects.{catalog_tree, IsListed}
use Rattle.sqlite_trees.specs.declared.store.Shape.{Shape}
use Rattle.sqlite_trees.specs.declared.store.Shape.TheVariants as shape
use Rattle.sqlite_catalog.specs.Listing.{Lists, IsTableRow}
use Rattle.sqlite_catalog.proofs.LayoutLemmas.{table_shape, zipped_left}
use Rattle.sqlite.specs.Schema.{Schema}
use Rattle.sqlite.specs.Files.{AreFoundIn}
use Rattle.sqlite_wal.specs.Recovery.{Image}
use Rattle.sqlite_pool.specs.File.{version_in, in_use}
use Rattle.sqlite_pages.specs.PageMap.{PageMap}
use Rattle.sqlite_store.specs.declared.catalog.Wanted.{Wanted}
use Rattle.sqlite_store.specs.Listing.{IsOurs, file_trees, all_shapes, all_reals}
use Rattle.sqlite_store.specs.Listed.{catalog_rows, is_listed}
use Rattle.sqlite_store.proofs.ListingLemmas.{all_ordered}
use Rattle.sql_tables.specs.Order.{AreInOrder}

-- trees in the shapes that they are listed by
pub in_shape : (shapes : ℕ → Shape) (reals : ℕ → ℕ) (schema : Schema) (trees : Trees) → IsListed (trees catalog_tree) shapes reals → IsOrdered shapes trees → Lists (trees catalog_tree) schema → AreInOrder schema trees
in_shape shapes reals schema trees listed ordered lists table has =
    let rise = (subst (λ s. IsShaped s (trees catalog_tree)) listed.itself.0 (ordered catalog_tree)).0 in
    subst (λ s. IsShaped s (trees table.tree)) (table_shape listed rise lists.listed table has).0 (ordered table.tree)

file_ordered : (size : ℕ) (wanted : List Wanted) (pages : PageMap) → IsOurs size true wanted pages → IsOrdered (all_shapes wanted) (file_trees size wanted pages)
file_ordered size wanted pages ours = all_ordered ours.file.db (version_in pages)

file_listed : (size : ℕ) (wanted : List Wanted) (pages : PageMap) → IsListed (file_trees size wanted pages catalog_tree) (all_shapes wanted) (all_reals wanted)
file_listed size wanted pages = rw (catalog_rows size wanted (in_use size pages)) (is_listed wanted)

pub found_in_order : (image : Image) (trees : Trees) (schema : Schema) → AreFoundIn image trees → Lists (trees catalog_tree) schema → AreInOrder schema trees
found_in_order image trees schema (inl found) lists table has =
    let ordered = ∥∥₁_elim found.4 (IsOrdered-prop _ _) (file_ordered found.0 found.2 found.1) in
    in_shape (all_shapes found.2) (all_reals found.2) schema trees
    (subst (λ (t : Trees). IsListed (t catalog_tree) (all_shapes found.2) (all_reals found.2)) (sym found.5) (file_listed found.0 found.2 found.1))
    (subst (IsOrdered (all_shapes found.2)) (sym found.5) ordered) lists table has
found_in_order image trees schema (inr empty) lists table has =
    let r = zipped_left IsTableRow _ schema.tables table lists.listed.tables has in
    let small = r.2.described.low in
    subst (IsShaped shape.Table) (sym (empty.1.0 table.tree (omega (arith, small)))) (tt, tt)
