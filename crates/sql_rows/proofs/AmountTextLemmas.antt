-- The queries of all rows of the tables of amounts, and what they show.
use Rattle.std.proofs.Common.{◌≡◌, ℕ, List, [], ◌∷◌, map, codes, true, refl, subst, ◌∙◌, Ok, Err, Result, IfOk, IfErr, IsTrue, Vec}
use Rattle.std.specs.declared.alloc.Global.{Global}
use Rattle.std.specs.List.Sorted.{IsPermutation}
use Rattle.sqlite.specs.declared.error.Error.{Error}
use Rattle.sqlite.specs.declared.types.Value.TheVariants.{Null}
use Rattle.sqlite.specs.Order.{Row}
use Rattle.sqlite.specs.Term.{Term, col}
use Rattle.sqlite.specs.Command.TheVariants.{Select}
use Rattle.sqlite.specs.Listing.{understood}
use Rattle.sqlite.specs.Program.{overlay}
use Rattle.sqlite.specs.State.{State, FailsToQuery, Shown}
use Rattle.sqlite_typing.specs.Types.{accepts_program}
use Rattle.sqlite.proofs.Callers.{command_of, reads_as}
use Rattle.sqlite.specs.Tree.{Trees}
use Rattle.sqlite_tied.specs.Compute.{everything}
use Rattle.sql_tables.specs.Schema.{desk_schema}
use Rattle.sql_tables.specs.Statements.{IsQuery}
use Rattle.sql_tables.specs.Ends.{ForCause}
use Rattle.sql_tables.specs.Queries.{plain}
use Rattle.sql_tables.proofs.BlameLemmas.{IsWhole, query_caused}
use Rattle.sql_tables.proofs.QueryLemmas.{all_kept, plain_rows}
use Rattle.sql_rows.specs.declared.amounts.key.Ledger.{Ledger}
use Rattle.sql_rows.specs.declared.amounts.key.Ledger.TheVariants.{Balance, Cash, Total}
use Rattle.sql_rows.specs.Keys.{tree_of}
use Rattle.sql_rows.specs.Shown.{all_text, shown}

abbrev columns : List Term
columns = col 1 1 ∷ col 1 2 ∷ col 1 3 ∷ []

abbrev names : Ledger → List (List ℕ)
names Balance = codes "account" ∷ codes "isin" ∷ codes "quantity" ∷ []
names Cash = codes "bic" ∷ codes "currency" ∷ codes "amount" ∷ []
names Total = codes "subject" ∷ codes "code" ∷ codes "amount" ∷ []

all_is : (ledger : Ledger) → command_of (understood desk_schema (all_text ledger)) ≡ Select (record { lets = []; body = plain (tree_of ledger) [] columns }) (names ledger)
unfolding understood everything
all_is Balance = refl
all_is Cash = refl
all_is Total = refl

pub reads_all : (ledger : Ledger) → IsQuery (all_text ledger)
unfolding understood everything
reads_all Balance = record { selects = refl; plain = (refl, refl); unlisted = refl }
reads_all Cash = record { selects = refl; plain = (refl, refl); unlisted = refl }
reads_all Total = record { selects = refl; plain = (refl, refl); unlisted = refl }

overlaid : (trees : Trees) (ledger : Ledger) → overlay trees [] (tree_of ledger) ≡ trees (tree_of ledger)
overlaid trees Balance = refl
overlaid trees Cash = refl
overlaid trees Total = refl

all_whole : (ledger : Ledger) → IsWhole (all_text ledger) 0
unfolding understood everything
all_whole Balance = record { plain = (refl, refl); whole = refl; width_is = refl }
all_whole Cash = record { plain = (refl, refl); whole = refl; width_is = refl }
all_whole Total = record { plain = (refl, refl); whole = refl; width_is = refl }

all_typed : (ledger : Ledger) → accepts_program desk_schema [] (plain (tree_of ledger) [] columns) [] ≡ true
all_typed Balance = refl
all_typed Cash = refl
all_typed Total = refl

pub all_caused : (ledger : Ledger) (old new : State) → old.now.schema ≡ desk_schema → IsTrue old.is_open → (r : Result (Vec Row Global) Error) → IfErr r (FailsToQuery (all_text ledger) [] old new) → IfErr r (ForCause old new)
all_caused ledger old new has open' r h = query_caused old new has open' (all_text ledger) [] (all_whole ledger) _ _ (all_is ledger) (reads_all ledger).unlisted (all_typed ledger) refl refl r h

pub all_shown : (ledger : Ledger) (old new : State) → old.now.schema ≡ desk_schema → (r : Result (Vec Row Global) Error) → IfOk r (λ rows. Shown (all_text ledger) [] old new rows.items)
    → IfOk r (λ rows. IsPermutation (map shown (old.now.trees (tree_of ledger))) rows.items)
all_shown ledger old new has (Ok rows) h =
    let reads = reads_all ledger in
    let answers = reads_as (all_text ledger) [] old new desk_schema has _ (all_is ledger) reads.plain reads.unlisted rows.items h in
    subst (λ (xs : List Row). IsPermutation (map shown xs) rows.items) (all_kept (overlay old.now.trees [] (tree_of ledger)) ∙ overlaid old.now.trees ledger)
    (plain_rows (tree_of ledger) [] columns (overlay old.now.trees []) [] rows.items (answers.answer Null))
all_shown ledger old new has (Err e) h = tt
