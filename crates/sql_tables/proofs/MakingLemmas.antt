-- What a statement does that makes a table.
use Rattle.std.proofs.Common.{◌≡◌, inl, inr, ℕ, List, [], ◌∷◌, ◌++◌, false, if◌then◌else◌, None, Ok, Err, Result, OnErr, OnOk, sym, ap, subst, ◌∙◌}
use Rattle.std.specs.List.{AllByRecursion}
use Rattle.sqlite.specs.Table.{Table}
use Rattle.sqlite.specs.Schema.{Schema}
use Rattle.sqlite.specs.Tree.{Trees}
use Rattle.sqlite.specs.Effect.{Database}
use Rattle.sqlite.specs.declared.error.Error.{Error}
use Rattle.sqlite.specs.Command.{Command}
use Rattle.sqlite.specs.Command.TheVariants.{CreateTable}
use Rattle.sqlite.specs.Does.{Tally, lacks_sequence}
use Rattle.sqlite.specs.Change.{created, next_tree, KeepsRows}
use Rattle.sqlite.specs.Listing.{understood}
use Rattle.sqlite.specs.State.{State, Writes, Executes}
use Rattle.sqlite.proofs.Callers.{statement_of, runs_as}
use Rattle.sql_tables.specs.Making.{Makes, MakesTable, IsEmpty, HasMade, KeepsCommitted}
use Rattle.sql_tables.proofs.EndLemmas.{execute_fell}
use Rattle.sql_tables.proofs.StatementLemmas.{went, same_value, same_command}

-- tables whose rows are kept stay empty
still_empty : (tables : List Table) (old new : Trees) → KeepsRows tables old new → AllByRecursion (λ table. old table.tree ≡ []) tables → AllByRecursion (λ table. new table.tree ≡ []) tables
still_empty [] old new keeps empty = tt
still_empty (t ∷ ts) old new keeps empty = (keeps.0 ∙ empty.0, still_empty ts old new keeps.1 empty.1)

one_more : (P : Table → Type 0) (tables : List Table) (last : Table) → AllByRecursion P tables → P last → AllByRecursion P (tables ++ last ∷ [])
one_more P [] last all it = (it, tt)
one_more P (t ∷ ts) last all it = (all.0, one_more P ts last all.1 it)

from_writes : (old new : State) (command : Command) (text : List ℕ) (count : ℕ) (after : Schema) → Writes old new None command text [] count → IsEmpty after new.now → HasMade after old new
from_writes old new command text count after w empty = record { is_open = w.shown.is_open; empty = empty; mode = w.shown.mode; marks = w.marks; committed = λ inside. w.shown.committed_is ∙ ap (λ b. if b then old.committed else new.now) inside }

pub same_text : (text : List ℕ) (before after : Schema) → Makes text before after → statement_of text (understood before text) ≡ text
same_text text before after makes = ap (statement_of text) makes.understood_as ∙ makes.whole

module _ (old new : State) (text : List ℕ) (before after : Schema) (makes : Makes text before after) (was : IsEmpty before old.now) (count : ℕ) (h : Executes text [] old new (Ok count)) where
  table_made : MakesTable text before after → HasMade after old new
  table_made it =
      let w = subst (λ t. Writes old new None CreateTable t [] count) (same_text text before after makes) (runs_as text [] old new before was.schema_is CreateTable (sym (same_command (understood before text)) ∙ it.makes) makes.plain count h) in
      let all = went w.changed in
      let first = went all.1 in
      let made = first.1 in
      let both : Ok made.table ≡ Ok it.table = sym made.defined ∙ it.defined in
      let same : made.table ≡ it.table = same_value both in
      let schema : first.0.schema ≡ after = made.is ∙ ap (λ s. created s made.table) was.schema_is ∙ ap (created before) same ∙ sym it.is in
      let plain : lacks_sequence first.0.schema ≡ false = ap lacks_sequence schema ∙ makes.unsequenced in
      let now : new.now ≡ first.0 = ap (λ (p : Tally × Database). p.1) (same_value all.2) ∙ same_value (rw plain at first.2) in
      let schema_is : new.now.schema ≡ after = ap (λ (d : Database). d.schema) now ∙ schema in
      let kept : AllByRecursion (λ table. first.0.trees table.tree ≡ []) before.tables =
      still_empty before.tables old.now.trees first.0.trees (subst (λ (s : Schema). KeepsRows s.tables old.now.trees first.0.trees) was.schema_is made.others) was.empty in
      let last : first.0.trees (next_tree before) ≡ [] = subst (λ s. first.0.trees (next_tree s) ≡ []) was.schema_is made.empty in
      let more = one_more (λ table. first.0.trees table.tree ≡ []) before.tables (record it.table { tree = next_tree before }) kept last in
      let empty : AllByRecursion (λ table. new.now.trees table.tree ≡ []) after.tables =
      subst (λ (s : Schema). AllByRecursion (λ table. new.now.trees table.tree ≡ []) s.tables) (sym it.is) (subst (λ (d : Database). AllByRecursion (λ table. d.trees table.tree ≡ []) (created before it.table).tables) (sym now) more) in
      from_writes old new CreateTable text count after w (record { schema_is = schema_is; empty = empty })

pub has_made : (old new : State) (text : List ℕ) (before after : Schema) → Makes text before after → IsEmpty before old.now → (r : Result ℕ Error) → Executes text [] old new r → OnOk r (HasMade after old new)
has_made old new text before after makes was (Ok count) h = table_made old new text before after makes was count h makes.made
has_made old new text before after makes was (Err e) h = tt

pub keeps_committed : (old new : State) (text : List ℕ) (r : Result ℕ Error) → Executes text [] old new r → OnErr r (KeepsCommitted old new)
keeps_committed old new text (Ok count) h = tt
keeps_committed old new text (Err e) h = λ now. elim (execute_fell old new text [] (Err e) h) [ inl same ↦ same.committed | inr undone ↦ undone.committed now ]

-- nothing was committed before a failure either
pub kept_then : {X E : Type 0} (r : Result X E) (a b c : State) → b.committed ≡ a.committed → KeepsCommitted b c → OnErr r (KeepsCommitted a c)
kept_then (Ok x) a b c before after = tt
kept_then (Err e) a b c before after = λ now. after now ∙ before
