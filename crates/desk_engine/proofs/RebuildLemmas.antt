-- The tables of a history, entry by entry.
use Rattle.std.proofs.Common.{◌≡◌, ℕ, suc, ◌+◌, ◌-◌, ◌<◌, ◌≤◌, List, [], ◌∷◌, ◌++◌, length, take, get_or, slice_get, Some, refl, sym, ◌∙◌, ap, subst, arith}
use Rattle.std.specs.Prelude.{⊤, Ok, Err}
use Rattle.std.proofs.lemmas.List.{take_all}
use Rattle.std.proofs.lemmas.Option.{slice_get_read}
use Rattle.desk_rules.specs.declared.history.entry.Entry.{Entry}
use Rattle.desk_rules.specs.Books.{Books}
use Rattle.desk_rules.specs.Content.{Content}
use Rattle.desk_rules.specs.History.{before}
use Rattle.desk_rules.specs.Verdict.{WasAccepted}
use Rattle.desk_register.specs.declared.register.Fault.{Fault}
use Rattle.desk_register.specs.declared.register.Stage.TheVariants.{Begun}
use Rattle.desk_register.specs.View.{View, IfTrusted, IsLater, Stays}
use Rattle.desk_register.proofs.ViewLemmas.{later_then, stays_then}
use Rattle.desk_engine.specs.declared.applied.Accepted.{Accepted}
use Rattle.desk_engine.specs.Applied.{CanApply, HasApplied, Keeps}
use Rattle.desk_engine.specs.KeptHistory.{HoldsKept}
use Rattle.desk_engine.specs.Rebuilt.{HoldsEntries, KeepsEntries}
use Rattle.desk_engine.specs.Steps.{IsStep}
use Rattle.desk_engine.proofs.KeptHistoryLemmas.{can_held}
use Rattle.desk_engine.proofs.StepEnds.{step_breaks}
use Rattle.desk_engine.proofs.StepLaws.{step_ok}
use Rattle.desk_engine.proofs.TakenLemmas.{take_one}

-- The next entry, after the first ones.
module _ (limit room : ℕ) (entries : List Entry) (i : ℕ) (entry : Entry) (content : Content) (same : room ≡ limit) (at : slice_get entries i ≡ Some entry) (keeps : KeepsEntries limit (take i entries) content) where
  here : Keeps room keeps.books content
  here = subst (λ r. Keeps r keeps.books content) (sym same) keeps.keeps

  -- it can be taken in
  can_apply : WasAccepted limit entries → CanApply room entry content
  can_apply was =
      let one : suc i - 1 ≡ i = omega arith in
      let first : keeps.books.history ≡ before (suc i) entries = keeps.history ∙ ap (λ n. take n entries) (sym one) in
      let accepted = subst (λ r. WasAccepted r entries) (sym same) was in
      record { books = keeps.books; keeps = here; verdict = accepted.each (suc i) entry keeps.books at first keeps.keeps.tables.are }

  -- then it is one of the first ones
  keeps_one : (accepted : Accepted) (new : Content) → ((books : Books) → Keeps room books content → HasApplied room books entry accepted new) → KeepsEntries limit (take (i + 1) entries) new
  keeps_one accepted new applied =
      let has = applied keeps.books here in
      let number : suc i ≡ i + 1 = omega arith in record {
        books = has.after;
        history = has.longer ∙ ap (λ h. h ++ entry ∷ []) keeps.history ∙ sym (take_one entries i entry at) ∙ ap (λ n. take n entries) number;
        keeps = subst (λ r. Keeps r has.after new) same has.keeps;
      }

-- so many first entries are taken in, within an open `begin`
pub record Rebuilding (old new : View) (entries : List Entry) (count : ℕ) : Type 0 where
  pub stays : Stays old new
  pub later : IsLater old new
  pub keeps : IfTrusted old new (KeepsEntries old.room (take count entries) new.content)

-- none yet
pub rebuilding_none : (v : View) (entries : List Entry) → IfTrusted v v (KeepsEntries v.room [] v.content) → Rebuilding v v entries 0
rebuilding_none v entries empty = record {
  stays = record { stage = refl; sure = λ h s. s; mark = λ h s. refl; device = λ h s. s };
  later = record { honest = λ h. h; sure = λ h s. s; room = refl; device_honest = λ h. h; failures = omega arith };
  keeps = empty;
}

module _ (v0 v1 : View) (entries : List Entry) (i : ℕ) (so : Rebuilding v0 v1 entries i) where
  pub begun_still : v0.stage ≡ Begun → v1.stage ≡ Begun
  begun_still begun = so.stays.stage ∙ begun

  -- the next one can be taken in
  pub next_can_apply : (entry : Entry) → i < length entries → entry ≡ get_or entries i entry → IfTrusted v0 v0 (WasAccepted v0.room entries) → IfTrusted v1 v1 (CanApply v1.room entry v1.content)
  next_can_apply entry within is was honest sure =
      let honest0 = so.later.honest honest in
      let sure0 = so.later.sure honest sure in
      let at = slice_get_read entries (length entries) i entry refl within is in
      can_apply v0.room v1.room entries i entry v1.content so.later.room at (so.keeps honest sure0) (was honest0 sure0)

  -- it is taken in
  pub rebuilding_next : (entry : Entry) (accepted : Accepted) (v2 : View) → i < length entries → entry ≡ get_or entries i entry
      → ((books : Books) → IfTrusted v1 v2 (Keeps v1.room books v1.content → HasApplied v1.room books entry accepted v2.content)) → IsStep (Ok accepted) v1 v2 → Rebuilding v0 v2 entries (i + 1)
  rebuilding_next entry accepted v2 within is applied step =
      let at = slice_get_read entries (length entries) i entry refl within is in record {
        stays = stays_then v0 v1 v2 so.stays so.later step.later step.ok;
        later = later_then v0 v1 v2 so.stays so.later step.later;
        keeps = λ honest sure.
            let still = step.later.honest honest in
            keeps_one v0.room v1.room entries i entry v1.content so.later.room at (so.keeps still sure) accepted v2.content (λ books keeps. applied books honest (so.stays.sure still sure) keeps);
      }

  -- or it fails
  pub rebuilding_breaks : (fault : Fault) (v2 : View) → IsStep {X = Accepted} (Err fault) v1 v2 → IsStep {X = ⊤} (Err fault) v0 v2
  rebuilding_breaks fault v2 step = step_breaks v0 v1 v2 so.stays so.later fault step

  -- all are taken in
  pub keeps_all : length entries ≤ i → IfTrusted v0 v1 (KeepsEntries v0.room entries v1.content)
  keeps_all all honest sure = subst (λ z. KeepsEntries v0.room z v1.content) (take_all i entries all) (so.keeps honest sure)

  pub rebuilding_ends : IsStep {X = ⊤} (Ok tt) v0 v1
  rebuilding_ends = step_ok tt v0 v1 so.stays so.later

-- what keeps the tables of these entries holds them
pub holds_entries : (limit room : ℕ) (entries : List Entry) (content : Content) → room ≡ limit → KeepsEntries room entries content → HoldsEntries limit entries content
holds_entries limit room entries content same keeps =
    let tables = subst (λ r. Keeps r keeps.books content) same keeps.keeps in
    let holds : HoldsKept limit content.register content = record { books = keeps.books; keeps = tables; register = refl } in record {
      kept = content.register;
      listed = tables.tables.history ∙ keeps.history;
      can = can_held limit content.register content holds;
      holds = holds;
      history = keeps.history;
    }
