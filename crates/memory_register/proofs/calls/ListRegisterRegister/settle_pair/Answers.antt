use Rattle.memory_register.proofs.SumsLemmas.{nothing_summed}
use Rattle.memory_register.proofs.AheadLemmas.{nothing_ahead}
use Rattle.std.proofs.Common.{◌≡◌, ◌++◌, ◌∙◌, ap, refl, subst, sym, rules}
use Rattle.std.specs.Prelude.{Result, Ok, Err}
use Rattle.desk_rules.specs.Content.{history_of}
use Rattle.desk_register.specs.declared.outcome.Outcome.{Outcome}
use Rattle.desk_codes.specs.Number.{number_of}
use Rattle.desk_register.specs.declared.register.Fault.{Fault}
use Rattle.desk_register.specs.View.{fallen}
use Rattle.memory_rows.specs.RowsView.{view_of_rows}
use Rattle.desk_register.proofs.ViewLemmas.{blames_memory, change_ok}
use Rattle.memory_register.proofs.HeldShortLemmas.{has_tried, known_begun, knows_tried, pair_there, short_failed, short_of}
use Rattle.memory_register.proofs.IndexedLemmas.{after_failure, after_settle, begun_is_not_failed, retidied, still_begun}
use Rattle.memory_short.specs.DuePlaces.{AreMatched}
use Rattle.memory_register.specs.Touched.{then_touched}
use Rattle.memory_register.proofs.OnlyLemmas.{fewer_matched, fewer_placed, only_changed, only_failed, only_tried, touched_then}
use Rattle.memory_register.proofs.ToldLemmas.{told_fails, told_settled}
use Rattle.memory_register.proofs.calls.ListRegisterRegister.settle_pair.Goals as goal

pub invariant_of-self : goal.invariant_of-self
invariant_of-self c =
    let r = c.args.self.now in
    record {
      indexed = after_failure r.known r.known r.unmatched r.unmatched r.matched r.matched r.noted.items r.noted.items (view_of_rows r.held) (view_of_rows c.fail.new.self) r.indexed
          c.fail.ensures.stage c.fail.ensures.mark (λ q there. there) (λ q there. there) refl (λ keyed. keyed);
      sent_indexed = told_fails r.messages r.told.items r.held c.fail.new.self r.sent_indexed c.fail.ensures.stage c.fail.ensures.mark;
      matched_only = only_failed r.matched r.matched r.noted.items r.noted.items r.touched.items c.reserve.new.self.items (view_of_rows r.held) (view_of_rows c.fail.new.self) c.fail.ensures.stage c.fail.ensures.mark refl (λ placed. placed)
          (λ content only. let same : c.reserve.new.self.items ≡ r.touched.items = search rules in subst (AreMatched r.matched content) (sym same) only) r.matched_only;
      shortages_known = short_failed r.shortages (view_of_rows c.fail.new.self) c.fail.ensures.stage;
      rows_ahead = nothing_ahead (view_of_rows c.fail.new.self) c.clear.new.self c.clear.ensures;
      rows_summed = nothing_summed (view_of_rows c.fail.new.self) c.clear-2.new.self c.clear-2.ensures.known c.clear-2.ensures.counted;
    }

pub returns-then-is_err-clause-change : goal.returns-then-is_err-clause-change
returns-then-is_err-clause-change c = record { ok = tt; err = c.fail.ensures.falls; later = c.fail.ensures.later; blame = blames_memory c.fail.result _ _ c.fail.ensures.fault }

pub note_tried-requires : goal.note_tried-requires
note_tried-requires c =
    let old = (view_of_rows c.args.self.now.held).content in
    let new = (view_of_rows c.try_pair.new.self).content in
    let t = c.in-Ok.tried in
    let tried = has_tried old new c.args.number (number_of c.args.day) t.mate t.outcome c.in-Ok.ensures.mate (c.requires.fits tt tt) c.in-Ok.ensures.settled in
    pair_there old new c.args.number t.mate tried.0 tried.1 t.outcome tried.2

pub invariant_of-self-in-Ok : goal.invariant_of-self-in-Ok
invariant_of-self-in-Ok c =
    let r = c.args.self.now in
    let change = c.in-Ok.ensures.change in
    let old = (view_of_rows r.held).content in
    let held = view_of_rows c.try_pair.new.self in
    let t = c.in-Ok.tried in
    let can = c.requires.fits tt tt in
    let indexed = after_settle r.known r.unmatched r.matched r.matched r.noted.items (view_of_rows r.held) held tt tt tt c.requires.stage r.indexed (λ q there. there)
    (Ok t.outcome) c.args.number can (λ honest sure. c.in-Ok.ensures.settled) change.ok change.err in
    let tried = has_tried old held.content c.args.number (number_of c.args.day) t.mate t.outcome c.in-Ok.ensures.mate can c.in-Ok.ensures.settled in
    let same : c.reserve.new.self.items ≡ r.touched.items = search rules in
    let then = c.touch_settled.ensures ∙ ap (then_touched t.outcome t.mate c.args.number) same in
    record {
      indexed = retidied r.known r.unmatched c.tidy_settled.new.numbers r.matched c.tidy_settled.new.places r.noted.items c.noted_count-noted.result held
          (still_begun (view_of_rows r.held) held c.requires.stage change.ok) c.noted_count-noted.ensures c.tidy_settled.ensures.unmatched c.tidy_settled.ensures.matched indexed;
      sent_indexed = told_settled r.messages r.told.items r.held c.try_pair.new.self r.sent_indexed (Ok t.outcome) c.args.number c.in-Ok.ensures.settled change.ok change.err;
      matched_only = only_changed r.matched c.tidy_settled.new.places r.noted.items r.noted.items r.touched.items c.touch_settled.new.touched.items (view_of_rows r.held) held (change.ok.mark tt tt)
          (fewer_placed r.matched c.tidy_settled.new.places (history_of (view_of_rows r.held).mark ++ r.noted.items) c.tidy_settled.ensures.fewer r.matched_only.placed)
          (λ content only. subst (AreMatched c.tidy_settled.new.places content) (sym then)
          (touched_then c.tidy_settled.new.places content r.touched.items c.args.number t.mate t.outcome (fewer_matched r.matched c.tidy_settled.new.places content r.touched.items c.tidy_settled.ensures.fewer only)))
          (subst (AreMatched c.tidy_settled.new.places held.content) (sym then)
          (only_tried c.tidy_settled.new.places r.touched.items old held.content c.args.number t.mate tried.0 tried.1 t.outcome tried.2
          (fewer_matched r.matched c.tidy_settled.new.places old r.touched.items c.tidy_settled.ensures.fewer (r.matched_only.now (begun_is_not_failed (view_of_rows r.held).stage c.requires.stage)))))
          r.matched_only;
      shortages_known = short_of c.note_tried.new.self held held.content refl
          (knows_tried old held.content c.args.number t.mate tried.0 tried.1 t.outcome tried.2 r.shortages c.note_tried.new.self c.note_tried.ensures (known_begun r.shortages (view_of_rows r.held) c.requires.stage r.shortages_known));
      rows_ahead = nothing_ahead held c.clear.new.self c.clear.ensures;
      rows_summed = nothing_summed held c.clear-2.new.self c.clear-2.ensures.known c.clear-2.ensures.counted;
    }

pub invariant_of-self-in-Err-1 : goal.invariant_of-self-in-Err-1
invariant_of-self-in-Err-1 c =
    let r = c.args.self.now in
    let change = c.in-Err.ensures.change in
    let held = view_of_rows c.try_pair.new.self in
    let failed : Result Outcome Fault = Err c.in-Err.fault in
    let same : c.reserve.new.self.items ≡ r.touched.items = search rules in
    record {
      indexed = after_settle r.known r.unmatched r.matched r.matched r.noted.items (view_of_rows r.held) held tt tt tt c.requires.stage r.indexed (λ q there. there)
          failed c.args.number (c.requires.fits tt tt) (λ honest sure. tt) change.ok change.err;
      sent_indexed = told_settled r.messages r.told.items r.held c.try_pair.new.self r.sent_indexed failed c.args.number tt change.ok change.err;
      matched_only = only_failed r.matched r.matched r.noted.items r.noted.items r.touched.items c.reserve.new.self.items (view_of_rows r.held) held (change.err.stage ∙ ap fallen c.requires.stage) (change.err.mark tt tt) refl (λ placed. placed)
          (λ content only. subst (AreMatched r.matched content) (sym same) only) r.matched_only;
      shortages_known = short_failed r.shortages held (change.err.stage ∙ ap fallen c.requires.stage);
      rows_ahead = nothing_ahead held c.clear.new.self c.clear.ensures;
      rows_summed = nothing_summed held c.clear-2.new.self c.clear-2.ensures.known c.clear-2.ensures.counted;
    }

pub returns-in-Ok-clause-change : goal.returns-in-Ok-clause-change
returns-in-Ok-clause-change c = let change = c.in-Ok.ensures.change in change_ok c.in-Ok.tried.outcome _ _ change.ok change.later
