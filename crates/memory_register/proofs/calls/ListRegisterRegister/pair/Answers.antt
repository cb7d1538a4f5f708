use Rattle.memory_register.proofs.SumsLemmas.{nothing_summed}
use Rattle.memory_register.proofs.AheadLemmas.{nothing_ahead}
use Rattle.std.proofs.Common.{◌++◌, refl, subst, sym}
use Rattle.desk_msg.specs.declared.writing.status.Reason.TheVariants.{Future}
use Rattle.desk_rules.specs.declared.history.standing.State.TheVariants.{Matched}
use Rattle.desk_rules.specs.Content.{Content, history_of}
use Rattle.desk_register.specs.Changes.{paired}
use Rattle.memory_rows.specs.RowsView.{view_of_rows}
use Rattle.desk_register.proofs.ViewLemmas.{blames_memory}
use Rattle.memory_register.proofs.HeldShortLemmas.{known_begun, knows_paired, short_changed, short_failed}
use Rattle.memory_register.proofs.IndexedLemmas.{after_failure, after_pair, begun_is_not_failed, retidied, still_begun}
use Rattle.memory_short.proofs.ResultLemmas.{where_it_went}
use Rattle.memory_short.specs.DuePlaces.{AreMatched}
use Rattle.memory_register.proofs.OnlyLemmas.{fewer_matched, fewer_placed, only_by, only_failed, placed_now, placed_then, two_touched}
use Rattle.memory_register.proofs.ToldLemmas.{told_apart, told_fails}
use Rattle.memory_register.proofs.calls.ListRegisterRegister.pair.Goals as goal

pub invariant_of-self : goal.invariant_of-self
invariant_of-self c =
    let r = c.args.self.now in
    let noting = c.note_pair in
    let grown = r.indexed.grown (begun_is_not_failed (view_of_rows r.held).stage c.requires.stage) in
    record {
      indexed = after_failure r.known r.known r.unmatched r.unmatched r.matched noting.new.places r.noted.items r.noted.items (view_of_rows r.held) (view_of_rows c.fail.new.self) r.indexed
          c.fail.ensures.stage c.fail.ensures.mark (λ q there. there) noting.ensures.all refl (λ keyed. keyed);
      sent_indexed = told_fails r.messages r.told.items r.held c.fail.new.self r.sent_indexed c.fail.ensures.stage c.fail.ensures.mark;
      matched_only = only_failed r.matched noting.new.places r.noted.items r.noted.items r.touched.items noting.new.touched.items (view_of_rows r.held) (view_of_rows c.fail.new.self) c.fail.ensures.stage c.fail.ensures.mark refl
          (λ placed. placed_then noting.new.places r.noted.items (view_of_rows r.held) grown (noting.ensures.placed (placed_now r.matched r.noted.items (view_of_rows r.held) grown placed))) noting.ensures.kept r.matched_only;
      shortages_known = short_failed r.shortages (view_of_rows c.fail.new.self) c.fail.ensures.stage;
      rows_ahead = nothing_ahead (view_of_rows c.fail.new.self) c.clear.new.self c.clear.ensures;
      rows_summed = nothing_summed (view_of_rows c.fail.new.self) c.clear-2.new.self c.clear-2.ensures.known c.clear-2.ensures.counted;
    }

pub returns-then-is_err-clause-change : goal.returns-then-is_err-clause-change
returns-then-is_err-clause-change c = record { ok = tt; err = c.fail.ensures.falls; later = c.fail.ensures.later; blame = blames_memory c.fail.result _ _ c.fail.ensures.fault }

pub invariant_of-self-in-Ok : goal.invariant_of-self-in-Ok
invariant_of-self-in-Ok c =
    let r = c.args.self.now in
    let noting = c.note_pair in
    let grown = r.indexed.grown (begun_is_not_failed (view_of_rows r.held).stage c.requires.stage) in
    let old = (view_of_rows r.held).content in
    let more = where_it_went noting.result c.if-is_err.ensures.value noting.ensures.touched in
    let kept : (content : Content) → AreMatched r.matched content r.touched.items → AreMatched c.tidy_new.new.places content noting.new.touched.items = λ content only.
    fewer_matched noting.new.places c.tidy_new.new.places content noting.new.touched.items c.tidy_new.ensures.fewer (noting.ensures.kept content only)
    in
    let change = c.pair.ensures.change in
    let held = view_of_rows c.pair.new.self in
    let indexed = after_pair r.known r.unmatched r.matched noting.new.places r.noted.items (view_of_rows r.held) (view_of_rows c.pair.new.self) tt tt tt c.requires.stage r.indexed noting.ensures.all
    c.pair.result c.args.earlier c.args.later (c.requires.fits tt tt).two (where_it_went noting.result c.if-is_err.ensures.value noting.ensures.opened) (λ honest sure. c.pair.ensures.paired) change.ok change.err in
    record {
      indexed = retidied r.known r.unmatched c.tidy_new.new.numbers noting.new.places c.tidy_new.new.places r.noted.items c.noted_count-noted.result held
          (still_begun (view_of_rows r.held) held c.requires.stage c.in-Ok.ensures.change.ok) c.noted_count-noted.ensures c.tidy_new.ensures.unmatched c.tidy_new.ensures.matched indexed;
      sent_indexed = told_apart r.messages r.told.items r.held c.pair.new.self r.sent_indexed c.pair.result (paired c.args.earlier c.args.later) (λ content. refl) c.pair.ensures.paired change.ok change.err;
      matched_only = only_by r.matched c.tidy_new.new.places r.noted.items r.noted.items r.touched.items noting.new.touched.items r.held c.pair.new.self c.requires.stage
          (fewer_placed noting.new.places c.tidy_new.new.places (history_of (view_of_rows r.held).mark ++ r.noted.items) c.tidy_new.ensures.fewer (placed_then noting.new.places r.noted.items (view_of_rows r.held) grown (noting.ensures.placed (placed_now r.matched r.noted.items (view_of_rows r.held) grown r.matched_only.placed))))
          kept r.matched_only c.pair.result (paired c.args.earlier c.args.later old)
          (λ only. subst (AreMatched c.tidy_new.new.places (paired c.args.earlier c.args.later old)) (sym more)
          (two_touched c.tidy_new.new.places old (paired c.args.earlier c.args.later old) r.touched.items c.args.earlier c.args.later (Matched Future) (c.requires.fits tt tt).two (λ e. cc) refl refl
          (subst (AreMatched c.tidy_new.new.places old) more (kept old only))))
          c.pair.ensures.paired change.ok change.err;
      shortages_known = short_changed c.pair.result c.note_made.new.self (view_of_rows r.held) (view_of_rows c.pair.new.self) (paired c.args.earlier c.args.later (view_of_rows r.held).content) c.requires.stage c.pair.ensures.paired change.err
          (knows_paired r.shortages c.note_made.new.self (view_of_rows r.held).content c.args.earlier c.args.later (c.requires.fits tt tt) c.note_made.ensures (known_begun r.shortages (view_of_rows r.held) c.requires.stage r.shortages_known));
      rows_ahead = nothing_ahead (view_of_rows c.pair.new.self) c.clear.new.self c.clear.ensures;
      rows_summed = nothing_summed (view_of_rows c.pair.new.self) c.clear-2.new.self c.clear-2.ensures.known c.clear-2.ensures.counted;
    }

pub invariant_of-self-in-Err-1 : goal.invariant_of-self-in-Err-1
invariant_of-self-in-Err-1 c =
    let r = c.args.self.now in
    let noting = c.note_pair in
    let grown = r.indexed.grown (begun_is_not_failed (view_of_rows r.held).stage c.requires.stage) in
    let old = (view_of_rows r.held).content in
    let more = where_it_went noting.result c.if-is_err.ensures.value noting.ensures.touched in
    let change = c.pair.ensures.change in
    record {
      indexed = after_pair r.known r.unmatched r.matched noting.new.places r.noted.items (view_of_rows r.held) (view_of_rows c.pair.new.self) tt tt tt c.requires.stage r.indexed noting.ensures.all
          c.pair.result c.args.earlier c.args.later (c.requires.fits tt tt).two (where_it_went noting.result c.if-is_err.ensures.value noting.ensures.opened) (λ honest sure. c.pair.ensures.paired) change.ok change.err;
      sent_indexed = told_apart r.messages r.told.items r.held c.pair.new.self r.sent_indexed c.pair.result (paired c.args.earlier c.args.later) (λ content. refl) c.pair.ensures.paired change.ok change.err;
      matched_only = only_by r.matched noting.new.places r.noted.items r.noted.items r.touched.items noting.new.touched.items r.held c.pair.new.self c.requires.stage (placed_then noting.new.places r.noted.items (view_of_rows r.held) grown (noting.ensures.placed (placed_now r.matched r.noted.items (view_of_rows r.held) grown r.matched_only.placed)))
          noting.ensures.kept r.matched_only c.pair.result (paired c.args.earlier c.args.later old)
          (λ only. subst (AreMatched noting.new.places (paired c.args.earlier c.args.later old)) (sym more)
          (two_touched noting.new.places old (paired c.args.earlier c.args.later old) r.touched.items c.args.earlier c.args.later (Matched Future) (c.requires.fits tt tt).two (λ e. cc) refl refl
          (subst (AreMatched noting.new.places old) more (noting.ensures.kept old only))))
          c.pair.ensures.paired change.ok change.err;
      shortages_known = short_changed c.pair.result c.note_made.new.self (view_of_rows r.held) (view_of_rows c.pair.new.self) (paired c.args.earlier c.args.later (view_of_rows r.held).content) c.requires.stage c.pair.ensures.paired change.err
          (knows_paired r.shortages c.note_made.new.self (view_of_rows r.held).content c.args.earlier c.args.later (c.requires.fits tt tt) c.note_made.ensures (known_begun r.shortages (view_of_rows r.held) c.requires.stage r.shortages_known));
      rows_ahead = nothing_ahead (view_of_rows c.pair.new.self) c.clear.new.self c.clear.ensures;
      rows_summed = nothing_summed (view_of_rows c.pair.new.self) c.clear-2.new.self c.clear-2.ensures.known c.clear-2.ensures.counted;
    }

pub pair-requires-clause-fits : goal.pair-requires-clause-fits
pair-requires-clause-fits c = c.requires.fits tt tt
