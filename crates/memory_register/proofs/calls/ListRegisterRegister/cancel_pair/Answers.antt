use Rattle.memory_register.proofs.SumsLemmas.{nothing_summed}
use Rattle.memory_register.proofs.AheadLemmas.{nothing_ahead}
use Rattle.std.proofs.Common.{[], ◌∷◌, refl, subst, sym}
use Rattle.desk_register.specs.Changes.{pair_cancelled}
use Rattle.memory_rows.specs.RowsView.{view_of_rows}
use Rattle.desk_register.proofs.ViewLemmas.{blames_memory}
use Rattle.memory_register.proofs.HeldShortLemmas.{known_begun, knows_pair_cancelled, short_changed, short_failed}
use Rattle.memory_register.proofs.IndexedLemmas.{after_cancel_pair, after_failure}
use Rattle.memory_short.proofs.ResultLemmas.{where_it_failed, where_it_went}
use Rattle.desk_rules.specs.declared.history.standing.State.TheVariants.{Cancelled}
use Rattle.memory_short.specs.DuePlaces.{AreMatched}
use Rattle.memory_register.proofs.OnlyLemmas.{more_touched, only_by, only_failed, two_touched}
use Rattle.memory_register.proofs.ToldLemmas.{told_apart, told_fails}
use Rattle.memory_register.proofs.calls.ListRegisterRegister.cancel_pair.Goals as goal

pub invariant_of-self : goal.invariant_of-self
invariant_of-self c =
    let r = c.args.self.now in
    record {
      indexed = after_failure r.known r.known r.unmatched r.unmatched r.matched r.matched r.noted.items r.noted.items (view_of_rows r.held) (view_of_rows c.fail.new.self) r.indexed
          c.fail.ensures.stage c.fail.ensures.mark (λ q there. there) (λ q there. there) refl (λ known. known);
      sent_indexed = told_fails r.messages r.told.items r.held c.fail.new.self r.sent_indexed c.fail.ensures.stage c.fail.ensures.mark;
      matched_only = only_failed r.matched r.matched r.noted.items r.noted.items r.touched.items c.touch_both.new.touched.items (view_of_rows r.held) (view_of_rows c.fail.new.self) c.fail.ensures.stage c.fail.ensures.mark refl (λ placed. placed)
          (λ content only. subst (AreMatched r.matched content) (sym (where_it_failed c.touch_both.result c.if-is_err.ensures.value c.touch_both.ensures.err)) only) r.matched_only;
      shortages_known = short_failed r.shortages (view_of_rows c.fail.new.self) c.fail.ensures.stage;
      rows_ahead = nothing_ahead (view_of_rows c.fail.new.self) c.clear.new.self c.clear.ensures;
      rows_summed = nothing_summed (view_of_rows c.fail.new.self) c.clear-2.new.self c.clear-2.ensures.known c.clear-2.ensures.counted;
    }

pub returns-then-is_err-clause-change : goal.returns-then-is_err-clause-change
returns-then-is_err-clause-change c = record { ok = tt; err = c.fail.ensures.falls; later = c.fail.ensures.later; blame = blames_memory c.fail.result _ _ c.fail.ensures.fault }

pub invariant_of-self-2 : goal.invariant_of-self-2
invariant_of-self-2 c =
    let r = c.args.self.now in
    let change = c.cancel_pair.ensures.change in
    let old = (view_of_rows r.held).content in
    let more = where_it_went c.touch_both.result c.if-is_err.ensures.value c.touch_both.ensures.ok in
    record {
      indexed = after_cancel_pair r.known r.unmatched r.matched r.noted.items r.held c.cancel_pair.new.self c.requires.stage r.indexed c.cancel_pair.result c.args.earlier c.args.later c.cancel_pair.ensures.cancelled change.ok change.err;
      sent_indexed = told_apart r.messages r.told.items r.held c.cancel_pair.new.self r.sent_indexed c.cancel_pair.result (pair_cancelled c.args.earlier c.args.later) (λ content. refl) c.cancel_pair.ensures.cancelled change.ok change.err;
      matched_only = only_by r.matched r.matched r.noted.items r.noted.items r.touched.items c.touch_both.new.touched.items r.held c.cancel_pair.new.self c.requires.stage r.matched_only.placed
          (λ content only. subst (AreMatched r.matched content) (sym more) (more_touched r.matched content r.touched.items (c.args.earlier ∷ c.args.later ∷ []) only)) r.matched_only c.cancel_pair.result
          (pair_cancelled c.args.earlier c.args.later old)
          (λ only. subst (AreMatched r.matched (pair_cancelled c.args.earlier c.args.later old)) (sym more)
          (two_touched r.matched old (pair_cancelled c.args.earlier c.args.later old) r.touched.items c.args.earlier c.args.later Cancelled (c.requires.fits tt tt).two (λ e. cc) refl refl
          (more_touched r.matched old r.touched.items (c.args.earlier ∷ c.args.later ∷ []) only)))
          c.cancel_pair.ensures.cancelled change.ok change.err;
      shortages_known = short_changed c.cancel_pair.result c.note_cancelled.new.self (view_of_rows r.held) (view_of_rows c.cancel_pair.new.self) (pair_cancelled c.args.earlier c.args.later old) c.requires.stage c.cancel_pair.ensures.cancelled change.err
          (knows_pair_cancelled r.shortages c.note_cancelled.new.self old c.args.earlier c.args.later (c.requires.fits tt tt) c.note_cancelled.ensures (known_begun r.shortages (view_of_rows r.held) c.requires.stage r.shortages_known));
      rows_ahead = nothing_ahead (view_of_rows c.cancel_pair.new.self) c.clear.new.self c.clear.ensures;
      rows_summed = nothing_summed (view_of_rows c.cancel_pair.new.self) c.clear-2.new.self c.clear-2.ensures.known c.clear-2.ensures.counted;
    }

pub note_cancelled-requires : goal.note_cancelled-requires
note_cancelled-requires c = let can = c.requires.fits tt tt in (can.earlier, can.later, can.pair.is_earlier, can.pair.is_later)

pub cancel_pair-requires-clause-fits : goal.cancel_pair-requires-clause-fits
cancel_pair-requires-clause-fits c = c.requires.fits tt tt
