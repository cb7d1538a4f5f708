use Rattle.memory_register.proofs.SumsLemmas.{nothing_summed}
use Rattle.memory_register.proofs.AheadLemmas.{nothing_ahead}
use Rattle.std.proofs.Common.{◌≡◌, [], ◌∷◌, ◌++◌, refl, subst, sym, rules}
use Rattle.desk_register.specs.Changes.{cancelled}
use Rattle.memory_rows.specs.RowsView.{view_of_rows}
use Rattle.desk_register.proofs.ViewLemmas.{blames_memory}
use Rattle.memory_register.proofs.HeldShortLemmas.{known_begun, short_changed, short_failed}
use Rattle.memory_register.proofs.IndexedLemmas.{after_cancel, after_failure}
use Rattle.memory_short.specs.DuePlaces.{AreMatched}
use Rattle.memory_register.proofs.OnlyLemmas.{more_touched, only_by, only_cancelled, only_failed}
use Rattle.memory_short.proofs.ShortageLemmas.{after_cancelled}
use Rattle.memory_register.proofs.ToldLemmas.{told_apart, told_fails}
use Rattle.memory_register.proofs.calls.ListRegisterRegister.cancel.Goals as goal

pub invariant_of-self : goal.invariant_of-self
invariant_of-self c =
    let r = c.args.self.now in
    record {
      indexed = after_failure r.known r.known r.unmatched r.unmatched r.matched r.matched r.noted.items r.noted.items (view_of_rows r.held) (view_of_rows c.fail.new.self) r.indexed
          c.fail.ensures.stage c.fail.ensures.mark (λ q there. there) (λ q there. there) refl (λ known. known);
      sent_indexed = told_fails r.messages r.told.items r.held c.fail.new.self r.sent_indexed c.fail.ensures.stage c.fail.ensures.mark;
      matched_only = only_failed r.matched r.matched r.noted.items r.noted.items r.touched.items c.push.new.self.items (view_of_rows r.held) (view_of_rows c.fail.new.self) c.fail.ensures.stage c.fail.ensures.mark refl (λ placed. placed)
          (λ content only. let same : c.push.new.self.items ≡ r.touched.items = search rules in subst (AreMatched r.matched content) (sym same) only) r.matched_only;
      shortages_known = short_failed r.shortages (view_of_rows c.fail.new.self) c.fail.ensures.stage;
      rows_ahead = nothing_ahead (view_of_rows c.fail.new.self) c.clear.new.self c.clear.ensures;
      rows_summed = nothing_summed (view_of_rows c.fail.new.self) c.clear-2.new.self c.clear-2.ensures.known c.clear-2.ensures.counted;
    }

pub returns-then-is_err-clause-change : goal.returns-then-is_err-clause-change
returns-then-is_err-clause-change c = record { ok = tt; err = c.fail.ensures.falls; later = c.fail.ensures.later; blame = blames_memory c.fail.result _ _ c.fail.ensures.fault }

pub invariant_of-self-2 : goal.invariant_of-self-2
invariant_of-self-2 c =
    let r = c.args.self.now in
    let change = c.cancel.ensures.change in
    let more : c.push.new.self.items ≡ r.touched.items ++ c.args.number ∷ [] = search rules in
    record {
      indexed = after_cancel r.known r.unmatched r.matched r.noted.items r.held c.cancel.new.self c.requires.stage r.indexed c.cancel.result c.args.number c.cancel.ensures.cancelled change.ok change.err;
      sent_indexed = told_apart r.messages r.told.items r.held c.cancel.new.self r.sent_indexed c.cancel.result (cancelled c.args.number) (λ content. refl) c.cancel.ensures.cancelled change.ok change.err;
      matched_only = only_by r.matched r.matched r.noted.items r.noted.items r.touched.items c.push.new.self.items r.held c.cancel.new.self c.requires.stage r.matched_only.placed
          (λ content only. subst (AreMatched r.matched content) (sym more) (more_touched r.matched content r.touched.items (c.args.number ∷ []) only)) r.matched_only c.cancel.result (cancelled c.args.number (view_of_rows r.held).content)
          (λ only. subst (AreMatched r.matched (cancelled c.args.number (view_of_rows r.held).content)) (sym more) (only_cancelled r.matched r.touched.items (view_of_rows r.held).content c.args.number (c.requires.fits tt tt).unmatched only))
          c.cancel.ensures.cancelled change.ok change.err;
      shortages_known = short_changed c.cancel.result r.shortages (view_of_rows r.held) (view_of_rows c.cancel.new.self) (cancelled c.args.number (view_of_rows r.held).content) c.requires.stage c.cancel.ensures.cancelled change.err
          (after_cancelled c.args.number (view_of_rows r.held).content (c.requires.fits tt tt).unmatched r.shortages (known_begun r.shortages (view_of_rows r.held) c.requires.stage r.shortages_known));
      rows_ahead = nothing_ahead (view_of_rows c.cancel.new.self) c.clear.new.self c.clear.ensures;
      rows_summed = nothing_summed (view_of_rows c.cancel.new.self) c.clear-2.new.self c.clear-2.ensures.known c.clear-2.ensures.counted;
    }

pub cancel-requires-clause-fits : goal.cancel-requires-clause-fits
cancel-requires-clause-fits c = c.requires.fits tt tt
