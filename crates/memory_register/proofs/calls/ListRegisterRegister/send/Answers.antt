use Rattle.memory_register.proofs.SumsLemmas.{nothing_summed}
use Rattle.memory_register.proofs.AheadLemmas.{nothing_ahead}
use Rattle.std.proofs.Common.{[], ◌∷◌, ◌++◌, ◌∙◌, refl, ap, subst}
use Rattle.desk_register.specs.Changes.{with_sent}
use Rattle.memory_rows.specs.RowsView.{view_of_rows}
use Rattle.memory_register.specs.Headings.{headings_of}
use Rattle.memory_register.specs.Messages.{AreMessagesOf}
use Rattle.memory_register.proofs.HeldShortLemmas.{known_begun, knows_sent, short_changed, short_failed}
use Rattle.memory_register.proofs.IndexedLemmas.{after_failure, after_send}
use Rattle.memory_short.proofs.ResultLemmas.{where_it_failed, where_it_went}
use Rattle.memory_register.proofs.OnlyLemmas.{only_by, only_failed, only_sent}
use Rattle.memory_register.proofs.ToldLemmas.{next_message, told_failed, told_more}
use Rattle.memory_register.proofs.calls.ListRegisterRegister.send.Goals as goal

pub invariant_of-self : goal.invariant_of-self
invariant_of-self c =
    let r = c.args.self.now in
    let view = view_of_rows r.held in
    let noting = c.note_message in
    let failed = c.if-is_err.ensures.value in
    let next = next_message r.messages r.told.items view c.requires.stage r.sent_indexed c.message_count-number.result c.message_count-number.ensures in
    record {
      indexed = after_failure r.known r.known r.unmatched r.unmatched r.matched r.matched r.noted.items r.noted.items view (view_of_rows c.fail.new.self) r.indexed
          c.fail.ensures.stage c.fail.ensures.mark (λ q there. there) (λ q there. there) refl (λ known. known);
      sent_indexed = told_failed r.messages noting.new.messages r.told.items noting.new.told.items view (view_of_rows c.fail.new.self) c.fail.ensures.stage c.fail.ensures.mark
          (where_it_failed noting.result failed noting.ensures.err)
          (λ are. where_it_failed noting.result failed (noting.ensures.err_noted (headings_of view.mark ++ r.told.items) are next)) r.sent_indexed;
      matched_only = only_failed r.matched r.matched r.noted.items r.noted.items r.touched.items r.touched.items view (view_of_rows c.fail.new.self) c.fail.ensures.stage c.fail.ensures.mark refl (λ placed. placed) (λ content only. only) r.matched_only;
      shortages_known = short_failed r.shortages (view_of_rows c.fail.new.self) c.fail.ensures.stage;
      rows_ahead = nothing_ahead (view_of_rows c.fail.new.self) c.clear.new.self c.clear.ensures;
      rows_summed = nothing_summed (view_of_rows c.fail.new.self) c.clear-2.new.self c.clear-2.ensures.known c.clear-2.ensures.counted;
    }

pub invariant_of-self-2 : goal.invariant_of-self-2
invariant_of-self-2 c =
    let r = c.args.self.now in
    let view = view_of_rows r.held in
    let noting = c.note_message in
    let went = c.if-is_err.ensures.value in
    let heading = c.heading_of-heading.ensures in
    let change = c.send.ensures.change in
    let sent = c.send.ensures.sent in
    let before = headings_of view.mark ++ r.told.items in
    let next = next_message r.messages r.told.items view c.requires.stage r.sent_indexed c.message_count-number.result c.message_count-number.ensures in
    record {
      indexed = after_send r.known r.unmatched r.matched r.noted.items r.held c.send.new.self c.requires.stage r.indexed c.send.result c.args.message sent change.ok change.err;
      sent_indexed = told_more c.send.result r.messages noting.new.messages r.told.items noting.new.told.items r.held c.send.new.self c.args.message c.requires.stage r.sent_indexed
          (where_it_went noting.result went noting.ensures.more ∙ ap (λ h. r.told.items ++ h ∷ []) heading)
          (λ are. subst (λ h. AreMessagesOf noting.new.messages (before ++ h ∷ [])) heading (where_it_went noting.result went (noting.ensures.noted before are next)))
          sent change.ok change.err;
      matched_only = only_by r.matched r.matched r.noted.items r.noted.items r.touched.items r.touched.items r.held c.send.new.self c.requires.stage r.matched_only.placed (λ content only. only) r.matched_only c.send.result (with_sent c.args.message view.content)
          (only_sent r.matched r.touched.items view.content c.args.message) sent change.ok change.err;
      shortages_known = short_changed c.send.result r.shortages view (view_of_rows c.send.new.self) (with_sent c.args.message view.content) c.requires.stage sent change.err
          (knows_sent r.shortages view.content c.args.message (known_begun r.shortages view c.requires.stage r.shortages_known));
      rows_ahead = nothing_ahead (view_of_rows c.send.new.self) c.clear.new.self c.clear.ensures;
      rows_summed = nothing_summed (view_of_rows c.send.new.self) c.clear-2.new.self c.clear-2.ensures.known c.clear-2.ensures.counted;
    }
