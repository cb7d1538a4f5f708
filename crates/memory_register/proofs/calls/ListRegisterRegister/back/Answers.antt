use Rattle.memory_register.proofs.SumsLemmas.{nothing_summed}
use Rattle.memory_register.proofs.AheadLemmas.{nothing_ahead}
use Rattle.std.proofs.Common.{sym, subst, ◌++◌, ◌∙◌}
use Rattle.std.proofs.lemmas.List.{length-map}
use Rattle.desk_rules.specs.Content.{history_of}
use Rattle.memory_short.specs.DuePlaces.{AreMatched, ArePlaced, HasDue}
use Rattle.memory_register.specs.Known.{AreKnown}
use Rattle.memory_register.specs.Headings.{heading_of, headings_of}
use Rattle.memory_register.specs.Messages.{AreMessagesOf}
use Rattle.memory_rows.specs.RowsView.{view_of_rows}
use Rattle.memory_register.specs.Open.{HasOpen}
use Rattle.memory_register.proofs.HeldShortLemmas.{short_forgotten}
use Rattle.memory_register.proofs.IndexedLemmas.{idle_indexed, idle_mark}
use Rattle.memory_short.proofs.StandingLemmas.{size_of}
use Rattle.memory_register.proofs.OnlyLemmas.{fewer_matched, only_idle}
use Rattle.memory_register.proofs.ToldLemmas.{told_idle}
use Rattle.memory_register.proofs.calls.ListRegisterRegister.back.Goals as goal

pub invariant_of-self : goal.invariant_of-self
invariant_of-self c =
    let r = c.args.self.now in
    let new = view_of_rows c.back.new.self in
    let goes = c.back.ensures.goes_back in
    let same = goes.content tt in
    let count = c.entry_count-count.ensures in
    let sized = count ∙ sym (size_of new.content) in
    let placed = c.forget_all.ensures.placed (history_of new.content) sized (subst (λ m. ArePlaced r.matched (history_of m ++ r.noted.items)) (sym same) r.matched_only.placed) in
    record {
      indexed = idle_indexed c.forget_all.new.known c.tidy_all.new.numbers c.tidy_all.new.places c.forget_all.new.noted.items new (idle_mark c.back.new.self goes.stage) c.forget_all.ensures.none
          (c.forget_all.ensures.forgot (history_of new.content) (subst (λ m. AreKnown r.known (history_of m ++ r.noted.items)) (sym same) r.indexed.keyed) sized)
          (c.tidy_all.ensures.unmatched (subst (HasOpen r.unmatched) (sym same) r.indexed.open_marked))
          (c.tidy_all.ensures.matched (c.forget_all.ensures.due new.content count (subst (HasDue r.matched) (sym same) r.indexed.due_marked)));
      sent_indexed = told_idle c.forget_messages.new.messages c.forget_messages.new.told.items new (idle_mark c.back.new.self goes.stage) c.forget_messages.ensures.none
          (c.forget_messages.ensures.forgot (headings_of new.content) (subst (λ m. AreMessagesOf r.messages (headings_of m ++ r.told.items)) (sym same) r.sent_indexed.marked) (c.message_count-sent.ensures ∙ sym (length-map new.content.sent heading_of)));
      matched_only = only_idle c.tidy_all.new.places c.forget_all.new.noted.items c.tidy_all.new.touched.items new (idle_mark c.back.new.self goes.stage) c.forget_all.ensures.none c.tidy_all.ensures.none (c.tidy_all.ensures.placed placed)
          (c.tidy_all.ensures.only placed
          (fewer_matched r.matched c.forget_all.new.places new.content r.touched.items c.forget_all.ensures.fewer (subst (λ m. AreMatched r.matched m r.touched.items) (sym same) r.matched_only.marked)));
      shortages_known = short_forgotten c.forget.new.self new c.forget.ensures.known;
      rows_ahead = nothing_ahead (view_of_rows c.back.new.self) c.clear.new.self c.clear.ensures;
      rows_summed = nothing_summed (view_of_rows c.back.new.self) c.clear-2.new.self c.clear-2.ensures.known c.clear-2.ensures.counted;
    }
