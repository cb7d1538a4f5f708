use Rattle.memory_register.proofs.SumsLemmas.{nothing_summed}
use Rattle.memory_register.proofs.AheadLemmas.{nothing_ahead}
use Rattle.std.proofs.Common.{sym, subst}
use Rattle.memory_short.specs.DuePlaces.{AreMatched, ArePlaced, HasDue}
use Rattle.desk_rules.specs.Content.{history_of}
use Rattle.memory_register.proofs.OnlyLemmas.{only_idle, placed_now}
use Rattle.memory_rows.specs.RowsView.{view_of_rows}
use Rattle.memory_register.specs.Open.{HasOpen}
use Rattle.memory_register.proofs.HeldShortLemmas.{known_begun, short_of}
use Rattle.memory_register.proofs.IndexedLemmas.{begun_is_not_failed, idle_indexed, idle_mark, kept_keys}
use Rattle.memory_register.proofs.ToldLemmas.{kept_messages, told_idle}
use Rattle.memory_register.proofs.calls.ListRegisterRegister.commit.Goals as goal

pub invariant_of-self : goal.invariant_of-self
invariant_of-self c =
    let r = c.args.self.now in
    let old = view_of_rows r.held in
    let new = view_of_rows c.commit.new.self in
    let commits = c.commit.ensures.commits in
    let same = commits.content tt tt in
    let apart = begun_is_not_failed old.stage c.requires in
    let placed = subst (λ z. ArePlaced r.matched (history_of z)) (sym same) (placed_now r.matched r.noted.items old (r.indexed.grown apart) r.matched_only.placed) in
    record {
      indexed = idle_indexed r.known c.tidy_all.new.numbers c.tidy_all.new.places c.truncate.new.self.items new (idle_mark c.commit.new.self commits.stage) c.truncate.ensures.items
          (kept_keys r.known r.unmatched r.matched r.noted.items old new r.indexed c.requires same)
          (c.tidy_all.ensures.unmatched (subst (HasOpen r.unmatched) (sym same) (r.indexed.open_now apart)))
          (c.tidy_all.ensures.matched (subst (HasDue r.matched) (sym same) (r.indexed.due_now apart)));
      sent_indexed = told_idle r.messages c.truncate-2.new.self.items new (idle_mark c.commit.new.self commits.stage) c.truncate-2.ensures.items (kept_messages r.messages r.told.items old new r.sent_indexed apart same);
      matched_only = only_idle c.tidy_all.new.places c.truncate.new.self.items c.tidy_all.new.touched.items new (idle_mark c.commit.new.self commits.stage) c.truncate.ensures.items c.tidy_all.ensures.none
          (c.tidy_all.ensures.placed placed) (c.tidy_all.ensures.only placed (subst (λ z. AreMatched r.matched z r.touched.items) (sym same) (r.matched_only.now apart)));
      shortages_known = short_of r.shortages new old.content same (known_begun r.shortages old c.requires r.shortages_known);
      rows_ahead = nothing_ahead (view_of_rows c.commit.new.self) c.clear.new.self c.clear.ensures;
      rows_summed = nothing_summed (view_of_rows c.commit.new.self) c.clear-2.new.self c.clear-2.ensures.known c.clear-2.ensures.counted;
    }
