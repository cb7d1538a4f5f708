use Rattle.memory_register.proofs.SumsLemmas.{nothing_summed}
use Rattle.memory_register.proofs.AheadLemmas.{nothing_ahead}
use Rattle.std.proofs.Common.{refl, ap, ◌+◌, ◌++◌}
use Rattle.desk_rules.specs.Content.{history_of}
use Rattle.desk_register.specs.Changes.{appended}
use Rattle.memory_rows.specs.RowsView.{view_of_rows}
use Rattle.desk_register.proofs.ViewLemmas.{blames_memory}
use Rattle.memory_register.proofs.HeldShortLemmas.{known_begun, knows_appended, short_changed, short_failed}
use Rattle.memory_register.proofs.IndexedLemmas.{after_append, after_failure, next_count}
use Rattle.memory_short.proofs.ResultLemmas.{where_it_failed, where_it_went}
use Rattle.memory_register.proofs.OnlyLemmas.{only_appended, only_by, only_failed, only_noted}
use Rattle.memory_register.proofs.ToldLemmas.{told_apart, told_fails}
use Rattle.memory_register.proofs.calls.ListRegisterRegister.append.Goals as goal

pub invariant_of-self : goal.invariant_of-self
invariant_of-self c =
    let r = c.args.self.now in
    let noting = c.note_entry in
    record {
      indexed = after_failure r.known noting.new.known r.unmatched noting.new.numbers r.matched r.matched r.noted.items noting.new.noted.items (view_of_rows r.held) (view_of_rows c.fail.new.self) r.indexed
          c.fail.ensures.stage c.fail.ensures.mark noting.ensures.all (λ q there. there) (where_it_failed noting.result c.if-is_err.ensures.value noting.ensures.err)
          (λ keyed.
          where_it_failed noting.result c.if-is_err.ensures.value
          (noting.ensures.err_known (history_of (view_of_rows r.held).mark ++ r.noted.items) keyed
          (next_count r.known r.unmatched r.matched r.noted.items (view_of_rows r.held) c.entry_count-number.result c.requires.stage c.entry_count-number.ensures r.indexed)));
      sent_indexed = told_fails r.messages r.told.items r.held c.fail.new.self r.sent_indexed c.fail.ensures.stage c.fail.ensures.mark;
      matched_only = only_failed r.matched r.matched r.noted.items noting.new.noted.items r.touched.items r.touched.items (view_of_rows r.held) (view_of_rows c.fail.new.self) c.fail.ensures.stage c.fail.ensures.mark
          (where_it_failed noting.result c.if-is_err.ensures.value noting.ensures.err) (λ placed. placed) (λ content only. only) r.matched_only;
      shortages_known = short_failed r.shortages (view_of_rows c.fail.new.self) c.fail.ensures.stage;
      rows_ahead = nothing_ahead (view_of_rows c.fail.new.self) c.clear.new.self c.clear.ensures;
      rows_summed = nothing_summed (view_of_rows c.fail.new.self) c.clear-2.new.self c.clear-2.ensures.known c.clear-2.ensures.counted;
    }

pub returns-then-is_err-clause-change : goal.returns-then-is_err-clause-change
returns-then-is_err-clause-change c = record { ok = tt; err = c.fail.ensures.falls; later = c.fail.ensures.later; blame = blames_memory c.fail.result _ _ c.fail.ensures.fault }

pub invariant_of-self-2 : goal.invariant_of-self-2
invariant_of-self-2 c =
    let r = c.args.self.now in
    let noting = c.note_entry in
    let went = c.if-is_err.ensures.value in
    let change = c.append.ensures.change in
    record {
      indexed = after_append c.append.result r.known noting.new.known r.unmatched noting.new.numbers r.matched r.noted.items noting.new.noted.items (view_of_rows r.held) (view_of_rows c.append.new.self) (c.entry_count-number.result + 1)
          c.args.entry c.args.reply tt tt tt c.requires.stage (ap (λ n. n + 1) c.entry_count-number.ensures) r.indexed noting.ensures.all
          (where_it_went noting.result went noting.ensures.opened) (where_it_went noting.result went noting.ensures.more)
          (λ history keyed is. where_it_went noting.result went (noting.ensures.keyed history keyed is))
          (λ honest sure. c.append.ensures.added) change.ok change.err;
      sent_indexed = told_apart r.messages r.told.items r.held c.append.new.self r.sent_indexed c.append.result (appended c.args.entry c.args.reply) (λ content. refl) c.append.ensures.added change.ok change.err;
      matched_only = only_by r.matched r.matched r.noted.items noting.new.noted.items r.touched.items r.touched.items r.held c.append.new.self c.requires.stage
          (only_noted r.matched r.noted.items noting.new.noted.items (view_of_rows r.held) c.args.entry (where_it_went noting.result went noting.ensures.more) r.matched_only.placed) (λ content only. only) r.matched_only
          c.append.result (appended c.args.entry c.args.reply (view_of_rows r.held).content) (only_appended r.matched r.touched.items (view_of_rows r.held).content c.args.entry c.args.reply) c.append.ensures.added change.ok change.err;
      shortages_known = short_changed c.append.result c.note_added.new.self (view_of_rows r.held) (view_of_rows c.append.new.self) (appended c.args.entry c.args.reply (view_of_rows r.held).content) c.requires.stage c.append.ensures.added change.err
          (knows_appended r.shortages c.note_added.new.self c.args.entry c.args.reply (view_of_rows r.held).content c.note_added.ensures (known_begun r.shortages (view_of_rows r.held) c.requires.stage r.shortages_known));
      rows_ahead = nothing_ahead (view_of_rows c.append.new.self) c.clear.new.self c.clear.ensures;
      rows_summed = nothing_summed (view_of_rows c.append.new.self) c.clear-2.new.self c.clear-2.ensures.known c.clear-2.ensures.counted;
    }
