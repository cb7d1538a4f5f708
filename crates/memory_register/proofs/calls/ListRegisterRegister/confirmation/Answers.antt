use Rattle.memory_register.proofs.SumsLemmas.{sums_read}
use Rattle.memory_register.proofs.AheadLemmas.{ahead_read}
use Rattle.std.proofs.Common.{◌≡◌, IfOk, sym, subst, ◌∙◌}
use Rattle.memory_rows.specs.RowsView.{view_of_rows}
use Rattle.memory_register.specs.Confirmations.{confirms}
use Rattle.memory_register.specs.Headings.{heading_of, headings_of}
use Rattle.memory_register.proofs.ConfirmationLemmas.{found_at, not_found}
use Rattle.memory_register.proofs.HeldShortLemmas.{short_read}
use Rattle.memory_register.proofs.IndexedLemmas.{read_keeps}
use Rattle.memory_register.proofs.OnlyLemmas.{only_read}
use Rattle.memory_register.proofs.ToldLemmas.{now_told, told_read}
use Rattle.memory_register.proofs.calls.ListRegisterRegister.confirmation.Goals as goal

pub invariant_of-self : goal.invariant_of-self
invariant_of-self c =
    let r = c.args.self.now in
    record {
      indexed = read_keeps c.message.result r.known r.unmatched r.matched r.noted.items r.held c.message.new.self c.message.ensures.read r.indexed;
      sent_indexed = told_read r.messages r.told.items r.held c.message.new.self r.sent_indexed c.message.result c.message.ensures.read;
      matched_only = only_read r.matched r.noted.items r.touched.items r.held c.message.new.self r.matched_only c.message.result c.message.ensures.read;
      shortages_known = short_read r.shortages r.held c.message.new.self r.shortages_known c.message.result c.message.ensures.read;
      rows_ahead = ahead_read r.ahead r.held c.message.new.self c.message.result r.rows_ahead c.message.ensures.read;
      rows_summed = sums_read r.sums r.held c.message.new.self c.message.result r.rows_summed c.message.ensures.read;
    }

pub returns-in-Some-clause-value : goal.returns-in-Some-clause-value
returns-in-Some-clause-value c honest sure up =
    let r = c.args.self.now in
    let view = view_of_rows r.held in
    let at = sym (c.number.ensures (headings_of view.content) (now_told r.messages r.told.items view up r.sent_indexed).confirmations) ∙ c.in-Some.is in
    subst (λ z. IfOk c.message.result (λ found. found ≡ z)) (sym (found_at heading_of (confirms c.args.number) view.content.sent c.in-Some.confirming at)) c.message.ensures.value

pub returns-in-None-clause-value : goal.returns-in-None-clause-value
returns-in-None-clause-value c honest sure up =
    let r = c.args.self.now in
    let view = view_of_rows r.held in
    let at = sym (c.number.ensures (headings_of view.content) (now_told r.messages r.told.items view up r.sent_indexed).confirmations) ∙ c.in-None.is in
    sym (not_found heading_of (confirms c.args.number) view.content.sent at)
