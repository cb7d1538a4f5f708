use Rattle.memory_register.proofs.AheadLemmas.{ahead_read}
use Rattle.memory_register.proofs.HeldShortLemmas.{short_read}
use Rattle.memory_register.proofs.IndexedLemmas.{read_keeps}
use Rattle.memory_register.proofs.OnlyLemmas.{only_read}
use Rattle.memory_register.proofs.SumsLemmas.{sums_read}
use Rattle.memory_register.proofs.ToldLemmas.{told_read}
use Rattle.memory_register.proofs.numbered.ListRegisterMessages.message.Goals as goal

pub invariant_of-self : goal.invariant_of-self
invariant_of-self c =
    let r = c.args.self.now in
    record {
      indexed = read_keeps c.message.result r.known r.unmatched r.matched r.noted.items r.held c.message.new.self c.message.ensures.read r.indexed;
      sent_indexed = told_read r.messages r.told.items r.held c.message.new.self r.sent_indexed c.message.result c.message.ensures.read;
      matched_only = only_read r.matched r.noted.items r.touched.items r.held c.message.new.self r.matched_only c.message.result c.message.ensures.read;
      shortages_known = short_read r.shortages r.held c.message.new.self r.shortages_known c.message.result c.message.ensures.read;
      rows_ahead = ahead_read r.ahead r.held c.message.new.self c.message.result r.rows_ahead c.message.ensures.read;
      rows_summed = sums_read r.sums r.held c.message.new.self c.message.result r.rows_summed c.message.ensures.read;
    }
