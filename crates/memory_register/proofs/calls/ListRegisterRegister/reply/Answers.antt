use Rattle.memory_register.proofs.SumsLemmas.{sums_read}
use Rattle.memory_register.proofs.AheadLemmas.{ahead_read}
use Rattle.memory_register.proofs.HeldShortLemmas.{short_read}
use Rattle.memory_register.proofs.IndexedLemmas.{read_keeps}
use Rattle.memory_register.proofs.OnlyLemmas.{only_read}
use Rattle.memory_register.proofs.ToldLemmas.{told_read}
use Rattle.memory_register.proofs.calls.ListRegisterRegister.reply.Goals as goal

pub invariant_of-self : goal.invariant_of-self
invariant_of-self c =
    let r = c.args.self.now in
    record {
      indexed = read_keeps c.reply.result r.known r.unmatched r.matched r.noted.items r.held c.reply.new.self c.reply.ensures.read r.indexed;
      sent_indexed = told_read r.messages r.told.items r.held c.reply.new.self r.sent_indexed c.reply.result c.reply.ensures.read;
      matched_only = only_read r.matched r.noted.items r.touched.items r.held c.reply.new.self r.matched_only c.reply.result c.reply.ensures.read;
      shortages_known = short_read r.shortages r.held c.reply.new.self r.shortages_known c.reply.result c.reply.ensures.read;
      rows_ahead = ahead_read r.ahead r.held c.reply.new.self c.reply.result r.rows_ahead c.reply.ensures.read;
      rows_summed = sums_read r.sums r.held c.reply.new.self c.reply.result r.rows_summed c.reply.ensures.read;
    }
