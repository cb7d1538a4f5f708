use Rattle.std.proofs.Common.{◌∙◌, ap, arith, sym}
use Rattle.std.specs.Prelude.{unwrap_or}
use Rattle.desk_journal.proofs.RangeLemmas.{sent_by_noted}
use Rattle.desk_journal.proofs.walk.sent_by.Goals as goal

pub returns-in-Some : goal.returns-in-Some
returns-in-Some c = λ books count are within.
    c.unwrap_or.ensures ∙ ap (λ o. unwrap_or o 0) c.copied.ensures ∙ c.get.ensures.lookup.4 (omega arith) 0
    ∙ sent_by_noted books c.args.ends.now count c.args.number c.in-Some.index are c.in-Some.ensures.0 (sym c.in-Some.ensures.1) within
