use Rattle.std.proofs.Common.{◌∙◌, sym, subst}
use Rattle.desk_rules.specs.declared.history.entry.Instructed.{Instructed}
use Rattle.memory_rows.specs.Transfers.{moved_by}
use Rattle.memory_short.specs.Shortages.{IsBrought, IsBroughtIfAny}
use Rattle.memory_short.specs.Wants.{cash_want}
use Rattle.memory_short.proofs.WakeLemmas.{settles_and_brings}
use Rattle.memory_short.proofs.shortages.Shortages.note_settled.Goals as goal

pub returns : goal.returns
returns c = λ known.
    let third = c.bring_if_any.ensures.brings known in
    let known_two = sym third.known ∙ known in
    let second = c.bring-2.ensures.brings known_two in
    let known_one = sym second.known ∙ known_two in
    let first = c.bring.ensures.brings known_one in
    let paid = subst (IsBroughtIfAny c.bring_if_any.new.self) c.cash_want.ensures (c.bring_if_any.ensures.there known) in
    settles_and_brings c.args.self.now c.take_out.new.self c.bring.new.self c.bring-2.new.self c.bring_if_any.new.self (moved_by c.args.pair.now) c.args.place c.take_out.ensures.out
    first (subst (IsBrought c.bring.new.self) c.more_taken.ensures (c.bring.ensures.there known_one)) second (subst (IsBrought c.bring-2.new.self) c.less_given.ensures (c.bring-2.ensures.there known_two))
    third (subst (λ (side : Instructed). IsBroughtIfAny c.bring_if_any.new.self (cash_want side.sender c.args.pair.now.later.instruction.cash)) c.deliverer.ensures paid)
