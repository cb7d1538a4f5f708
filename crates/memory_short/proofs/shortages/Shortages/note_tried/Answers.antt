use Rattle.std.proofs.Common.{◌∙◌, ap}
use Rattle.desk_codes.specs.Number.{number_of}
use Rattle.desk_register.specs.declared.outcome.Outcome.TheVariants.{Settled}
use Rattle.desk_register.specs.declared.told.KnownPair.{KnownPair}
use Rattle.memory_short.specs.DuePlaces.{place_at}
use Rattle.memory_short.proofs.WakeLemmas.{noted_of}
use Rattle.memory_short.proofs.shortages.Shortages.note_tried.Goals as goal

pub returns-in-Settled : goal.returns-in-Settled
returns-in-Settled c = λ known earlier later first second.
    let is = c.pair_of-pair.ensures earlier later first second in
    rw c.in-Settled.is
    (noted_of c.args.self.now c.note_settled.new.self Settled c.pair_of-pair.result c.place_of.result c.args.tried.now.mate c.args.number earlier later is
    (c.place_of.ensures ∙ ap (λ (p : KnownPair). place_at (number_of p.later.instruction.day) p.number) is) (c.note_settled.ensures known))
