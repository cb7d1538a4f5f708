use Rattle.std.proofs.Common.{subst}
use Rattle.desk_codes.specs.Number.{number_of}
use Rattle.desk_register.specs.declared.told.KnownPair.{KnownPair}
use Rattle.memory_rows.specs.Transfers.{moved_by}
use Rattle.memory_short.specs.DuePlaces.{place_at}
use Rattle.memory_short.specs.Shortages.{TakesOut}
use Rattle.memory_short.proofs.shortages.Shortages.note_cancelled.Goals as goal

pub returns : goal.returns
returns c = λ known earlier later first second.
    let out = subst (λ p. TakesOut (moved_by c.pair_of-pair.result) p c.args.self.now c.take_out.new.self) c.place_of.ensures c.take_out.ensures.out in
    subst (λ (p : KnownPair). TakesOut (moved_by p) (place_at (number_of p.later.instruction.day) p.number) c.args.self.now c.take_out.new.self) (c.pair_of-pair.ensures earlier later first second) out
