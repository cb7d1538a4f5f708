use Rattle.memory_register.proofs.SecurityWalkLemmas.{is_next, no_next, walks_on}
use Rattle.memory_register.proofs.entries.next_securities.next_on.Goals as goal

pub returns-in-Some : goal.returns-in-Some
returns-in-Some c = record {
  next = λ securities above walks. is_next securities above c.in-Some.isin.now _ c.args.walk.now c.next.new.self c.in-Some.ensures.steps walks;
  behind = λ securities above walks. walks_on securities above c.in-Some.isin.now _ c.args.walk.now c.next.new.self c.in-Some.ensures.steps walks;
}

pub returns-in-None : goal.returns-in-None
returns-in-None c = record {
  next = λ securities above walks. no_next securities above c.args.walk.now c.in-None.ensures.steps.0 walks;
  behind = λ securities above walks. tt;
}
