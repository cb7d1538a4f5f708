use Rattle.std.proofs.Common.{◌<◌, ◌-◌}
use Rattle.sql_tables.specs.Calls.{Soundly, tables}
use Rattle.sql_tables.specs.Ends.{HasLooked}
use Rattle.sql_register.specs.Content.{content_in}
use Rattle.sql_register.specs.Holds.{IsDesk}
use Rattle.sql_register.proofs.WalkLemmas.{IsPassed}
use Rattle.sql_register.proofs.walking.first_opposite.Given as goal

-- no unmatched opposite instruction was passed
abbrev pub invariant-loop-number : goal.invariant-loop-number
invariant-loop-number g l = record {
  look : HasLooked (g.S.Session.state l.fn.conn) (g.S.Session.state l.conn);
  small : l.after < 1_000_000_000;
  passed : Soundly g.S.Session.state l.fn.conn l.conn (IsDesk (tables g.S.Session.state l.fn.conn) → IsPassed (content_in (tables g.S.Session.state l.fn.conn)) (record { sender = l.fn.sender; instruction = l.fn.instruction }) l.after);
}

abbrev pub decreases-loop-number : goal.decreases-loop-number
decreases-loop-number g l = 1_000_000_000 - l.after
