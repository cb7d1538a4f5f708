use Rattle.std.proofs.Common.{◌<◌, ◌-◌}
use Rattle.desk_codes.specs.Number.{number_of}
use Rattle.sql_tables.specs.Calls.{Soundly, tables}
use Rattle.sql_tables.specs.Ends.{HasLooked}
use Rattle.sql_register.specs.Content.{content_in}
use Rattle.sql_register.specs.Holds.{IsDesk}
use Rattle.sql_register.proofs.WalkLemmas.{IsFirstUpTo}
use Rattle.sql_register.proofs.walking.due_pair_after.Given as goal

-- the first of those so far
abbrev pub invariant-loop-number : goal.invariant-loop-number
invariant-loop-number g l = record {
  look : HasLooked (g.S.Session.state l.fn.conn) (g.S.Session.state l.conn);
  small : l.after < 1_000_000_000;
  sooner : Soundly g.S.Session.state l.fn.conn l.conn (IsDesk (tables g.S.Session.state l.fn.conn) → IsFirstUpTo (content_in (tables g.S.Session.state l.fn.conn)) (number_of l.fn.day) l.fn.place l.after l.first);
}

abbrev pub decreases-loop-number : goal.decreases-loop-number
decreases-loop-number g l = 1_000_000_000 - l.after
