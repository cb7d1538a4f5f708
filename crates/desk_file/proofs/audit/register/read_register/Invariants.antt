use Rattle.std.specs.List.{AllByRecursion}
use Rattle.desk_engine.specs.Accepting.{IsDone}
use Rattle.desk_register.specs.View.{IfTrusted, IsLater}
use Rattle.sql_tables.specs.Calls.{SoundlyIn, tables}
use Rattle.sql_tables.specs.Schema.{register_table}
use Rattle.sql_tables.specs.Forms.{HasForm}
use Rattle.sql_tables.specs.Ends.{HasLookedIn}
use Rattle.sql_tables.specs.Versions.{register_tree, schema_in}
use Rattle.desk_rules.specs.Content.{Content}
use Rattle.desk_file.specs.Reading.{HoldsFormed, HoldsRows, IsReadIn}
use Rattle.desk_file.proofs.FrontLemmas.{HoldsFront}
use Rattle.desk_file.proofs.audit.register.read_register.Given as goal

-- the rows so far are held
abbrev pub invariant-loop-before : goal.invariant-loop-before
invariant-loop-before g l = record {
  look : HasLookedIn (schema_in l.version) (g.S.Session.state l.fn.conn) (g.S.Session.state l.conn);
  done : IsDone (g.R.Register.view l.fn.register) (g.R.Register.view l.register);
  later : IsLater (g.R.Register.view l.fn.register) (g.R.Register.view l.register);
  holds : IfTrusted (g.R.Register.view l.fn.register) (g.R.Register.view l.register) (HoldsFormed (g.R.Register.view l.fn.register).room (g.R.Register.view l.register).content);
  rows : SoundlyIn g.S.Session.state l.fn.conn l.conn (schema_in l.version) (IfTrusted (g.R.Register.view l.fn.register) (g.R.Register.view l.register) (AllByRecursion (HasForm register_table) ((tables g.S.Session.state l.fn.conn).trees (register_tree l.version))
      → HoldsRows l.version ((tables g.S.Session.state l.fn.conn).trees (register_tree l.version)) l.before (g.R.Register.view l.fn.register).room (g.R.Register.view l.register).content));
  fronts : SoundlyIn g.S.Session.state l.fn.conn l.conn (schema_in l.version) (IfTrusted (g.R.Register.view l.fn.register) (g.R.Register.view l.register) ((content : Content) → IsReadIn l.version (tables g.S.Session.state l.fn.conn) (g.R.Register.view l.fn.register).room content
      → HoldsFront content.register l.before (g.R.Register.view l.register).content.register));
}
