use Rattle.std.proofs.Common.{◌≡◌, length, take}
use Rattle.desk_register.specs.View.{HasRead, IfTrusted}
use Rattle.desk_rules.specs.Content.{history_of}
use Rattle.desk_old.proofs.held.entries_held.Given as goal

-- the first entries are there
abbrev pub invariant-loop-before : goal.invariant-loop-before
invariant-loop-before g l = record {
  read : HasRead (g.R.Register.view l.fn.register) (g.R.Register.view l.register);
  counted : IfTrusted (g.R.Register.view l.fn.register) (g.R.Register.view l.register) (l.count ≡ length (g.R.Register.view l.fn.register).content.register);
  list : IfTrusted (g.R.Register.view l.fn.register) (g.R.Register.view l.register) (l.entries.items ≡ take l.before (history_of (g.R.Register.view l.fn.register).content));
}
