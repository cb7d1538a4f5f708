use Rattle.std.proofs.Common.{◌≡◌, true, false}
use Rattle.desk_register.specs.View.{IsLater}
use Rattle.desk.specs.ServeAnswer.{HoldsOn}
use Rattle.desk.proofs.answers.serve.serve_all.Given as goal

-- what the connections so far left
abbrev pub invariant-connections : goal.invariant-connections
invariant-connections g l = record {
  keeps : (g.D.Register.view l.desk.register).is_honest → HoldsOn l.fn.desk.is_closed (g.D.Register.view l.fn.desk.register) l.desk.is_closed (g.D.Register.view l.desk.register);
  later : IsLater (g.D.Register.view l.fn.desk.register) (g.D.Register.view l.desk.register);
  open_still : g.D.Register.in_memory ≡ true → l.fn.desk.is_closed ≡ false → l.desk.is_closed ≡ false;
}
