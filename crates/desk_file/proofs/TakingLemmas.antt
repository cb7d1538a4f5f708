-- One entry taken after another, by what is told of the register.
use Rattle.std.proofs.Common.{Result, arith}
use Rattle.desk_register.specs.declared.register.Fault.{Fault}
use Rattle.desk_register.specs.View.{View, IsLater}
use Rattle.desk_engine.specs.Accepting.{IsDone}
use Rattle.desk_file.specs.Taking.{BlamesTaking}

pub done_then : (a b c : View) → IsDone a b → IsLater b c → IsDone b c → IsDone a c
done_then a b c p later q = record {
  stage = q.stage;
  sure = λ honest sure. q.sure honest (p.sure (later.honest honest) sure);
  device = λ honest sure. q.device honest (p.device (later.device_honest honest) sure);
}

pub blame_then : {X : Type 0} (r : Result X Fault) (a b c : View) → IsDone a b → IsLater a b → IsLater b c → BlamesTaking r b c → BlamesTaking r a c
blame_then r a b c done before later blame = record {
  storage = λ is sure device honest trusted few.
      (let less = before.failures in
      let grown = blame.storage is (done.sure (later.honest honest) sure) (done.device (later.device_honest trusted) device) honest trusted few in
      omega (arith, less, grown));
}
