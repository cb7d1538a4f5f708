-- A walk over a register that broke off.
use Rattle.std.proofs.Common.{◌≡◌, sym, subst}
use Rattle.std.specs.Prelude.{Result, Ok, Err}
use Rattle.std.specs.Result.{IsErrAnd}
use Rattle.desk_msg.specs.declared.writing.statement_row.SinkFault.{SinkFault}
use Rattle.desk_register.specs.declared.register.Fault.TheVariants as faults
use Rattle.desk_register.specs.declared.fault.WalkFault.{WalkFault}
use Rattle.desk_register.specs.declared.fault.WalkFault.TheVariants.{Sink, Memory, Storage}
use Rattle.desk_register.specs.View.{HasRead, View, IsRead}
use Rattle.desk_register.specs.Ends.{at_register}
use Rattle.desk_register.proofs.ReadingLemmas.{broke_off, read_on, read_so}

abbrev Ended : Type 0
Ended = Result (Unit {0}) WalkFault

-- after calls that went well
broken_walk : (fault : WalkFault) (v0 v v1 : View) → HasRead v0 v → IsRead (at_register {X = Unit {0}} (Err fault)) v v1 → IsRead (at_register {X = Unit {0}} (Err fault)) v0 v1
broken_walk (Sink fault) v0 v v1 h r = read_so v0 v1 (read_on v0 v h tt v1 r) tt
broken_walk Memory v0 v v1 h r = broke_off v0 v h faults.Memory v1 r
broken_walk Storage v0 v v1 h r = broke_off v0 v h faults.Storage v1 r

pub walk_broke_off : (fault : WalkFault) (r : Ended) (v0 v v1 : View) → IsErrAnd r (λ broken. broken ≡ fault) → HasRead v0 v → IsRead (at_register {X = Unit {0}} (Err fault)) v v1 → IsRead (at_register r) v0 v1
walk_broke_off fault (Ok x) v0 v v1 is h read = absurd is
walk_broke_off fault (Err broken) v0 v v1 is h read = subst (λ z. IsRead (at_register {X = Unit {0}} (Err z)) v0 v1) (sym is) (broken_walk fault v0 v v1 h read)

-- where the sink failed, each call of the register went well
pub sink_broke_off : (fault : SinkFault) (r : Ended) (v0 v : View) → IsErrAnd r (λ broken. broken ≡ Sink fault) → HasRead v0 v → IsRead (at_register r) v0 v
sink_broke_off fault (Ok x) v0 v is h = absurd is
sink_broke_off fault (Err broken) v0 v is h = subst (λ z. IsRead (at_register {X = Unit {0}} (Err z)) v0 v) (sym is) (read_so v0 v h tt)
