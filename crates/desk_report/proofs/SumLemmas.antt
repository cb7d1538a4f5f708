-- Lines of totals that could not be read.
use Rattle.std.specs.Prelude.{Result, Ok, Err}
use Rattle.std.specs.Result.{IsErrAnd}
use Rattle.std.proofs.Common.{◌≡◌, subst, sym}
use Rattle.desk_register.specs.Ends.{at_register, broken_off}
use Rattle.desk_register.specs.View.{HasRead, IsRead, View}
use Rattle.desk_register.specs.declared.fault.WalkFault.{WalkFault}
use Rattle.desk_register.specs.declared.register.Fault.{Fault}
use Rattle.desk_register.specs.declared.register.Fault.TheVariants.{Memory, Storage}
use Rattle.desk_register.proofs.ReadingLemmas.{broke_off}

by_fault : {X : Type 0} (fault : Fault) (v0 v v1 : View) → HasRead v0 v → IsRead {X = X} (Err fault) v v1 → IsRead (at_register {X = Unit {0}} (Err (broken_off fault))) v0 v1
by_fault Memory v0 v v1 h read = broke_off v0 v h Memory v1 read
by_fault Storage v0 v v1 h read = broke_off v0 v h Storage v1 read

-- after calls that went well one failed
pub not_read : {X : Type 0} (fault : Fault) (r : Result (Unit {0}) WalkFault) (v0 v v1 : View) → IsErrAnd r (λ broken. broken ≡ broken_off fault) → HasRead v0 v → IsRead {X = X} (Err fault) v v1 → IsRead (at_register r) v0 v1
not_read fault (Ok x) v0 v v1 is h read = absurd is
not_read fault (Err broken) v0 v v1 is h read = subst (λ b. IsRead (at_register {X = Unit {0}} (Err b)) v0 v1) (sym is) (by_fault fault v0 v v1 h read)
