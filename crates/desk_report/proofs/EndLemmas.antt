-- How walks end at the register.
use Rattle.std.proofs.Common.{◌≡◌, sym, subst}
use Rattle.std.specs.Prelude.{Result, Ok, Err}
use Rattle.std.specs.Result.{IsErrAnd}
use Rattle.desk_register.specs.declared.register.Fault.TheVariants as faults
use Rattle.desk_register.specs.View.{HasRead, View, IsRead}
use Rattle.desk_register.specs.declared.fault.WalkFault.{WalkFault}
use Rattle.desk_register.specs.declared.fault.WalkFault.TheVariants as walks
use Rattle.desk_register.specs.Ends.{at_register}
use Rattle.desk_register.proofs.ReadingLemmas.{broke_off, read_on, read_so}

-- what was read is read whatever was to be made of it
walk_failed : (X Y : Type 0) (fault : WalkFault) (v0 v1 v2 : View) → HasRead v0 v1 → IsRead (at_register {X = X} (Err fault)) v1 v2 → IsRead (at_register {X = Y} (Err fault)) v0 v2
walk_failed X Y (walks.Sink fault) v0 v1 v2 h read = read_so v0 v2 (read_on v0 v1 h tt v2 read) tt
walk_failed X Y walks.Memory v0 v1 v2 h read = broke_off v0 v1 h faults.Memory v2 read
walk_failed X Y walks.Storage v0 v1 v2 h read = broke_off v0 v1 h faults.Storage v2 read

-- reading calls that went well, and then a walk
pub walk_then : {X : Type 0} (r : Result X WalkFault) (v0 v1 v2 : View) → HasRead v0 v1 → IsRead (at_register r) v1 v2 → IsRead (at_register r) v0 v2
walk_then (Ok x) v0 v1 v2 h read = read_so v0 v2 (read_on v0 v1 h tt v2 read) tt
walk_then {X} (Err fault) v0 v1 v2 h read = walk_failed X X fault v0 v1 v2 h read

-- and one that broke off, handed on
pub walk_broke : (X : Type 0) {Y : Type 0} (fault : WalkFault) (r : Result Y WalkFault) (v0 v1 v2 : View) → IsErrAnd r (λ broken. broken ≡ fault) → HasRead v0 v1 → IsRead (at_register {X = X} (Err fault)) v1 v2
    → IsRead (at_register r) v0 v2
walk_broke X fault (Ok x) v0 v1 v2 is h read = absurd is
walk_broke X {Y} fault (Err broken) v0 v1 v2 is h read = subst (λ z. IsRead (at_register {X = Y} (Err z)) v0 v2) (sym is) (walk_failed X Y fault v0 v1 v2 h read)

-- a row that was not written, behind reading calls that went well
pub row_broke : (X : Type 0) {Y : Type 0} (fault : WalkFault) (r : Result Y WalkFault) (v0 v1 : View) → IsErrAnd r (λ broken. broken ≡ fault) → at_register {X = X} (Err fault) ≡ Ok tt → HasRead v0 v1 → IsRead (at_register r) v0 v1
row_broke X fault (Ok x) v0 v1 is well h = absurd is
row_broke X {Y} (walks.Sink fault) (Err broken) v0 v1 is well h = subst (λ z. IsRead (at_register {X = Y} (Err z)) v0 v1) (sym is) (read_so v0 v1 h tt)
row_broke X walks.Memory (Err broken) v0 v1 is well h = absurd (cc)
row_broke X walks.Storage (Err broken) v0 v1 is well h = absurd (cc)

-- a row, behind reading calls that went well
pub row_then : {X : Type 0} (r : Result X WalkFault) (v0 v1 : View) → at_register r ≡ Ok tt → HasRead v0 v1 → IsRead (at_register r) v0 v1
row_then r v0 v1 well h = subst (λ z. IsRead {X = Unit {0}} z v0 v1) (sym well) (read_so v0 v1 h tt)
