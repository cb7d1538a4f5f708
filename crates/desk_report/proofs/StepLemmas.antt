-- Reading calls of a register, one after another, and how their faults are handed on.
use Rattle.std.proofs.Common.{◌≡◌, sym, subst}
use Rattle.std.specs.Prelude.{Result, Ok, Err}
use Rattle.std.specs.Result.{IsErrAnd}
use Rattle.desk_rules.specs.Content.{Content}
use Rattle.desk_register.specs.declared.register.Fault.{Fault}
use Rattle.desk_register.specs.declared.register.Fault.TheVariants as faults
use Rattle.desk_register.specs.View.{HasRead, View, IsRead}
use Rattle.desk_register.specs.declared.fault.WalkFault.{WalkFault}
use Rattle.desk_register.specs.Ends.{at_register, broken_off}
use Rattle.desk_register.proofs.ReadLemmas.{kept_so, read_more, read_one}
use Rattle.desk_register.proofs.ReadingLemmas.{broke_off, read_so}

-- What was known of the content is known after a call that went well.
pub still_known : {X : Type 0} (P : Content → Type 0) (x : X) (v0 v1 : View) → IsRead {X = X} (Ok x) v0 v1 → (v0.is_honest → v0.is_sure → P v0.content) → v1.is_honest → v1.is_sure → P v1.content
still_known P x v0 v1 read known honest sure =
    let sure0 = read.later.sure honest sure in
    kept_so v0 v1 (read_one x v0 v1 read) P honest sure0 (known (read.later.honest honest) sure0)

-- two calls that went well
pub read_both : {X Y Z : Type 0} (x : X) (y : Y) (z : Z) (v0 v1 v2 : View) → IsRead {X = X} (Ok x) v0 v1 → IsRead {X = Y} (Ok y) v1 v2 → IsRead {X = Z} (Ok z) v0 v2
read_both x y z v0 v1 v2 first second = read_so v0 v2 (read_more y v0 v1 v2 (read_one x v0 v1 first) second) z

-- How a call failed, after others that went well.

abbrev failed : (X : Type 0) {E : Type 0} → E → Result X E
failed X fault = Err fault

pub read_broke : {X Y : Type 0} (fault : Fault) (r : Result Y Fault) (v0 v1 v2 : View) → IsErrAnd r (λ broken. broken ≡ fault) → HasRead v0 v1 → IsRead {X = X} (Err fault) v1 v2 → IsRead r v0 v2
read_broke fault (Ok y) v0 v1 v2 is h read = absurd is
read_broke {X} {Y} fault (Err broken) v0 v1 v2 is h read = subst (λ z. IsRead {X = Y} (Err z) v0 v2) (sym is) (broke_off v0 v1 h fault v2 read)

-- where a walk hands it on
pub register_broke : {X Y : Type 0} (fault : Fault) (r : Result Y WalkFault) (v0 v1 v2 : View) → IsErrAnd r (λ broken. broken ≡ broken_off fault) → HasRead v0 v1 → IsRead {X = X} (Err fault) v1 v2 → IsRead (at_register r) v0 v2
register_broke fault (Ok y) v0 v1 v2 is h read = absurd is
register_broke {X} {Y} faults.Memory (Err broken) v0 v1 v2 is h read = subst (λ z. IsRead (at_register (failed Y z)) v0 v2) (sym is) (broke_off v0 v1 h faults.Memory v2 read)
register_broke {X} {Y} faults.Storage (Err broken) v0 v1 v2 is h read = subst (λ z. IsRead (at_register (failed Y z)) v0 v2) (sym is) (broke_off v0 v1 h faults.Storage v2 read)
