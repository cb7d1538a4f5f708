-- What a fault that is handed on says, and calls one after another, of the tables and of a register.
use Rattle.std.proofs.Common.{◌≡◌, ◌∙◌, IfOk, OnOk, IfErr, Result, Ok, Err, refl, ap, sym, subst, arith}
use Rattle.std.specs.Result.{IsErrAnd}
use Rattle.sqlite.specs.declared.error.Error.{Error}
use Rattle.sqlite.specs.State.{State}
use Rattle.desk_register.specs.declared.register.Fault.{Fault}
use Rattle.desk_register.specs.declared.register.Fault.TheVariants.{Storage}
use Rattle.desk_register.specs.declared.register.Stage.TheVariants.{Idle}
use Rattle.desk_register.specs.View.{View, Blames, HasRead, IsLater, IsRead}
use Rattle.desk_register.proofs.ReadLemmas.{read_then}
use Rattle.desk_engine.specs.Accepting.{IsDone}
use Rattle.sql_tables.specs.declared.fault.AuditFault.{AuditFault}
use Rattle.sql_tables.specs.declared.fault.AuditFault.TheVariants.{Register, Tables}
use Rattle.sql_tables.specs.Audits.{of_register, of_tables}
use Rattle.sql_tables.specs.Ends.{ForCause, HasLookedIn, IfSoundIn, IsLookIn}
use Rattle.sqlite.specs.Schema.{Schema}
use Rattle.sql_tables.proofs.LookLemmas.{cause_after, look_err, look_then}
use Rattle.desk_file.specs.Taking.{BlamesTaking}
use Rattle.desk_file.proofs.TakingLemmas.{blame_then}

-- ---- a fault says the same, whatever was asked

same_tables : (X Y : Type 0) (fault : AuditFault) → of_tables {X = Y} (Err fault) ≡ of_tables {X = X} (Err fault)
same_tables X Y (Register fault) = refl
same_tables X Y (Tables error) = refl

same_register : (X Y : Type 0) (fault : AuditFault) → of_register {X = Y} (Err fault) ≡ of_register {X = X} (Err fault)
same_register X Y (Register fault) = refl
same_register X Y (Tables error) = refl

-- it is no answer
pub no_answer : {X : Type 0} (r : Result X AuditFault) (P : AuditFault → Type 0) (Q : X → Type 0) → IsErrAnd r P → IfOk r Q
no_answer (Ok x) P Q is = absurd is
no_answer (Err fault) P Q is = tt

pub not_done : {X : Type 0} (r : Result X AuditFault) (P : AuditFault → Type 0) (Q : Type 0) → IsErrAnd r P → OnOk r Q
not_done (Ok x) P Q is = absurd is
not_done (Err fault) P Q is = tt

module _ (Y : Type 0) {X : Type 0} (fault : AuditFault) (r : Result X AuditFault) (is : IsErrAnd r (λ e. e ≡ fault)) where
  tables_same : of_tables {X = Y} (Err fault) ≡ of_tables r
  tables_same = each r is
    where
      each : (r : Result X AuditFault) → IsErrAnd r (λ e. e ≡ fault) → of_tables {X = Y} (Err fault) ≡ of_tables r
      each (Ok x) is = absurd is
      each (Err e) is = ap (λ f. of_tables {X = Y} (Err f)) (sym is) ∙ same_tables X Y e

  register_same : of_register {X = Y} (Err fault) ≡ of_register r
  register_same = each r is
    where
      each : (r : Result X AuditFault) → IsErrAnd r (λ e. e ≡ fault) → of_register {X = Y} (Err fault) ≡ of_register r
      each (Ok x) is = absurd is
      each (Err e) is = ap (λ f. of_register {X = Y} (Err f)) (sym is) ∙ same_register X Y e

  pub look_handed : {schema : Schema} (a b : State) → IsLookIn schema (of_tables {X = Y} (Err fault)) a b → IsLookIn schema (of_tables r) a b
  look_handed {schema = schema} a b look = subst (λ t. IsLookIn schema t a b) tables_same look

  pub look_fell : {schema : Schema} (a b c : State) → HasLookedIn schema a b → IsLookIn schema (of_tables {X = Y} (Err fault)) b c → IsLookIn schema (of_tables r) a c
  look_fell a b c looked look = look_then tt (of_tables r) a b c looked (look_handed b c look)

  pub read_handed : (a b : View) → IsRead (of_register {X = Y} (Err fault)) a b → IsRead (of_register r) a b
  read_handed a b read = subst (λ t. IsRead t a b) register_same read

  pub read_fell : (a b c : View) → HasRead a b → IsRead (of_register {X = Y} (Err fault)) b c → IsRead (of_register r) a c
  read_fell a b c so_far read = read_then a b c so_far (of_register r) (read_handed b c read)

  pub blame_handed : (a b : View) → BlamesTaking (of_register {X = Y} (Err fault)) a b → BlamesTaking (of_register r) a b
  blame_handed a b blame = subst (λ t. BlamesTaking t a b) register_same blame

  pub blame_fell : (a b c : View) → IsDone a b → IsLater a b → IsLater b c → BlamesTaking (of_register {X = Y} (Err fault)) b c → BlamesTaking (of_register r) a c
  blame_fell a b c done before later blame = blame_then (of_register r) a b c done before later (blame_handed b c blame)

  pub cause_handed : (a b : State) → IfErr (of_tables {X = Y} (Err fault)) (ForCause a b) → IfErr (of_tables r) (ForCause a b)
  cause_handed a b cause = subst (λ t. IfErr t (ForCause a b)) tables_same cause

-- ---- a fault of the tables that an audit tells

module _ {X : Type 0} (error : Error) (r : Result X AuditFault) (is : IsErrAnd r (λ f. f ≡ Tables error)) where
  tables_told : of_tables r ≡ Err error
  tables_told = each r is
    where
      each : (r : Result X AuditFault) → IsErrAnd r (λ f. f ≡ Tables error) → of_tables r ≡ Err error
      each (Ok x) is = absurd is
      each (Err f) is = ap (λ f. of_tables {X = X} (Err f)) is

  register_told : of_register r ≡ Ok tt
  register_told = each r is
    where
      each : (r : Result X AuditFault) → IsErrAnd r (λ f. f ≡ Tables error) → of_register r ≡ Ok tt
      each (Ok x) is = refl
      each (Err f) is = ap (λ f. of_register {X = X} (Err f)) is

  pub look_told : {schema : Schema} (Y : Type 0) (a b : State) → IsLookIn schema {X = Y} (Err error) a b → IsLookIn schema (of_tables r) a b
  look_told {schema = schema} Y a b look = subst (λ t. IsLookIn schema t a b) (sym tables_told) (look_err error a b look)

  pub look_told_then : {schema : Schema} (Y : Type 0) (a b c : State) → HasLookedIn schema a b → IsLookIn schema {X = Y} (Err error) b c → IsLookIn schema (of_tables r) a c
  look_told_then Y a b c looked look = look_then tt (of_tables r) a b c looked (look_told Y b c look)

  pub cause_told : (a b : State) → ForCause a b error → IfErr (of_tables r) (ForCause a b)
  cause_told a b cause = subst (λ t. IfErr t (ForCause a b)) (sym tables_told) cause

  pub cause_told_then : {schema : Schema} (Y : Type 0) (a b c : State) → HasLookedIn schema a b → IsLookIn schema {X = Y} (Err error) b c → IfSoundIn schema b c (ForCause b c error) → IfSoundIn schema a c (IfErr (of_tables r) (ForCause a c))
  cause_told_then Y a b c looked look cause clean is_open has = cause_told a c (cause_after {X = Y} (Err error) a b c looked look.later cause clean is_open has)

-- ---- a fault of the register that an audit tells

abbrev IsSameEnd : (X : Type 0) → Result X Fault → Result X Fault → Type 0
IsSameEnd X r s = r ≡ s

abbrev IsError : (X : Type 0) → Fault → Fault → Type 0
IsError X a b = IsSameEnd X (Err a) (Err b)

err_same : (X : Type 0) (a b : Fault) → IsError X a b → a ≡ b
err_same X a b e = (cc)

module _ {X : Type 0} (fault : Fault) (r : Result X AuditFault) (is : IsErrAnd r (λ f. f ≡ Register fault)) where
  tables_not_told : of_tables r ≡ Ok tt
  tables_not_told = each r is
    where
      each : (r : Result X AuditFault) → IsErrAnd r (λ f. f ≡ Register fault) → of_tables r ≡ Ok tt
      each (Ok x) is = refl
      each (Err f) is = ap (λ f. of_tables {X = X} (Err f)) is

  fault_told : of_register r ≡ Err fault
  fault_told = each r is
    where
      each : (r : Result X AuditFault) → IsErrAnd r (λ f. f ≡ Register fault) → of_register r ≡ Err fault
      each (Ok x) is = absurd is
      each (Err f) is = ap (λ f. of_register {X = X} (Err f)) is

  pub look_before : {schema : Schema} (a b : State) → HasLookedIn schema a b → IsLookIn schema (of_tables r) a b
  look_before {schema = schema} a b look = subst (λ t. IsLookIn schema t a b) (sym tables_not_told) look

  pub no_cause : (a b : State) → IfErr (of_tables r) (ForCause a b)
  no_cause a b = subst (λ t. IfErr t (ForCause a b)) (sym tables_not_told) tt

  pub blame_taken : {Y : Type 0} (a b : View) → BlamesTaking {X = Y} (Err fault) a b → BlamesTaking (of_register r) a b
  blame_taken {Y} a b blame = subst (λ t. BlamesTaking t a b) (sym fault_told) (record { storage = λ named. blame.storage (ap Err (err_same (Unit {0}) fault Storage named)) })

-- ---- a register that was filled, and is read then

pub later_none : (a : View) → IsLater a a
later_none a = record { honest = λ honest. honest; sure = λ honest sure. sure; room = refl; device_honest = λ honest. honest; failures = omega arith }

pub done_none : (a : View) → a.stage ≡ Idle → IsDone a a
done_none a idle = record { stage = idle; sure = λ honest sure. sure; device = λ honest sure. sure }

pub later_more : (a b c : View) → IsLater a b → IsLater b c → IsLater a c
later_more a b c p q = record {
  honest = λ honest. p.honest (q.honest honest);
  sure = λ honest sure. p.sure (q.honest honest) (q.sure honest sure);
  room = q.room ∙ p.room;
  device_honest = λ honest. p.device_honest (q.device_honest honest);
  failures = (let less = p.failures in let more = q.failures in omega (arith, less, more));
}

pub done_read : (a b c : View) → IsDone a b → HasRead b c → IsDone a c
done_read a b c done read = record {
  stage = read.ok.stage ∙ done.stage;
  sure = λ honest sure. read.ok.sure honest (done.sure (read.later.honest honest) sure);
  device = λ honest sure. read.ok.device honest (done.device (read.later.device_honest honest) sure);
}

pub blame_none : {X : Type 0} (x : X) (a b : View) → BlamesTaking {X = X} (Ok x) a b
blame_none x a b = record { storage = λ is. absurd (cc) }

pub blame_told : {X : Type 0} (error : Error) (r : Result X AuditFault) → IsErrAnd r (λ f. f ≡ Tables error) → (a b : View) → BlamesTaking (of_register r) a b
blame_told error r is a b = subst (λ t. BlamesTaking t a b) (sym (register_told error r is)) (blame_none tt a b)

pub blame_read : {X : Type 0} (r : Result X Fault) (a b : View) → a.stage ≡ Idle → Blames r a b → BlamesTaking r a b
blame_read r a b idle blame = record { storage = λ is sure device honest trusted few. blame.storage is (λ failed. let clash = sym idle ∙ failed in absurd (cc)) sure device honest trusted few }
