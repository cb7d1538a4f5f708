-- How a function of several steps ends: where a step gave no answer, and behind those that gave one.
use Rattle.std.proofs.Common.{◌≡◌, inl, ℕ, ◌<◌, ◌^◌, List, All, sum_by, IsOk, Bool, true, false, not, Option, Some, None, is_some, IfErr, IfOk, OnOk, IsTrue, Result, Ok, Err, ap, sym, subst, ◌∙◌, arith, ◌==◌, [], ◌∷◌, length, filter, refl, ◌↔◌}
use Rattle.std.specs.Prelude.{⊤}
use Rattle.std.specs.Result.{IsErrAnd}
use Rattle.sqlite.specs.Order.{Row}
use Rattle.sqlite.specs.Effect.{Database}
use Rattle.sqlite.specs.State.{State, HasCleanDisk}
use Rattle.sqlite.specs.declared.error.Error.{Error}
use Rattle.desk_rules.specs.Content.{Content}
use Rattle.desk_register.specs.declared.holding.Holding.{Holding}
use Rattle.desk_register.specs.declared.register.Fault.{Fault}
use Rattle.desk_register.specs.Looked.{IsHoldingAfter}
use Rattle.desk_register.specs.View.{HasRead, IsRead, View}
use Rattle.desk_register.proofs.ReadLemmas.{read_err, read_none, read_then}
use Rattle.sql_tables.specs.Ends.{ForCause, HasLooked, IfSound, IsLater, IsLook, IsSame, IsWrite}
use Rattle.sql_tables.specs.Audits.{of_register, of_tables}
use Rattle.sql_tables.specs.declared.fault.AuditFault.{AuditFault}
use Rattle.sql_tables.specs.declared.fault.AuditFault.TheVariants.{Register, Tables}
use Rattle.sql_tables.proofs.CallLemmas.{write_err, write_then}
use Rattle.sql_tables.proofs.EndLemmas.{cause_onward}
use Rattle.sql_tables.proofs.LookLemmas.{cause_after, look_err, look_ok, look_then}
use Rattle.sql_tables.proofs.ResultLemmas.{no_error, on_value, on_error}
use Rattle.sql_rows.specs.Held.{ShowsNumber, ShowSum, number_shown}
use Rattle.std.proofs.lemmas.Bool.{eqb-true}
use Rattle.sql_tables.specs.ByNumber.{is_above, is_below, HasNoOther}

-- a fault says nothing
pub none_told : (fault : AuditFault) (r : Result Bool AuditFault) → IsErrAnd r (λ e. e ≡ fault) → (P : Bool → Type 0) → IfOk r P
none_told fault (Ok x) is P = absurd is
none_told fault (Err e) is P = tt

-- what is so of a fault is so where it is handed on
handed : (F : Result Bool AuditFault → Type 0) (fault : AuditFault) (r : Result Bool AuditFault) → IsErrAnd r (λ e. e ≡ fault) → F (Err fault) → F r
handed F fault (Ok x) is so = absurd is
handed F fault (Err e) is so = subst (λ f. F (Err f)) (sym is) so

-- ---- the first step gave no answer

module _ (fault : AuditFault) (r : Result Bool AuditFault) (is : IsErrAnd r (λ e. e ≡ fault)) where
  pub look_first : (s0 s1 : State) → IsLook (of_tables {X = Bool} (Err fault)) s0 s1 → IsLook (of_tables r) s0 s1
  look_first s0 s1 failed = handed (λ r. IsLook (of_tables r) s0 s1) fault r is failed

  pub read_first : (v0 v1 : View) → IsRead (of_register {X = Bool} (Err fault)) v0 v1 → IsRead (of_register r) v0 v1
  read_first v0 v1 failed = handed (λ r. IsRead (of_register r) v0 v1) fault r is failed

  pub cause_first : (s0 s1 : State) → IfErr (of_tables {X = Bool} (Err fault)) (ForCause s0 s1) → IfErr (of_tables r) (ForCause s0 s1)
  cause_first s0 s1 caused = handed (λ r. IfErr (of_tables r) (ForCause s0 s1)) fault r is caused

  -- a later one did
  pub look_later : (s0 s1 s2 : State) → HasLooked s0 s1 → IsLook (of_tables {X = Bool} (Err fault)) s1 s2 → IsLook (of_tables r) s0 s2
  look_later s0 s1 s2 looked failed = look_first s0 s2 (look_then tt (of_tables {X = Bool} (Err fault)) s0 s1 s2 looked failed)

  pub read_later : (v0 v1 v2 : View) → HasRead v0 v1 → IsRead (of_register {X = Bool} (Err fault)) v1 v2 → IsRead (of_register r) v0 v2
  read_later v0 v1 v2 read failed = read_first v0 v2 (read_then v0 v1 v2 read (of_register {X = Bool} (Err fault)) failed)

  pub cause_later : (s0 s1 s2 : State) → HasLooked s0 s1 → IsLater s1 s2 → IfSound s1 s2 (IfErr (of_tables {X = Bool} (Err fault)) (ForCause s1 s2)) → IfSound s0 s2 (IfErr (of_tables r) (ForCause s0 s2))
  cause_later s0 s1 s2 looked later caused = λ clean is_open has. cause_first s0 s2 (cause_after (of_tables {X = Bool} (Err fault)) s0 s1 s2 looked later caused clean is_open has)

-- ---- the register gave none

module _ (fault : Fault) (r : Result Bool AuditFault) (is : IsErrAnd r (λ e. e ≡ Register fault)) where
  pub look_unasked : (s0 s1 : State) → HasLooked s0 s1 → IsLook (of_tables r) s0 s1
  look_unasked s0 s1 looked = handed (λ r. IsLook (of_tables r) s0 s1) (Register fault) r is looked

  pub cause_unasked : (s0 s1 : State) → IfErr (of_tables r) (ForCause s0 s1)
  cause_unasked s0 s1 = handed (λ r. IfErr (of_tables r) (ForCause s0 s1)) (Register fault) r is tt

  pub read_fault : {X : Type 0} (v0 v1 : View) → IsRead {X = X} (Err fault) v0 v1 → IsRead (of_register r) v0 v1
  read_fault {X} v0 v1 failed = handed (λ r. IsRead (of_register r) v0 v1) (Register fault) r is (read_err {X = X} fault v0 v1 failed)

  pub read_fault_later : {X : Type 0} (v0 v1 v2 : View) → HasRead v0 v1 → IsRead {X = X} (Err fault) v1 v2 → IsRead (of_register r) v0 v2
  read_fault_later {X} v0 v1 v2 read failed = read_fault {X = X} v0 v2 (read_then v0 v1 v2 read {X = X} (Err fault) failed)

-- ---- the tables gave none

module _ (e : Error) (r : Result Bool AuditFault) (is : IsErrAnd r (λ handed. handed ≡ Tables e)) where
  pub look_error : {X : Type 0} (s0 s1 : State) → IsLook {X = X} (Err e) s0 s1 → IsLook (of_tables r) s0 s1
  look_error {X} s0 s1 failed = handed (λ r. IsLook (of_tables r) s0 s1) (Tables e) r is (look_err {X = X} e s0 s1 failed)

  pub cause_error : (s0 s1 : State) → ForCause s0 s1 e → IfErr (of_tables r) (ForCause s0 s1)
  cause_error s0 s1 caused = handed (λ r. IfErr (of_tables r) (ForCause s0 s1)) (Tables e) r is caused

  pub read_unasked : (v : View) → IsRead (of_register r) v v
  read_unasked v = handed (λ r. IsRead (of_register r) v v) (Tables e) r is (read_none v)

  pub read_still : (v0 v1 : View) → HasRead v0 v1 → IsRead (of_register r) v0 v1
  read_still v0 v1 read = handed (λ r. IsRead (of_register r) v0 v1) (Tables e) r is read

-- ---- why a step gave none, where the tables are so

cause_so : (F : Database → Type 0) (r : Result ⊤ Error) (a b c : State) → HasLooked a b → IsLater b c → IfSound b c (F b.now → IfErr r (ForCause b c)) → IfSound a c (F a.now → IfErr r (ForCause a c))
cause_so F (Ok x) a b c looked later fails = λ clean is_open has so. tt
cause_so F (Err e) a b c looked later fails = λ clean is_open has so.
    let clean1 : HasCleanDisk b = (let more = later.clean in omega (arith, clean)) in
    let same : IsSame a b = looked.ok clean1 is_open has in
    cause_onward a b c e looked.later later (fails clean same.is_open (ap (λ (d : Database). d.schema) same.now ∙ has) (subst F (sym same.now) so))

pub cause_later_so : (F : Database → Type 0) (fault : AuditFault) (r : Result Bool AuditFault) → IsErrAnd r (λ e. e ≡ fault) → (a b c : State) → HasLooked a b → IsLater b c
    → IfSound b c (F b.now → IfErr (of_tables {X = Bool} (Err fault)) (ForCause b c)) → IfSound a c (F a.now → IfErr (of_tables r) (ForCause a c))
cause_later_so F fault r is a b c looked later fails = λ clean is_open has so. cause_first fault r is a c (cause_so F (of_tables {X = Bool} (Err fault)) a b c looked later fails clean is_open has so)

-- ---- a call on the tables that failed, and hands its error on

module _ {X : Type 0} (e : Error) where
  pub none_done : (r : Result X Error) → IsErrAnd r (λ handed. handed ≡ e) → (A : Type 0) → OnOk r A
  none_done (Ok x) is A = absurd is
  none_done (Err f) is A = tt

  pub no_value : (r : Result X Error) → IsErrAnd r (λ handed. handed ≡ e) → (P : X → Type 0) → IfOk r P
  no_value (Ok x) is P = absurd is
  no_value (Err f) is P = tt

  pub write_handed : {Y : Type 0} (r : Result X Error) → IsErrAnd r (λ handed. handed ≡ e) → (a b : State) → IsWrite {X = Y} (Err e) a b → IsWrite r a b
  write_handed {Y} (Ok x) is a b failed = absurd is
  write_handed {Y} (Err f) is a b failed = subst (λ f. IsWrite {X = X} (Err f) a b) (sym is) (write_err {X = Y} {Y = X} e a b failed)

  pub look_handed : {Y : Type 0} (r : Result X Error) → IsErrAnd r (λ handed. handed ≡ e) → (a b : State) → IsLook {X = Y} (Err e) a b → IsLook r a b
  look_handed {Y} (Ok x) is a b failed = absurd is
  look_handed {Y} (Err f) is a b failed = subst (λ f. IsLook {X = X} (Err f) a b) (sym is) (look_err {X = Y} {Y = X} e a b failed)

pub write_handed_then : {W X Y : Type 0} (x : W) (e : Error) (r : Result X Error) → IsErrAnd r (λ handed. handed ≡ e) → (a b c : State) → IsWrite (Ok x) a b → IsWrite {X = Y} (Err e) b c → IsWrite r a c
write_handed_then {W} {X} {Y} x e r is a b c p q = write_handed {X = X} e {Y = Y} r is a c (write_then {X = W} {Y = Y} x (Err e) a b c p q)

-- ---- a look that went well, and whatever is made of it

pub look_so : {X Y : Type 0} (x : X) (r : Result Y Error) (a b : State) → IsLook (Ok x) a b → IsLook r a b
look_so {X} {Y} x (Ok y) a b p = look_ok x y a b p
look_so {X} {Y} x (Err e) a b p = record {
  ok = λ clean is_open has. tt;
  err = λ clean is_open has. inl (p.ok clean is_open has);
  why = λ clean is_open has inside out. absurd (let same : IsSame a b = p.ok clean is_open has in let e : true ≡ false = sym inside ∙ sym same.mode ∙ out in cc);
  opened = p.opened;
  later = p.later;
}

-- ---- why a call failed that comes behind a look

pub caused_behind : {W X : Type 0} (x : W) (e : Error) (r : Result X Error) → IsErrAnd r (λ handed. handed ≡ e) → (a b c : State) (F : Database → Type 0) → IsLook (Ok x) a b → IsLater b c
    → IfSound b c (F b.now → ForCause b c e) → IfSound a c (F a.now → IfErr r (ForCause a c))
caused_behind x e r is a b c F look later fails = λ clean is_open has so.
    let clean1 : HasCleanDisk b = (let less = later.clean in omega (arith, clean)) in
    let same : IsSame a b = look.ok clean1 is_open has in
    on_error r e (ForCause a c) is (cause_onward a b c e look.later later (fails clean same.is_open (ap (λ (d : Database). d.schema) same.now ∙ has) (subst F (sym same.now) so)))

-- ---- a call of the register that failed, and hands its fault on

pub none_said : (fault : Fault) (r : Result Bool Fault) → IsErrAnd r (λ e. e ≡ fault) → (P : Bool → Type 0) → IfOk r P
none_said fault (Ok x) is P = absurd is
none_said fault (Err e) is P = tt

pub read_handed : {X : Type 0} (fault : Fault) (r : Result Bool Fault) → IsErrAnd r (λ e. e ≡ fault) → (v0 v1 : View) → IsRead {X = X} (Err fault) v0 v1 → IsRead r v0 v1
read_handed {X} fault (Ok x) is v0 v1 failed = absurd is
read_handed {X} fault (Err e) is v0 v1 failed = subst (λ f. IsRead {X = Bool} (Err f) v0 v1) (sym is) (read_err {X = X} {Y = Bool} fault v0 v1 failed)

-- ---- an account has no holding beyond those that were told

pub none_left : (content : Content) (account : List ℕ) (last : Option (List ℕ)) (beyond : Option Holding) (r : Bool) → is_some beyond ≡ not r → IsTrue r → IsHoldingAfter content account last beyond → IsHoldingAfter content account last None
none_left content account last None r is so next = next
none_left content account last (Some holding) r is so next = absurd (let e : true ≡ not true = is ∙ ap not so in cc)

-- ---- the sum of what rows show

module _ (rows given : List Row) (total : ℕ) (shown : ShowSum rows total) (same : given ≡ rows) where
  pub sum_is : (r : Result ℕ Error) → IfOk r (λ sum. sum ≡ sum_by number_shown given) → IfOk r (λ sum. sum ≡ total)
  sum_is r sum = on_value r (λ x is. is ∙ ap (sum_by number_shown) same ∙ shown.adds_up) sum

  pub sum_caused : (r : Result ℕ Error) (P : Error → Type 0) → (All ShowsNumber given → sum_by number_shown given < 2 ^ 64 → IsOk r) → total < 2 ^ 64 → IfErr r P
  sum_caused r P all fits =
      let it : ShowSum given total = subst (λ rs. ShowSum rs total) (sym same) shown in
      no_error r P (all it.numbers (subst (λ n. n < 2 ^ 64) (sym it.adds_up) fits))

-- ---- no row below 1, nor above the last

empty_of : (xs : List Row) → (length xs == 0) ≡ true → xs ≡ []
empty_of [] none = refl
empty_of (x ∷ xs) none = absurd (omega (arith, eqb-true (length (x ∷ xs)) 0 none))

pub some_other : (tree : List Row) (count : ℕ) (shown : List Row) (b : Bool) → (shown ≡ []) ↔ (filter (is_above count) tree ≡ []) → b ≡ (length shown == 0) → b ≡ false → IsTrue false ↔ HasNoOther tree count
some_other tree count shown b same is some = (
  λ no. absurd cc,
  λ none. sym some ∙ is ∙ ap (λ (xs : List Row). length xs == 0) (same.1 none.above),
)

pub none_other : (tree : List Row) (count : ℕ) (above below : List Row) (a b : Bool) → (above ≡ []) ↔ (filter (is_above count) tree ≡ []) → (below ≡ []) ↔ (filter (is_below 1) tree ≡ []) → a ≡ (length above == 0) → a ≡ true → b ≡ (length below == 0) → IsTrue b ↔ HasNoOther tree count
none_other tree count above below a b over under is_a none is_b = (
  λ yes. record { above = over.0 (empty_of above (sym is_a ∙ none)); below = under.0 (empty_of below (sym is_b ∙ yes)) },
  λ no_other. is_b ∙ ap (λ (xs : List Row). length xs == 0) (under.1 no_other.below),
)
