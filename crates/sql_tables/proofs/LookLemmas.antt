-- One look at the tables after another.
use Rattle.std.proofs.Common.{◌≡◌, inl, inr, refl, sym, ap, subst, ◌∙◌, IsTrue, Result, Ok, Err, OnOk, OnErr, IfErr, arith}
use Rattle.std.specs.Result.{IsErrAnd}
use Rattle.std.proofs.lemmas.Bool.{both_ways}
use Rattle.sqlite.specs.declared.error.Error.{Error}
use Rattle.sqlite.specs.State.{State, HasCleanDisk}
use Rattle.sqlite.specs.Schema.{Schema}
use Rattle.sql_tables.specs.Ends.{ForCause, IfSoundIn, IsLater, SaysWhy, IsSame, IsUndone, FellLooking, IsLookIn, HasLookedIn}
use Rattle.sql_tables.proofs.CallLemmas.{later_then}
use Rattle.sql_tables.proofs.EndLemmas.{cause_onward, why_later}

same_then : (a b c : State) → IsSame a b → IsSame b c → IsSame a c
same_then a b c p q = record { is_open = q.is_open; now = q.now ∙ p.now; committed = q.committed ∙ p.committed; mode = q.mode ∙ p.mode; marks = q.marks ∙ p.marks }

undone_then : (a b c : State) → IsSame a b → IsUndone b c → IsUndone a c
undone_then a b c p q = record { now = λ is. q.now is ∙ p.committed; committed = λ is. q.committed is ∙ p.committed; mode = q.mode; marks = q.marks }

-- a look that went well, and one after it
pub look_then : {schema : Schema} {X Y : Type 0} (x : X) (r : Result Y Error) (a b c : State) → IsLookIn schema (Ok x) a b → IsLookIn schema r b c → IsLookIn schema r a c
look_then {schema = schema} {X = X} {Y = Y} x r a b c p q = record {
  ok = λ clean is_open has. onward r (q.ok clean (mid clean is_open has).is_open (stands clean is_open has)) (mid clean is_open has);
  err = λ clean is_open has. back r (q.err clean (mid clean is_open has).is_open (stands clean is_open has)) (mid clean is_open has);
  why = λ clean is_open has. says r (q.why clean (mid clean is_open has).is_open (stands clean is_open has)) (mid clean is_open has);
  opened = λ clean is. p.opened (was clean) (q.opened clean is);
  later = later_then a b c p.later q.later;
}
  where
    was : HasCleanDisk c → HasCleanDisk b
    was clean = omega (arith, clean, q.later.clean)

    mid : HasCleanDisk c → IsTrue a.is_open → a.now.schema ≡ schema → IsSame a b
    mid clean is_open has = p.ok (was clean) is_open has

    stands : HasCleanDisk c → IsTrue a.is_open → a.now.schema ≡ schema → b.now.schema ≡ schema
    stands clean is_open has = ap (λ d. d.schema) (mid clean is_open has).now ∙ has

    onward : (r : Result Y Error) → OnOk r (IsSame b c) → IsSame a b → OnOk r (IsSame a c)
    onward (Ok y) s t = same_then a b c t s
    onward (Err e) s t = tt

    back : (r : Result Y Error) → OnErr r (FellLooking b c) → IsSame a b → OnErr r (FellLooking a c)
    back (Ok y) f t = tt
    back (Err e) f t = elim f [ inl same ↦ inl (same_then a b c t same) | inr undone ↦ inr (undone_then a b c t undone) ]

    says : (r : Result Y Error) → IfErr r (SaysWhy b c) → IsSame a b → IfErr r (SaysWhy a c)
    says (Ok y) h t = tt
    says (Err e) h t = why_later a b c e p.later q.later t.mode h

-- a look that went well, or failed, with another answer
pub look_ok : {schema : Schema} {X Y : Type 0} (x : X) (y : Y) (a b : State) → IsLookIn schema (Ok x) a b → IsLookIn schema (Ok y) a b
look_ok x y a b p = record { ok = p.ok; err = λ clean is_open has. tt; why = λ clean is_open has. tt; opened = p.opened; later = p.later }

pub look_err : {schema : Schema} {X Y : Type 0} (e : Error) (a b : State) → IsLookIn schema {X = X} (Err e) a b → IsLookIn schema {X = Y} (Err e) a b
look_err e a b p = record { ok = λ clean is_open has. tt; err = p.err; why = p.why; opened = p.opened; later = p.later }

-- whatever is made of what it showed
pub look_after : {schema : Schema} {X Y : Type 0} (x : X) (r : Result Y Error) (a b : State) → IsLookIn schema (Ok x) a b → IsLookIn schema r a b
look_after {Y = Y} x r a b p = record { ok = λ clean is_open has. went r (p.ok clean is_open has); err = λ clean is_open has. fell r (p.ok clean is_open has); why = λ clean is_open has. says r (p.ok clean is_open has); opened = p.opened; later = p.later }
  where
    went : (r : Result Y Error) → IsSame a b → OnOk r (IsSame a b)
    went (Ok y) same = same
    went (Err e) same = tt

    fell : (r : Result Y Error) → IsSame a b → OnErr r (FellLooking a b)
    fell (Ok y) same = tt
    fell (Err e) same = inl same

    says : (r : Result Y Error) → IsSame a b → IfErr r (SaysWhy a b)
    says (Ok y) same = tt
    says (Err e) same = λ inside out. absurd (both_ways _ (sym same.mode ∙ out) inside)

-- a look that failed, and hands its failure on
pub look_passed : {schema : Schema} (X : Type 0) {Y : Type 0} (e : Error) (r : Result Y Error) → IsErrAnd r (λ f. f ≡ e) → (a b : State) → IsLookIn schema {X = X} (Err e) a b → IsLookIn schema r a b
look_passed X e (Ok y) is a b look = absurd is
look_passed {schema = schema} X {Y = Y} e (Err f) is a b look = subst (λ x. IsLookIn schema {X = Y} (Err x) a b) (sym is) (look_err e a b look)

-- nothing was asked yet
pub look_none : {schema : Schema} {X : Type 0} (x : X) (a : State) → IsLookIn schema (Ok x) a a
look_none x a = record {
  ok = λ clean is_open has. record { is_open = is_open; now = refl; committed = refl; mode = refl; marks = refl };
  err = λ clean is_open has. tt;
  why = λ clean is_open has. tt;
  opened = λ clean is. is;
  later = record { clean = omega arith; faults = omega arith; limit = refl };
}

-- one look more
pub look_more : {schema : Schema} {X : Type 0} (x : X) (a b c : State) → HasLookedIn schema a b → IsLookIn schema (Ok x) b c → HasLookedIn schema a c
look_more x a b c p q = look_ok x tt a c (look_then tt (Ok x) a b c p q)

-- a look that fails for its cause, behind others
pub cause_after : {schema : Schema} {X : Type 0} (r : Result X Error) (a b c : State) → HasLookedIn schema a b → IsLater b c → IfSoundIn schema b c (IfErr r (ForCause b c)) → IfSoundIn schema a c (IfErr r (ForCause a c))
cause_after (Ok x) a b c looked later fails clean is_open has = tt
cause_after (Err e) a b c looked later fails clean is_open has =
    let clean1 : HasCleanDisk b = omega (arith, clean, later.clean) in
    let same = looked.ok clean1 is_open has in
    cause_onward a b c e looked.later later (fails clean same.is_open (ap (λ d. d.schema) same.now ∙ has))
