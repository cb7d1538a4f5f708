-- How a call ends that hands a failure on; and the steps in the savepoint of a pair.
use Rattle.std.proofs.Common.{◌≡◌, ◌∙◌, ◌⊎◌, inl, [], ◌∷◌, true, IsTrue, Result, Ok, Err, IfOk, OnOk, OnErr, IfErr, refl, ap, sym, subst, arith}
use Rattle.std.specs.Result.{IsErrAnd}
use Rattle.sqlite.specs.declared.error.Error.{Error}
use Rattle.sqlite.specs.Effect.{Database}
use Rattle.sqlite.specs.State.{State, HasCleanDisk}
use Rattle.sql_tables.specs.Control.{GoesBack, Saves, mark_at}
use Rattle.sql_tables.specs.Schema.{desk_schema}
use Rattle.sql_tables.specs.Ends.{FellLooking, IfSound, IsLater, IsLook, IsUndone, IsWrite, SaysWhy}
use Rattle.sql_tables.proofs.CallLemmas.{write_err, write_then}
use Rattle.sql_tables.proofs.LookLemmas.{look_err}
use Rattle.sql_tables.proofs.EndLemmas.{why_later}
use Rattle.sql_register.specs.Settling.{IsLeft, IsMarked, IsTrial}
use Rattle.sql_register.proofs.WithinLemmas.{fell_looking, later_then, write_marked}

module _ {X : Type 0} (r : Result X Error) (e : Error) (is : IsErrAnd r (λ handed. handed ≡ e)) where
  handed_is : r ≡ Err e
  handed_is = each r is
    where
      each : (r : Result X Error) → IsErrAnd r (λ handed. handed ≡ e) → r ≡ Err e
      each (Ok x) is = absurd is
      each (Err y) is = ap Err is

  pub no_value : (P : X → Type 0) → IfOk r P
  no_value P = subst (λ r. IfOk r P) (sym handed_is) tt

  pub not_done : (P : Type 0) → OnOk r P
  not_done P = subst (λ r. OnOk r P) (sym handed_is) tt

  pub write_handed : (Y : Type 0) (a b : State) → IsWrite {X = Y} (Err e) a b → IsWrite r a b
  write_handed Y a b write = subst (λ r. IsWrite r a b) (sym handed_is) (write_err e a b write)

  -- behind a call that went well
  pub write_fell : {Z : Type 0} (Y : Type 0) (z : Z) (a b c : State) → IsWrite (Ok z) a b → IsWrite {X = Y} (Err e) b c → IsWrite r a c
  write_fell Y z a b c first write = write_then z r a b c first (write_handed Y b c write)

  -- before any call
  pub write_none : (a : State) → IsWrite r a a
  write_none a = subst (λ r. IsWrite r a a) (sym handed_is) (record {
    ok = λ clean is_open has. tt;
    err = λ clean is_open has inside. inl (record { is_open = is_open; schema = has; mode = refl; marks = refl; committed = λ i. refl });
    why = λ clean is_open has inside out. absurd (let bad = subst IsTrue out inside in cc);
    opened = λ clean is. is;
    later = record { clean = omega arith; faults = omega arith; limit = refl };
  })

  pub look_only : (Y : Type 0) (a b : State) → IsLook {X = Y} (Err e) a b → IsLook r a b
  look_only Y a b look = subst (λ r. IsLook r a b) (sym handed_is) (look_err e a b look)

  pub trial_none : (a : State) (ends : Type 0) → IsTrial r a a ends
  trial_none a ends = subst (λ r. IsTrial r a a ends) (sym handed_is) (record {
    ok = λ clean is_open has inside none. tt;
    err = λ clean is_open has inside none. inl (record { is_open = is_open; schema = has; mode = inside; committed = refl });
    why = λ clean is_open has inside none so out. absurd (let bad = sym inside ∙ out in cc);
    opened = λ clean is. is;
    later = record { clean = omega arith; faults = omega arith; limit = refl };
  })

  pub trial_handed : (Y : Type 0) (a b : State) (before ends : Type 0) → IsTrial {X = Y} (Err e) a b before → IsTrial r a b ends
  trial_handed Y a b before ends p = subst (λ r. IsTrial r a b ends) (sym handed_is) (record { ok = λ clean is_open has inside none. tt; err = p.err; why = p.why; opened = p.opened; later = p.later })

  -- behind others in the savepoint
  pub trial_fell : {Z : Type 0} (Y : Type 0) (z : Z) (a b c : State) (ends : Type 0) → IsTrial (Ok z) a b (IsMarked a b) → IsWrite {X = Y} (Err e) b c → IsTrial r a c ends
  trial_fell Y z a b c ends marked write =
      let p = write_marked z r a b c marked (write_handed Y b c write) in
      record { ok = λ clean is_open has inside none. not_done ends; err = p.err; why = p.why; opened = p.opened; later = p.later }

-- the savepoint is set
pub save_trial : {Y : Type 0} (r : Result Y Error) (a b : State) → IfSound a b (a.in_transaction ≡ true → a.marks ≡ [] → OnOk r (Saves a b)) → IfSound a b (OnErr r (FellLooking a b)) → IfSound a b (IfErr r (SaysWhy a b))
    → (HasCleanDisk b → IsTrue b.is_open → IsTrue a.is_open) → IsLater a b → IsTrial r a b (IsMarked a b)
save_trial {Y = Y} r a b saves fell why opened later = record {
  ok = λ clean is_open has inside none. onward r (saves clean is_open has inside none) has;
  err = λ clean is_open has inside none. back r (fell clean is_open has) inside has;
  why = λ clean is_open has inside none. why clean is_open has;
  opened = opened;
  later = later;
}
  where
    onward : (r : Result Y Error) → OnOk r (Saves a b) → a.now.schema ≡ desk_schema → OnOk r (IsMarked a b)
    onward (Ok y) s has = record { is_open = s.is_open; schema = ap (λ (d : Database). d.schema) s.now ∙ has; mode = s.mode; marks = s.marks; committed = s.committed }
    onward (Err e) s has = tt

    back : (r : Result Y Error) → OnErr r (FellLooking a b) → a.in_transaction ≡ true → a.now.schema ≡ desk_schema → OnErr r (IsLeft a b ⊎ IsUndone a b)
    back (Ok y) f inside has = tt
    back (Err e) f inside has = fell_looking a a b refl inside has f

-- what was changed in it is taken back
pub back_trial : {X Y : Type 0} (x : X) (r : Result Y Error) (a b c : State) → IsTrial (Ok x) a b (IsMarked a b)
    → IfSound b c ((db : Database) → b.marks ≡ mark_at db ∷ [] → OnOk r (GoesBack b c db)) → IfSound b c (OnErr r (FellLooking b c)) → IfSound b c (IfErr r (SaysWhy b c))
    → (HasCleanDisk c → IsTrue c.is_open → IsTrue b.is_open) → IsLater b c → IsTrial r a c (IsMarked a c)
back_trial {X = X} {Y = Y} x r a b c p does fell why opened later = record {
  ok = λ clean is_open has inside none. (let m = mid clean is_open has inside none in onward r (does clean m.is_open m.schema a.now m.marks) m has);
  err = λ clean is_open has inside none. (let m = mid clean is_open has inside none in back r (fell clean m.is_open m.schema) m);
  why = λ clean is_open has inside none. (let m = mid clean is_open has inside none in says r (why clean m.is_open m.schema) m inside);
  opened = λ clean is. p.opened (was clean) (opened clean is);
  later = later_then a b c p.later later;
}
  where
    was : HasCleanDisk c → HasCleanDisk b
    was clean = omega (arith, clean, later.clean)

    mid : HasCleanDisk c → IsTrue a.is_open → a.now.schema ≡ desk_schema → a.in_transaction ≡ true → a.marks ≡ [] → IsMarked a b
    mid clean is_open has inside none = p.ok (was clean) is_open has inside none

    onward : (r : Result Y Error) → OnOk r (GoesBack b c a.now) → IsMarked a b → a.now.schema ≡ desk_schema → OnOk r (IsMarked a c)
    onward (Ok y) s m has = record {
      is_open = s.is_open;
      schema = ap (λ (d : Database). d.schema) s.now ∙ has;
      mode = s.mode;
      marks = s.marks;
      committed = s.committed ∙ m.committed;
    }
    onward (Err e) s m has = tt

    back : (r : Result Y Error) → OnErr r (FellLooking b c) → IsMarked a b → OnErr r (IsLeft a c ⊎ IsUndone a c)
    back (Ok y) f m = tt
    back (Err e) f m = fell_looking a b c m.committed m.mode m.schema f

    says : (r : Result Y Error) → IfErr r (SaysWhy b c) → IsMarked a b → a.in_transaction ≡ true → IfErr r (SaysWhy a c)
    says (Ok y) h m inside = tt
    says (Err e) h m inside = why_later a b c e p.later later (m.mode ∙ sym inside) h
