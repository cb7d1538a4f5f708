-- Calls in a savepoint, one after another.
use Rattle.std.proofs.Common.{◌≡◌, ◌⊎◌, inl, inr, sym, ap, ◌∙◌, [], ◌∷◌, true, IsTrue, Result, Ok, Err, OnOk, OnErr, IfErr, arith}
use Rattle.sqlite.specs.declared.error.Error.{Error}
use Rattle.sqlite.specs.State.{State, HasCleanDisk}
use Rattle.sqlite.specs.Effect.{Database}
use Rattle.sql_tables.specs.Control.{Releases, mark_at}
use Rattle.sql_tables.specs.Schema.{desk_schema}
use Rattle.sql_tables.specs.Ends.{IfSound, IsLater, SaysWhy, Stays, IsSame, IsUndone, FellLooking, FellWriting, IsLook, IsWrite}
use Rattle.sql_register.specs.Settling.{IsMarked, IsLeft, IsTrial}
use Rattle.sql_tables.proofs.EndLemmas.{why_later}

pub later_then : (a b c : State) → IsLater a b → IsLater b c → IsLater a c
later_then a b c p q = record { clean = omega (arith, p.clean, q.clean); faults = omega (arith, p.faults, q.faults); limit = q.limit ∙ p.limit }

left_same : (a b : State) → a.in_transaction ≡ true → a.now.schema ≡ desk_schema → IsSame a b → IsLeft a b
left_same a b inside has same = record { is_open = same.is_open; schema = ap (λ d. d.schema) same.now ∙ has; mode = same.mode ∙ inside; committed = same.committed }

left_stays : (a b : State) → a.in_transaction ≡ true → Stays a b → IsLeft a b
left_stays a b inside s = record { is_open = s.is_open; schema = s.schema; mode = s.mode ∙ inside; committed = s.committed inside }

left_then : (a b c : State) → b.committed ≡ a.committed → IsLeft b c → IsLeft a c
left_then a b c same s = record { is_open = s.is_open; schema = s.schema; mode = s.mode; committed = s.committed ∙ same }

undone_then : (a b c : State) → b.committed ≡ a.committed → IsUndone b c → IsUndone a c
undone_then a b c same q = record { now = λ is. q.now is ∙ same; committed = λ is. q.committed is ∙ same; mode = q.mode; marks = q.marks }

pub fell_looking : (a b c : State) → b.committed ≡ a.committed → b.in_transaction ≡ true → b.now.schema ≡ desk_schema → FellLooking b c → IsLeft a c ⊎ IsUndone a c
fell_looking a b c same inside has (inl s) = inl (left_then a b c same (left_same b c inside has s))
fell_looking a b c same inside has (inr u) = inr (undone_then a b c same u)

fell_writing : (a b c : State) → b.committed ≡ a.committed → b.in_transaction ≡ true → FellWriting b c → IsLeft a c ⊎ IsUndone a c
fell_writing a b c same inside f = elim (f inside) [ inl s ↦ inl (left_then a b c same (left_stays b c inside s)) | inr u ↦ inr (undone_then a b c same u) ]

-- the tables are changed in the savepoint
pub write_marked : {X Y : Type 0} (x : X) (r : Result Y Error) (a b c : State) → IsTrial (Ok x) a b (IsMarked a b) → IsWrite r b c → IsTrial r a c (IsMarked a c)
write_marked {X = X} {Y = Y} x r a b c p q = record {
  ok = λ clean is_open has inside none. (let m = mid clean is_open has inside none in onward r (q.ok clean m.is_open m.schema) m);
  err = λ clean is_open has inside none. (let m = mid clean is_open has inside none in back r (q.err clean m.is_open m.schema) m);
  why = λ clean is_open has inside none. (let m = mid clean is_open has inside none in says r (q.why clean m.is_open m.schema) m inside);
  opened = λ clean is. p.opened (was clean) (q.opened clean is);
  later = later_then a b c p.later q.later;
}
  where
    was : HasCleanDisk c → HasCleanDisk b
    was clean = omega (arith, clean, q.later.clean)

    mid : HasCleanDisk c → IsTrue a.is_open → a.now.schema ≡ desk_schema → a.in_transaction ≡ true → a.marks ≡ [] → IsMarked a b
    mid clean is_open has inside none = p.ok (was clean) is_open has inside none

    onward : (r : Result Y Error) → OnOk r (Stays b c) → IsMarked a b → OnOk r (IsMarked a c)
    onward (Ok y) s m = record { is_open = s.is_open; schema = s.schema; mode = s.mode ∙ m.mode; marks = s.marks ∙ m.marks; committed = s.committed m.mode ∙ m.committed }
    onward (Err e) s m = tt

    back : (r : Result Y Error) → OnErr r (FellWriting b c) → IsMarked a b → OnErr r (IsLeft a c ⊎ IsUndone a c)
    back (Ok y) f m = tt
    back (Err e) f m = fell_writing a b c m.committed m.mode f

    says : (r : Result Y Error) → IfErr r (SaysWhy b c) → IsMarked a b → a.in_transaction ≡ true → IfErr r (SaysWhy a c)
    says (Ok y) h m inside = tt
    says (Err e) h m inside = why_later a b c e p.later q.later (m.mode ∙ sym inside) h

-- the savepoint is given up
pub release_trial : {X Y : Type 0} (x : X) (r : Result Y Error) (a b c : State) → IsTrial (Ok x) a b (IsMarked a b)
    → IfSound b c ((db : Database) → b.marks ≡ mark_at db ∷ [] → OnOk r (Releases b c)) → IfSound b c (OnErr r (FellLooking b c)) → IfSound b c (IfErr r (SaysWhy b c))
    → (HasCleanDisk c → IsTrue c.is_open → IsTrue b.is_open) → IsLater b c → IsTrial r a c (Stays a c)
release_trial {X = X} {Y = Y} x r a b c p does fell why opened later = record {
  ok = λ clean is_open has inside none. (let m = mid clean is_open has inside none in onward r (does clean m.is_open m.schema a.now m.marks) m inside none);
  err = λ clean is_open has inside none. (let m = mid clean is_open has inside none in back r (fell clean m.is_open m.schema) m);
  why = λ clean is_open has inside none. (let m = mid clean is_open has inside none in says r (why clean m.is_open m.schema) m inside);
  opened = λ clean is. p.opened (was clean) (opened clean is);
  later = later_then a b c p.later later;
}
  where
    was : HasCleanDisk c → HasCleanDisk b
    was clean = omega (arith, clean, later.clean)

    mid : HasCleanDisk c → IsTrue a.is_open → a.now.schema ≡ desk_schema → a.in_transaction ≡ true → a.marks ≡ [] → IsMarked a b
    mid clean is_open has inside none = p.ok (was clean) is_open has inside none

    onward : (r : Result Y Error) → OnOk r (Releases b c) → IsMarked a b → a.in_transaction ≡ true → a.marks ≡ [] → OnOk r (Stays a c)
    onward (Ok y) s m inside none = record {
      is_open = s.is_open;
      schema = ap (λ d. d.schema) s.now ∙ m.schema;
      mode = s.mode ∙ sym inside;
      marks = s.marks ∙ sym none;
      committed = λ i. s.committed ∙ m.committed;
    }
    onward (Err e) s m inside none = tt

    back : (r : Result Y Error) → OnErr r (FellLooking b c) → IsMarked a b → OnErr r (IsLeft a c ⊎ IsUndone a c)
    back (Ok y) f m = tt
    back (Err e) f m = fell_looking a b c m.committed m.mode m.schema f

    says : (r : Result Y Error) → IfErr r (SaysWhy b c) → IsMarked a b → a.in_transaction ≡ true → IfErr r (SaysWhy a c)
    says (Ok y) h m inside = tt
    says (Err e) h m inside = why_later a b c e p.later later (m.mode ∙ sym inside) h

stays_after : (a b c : State) → IsSame a b → Stays b c → Stays a c
stays_after a b c same s = record { is_open = s.is_open; schema = s.schema; mode = s.mode ∙ same.mode; marks = s.marks ∙ same.marks; committed = λ i. s.committed (same.mode ∙ i) ∙ same.committed }

-- before it something was looked up
pub look_trial : {X Y : Type 0} (x : X) (r : Result Y Error) (a b c : State) → IsLook (Ok x) a b → IsTrial r b c (Stays b c) → IsTrial r a c (Stays a c)
look_trial {X = X} {Y = Y} x r a b c p q = record {
  ok = λ clean is_open has inside none. (let m = mid clean is_open has in onward r (q.ok clean m.is_open (schema m has) (m.mode ∙ inside) (m.marks ∙ none)) m);
  err = λ clean is_open has inside none. (let m = mid clean is_open has in back r (q.err clean m.is_open (schema m has) (m.mode ∙ inside) (m.marks ∙ none)) m);
  why = λ clean is_open has inside none. (let m = mid clean is_open has in says r (q.why clean m.is_open (schema m has) (m.mode ∙ inside) (m.marks ∙ none)) m);
  opened = λ clean is. p.opened (was clean) (q.opened clean is);
  later = later_then a b c p.later q.later;
}
  where
    was : HasCleanDisk c → HasCleanDisk b
    was clean = omega (arith, clean, q.later.clean)

    mid : HasCleanDisk c → IsTrue a.is_open → a.now.schema ≡ desk_schema → IsSame a b
    mid clean is_open has = p.ok (was clean) is_open has

    schema : IsSame a b → a.now.schema ≡ desk_schema → b.now.schema ≡ desk_schema
    schema m has = ap (λ d. d.schema) m.now ∙ has

    onward : (r : Result Y Error) → OnOk r (Stays b c) → IsSame a b → OnOk r (Stays a c)
    onward (Ok y) s m = stays_after a b c m s
    onward (Err e) s m = tt

    back : (r : Result Y Error) → OnErr r (IsLeft b c ⊎ IsUndone b c) → IsSame a b → OnErr r (IsLeft a c ⊎ IsUndone a c)
    back (Ok y) f m = tt
    back (Err e) f m = elim f [ inl s ↦ inl (left_then a b c m.committed s) | inr u ↦ inr (undone_then a b c m.committed u) ]

    says : (r : Result Y Error) → IfErr r (SaysWhy b c) → IsSame a b → IfErr r (SaysWhy a c)
    says (Ok y) h m = tt
    says (Err e) h m = why_later a b c e p.later q.later m.mode h

-- the answer of a call that went well is another one
pub trial_as : {X Y : Type 0} (x : X) (y : Y) (a b : State) (ends : Type 0) → IsTrial (Ok x) a b ends → IsTrial (Ok y) a b ends
trial_as x y a b ends p = record { ok = p.ok; err = λ clean is_open has inside none. tt; why = λ clean is_open has inside none. tt; opened = p.opened; later = p.later }
