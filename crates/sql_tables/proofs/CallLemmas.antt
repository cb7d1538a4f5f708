-- Calls on the tables one after another.
use Rattle.std.proofs.Common.{◌≡◌, inl, inr, ap, ◌∙◌, IsTrue, Result, Ok, Err, OnOk, OnErr, IfErr, arith}
use Rattle.sqlite.specs.declared.error.Error.{Error}
use Rattle.sqlite.specs.State.{State, HasCleanDisk}
use Rattle.sql_tables.specs.Schema.{desk_schema}
use Rattle.sql_tables.specs.Ends.{IfSound, ForCause, IsLater, SaysWhy, Stays, IsSame, IsUndone, FellLooking, FellWriting, IsLook, IsWrite}
use Rattle.sql_tables.proofs.EndLemmas.{cause_onward, why_later}

pub later_then : (a b c : State) → IsLater a b → IsLater b c → IsLater a c
later_then a b c p q = record { clean = omega (arith, p.clean, q.clean); faults = omega (arith, p.faults, q.faults); limit = q.limit ∙ p.limit }

pub stays_then : (a b c : State) → Stays a b → Stays b c → Stays a c
stays_then a b c p q = record {
  is_open = q.is_open;
  schema = q.schema;
  mode = q.mode ∙ p.mode;
  marks = q.marks ∙ p.marks;
  committed = λ inside. q.committed (p.mode ∙ inside) ∙ p.committed inside;
}

pub same_stays : (a b : State) → a.now.schema ≡ desk_schema → IsSame a b → Stays a b
same_stays a b has same = record { is_open = same.is_open; schema = ap (λ d. d.schema) same.now ∙ has; mode = same.mode; marks = same.marks; committed = λ inside. same.committed }

undone_after : (a b c : State) → Stays a b → IsTrue a.in_transaction → IsUndone b c → IsUndone a c
undone_after a b c p inside q = record {
  now = λ is. q.now is ∙ p.committed inside;
  committed = λ is. q.committed is ∙ p.committed inside;
  mode = q.mode;
  marks = q.marks;
}

-- a call that went well, and one after it
pub write_then : {X Y : Type 0} (x : X) (r : Result Y Error) (a b c : State) → IsWrite (Ok x) a b → IsWrite r b c → IsWrite r a c
write_then {X = X} {Y = Y} x r a b c p q = record {
  ok = λ clean is_open has. onward r (q.ok clean (mid clean is_open has).is_open (mid clean is_open has).schema) (mid clean is_open has);
  err = λ clean is_open has. back r (q.err clean (mid clean is_open has).is_open (mid clean is_open has).schema) (mid clean is_open has);
  why = λ clean is_open has. says r (q.why clean (mid clean is_open has).is_open (mid clean is_open has).schema) (mid clean is_open has);
  opened = λ clean is. p.opened (was clean) (q.opened clean is);
  later = later_then a b c p.later q.later;
}
  where
    was : HasCleanDisk c → HasCleanDisk b
    was clean = omega (arith, clean, q.later.clean)

    mid : HasCleanDisk c → IsTrue a.is_open → a.now.schema ≡ desk_schema → Stays a b
    mid clean is_open has = p.ok (was clean) is_open has

    onward : (r : Result Y Error) → OnOk r (Stays b c) → Stays a b → OnOk r (Stays a c)
    onward (Ok y) s t = stays_then a b c t s
    onward (Err e) s t = tt

    back : (r : Result Y Error) → OnErr r (FellWriting b c) → Stays a b → OnErr r (FellWriting a c)
    back (Ok y) f t = tt
    back (Err e) f t = λ inside. elim (f (t.mode ∙ inside)) [ inl stays ↦ inl (stays_then a b c t stays) | inr undone ↦ inr (undone_after a b c t inside undone) ]

    says : (r : Result Y Error) → IfErr r (SaysWhy b c) → Stays a b → IfErr r (SaysWhy a c)
    says (Ok y) h t = tt
    says (Err e) h t = why_later a b c e p.later q.later t.mode h

-- a call that went well, and one after it that fails for its cause, where what it asks of the tables holds between them
pub caused_then : {X : Type 0} (x : X) (e : Error) (a b c : State) (P : Type 0) → IsWrite (Ok x) a b → IsLater b c → IfSound a b P → IfSound b c (P → ForCause b c e) → IfSound a c (ForCause a c e)
caused_then x e a b c P p later fact fails clean is_open has =
    let clean1 : HasCleanDisk b = omega (arith, clean, later.clean) in
    let mid = p.ok clean1 is_open has in
    cause_onward a b c e p.later later (fails clean mid.is_open mid.schema (fact clean1 is_open has))

-- a look is a change of nothing
pub look_write : {X : Type 0} (r : Result X Error) (a b : State) → IsLook r a b → IsWrite r a b
look_write {X = X} r a b look = record {
  ok = λ clean is_open has. onward r (look.ok clean is_open has) has;
  err = λ clean is_open has. back r (look.err clean is_open has) has;
  why = look.why;
  opened = look.opened;
  later = look.later;
}
  where
    onward : (r : Result X Error) → OnOk r (IsSame a b) → a.now.schema ≡ desk_schema → OnOk r (Stays a b)
    onward (Ok y) s has = same_stays a b has s
    onward (Err e) s has = tt

    back : (r : Result X Error) → OnErr r (FellLooking a b) → a.now.schema ≡ desk_schema → OnErr r (FellWriting a b)
    back (Ok y) f has = tt
    back (Err e) f has = λ inside. elim f [ inl same ↦ inl (same_stays a b has same) | inr undone ↦ inr undone ]

-- a call that went well, or failed, with another answer
pub write_ok : {X Y : Type 0} (x : X) (y : Y) (a b : State) → IsWrite (Ok x) a b → IsWrite (Ok y) a b
write_ok x y a b p = record { ok = p.ok; err = λ clean is_open has. tt; why = λ clean is_open has. tt; opened = p.opened; later = p.later }

pub write_err : {X Y : Type 0} (e : Error) (a b : State) → IsWrite {X = X} (Err e) a b → IsWrite {X = Y} (Err e) a b
write_err e a b p = record { ok = λ clean is_open has. tt; err = p.err; why = p.why; opened = p.opened; later = p.later }
