-- A look at the messages after others that went well.
use Rattle.std.proofs.Common.{◌≡◌, ℕ, ◌<◌, ◌^◌, IsErrAnd, IfErr, IsTrue, List, Ok, Err, Result, sym, ap, subst, ◌∙◌, arith}
use Rattle.sqlite.specs.State.{State, HasCleanDisk}
use Rattle.sqlite.specs.Effect.{Database}
use Rattle.sqlite.specs.declared.error.Error.{Error}
use Rattle.desk_rules.specs.declared.answers.reply.Sent.{Sent}
use Rattle.sql_tables.specs.Schema.{desk_schema}
use Rattle.sql_tables.specs.Ends.{ForCause, HasLooked, IfSound, IsLater, IsLook}
use Rattle.sql_tables.proofs.EndLemmas.{cause_onward}
use Rattle.sql_tables.proofs.LookLemmas.{look_err, look_then}
use Rattle.sql_rows.specs.Messages.{AreSent}
use Rattle.sql_rows.proofs.SentWalkLemmas.{HasPassed}

-- the connection is open still, over the desk's tables, which say what they said
pub record AreSentStill (s : State) (messages : List Sent) : Type 0 where
  pub is_open : IsTrue s.is_open
  pub schema : s.now.schema ≡ desk_schema
  pub sent : AreSent s.now messages

pub sent_still : {X : Type 0} (x : X) (s0 s1 s2 : State) → IsLook (Ok x) s0 s1 → IsLater s1 s2 → HasCleanDisk s2 → IsTrue s0.is_open → s0.now.schema ≡ desk_schema → (messages : List Sent) → AreSent s0.now messages → AreSentStill s1 messages
sent_still x s0 s1 s2 look later clean is_open has messages are =
    let clean1 : HasCleanDisk s1 = omega (arith, clean, later.clean) in
    let same = look.ok clean1 is_open has in
    record { is_open = same.is_open; schema = ap (λ (d : Database). d.schema) same.now ∙ has; sent = subst (λ (d : Database). AreSent d messages) (sym same.now) are }

-- so many messages to a participant were passed, up to a number
pub record StandsAt (s : State) (messages : List Sent) (bic : List ℕ) (number place : ℕ) : Type 0 where
  pub still : AreSentStill s messages
  pub passed : HasPassed messages bic number place
  pub small : number < 2 ^ 63

pub stands_at : (s0 s1 s2 : State) → HasLooked s0 s1 → IsLater s1 s2 → (bic : List ℕ) (number place : ℕ) → IfSound s0 s1 ((messages : List Sent) → AreSent s0.now messages → HasPassed messages bic number place)
    → HasCleanDisk s2 → IsTrue s0.is_open → s0.now.schema ≡ desk_schema → (messages : List Sent) → AreSent s0.now messages → StandsAt s1 messages bic number place
stands_at s0 s1 s2 look later bic number place walked clean is_open has messages are =
    let clean1 : HasCleanDisk s1 = omega (arith, clean, later.clean) in
    let passed = walked clean1 is_open has messages are in
    record { still = sent_still tt s0 s1 s2 look later clean is_open has messages are; passed = passed; small = omega (arith, passed.within, are.few) }

pub look_failed : {X Y : Type 0} (e : Error) (r : Result X Error) → IsErrAnd r (λ handed. handed ≡ e) → (s0 s1 s2 : State) → HasLooked s0 s1 → IsLook {X = Y} (Err e) s1 s2 → IsLook r s0 s2
look_failed {X = X} e (Ok x) handed s0 s1 s2 before look = absurd handed
look_failed {X = X} e (Err y) handed s0 s1 s2 before look = subst (λ z. IsLook {X = X} (Err z) s0 s2) (sym handed) (look_err e s0 s2 (look_then tt (Err e) s0 s1 s2 before look))

pub caused_later : {X : Type 0} (r : Result X Error) (s0 s1 s2 : State) → IsLater s0 s1 → IsLater s1 s2 → IfErr r (ForCause s1 s2) → IfErr r (ForCause s0 s2)
caused_later (Ok x) s0 s1 s2 before later caused = tt
caused_later (Err e) s0 s1 s2 before later caused = cause_onward s0 s1 s2 e before later caused
