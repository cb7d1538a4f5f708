-- What is looked up among messages is one that the desk can write, where each of them is.
use Rattle.std.proofs.Common.{inl, inr, ℕ, zero, suc, Bool, List, [], ◌∷◌, bytes_eq, filter, IfSome, slice_get}
use Rattle.std.proofs.lemmas.Bool.{cases_Bool}
use Rattle.std.specs.List.{AllByRecursion, find}
use Rattle.desk_rules.specs.declared.answers.reply.Sent.{Sent}
use Rattle.desk_rules.specs.Questions.{sent_at}
use Rattle.sql_rows.specs.Messages.{IsSendable, sent_to}

pub found_sendable : (test : Sent → Bool) (messages : List Sent) → AllByRecursion IsSendable messages → IfSome (find test messages) IsSendable
found_sendable test [] all = tt
found_sendable test (message ∷ more) all = elim (cases_Bool (test message)) [
  | inl is ↦ rw is all.0
  | inr is ↦ rw is (found_sendable test more all.1)
]

kept_sendable : (test : Sent → Bool) (messages : List Sent) → AllByRecursion IsSendable messages → AllByRecursion IsSendable (filter test messages)
kept_sendable test [] all = tt
kept_sendable test (message ∷ more) all = elim (cases_Bool (test message)) [
  | inl is ↦ rw is (all.0, kept_sendable test more all.1)
  | inr is ↦ rw is (kept_sendable test more all.1)
]

got_sendable : (messages : List Sent) (n : ℕ) → AllByRecursion IsSendable messages → IfSome (slice_get messages n) IsSendable
got_sendable [] n all = tt
got_sendable (message ∷ more) zero all = all.0
got_sendable (message ∷ more) (suc n) all = got_sendable more n all.1

at_sendable : (messages : List Sent) (place : ℕ) → AllByRecursion IsSendable messages → IfSome (sent_at messages place) IsSendable
at_sendable messages zero all = tt
at_sendable messages (suc n) all = got_sendable messages n all

pub sent_sendable : (messages : List Sent) (bic : List ℕ) (place : ℕ) → AllByRecursion IsSendable messages → IfSome (sent_at (sent_to messages bic) place) IsSendable
sent_sendable messages bic place all = at_sendable (sent_to messages bic) place (kept_sendable (λ message. bytes_eq message.bic bic) messages all)
