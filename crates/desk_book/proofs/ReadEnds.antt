-- How a call ends that only reads, with no `begin` open.
use Rattle.std.proofs.Common.{◌≡◌, Option, Some, None, List, ℕ, sym, ◌∙◌, ap, subst}
use Rattle.std.specs.Prelude.{Result, Ok, Err, IfOk, IfErr}
use Rattle.std.specs.Result.{IsErrAnd}
use Rattle.desk_msg.specs.declared.writing.statement_row.SinkFault.TheVariants as sinks
use Rattle.desk_rules.specs.declared.answers.reply.Reply.{Reply}
use Rattle.desk_rules.specs.declared.answers.verdict.Refusal.TheVariants.{NoSuchInstruction}
use Rattle.desk_rules.specs.declared.history.entry.Entry.{Entry}
use Rattle.desk_rules.specs.declared.history.entry.Sender.TheVariants.{Participant as FromParticipant}
use Rattle.desk_rules.specs.Books.{Books}
use Rattle.desk_rules.specs.Content.{Content, history_of}
use Rattle.desk_rules.specs.History.{entry_at, number_of_key}
use Rattle.desk_rules.specs.Questions.{entry_reply, message_reply, named_reply, refused_question}
use Rattle.desk_rules.specs.Refusals.{number_of_refusal}
use Rattle.desk_register.specs.declared.fault.WalkFault.{WalkFault}
use Rattle.desk_register.specs.declared.fault.WalkFault.TheVariants as walks
use Rattle.desk_register.specs.declared.register.Fault.{Fault}
use Rattle.desk_register.specs.declared.register.Fault.TheVariants.{Memory, Storage}
use Rattle.desk_register.specs.declared.register.Stage.TheVariants.{Idle}
use Rattle.desk_register.specs.Ends.{at_register, broken_off}
use Rattle.desk_register.specs.View.{View, HasRead, IsRead, fallen}
use Rattle.desk_register.proofs.ReadLemmas.{read_err}
use Rattle.desk_register.proofs.ReadingLemmas.{read_so}
use Rattle.desk_register.proofs.ViewLemmas.{blames_memory}
use Rattle.desk_engine.specs.Applied.{Keeps}
use Rattle.desk_engine.proofs.KeptLemmas.{kept_in}
use Rattle.desk_book.specs.Answered.{number_used}
use Rattle.desk_book.proofs.TellingLemmas.{walk_then}

-- reading calls that went well, after which memory may have been short
pub memory_after : {X : Type 0} (r : Result X Fault) (v0 v1 : View) → HasRead v0 v1 → v0.stage ≡ Idle → IfErr r (λ fault. fault ≡ Memory) → IsRead r v0 v1
memory_after (Ok x) v0 v1 h idle is = read_so v0 v1 h x
memory_after (Err fault) v0 v1 h idle is = record {
  same = λ honest sure. tt;
  ok = tt;
  err = record {
    stage = h.ok.stage ∙ idle ∙ ap fallen (sym idle);
    mark = λ honest sure. h.ok.mark honest (h.later.sure honest sure);
    content = λ honest sure at. h.same honest (h.later.sure honest sure);
  };
  later = h.later;
  blame = blames_memory fault v0 v1 is;
}

-- reading calls that went well, after which the sink failed
pub sink_after : {X : Type 0} (fault : WalkFault) (r : Result X WalkFault) (v0 v1 : View) → IsErrAnd r (λ broken. broken ≡ fault) → fault ≡ walks.Sink sinks.Write → HasRead v0 v1 → IsRead (at_register r) v0 v1
sink_after fault (Ok x) v0 v1 is sink h = absurd is
sink_after {X} fault (Err broken) v0 v1 is sink h = subst (λ z. IsRead (at_register {X = X} (Err z)) v0 v1) (sym (is ∙ sink)) (read_so v0 v1 h tt)

-- reading calls that went well, and then a walk that broke off
pub walk_after : {X : Type 0} (Y : Type 0) (fault : WalkFault) (r : Result X WalkFault) (v0 v1 v2 : View) → IsErrAnd r (λ broken. broken ≡ fault) → HasRead v0 v1 → IsRead (at_register {X = Y} (Err fault)) v1 v2
    → IsRead (at_register r) v0 v2
walk_after Y fault (Ok x) v0 v1 v2 is h read = absurd is
walk_after {X} Y fault (Err broken) v0 v1 v2 is h read =
    subst (λ z. IsRead (at_register {X = X} (Err z)) v0 v2) (sym is) (as_well fault (walk_then {X = Y} (Err fault) v0 v1 v2 h read))
  where
    as_well : (f : WalkFault) → IsRead (at_register {X = Y} (Err f)) v0 v2 → IsRead (at_register {X = X} (Err f)) v0 v2
    as_well (walks.Sink s) q = q
    as_well walks.Memory q = q
    as_well walks.Storage q = q

-- a reading call that failed, as the fault of a walk
pub fault_after : {X : Type 0} (Y : Type 0) (fault : Fault) (r : Result X WalkFault) (v0 v1 : View) → IsErrAnd r (λ broken. broken ≡ broken_off fault) → IsRead {X = Y} (Err fault) v0 v1 → IsRead (at_register r) v0 v1
fault_after Y fault (Ok x) v0 v1 is read = absurd is
fault_after {X} Y fault (Err broken) v0 v1 is read = subst (λ z. IsRead (at_register {X = X} (Err z)) v0 v1) (sym is) (as_walk fault read)
  where
    as_walk : (f : Fault) → IsRead {X = Y} (Err f) v0 v1 → IsRead (at_register {X = X} (Err (broken_off f))) v0 v1
    as_walk Memory q = read_err {X = Y} {Y = Unit {0}} Memory v0 v1 q
    as_walk Storage q = read_err {X = Y} {Y = Unit {0}} Storage v0 v1 q

-- what is told is this reply as well
pub told_as : (r : Result Reply Fault) (one other : Reply) → IfOk r (λ reply. reply ≡ one) → one ≡ other → IfOk r (λ reply. reply ≡ other)
told_as (Ok reply) one other is same = is ∙ same
told_as (Err fault) one other is same = is

-- what is kept is so after reading calls
pub kept_after : (v0 v1 : View) (books : Books) → HasRead v0 v1 → v1.is_honest → v0.is_sure → Keeps v0.room books v0.content → Keeps v1.room books v1.content
kept_after v0 v1 books h honest sure keeps = kept_in v0.room v1.room books v0.content v1.content h.later.room (h.same honest sure) keeps

-- what stands under a reference that a participant used
pub none_asked : (books : Books) (sender : List ℕ) (asked : Option (List ℕ)) → asked ≡ None → refused_question (number_of_refusal NoSuchInstruction) ≡ named_reply books (number_used books.history sender asked)
none_asked books sender asked none = ap (λ o. named_reply books (number_used books.history sender o)) (sym none)

module _ (books : Books) (content : Content) (history : history_of content ≡ books.history) (sender : List ℕ) (asked : Option (List ℕ)) (reference : List ℕ) (is : asked ≡ Some reference) (found : Option ℕ)
    (key : found ≡ number_of_key (history_of content) (FromParticipant sender) reference) where
  used : number_used books.history sender asked ≡ found
  used = ap (number_used books.history sender) is ∙ ap (λ h. number_of_key h (FromParticipant sender) reference) (sym history) ∙ sym key

  pub none_named : found ≡ None → refused_question (number_of_refusal NoSuchInstruction) ≡ named_reply books (number_used books.history sender asked)
  none_named none = sym (ap (named_reply books) (used ∙ none))

  module _ (number : ℕ) (one : found ≡ Some number) (later : Content) (same : later ≡ content) (entry : Option Entry) (at : entry ≡ entry_at (history_of later) number) where
    stands : named_reply books (number_used books.history sender asked) ≡ entry_reply books number entry
    stands = ap (named_reply books) (used ∙ one) ∙ ap (entry_reply books number) (ap (λ h. entry_at h number) (sym (ap history_of same ∙ history)) ∙ sym at)

    pub none_there : entry ≡ None → refused_question (number_of_refusal NoSuchInstruction) ≡ named_reply books (number_used books.history sender asked)
    none_there none = sym (stands ∙ ap (entry_reply books number) none)

    pub message_there : (e : Entry) → entry ≡ Some e → message_reply books number e ≡ named_reply books (number_used books.history sender asked)
    message_there e there = sym (stands ∙ ap (entry_reply books number) there)
