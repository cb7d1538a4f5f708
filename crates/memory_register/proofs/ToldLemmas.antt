-- The sent messages through the calls of the register.
use Rattle.std.proofs.Common.{◌≡◌, ◌≢◌, ℕ, ◌+◌, List, [], ◌∷◌, ◌++◌, length, map, refl, ap, sym, ◌∙◌, subst, append_assoc}
use Rattle.std.specs.Prelude.{Result, Ok, Err, OnOk, OnErr, IfOk}
use Rattle.std.proofs.lemmas.List.{length-map, map-append}
use Rattle.desk_rules.specs.declared.history.entry.Instructed.{Instructed}
use Rattle.desk_rules.specs.declared.answers.reply.Sent.{Sent}
use Rattle.desk_rules.specs.declared.history.pair.Lack.TheVariants.{Securities, Money as LacksMoney}
use Rattle.desk_rules.specs.Content.{Content}
use Rattle.desk_register.specs.declared.register.Fault.{Fault}
use Rattle.desk_register.specs.declared.register.Stage.TheVariants.{Idle, Begun, Failed}
use Rattle.desk_register.specs.declared.outcome.Outcome.{Outcome}
use Rattle.desk_register.specs.declared.outcome.Outcome.TheVariants as outcomes
use Rattle.desk_register.specs.declared.outcome.Outcome.TheVariants.{Lacks}
use Rattle.desk_register.specs.Changes.{TriesPair, TriesSides, with_sent}
use Rattle.desk_register.specs.View.{View, Begins, Stays, Falls, IsRead, fallen}
use Rattle.memory_rows.specs.declared.rows.Rows.{Rows}
use Rattle.memory_rows.specs.RowsView.{view_of_rows}
use Rattle.memory_register.specs.declared.sent.heading.Heading.{Heading}
use Rattle.memory_register.specs.declared.sent.messages.Messages.{Messages}
use Rattle.memory_register.specs.Headings.{heading_of, headings_of}
use Rattle.memory_register.specs.Messages.{AreMessagesOf, IsTold}
use Rattle.memory_register.proofs.IndexedLemmas.{append_nothing, begun_is_not_failed, begun_is_not_idle, fallen_idle, idle_is_not_failed, not_fallen}

module _ (messages : Messages) (told : List Heading) (old new : View) (has : IsTold old messages told) where
  marked_still : new.mark ≡ old.mark → AreMessagesOf messages (headings_of new.mark ++ told)
  marked_still mark = subst (λ m. AreMessagesOf messages (headings_of m ++ told)) (sym mark) has.marked

  -- after a call that failed
  pub fell : new.stage ≡ fallen old.stage → new.mark ≡ old.mark → (old.stage ≡ Idle → new.content ≡ old.content) → IsTold new messages told
  fell stage mark content = record {
    idle = λ idle. has.idle (fallen_idle old.stage new.stage stage idle);
    marked = marked_still mark;
    grown = λ up. let was = not_fallen old.stage new.stage stage up in ap headings_of (content was) ∙ has.grown (idle_is_not_failed old.stage was) ∙ ap (λ m. headings_of m ++ told) (sym mark);
  }

  -- after a call that sent nothing
  pub stayed : new.stage ≡ old.stage → new.mark ≡ old.mark → headings_of new.content ≡ headings_of old.content → IsTold new messages told
  stayed stage mark same = record {
    idle = λ idle. has.idle (sym stage ∙ idle);
    marked = marked_still mark;
    grown = λ up. same ∙ has.grown (λ failed. up (stage ∙ failed)) ∙ ap (λ m. headings_of m ++ told) (sym mark);
  }

  begun : old.stage ≡ Idle → new.stage ≡ Begun → new.mark ≡ old.content → new.content ≡ old.content → IsTold new messages told
  begun idle stage mark content =
      let none = has.idle idle in
      let whole = has.grown (idle_is_not_failed old.stage idle) in
      let same : headings_of new.mark ++ told ≡ headings_of old.mark ++ told = ap (λ m. headings_of m ++ told) mark ∙ ap (λ z. headings_of old.content ++ z) none ∙ append_nothing (headings_of old.content) ∙ whole in
      record {
        idle = λ is. absurd (begun_is_not_idle new.stage stage is);
        marked = subst (AreMessagesOf messages) (sym same) has.marked;
        grown = λ up. ap headings_of content ∙ whole ∙ sym same;
      }

  -- what was changed is kept: what is found is what is held
  pub kept_messages : old.stage ≢ Failed → new.content ≡ old.content → AreMessagesOf messages (headings_of new.content)
  kept_messages up content = subst (AreMessagesOf messages) (sym (ap headings_of content ∙ has.grown up)) has.marked

-- what is found is what is held, where no call has failed
pub now_told : (messages : Messages) (told : List Heading) (view : View) → view.stage ≢ Failed → IsTold view messages told → AreMessagesOf messages (headings_of view.content)
now_told messages told view up has = subst (AreMessagesOf messages) (sym (has.grown up)) has.marked

-- with no `begin` open, by what is held alone
pub told_idle : (messages : Messages) (told : List Heading) (new : View) → new.mark ≡ new.content → told ≡ [] → AreMessagesOf messages (headings_of new.content) → IsTold new messages told
told_idle messages told new mark none are =
    let same : headings_of new.mark ++ told ≡ headings_of new.content = ap (λ m. headings_of m ++ told) mark ∙ ap (λ z. headings_of new.content ++ z) none ∙ append_nothing (headings_of new.content) in
    record { idle = λ is. none; marked = subst (AreMessagesOf messages) (sym same) are; grown = λ up. sym same }

-- after a failure: of the messages some may be found that are not told
pub told_failed : (messages messages' : Messages) (told told' : List Heading) (old new : View) → new.stage ≡ Failed → new.mark ≡ old.mark → told' ≡ told
    → (AreMessagesOf messages (headings_of old.mark ++ told) → AreMessagesOf messages' (headings_of old.mark ++ told)) → IsTold old messages told → IsTold new messages' told'
told_failed messages messages' told told' old new failed mark same kept has = record {
  idle = λ idle. let bad = sym failed ∙ idle in cc;
  marked = subst (AreMessagesOf messages') (ap (λ z. headings_of old.mark ++ z) (sym same) ∙ ap (λ m. headings_of m ++ told') (sym mark)) (kept has.marked);
  grown = λ up. absurd (up failed);
}

-- By a call's result.

module _ (messages : Messages) (told : List Heading) (old new : Rows) (has : IsTold (view_of_rows old) messages told) where
  pub told_begin : (view_of_rows old).stage ≡ Idle → Begins (view_of_rows old) (view_of_rows new) → IsTold (view_of_rows new) messages told
  told_begin idle begins = begun messages told (view_of_rows old) (view_of_rows new) has idle begins.stage (begins.mark tt tt) (begins.content tt tt)

  -- a reading call
  pub told_read : {T : Type 0} (r : Result T Fault) → IsRead r (view_of_rows old) (view_of_rows new) → IsTold (view_of_rows new) messages told
  told_read (Ok x) read = stayed messages told (view_of_rows old) (view_of_rows new) has read.ok.stage (read.ok.mark tt tt) (ap headings_of (read.same tt tt))
  told_read (Err f) read = fell messages told (view_of_rows old) (view_of_rows new) has read.err.stage (read.err.mark tt tt) (read.err.content tt tt)

  -- a call that sends nothing
  pub told_apart : {T : Type 0} (r : Result T Fault) (make : Content → Content) → ((c : Content) → (make c).sent ≡ c.sent) → OnOk r ((view_of_rows new).content ≡ make (view_of_rows old).content)
      → OnOk r (Stays (view_of_rows old) (view_of_rows new)) → OnErr r (Falls (view_of_rows old) (view_of_rows new)) → IsTold (view_of_rows new) messages told
  told_apart (Ok x) make same made ok err = stayed messages told (view_of_rows old) (view_of_rows new) has ok.stage (ok.mark tt tt) (ap (map heading_of) (ap (λ c. c.sent) made ∙ same (view_of_rows old).content))
  told_apart (Err f) make same made ok err = fell messages told (view_of_rows old) (view_of_rows new) has err.stage (err.mark tt tt) (err.content tt tt)

  sides_apart : (n m : ℕ) (earlier later : Instructed) (outcome : Outcome) (was is : Content) → TriesSides was n m earlier later outcome is → is.sent ≡ was.sent
  sides_apart n m earlier later outcomes.Settled was is ends = ap (λ c. c.sent) ends.2
  sides_apart n m earlier later (Lacks Securities) was is ends = ap (λ c. c.sent) ends.1
  sides_apart n m earlier later (Lacks LacksMoney) was is ends = ap (λ c. c.sent) ends.2

  pub told_settled : (r : Result Outcome Fault) (n : ℕ) → IfOk r (λ outcome. TriesPair (view_of_rows old).content n outcome (view_of_rows new).content)
      → OnOk r (Stays (view_of_rows old) (view_of_rows new)) → OnErr r (Falls (view_of_rows old) (view_of_rows new)) → IsTold (view_of_rows new) messages told
  told_settled (Ok outcome) n settles ok err =
      stayed messages told (view_of_rows old) (view_of_rows new) has ok.stage (ok.mark tt tt)
      (ap (map heading_of) (sides_apart n settles.mate settles.earlier settles.later outcome (view_of_rows old).content (view_of_rows new).content settles.ends))
  told_settled (Err f) n settles ok err = fell messages told (view_of_rows old) (view_of_rows new) has err.stage (err.mark tt tt) (err.content tt tt)

  -- what was begun fails
  pub told_fails : (view_of_rows new).stage ≡ Failed → (view_of_rows new).mark ≡ (view_of_rows old).mark → IsTold (view_of_rows new) messages told
  told_fails failed mark = told_failed messages messages told told (view_of_rows old) (view_of_rows new) failed mark refl (λ are. are) has

-- One message more.

module _ (messages : Messages) (told : List Heading) (view : View) (stage : view.stage ≡ Begun) (has : IsTold view messages told) where
  pub next_message : (n : ℕ) → n ≡ length view.content.sent → n + 1 ≡ length (headings_of view.mark ++ told) + 1
  next_message n is = ap (λ z. z + 1) (is ∙ sym (length-map view.content.sent heading_of) ∙ ap length (has.grown (begun_is_not_failed view.stage stage)))

pub told_more : {T : Type 0} (r : Result T Fault) (messages messages' : Messages) (told told' : List Heading) (old new : Rows) (message : Sent) → (view_of_rows old).stage ≡ Begun
    → IsTold (view_of_rows old) messages told → told' ≡ told ++ heading_of message ∷ []
    → (AreMessagesOf messages (headings_of (view_of_rows old).mark ++ told) → AreMessagesOf messages' ((headings_of (view_of_rows old).mark ++ told) ++ heading_of message ∷ []))
    → OnOk r ((view_of_rows new).content ≡ with_sent message (view_of_rows old).content) → OnOk r (Stays (view_of_rows old) (view_of_rows new)) → OnErr r (Falls (view_of_rows old) (view_of_rows new))
    → IsTold (view_of_rows new) messages' told'
told_more r messages messages' told told' old new message stage has more noted sent ok err = by_end r sent ok err
  where
    was : View
    was = view_of_rows old

    longer : (mark : Content) → mark ≡ was.mark → headings_of mark ++ told' ≡ (headings_of was.mark ++ told) ++ heading_of message ∷ []
    longer mark same = ap (λ z. headings_of z ++ told') same ∙ ap (λ z. headings_of was.mark ++ z) more ∙ sym (append_assoc (headings_of was.mark) told (heading_of message ∷ []))

    marked_now : (mark : Content) → mark ≡ was.mark → AreMessagesOf messages' (headings_of mark ++ told')
    marked_now mark same = subst (AreMessagesOf messages') (sym (longer mark same)) (noted has.marked)

    by_end : {T : Type 0} (r : Result T Fault) → OnOk r ((view_of_rows new).content ≡ with_sent message was.content) → OnOk r (Stays was (view_of_rows new)) → OnErr r (Falls was (view_of_rows new)) → IsTold (view_of_rows new) messages' told'
    by_end (Ok x) sent ok err =
        let mark = ok.mark tt tt in
        record {
          idle = λ idle. absurd (begun_is_not_idle was.stage stage (sym ok.stage ∙ idle));
          marked = marked_now (view_of_rows new).mark mark;
          grown = λ up.
              ap headings_of sent
              ∙ map-append heading_of was.content.sent (message ∷ [])
              ∙ ap (λ hs. hs ++ heading_of message ∷ []) (has.grown (begun_is_not_failed was.stage stage))
              ∙ sym (longer (view_of_rows new).mark mark);
        }
    by_end (Err f) sent ok err =
        let failed : (view_of_rows new).stage ≡ Failed = err.stage ∙ ap fallen stage in
        record {
          idle = λ idle. let bad = sym failed ∙ idle in cc;
          marked = marked_now (view_of_rows new).mark (err.mark tt tt);
          grown = λ up. absurd (up failed);
        }
