-- What connections leave of a desk.
use Rattle.std.proofs.Common.{◌≡◌, ◌⊎◌, ◌∙◌, ℕ, Bool, List, [], ◌∷◌, ◌++◌, Option, None, inl, inr, refl, sym, subst, arith}
use Rattle.std.proofs.KnownBytes.{Appends-trans}
use Rattle.std.specs.Io.KnownBytes.{Appends}
use Rattle.std.specs.Prelude.{Result, Ok, Err, IfOk, IsOkAnd, OnOk, codes}
use Rattle.desk_rules.specs.declared.answers.reply.Reply.{Reply}
use Rattle.desk_rules.specs.Books.{Books}
use Rattle.desk_register.specs.View.{View, IsLater}
use Rattle.desk_book.specs.declared.fault.Fault.{Fault}
use Rattle.desk_book.specs.Answered.{AnsweredInTurn, says_closed}
use Rattle.desk_book.specs.Asked.{Asked}
use Rattle.desk_book.specs.Held.{Holds}
use Rattle.desk_book.proofs.HeadlineLemmas.{promised}
use Rattle.desk_http.specs.Served.{Responds, Serves, asked_of_desk}
use Rattle.desk_http.specs.declared.refusal.HttpFault.{HttpFault}
use Rattle.desk_http.specs.declared.refusal.HttpFault.TheVariants.{Memory, ReadFailed, WriteFailed}
use Rattle.desk.specs.ServeAnswer.{HoldsOn, IsOpenServeAnswer, IsServeAnswer, Leaves, listening_line, told_served, told_unclosed}
use Rattle.desk.specs.Status.{Ends, EndsBy, IsFailureTold, IsMemoryOr, failure_line}
use Rattle.desk.specs.declared.status.Failure.{Failure}
use Rattle.desk.specs.declared.status.Failure.TheVariants.{Input, Storage}
use Rattle.desk.specs.declared.status.Status.{Status}
use Rattle.desk.specs.declared.status.Status.TheVariants as exit

-- requests, and some behind them
in_turn_on : (limit : ℕ) (was : Bool) (books : Books) (first : List Asked) (answers : List (Result Reply Fault)) (mid : Bool) (next : Books) (more : List Asked) (others : List (Result Reply Fault)) (is : Bool) (last : Books)
    → AnsweredInTurn limit was books first answers mid next → AnsweredInTurn limit mid next more others is last → AnsweredInTurn limit was books (first ++ more) (answers ++ others) is last
in_turn_on limit was books [] [] mid next more others is last before later =
    let P : Bool → Type 0 = λ b. AnsweredInTurn limit b books more others is last in
    let Q : Books → Type 0 = λ k. AnsweredInTurn limit mid k more others is last in
    subst P before.0 (subst Q before.1 later)
in_turn_on limit was books (asked ∷ first) (answer ∷ answers) mid next more others is last before later =
    let rest = before.1 in
    (before.0, (rest.0, rest.1, in_turn_on limit (says_closed answer) rest.0 first answers mid next more others is last rest.2 later))
in_turn_on limit was books [] (answer ∷ answers) mid next more others is last before later = absurd before
in_turn_on limit was books (asked ∷ first) [] mid next more others is last before later = absurd before

-- a desk that was left as it was
pub untouched : (is : Bool) (view : View) → HoldsOn is view is view
untouched is view = λ books holds. record { requests = []; answers = []; last = books; in_turn = (refl, refl); holds = holds; promise = promised is view books holds }

-- what one connection more leaves
left_by : (was mid is : Bool) (books : Books) (v0 v1 v2 : View) → v1.room ≡ v0.room → (l : Leaves was books mid v0 v1) → Serves mid l.last None is v1 v2 → Leaves was books is v0 v2
left_by was mid is books v0 v1 v2 room l s =
    let P : ℕ → Type 0 = λ k. AnsweredInTurn k mid l.last (asked_of_desk s.outcome) s.answers is s.last in
    record {
      requests = l.requests ++ asked_of_desk s.outcome;
      answers = l.answers ++ s.answers;
      last = s.last;
      in_turn = in_turn_on v0.room was books l.requests l.answers mid l.last (asked_of_desk s.outcome) s.answers is s.last l.in_turn (subst P room s.in_turn);
      holds = s.holds;
      promise = s.promise;
    }

module _ {D : Type 0} (is_closed : D → Bool) (view : D → View) where
  -- what comes of a connection is what is left of the desk
  pub goes_on : (first mid left last : D) → last ≡ left → (view mid).room ≡ (view first).room
      → ((books : Books) → Holds (is_closed mid) (view mid) books → (left ≡ mid) ⊎ Serves (is_closed mid) books None (is_closed left) (view mid) (view left))
      → HoldsOn (is_closed first) (view first) (is_closed mid) (view mid) → HoldsOn (is_closed first) (view first) (is_closed last) (view last)
  goes_on first mid left last is room served before = λ books holds.
      let l = before books holds in
      let P : D → Type 0 = λ d. Leaves (is_closed first) books (is_closed d) (view first) (view d) in
      subst P (sym is) (elim (served l.last l.holds) [ inl same ↦ subst P (sym same) l | inr s ↦ left_by (is_closed first) (is_closed mid) (is_closed left) books (view first) (view mid) (view left) room l s ])

  -- what was asked of it, if anything, was asked as one connection asks
  pub served : (old new : D) (stream before after : Option (List ℕ)) (q : Result (Unit {0}) HttpFault) → (view new).is_honest
      → OnOk q ((books : Books) → (view new).is_honest → Holds (is_closed old) (view old) books → Responds (is_closed old) books stream before after (is_closed new) (view old) (view new))
      → (q ≡ Err ReadFailed → new ≡ old) → (q ≡ Err Memory → new ≡ old)
      → (q ≡ Err WriteFailed → (books : Books) → (view new).is_honest → Holds (is_closed old) (view old) books → Serves (is_closed old) books stream (is_closed new) (view old) (view new))
      → (books : Books) → Holds (is_closed old) (view old) books → (new ≡ old) ⊎ Serves (is_closed old) books None (is_closed new) (view old) (view new)
  served old new stream before after q honest responds unread memory stands books holds = go q responds unread memory stands
    where
      any : Serves (is_closed old) books stream (is_closed new) (view old) (view new) → Serves (is_closed old) books None (is_closed new) (view old) (view new)
      any s = record { outcome = s.outcome; asks = tt; answers = s.answers; last = s.last; in_turn = s.in_turn; holds = s.holds; promise = s.promise; blame = s.blame }

      go : (r : Result (Unit {0}) HttpFault) → OnOk r ((books : Books) → (view new).is_honest → Holds (is_closed old) (view old) books → Responds (is_closed old) books stream before after (is_closed new) (view old) (view new))
          → (r ≡ Err ReadFailed → new ≡ old) → (r ≡ Err Memory → new ≡ old)
          → (r ≡ Err WriteFailed → (books : Books) → (view new).is_honest → Holds (is_closed old) (view old) books → Serves (is_closed old) books stream (is_closed new) (view old) (view new))
          → (new ≡ old) ⊎ Serves (is_closed old) books None (is_closed new) (view old) (view new)
      go (Ok done) responds unread memory stands = inr (any (responds books honest holds).served)
      go (Err ReadFailed) responds unread memory stands = inl (unread refl)
      go (Err Memory) responds unread memory stands = inl (memory refl)
      go (Err WriteFailed) responds unread memory stands = inr (any (stands refl books honest holds))

-- no count or doubt is taken back from one connection to the next

pub nothing_later : (view : View) → IsLater view view
nothing_later view = record { honest = λ h. h; sure = λ h s. s; room = refl; device_honest = λ h. h; failures = omega arith }

pub later_all_along : (v0 v1 v2 : View) → IsLater v0 v1 → IsLater v1 v2 → IsLater v0 v2
later_all_along v0 v1 v2 a b = record {
  honest = λ h. a.honest (b.honest h);
  sure = λ h s. a.sure (b.honest h) (b.sure h s);
  room = b.room ∙ a.room;
  device_honest = λ h. a.device_honest (b.device_honest h);
  failures = (let x = a.failures in let y = b.failures in omega arith);
}

-- how it ended over a file
module _ (has_closed : Bool) (port : ℕ) (before mid after : Option (List ℕ)) where
  ended_by : (said status : Status) → IsServeAnswer port said (Appends before mid) → EndsBy has_closed said status (after ≡ mid) (Appends mid after) → IsOpenServeAnswer has_closed port status (Appends before after)
  ended_by said status is (inl same) =
      let P : Status → Type 0 = λ s. IsOpenServeAnswer has_closed port s (Appends before after) in
      subst P (sym same.0) (told_served (subst (λ k. IsServeAnswer port said (Appends before k)) (sym same.1) is) same.2)
  ended_by exit.Done status is (inr unclosed) =
      told_unclosed unclosed.1 unclosed.2.0 (Appends-trans before mid after (listening_line port) (failure_line Storage ++ codes "\n") is unclosed.2.1)
  ended_by exit.Refused status is (inr unclosed) = absurd is
  ended_by exit.Usage status is (inr unclosed) = absurd is
  ended_by exit.Fault status is (inr unclosed) = absurd (unclosed.0 refl)

  ended_so : {E : Type 0} (told result : Result Status E) → IfOk result (λ status. IsOkAnd told (λ said. EndsBy has_closed said status (after ≡ mid) (Appends mid after))) → IfOk told (λ status. IsServeAnswer port status (Appends before mid))
      → IfOk result (λ status. IsOpenServeAnswer has_closed port status (Appends before after))
  ended_so told (Err e) ends is = tt
  ended_so (Err e) (Ok status) ends is = absurd ends
  ended_so (Ok said) (Ok status) ends is = ended_by said status is ends

  pub ended_served : {E : Type 0} (told result : Result Status E) → Ends has_closed told result mid after → IfOk told (λ status. IsServeAnswer port status (Appends before mid)) → IfOk result (λ status. IsOpenServeAnswer has_closed port status (Appends before after))
  ended_served told result ends is = ended_so told result ends.by is

-- nobody is there, and why is told
pub nobody_there : {E : Type 0} (r : Result Status E) (failure : Failure) (port : ℕ) (P : List ℕ → Type 0) → IsMemoryOr Input failure → IfOk r (λ status. IsFailureTold failure status P) → IfOk r (λ status. IsServeAnswer port status P)
nobody_there (Ok status) failure port P may told = subst (λ s. IsServeAnswer port s P) (sym told.0) (failure, may, told.1)
nobody_there (Err e) failure port P may told = tt
