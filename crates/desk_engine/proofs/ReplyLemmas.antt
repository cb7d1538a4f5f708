-- The reply to an accepted instruction.
use Rattle.std.proofs.Common.{◌≡◌, inl, inr, ℕ, ◌==◌, ◌||◌, Bool, true, false, List, ◌++◌, Option, Some, None, refl, ap, sym, ◌∙◌, subst, arith}
use Rattle.std.specs.Prelude.{codes, decimal, if◌then◌else◌, is_some, Result, Ok, Err, IfOk}
use Rattle.std.specs.List.{list_any}
use Rattle.std.proofs.lemmas.Bool.{cases_Bool}
use Rattle.std.proofs.lemmas.Bool.Decides.{nat_tests}
use Rattle.desk_msg.specs.declared.instruction.Instruction.{Instruction}
use Rattle.desk_msg.specs.declared.writing.status.Case.{Case}
use Rattle.desk_msg.specs.declared.writing.status.Case.TheVariants.{Unmatched, Matched}
use Rattle.desk_msg.specs.declared.writing.status.Reason.TheVariants.{Future}
use Rattle.desk_msg.specs.declared.writing.status.Own.TheVariants.{Answer}
use Rattle.desk_msg.specs.StatusText.{advice}
use Rattle.desk_rules.specs.declared.history.entry.Entry.{Entry}
use Rattle.desk_rules.specs.declared.history.entry.Entry.TheVariants.{Cancel, Instruct, Run}
use Rattle.desk_rules.specs.declared.history.entry.RunRule.{RunRule}
use Rattle.desk_rules.specs.declared.history.pair.Pair.{Pair}
use Rattle.desk_rules.specs.declared.answers.reply.Reply.{Reply}
use Rattle.desk_rules.specs.Pairing.{has_side}
use Rattle.desk_rules.specs.Reply.{accepted_text, advice_reply, cancellation_case, case_by_state, first_case, reply_to, run_text, untyped_reply}
use Rattle.desk_rules.specs.Settlement.{settled_count}
use Rattle.desk_rules.specs.Verdict.{named_by}
use Rattle.desk_msg.specs.declared.instruction.CancelOrder.{CancelOrder}
use Rattle.desk_rules.specs.Books.{Books, is_paired}
use Rattle.desk_rules.proofs.Decided.{In-from_Contains}
use Rattle.desk_rules.proofs.SideLemmas.{any-In, free_no_side}
use Rattle.desk_engine.specs.declared.applied.Applied.{Applied}
use Rattle.desk_engine.specs.Applied.{IsMateOf, IsNamed, IsApplied}

or_true : (a b : Bool) → b ≡ true → (a || b) ≡ true
or_true true b is = refl
or_true false b is = is

-- an entry is paired where it has a mate
paired_by : (pairs : List Pair) (n : ℕ) (mate : Option ℕ) → IsMateOf pairs n mate → list_any (has_side n) pairs ≡ is_some mate
paired_by pairs n None free = elim (cases_Bool (list_any (has_side n) pairs)) [
  | inr none ↦ none
  | inl some ↦ absurd (free_no_side pairs n free some)
]
paired_by pairs n (Some m) paired =
    let p : Pair = record { earlier = m; later = n } in
    let same : n == n ≡ true = grind (arith, nat_tests) in
    any-In (has_side n) pairs p (In-from_Contains pairs p paired) (or_true (m == n) (n == n) same)

case_by : (books : Books) (n : ℕ) (mate : Option ℕ) → is_paired books n ≡ is_some mate → first_case books n ≡ (if is_some mate then Matched Future else Unmatched)
case_by books n mate is = ap (λ b. if b then Matched Future else Unmatched) is

-- what is this value is that one, where both are the same
ok_is : {T E : Type 0} (r : Result T E) (x y : T) → x ≡ y → IfOk r (λ t. t ≡ x) → IfOk r (λ t. t ≡ y)
ok_is (Ok t) x y same is = is ∙ same
ok_is (Err e) x y same is = is

pub instruct_reply : {E : Type 0} (r : Result Reply E) (books : Books) (a : Applied) (entry : Entry) (sender : List ℕ) (i : Instruction) (about : Case) → entry ≡ Instruct sender i
    → about ≡ (if is_some a.mate then Matched Future else Unmatched) → IfOk r (λ reply. reply ≡ advice_reply 200 (advice (Answer a.number) i.mt i.reference about))
    → IsApplied books entry a → IfOk r (λ reply. reply ≡ reply_to books entry)
instruct_reply r books a entry sender i about is at written fared =
    let case : about ≡ first_case books a.number = at ∙ sym (case_by books a.number a.mate (paired_by books.pairs a.number a.mate fared.mate)) in
    let first = ap (λ x. advice_reply 200 (advice (Answer a.number) i.mt i.reference x)) case in
    let second = ap (λ k. advice_reply 200 (advice (Answer k) i.mt i.reference (first_case books k))) fared.number in
    ok_is r (advice_reply 200 (advice (Answer a.number) i.mt i.reference about)) (reply_to books entry) (first ∙ second ∙ ap (λ e. reply_to books e) (sym is)) written

pub cancel_reply : {E : Type 0} (r : Result Reply E) (books : Books) (a : Applied) (entry : Entry) (sender : List ℕ) (order : CancelOrder) (about : Case) → entry ≡ Cancel sender order
    → about ≡ case_by_state a.named → IfOk r (λ reply. reply ≡ advice_reply 200 (advice (Answer a.number) order.mt order.reference about))
    → IsApplied books entry a → IfOk r (λ reply. reply ≡ reply_to books entry)
cancel_reply r books a entry sender order about is at written fared =
    let P : Entry → Type 0 = λ e. IsNamed books e a.named in
    let named : cancellation_case books (named_by books.history sender order) ≡ case_by_state a.named = subst P is fared.named in
    let case : about ≡ cancellation_case books (named_by books.history sender order) = at ∙ sym named in
    let first = ap (λ x. advice_reply 200 (advice (Answer a.number) order.mt order.reference x)) case in
    let second = ap (λ k. advice_reply 200 (advice (Answer k) order.mt order.reference (cancellation_case books (named_by books.history sender order)))) fared.number in
    ok_is r (advice_reply 200 (advice (Answer a.number) order.mt order.reference about)) (reply_to books entry) (first ∙ second ∙ ap (λ e. reply_to books e) (sym is)) written

pub run_told : {E : Type 0} (r : Result Reply E) (books : Books) (a : Applied) (entry : Entry) (reference day : List ℕ) (rule : RunRule) → entry ≡ Run reference day rule
    → IfOk r (λ reply. reply ≡ untyped_reply 200 (accepted_text a.number ++ codes " settled " ++ decimal a.settled ++ codes " waiting " ++ decimal a.waiting))
    → IsApplied books entry a → IfOk r (λ reply. reply ≡ reply_to books entry)
run_told r books a entry reference day rule is written fared =
    let text : ℕ → ℕ → List ℕ = λ settled waiting. accepted_text a.number ++ codes " settled " ++ decimal settled ++ codes " waiting " ++ decimal waiting in
    let first = ap (λ k. untyped_reply 200 (text k a.waiting)) (sym fared.settled) in
    let second = ap (λ k. untyped_reply 200 (text (settled_count books.settled a.number) k)) (sym fared.waiting) in
    let third = ap (λ n. untyped_reply 200 (run_text books n)) fared.number in
    ok_is r (untyped_reply 200 (text a.settled a.waiting)) (reply_to books entry) (first ∙ second ∙ third ∙ ap (λ e. reply_to books e) (sym is)) written
