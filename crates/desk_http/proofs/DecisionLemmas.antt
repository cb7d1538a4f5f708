-- What the bytes read so far say of each stream that they begin.
use Rattle.std.proofs.Common.{◌≡◌, ◌≢◌, ℕ, zero, suc, ◌+◌, ◌-◌, ◌<◌, ◌≤◌, Bool, true, false, nat_le, min, inl, inr, List, [], ◌∷◌, ◌++◌, length, take, drop, Result, Ok, Err, refl, sym, ap, subst, ◌∙◌, arith, append_assoc, append-nil, length-append, length-take}
use Rattle.std.proofs.lemmas.List.{length-map, take-append-le, take_all, take-append-drop}
use Rattle.std.proofs.lemmas.Bool.Decides.{nat_tests}
use Rattle.std.proofs.Math.Seq.{drop-append_seam}
use Rattle.httparse.specs.declared.Error.{Error}
use Rattle.httparse.specs.declared.Error.TheVariants.{HeaderName, HeaderValue, NewLine, Status, Token, TooManyHeaders, Version}
use Rattle.httparse.specs.declared.spans.HeaderSpan.{HeaderSpan}
use Rattle.httparse.specs.declared.spans.RequestSpans.{RequestSpans}
use Rattle.httparse.specs.Grammar.{RequestHead, ReadsRequest, HasNoRequest, NeverHasRequest, MayBecomeRequest, print_request}
use Rattle.httparse.specs.Spans.{IsRequestAt, IsRequestOf, IsRequestWithin, RequestExceeds, RequestOverflows}
use Rattle.httparse.proofs.GrammarLemmas.{ReadsRequest-append}
use Rattle.desk_book.specs.Asked.{Asked, asked_with}
use Rattle.desk_http.specs.declared.call.Call.{Call}
use Rattle.desk_http.specs.declared.decision.Decision.TheVariants.{Asks, Wants}
use Rattle.desk_http.specs.declared.refusal.Refusal.{Refusal}
use Rattle.desk_http.specs.declared.refusal.Refusal.TheVariants.{BadRequest, HeaderFieldsTooLarge}
use Rattle.desk_http.specs.Connection.{Calls, Connection, HasHead, RefusesHead, front, no_head, refused, whole, cut}
use Rattle.desk_http.specs.Decisions.{Decides, HasCall, IsDecision}
use Rattle.desk_http.specs.Refusals.{refusal_of_error}
use Rattle.desk_http.proofs.CallLemmas.{call_fits}

-- Bytes behind.

take_none : (n : ℕ) → take {A = ℕ} n [] ≡ []
take_none zero = refl
take_none (suc n) = refl

pub take_then : (n : ℕ) (xs ys : List ℕ) → take n (xs ++ ys) ≡ take n xs ++ take (n - length xs) ys
take_then n [] ys =
    let same : n - 0 ≡ n = omega arith in
    let none : take n [] ≡ [] = take_none n in
    rw (same, none) refl
take_then zero (x ∷ xs) ys =
    let none : 0 - suc (length xs) ≡ 0 = omega arith in
    sym (ap (λ k. take k ys) none)
take_then (suc n) (x ∷ xs) ys =
    let same : suc n - suc (length xs) ≡ n - length xs = omega arith in
    ap (λ l. x ∷ l) (take_then n xs ys ∙ ap (λ k. take n xs ++ take k ys) (sym same))

front_then : (bytes more : List ℕ) → front (bytes ++ more) ≡ front bytes ++ take (8192 - length bytes) more
front_then bytes more = take_then 8192 bytes more

never_then : (bytes more : List ℕ) → NeverHasRequest bytes → NeverHasRequest (bytes ++ more)
never_then bytes more none later h rest reads = none (more ++ later) h rest (rw append_assoc at reads)

overflows_then : (bytes more : List ℕ) → RequestOverflows 64 bytes → RequestOverflows 64 (bytes ++ more)
overflows_then bytes more over later h rest reads = over (more ++ later) h rest (rw append_assoc at reads)

exceeds_then : (bytes more : List ℕ) → RequestExceeds 64 bytes → RequestExceeds 64 (bytes ++ more)
exceeds_then bytes more e = (e.0, e.1 ++ more, ap (λ (l : List ℕ). l ++ more) e.2 ∙ append_assoc e.0 e.1 more, e.3, e.4, e.5)

head_then : (bytes more : List ℕ) (h : RequestHead) (rest : List ℕ) → HasHead bytes h rest → HasHead (bytes ++ more) h (rest ++ more)
head_then bytes more h rest has = record { reads = ReadsRequest-append bytes h rest more has.reads; whole = has.whole; few = has.few }

-- A head and its call.

rest_is : (bytes : List ℕ) (h : RequestHead) (rest : List ℕ) → HasHead bytes h rest → drop (length (print_request h)) bytes ≡ rest
rest_is bytes h rest has = ap (λ l. drop (length (print_request h)) l) has.reads.1 ∙ drop-append_seam (print_request h) rest

long_is : (bytes : List ℕ) (h : RequestHead) (rest : List ℕ) → HasHead bytes h rest → length bytes ≡ length (print_request h) + length rest
long_is bytes h rest has = ap length has.reads.1 ∙ length-append (print_request h) rest

pub call_small : (bytes : List ℕ) (call : Call) (start : ℕ) → HasCall bytes call start → (start ≤ length bytes) × (start + call.length ≤ 73728)
call_small bytes call start h =
    let long = long_is bytes h.head h.rest h.has in
    let small = call_fits h.head call h.calls in
    let place = h.place in
    let head = h.has.whole in
    (omega arith, omega arith)

pub asks_it : (bytes : List ℕ) (call : Call) (start : ℕ) → HasCall bytes call start → call.length ≤ length bytes - start → IsDecision bytes (Asks call start)
asks_it bytes call start h fits =
    let long = long_is bytes h.head h.rest h.has in
    let place = h.place in
    let enough : call.length ≤ length h.rest = omega arith in
    let P : List ℕ → Type 0 = λ body. (more : List ℕ) → Connection (bytes ++ more) (Ok (asked_with call.question body)) in
    let is : take call.length h.rest ≡ take call.length (drop start bytes) = ap (λ l. take call.length l) (sym (rest_is bytes h.head h.rest h.has)) ∙ ap (λ k. take call.length (drop k bytes)) (sym place) in (
      omega arith,
      subst P is (λ more. by more (whole call h.head (h.rest ++ more) (head_then bytes more h.head h.rest h.has) h.calls (omega (arith, length-append h.rest more))) (take-append-le call.length h.rest more enough)),
    )
  where
    by : (more : List ℕ) {a b : List ℕ} → Connection (bytes ++ more) (Ok (asked_with call.question a)) → a ≡ b → Connection (bytes ++ more) (Ok (asked_with call.question b))
    by more c e = subst (λ l. Connection (bytes ++ more) (Ok (asked_with call.question l))) e c

pub wants_it : (bytes : List ℕ) (call : Call) (start : ℕ) → HasCall bytes call start → length bytes - start < call.length → IsDecision bytes (Wants (start + call.length))
wants_it bytes call start h short =
    let long = long_is bytes h.head h.rest h.has in
    let place = h.place in
    let small = call_small bytes call start h in (
      omega (arith, small.0),
      small.1,
      λ more less. cut call h.head (h.rest ++ more) (head_then bytes more h.head h.rest h.has) h.calls (omega (arith, length-append h.rest more, length-append bytes more)),
    )

refuses_call : (bytes : List ℕ) (h : RequestHead) (rest : List ℕ) (refusal : Refusal) → HasHead bytes h rest → Calls h (Err refusal) → Decides bytes (Err refusal)
refuses_call bytes h rest refusal has calls more = refused h (rest ++ more) (head_then bytes more h rest has) calls

-- A head that is not whole.

pub may_end : (bytes : List ℕ) → HasNoRequest (front bytes) → length bytes < 8192 → IsDecision bytes (Wants (length bytes + 1))
may_end bytes none short = (omega arith, omega arith, λ more less. ends more (omega (arith, length-append bytes more)))
  where
    ends : (more : List ℕ) → length more ≡ 0 → Connection (bytes ++ more) (Err BadRequest)
    ends [] e =
        let all : front bytes ≡ bytes = take_all 8192 bytes (omega arith) in
        let P : List ℕ → Type 0 = λ l. HasNoRequest l in
        rw (append-nil bytes) (no_head {refusal = BadRequest} (inr (subst P all none, short)))
    ends (x ∷ more) e = absurd (omega arith)

pub too_long : (bytes : List ℕ) → HasNoRequest (front bytes) → MayBecomeRequest (front bytes) → 8192 ≤ length bytes → Decides bytes (Err HeaderFieldsTooLarge)
too_long bytes none may long more =
    let same : front bytes ≡ front (bytes ++ more) = sym (take-append-le 8192 bytes more long) in
    let P : List ℕ → Type 0 = λ l. HasNoRequest l in
    let Q : List ℕ → Type 0 = λ l. MayBecomeRequest l in
    no_head {refusal = HeaderFieldsTooLarge} (inr (subst P same none, subst Q same may, omega (arith, length-append bytes more)))

-- A head that is wrong.

never_it : (bytes : List ℕ) → NeverHasRequest (front bytes) → Decides bytes (Err BadRequest)
never_it bytes never more =
    let P : List ℕ → Type 0 = λ l. NeverHasRequest l in
    no_head {refusal = BadRequest} (inl (subst P (sym (front_then bytes more)) (never_then (front bytes) (take (8192 - length bytes) more) never)))

exceeds_it : (bytes : List ℕ) → RequestExceeds 64 (front bytes) → RequestOverflows 64 (front bytes) → Decides bytes (Err HeaderFieldsTooLarge)
exceeds_it bytes exceeds over more =
    let P : List ℕ → Type 0 = λ l. RequestExceeds 64 l in
    let Q : List ℕ → Type 0 = λ l. RequestOverflows 64 l in
    let e = sym (front_then bytes more) in
    let tail = take (8192 - length bytes) more in
    no_head {refusal = HeaderFieldsTooLarge} (inl (subst P e (exceeds_then (front bytes) tail exceeds), subst Q e (overflows_then (front bytes) tail over)))

pub refuses_error : (bytes : List ℕ) (e : Error) → (e ≢ TooManyHeaders → NeverHasRequest (front bytes)) → (e ≡ TooManyHeaders → RequestExceeds 64 (front bytes)) → RequestOverflows 64 (front bytes)
    → Decides bytes (Err (refusal_of_error e))
refuses_error bytes TooManyHeaders never exceeds over = exceeds_it bytes (exceeds refl) over
refuses_error bytes HeaderName never exceeds over = never_it bytes (never (λ e. cc))
refuses_error bytes HeaderValue never exceeds over = never_it bytes (never (λ e. cc))
refuses_error bytes NewLine never exceeds over = never_it bytes (never (λ e. cc))
refuses_error bytes Status never exceeds over = never_it bytes (never (λ e. cc))
refuses_error bytes Token never exceeds over = never_it bytes (never (λ e. cc))
refuses_error bytes Version never exceeds over = never_it bytes (never (λ e. cc))

-- A head that the parser found.

found_head : (bytes : List ℕ) (fields : List HeaderSpan) (spans : RequestSpans) (h : RequestHead) → length fields ≡ 64 → IsRequestWithin (front bytes) fields spans → IsRequestAt (front bytes) fields spans h
    → HasHead bytes h (drop spans.len (front bytes) ++ drop 8192 bytes)
found_head bytes fields spans h room within at =
    let same = ap length at.fields in
    let few : length h.fields ≤ 64 = omega (arith, simp length-map at same, length-take spans.headers fields) in
    let P : List ℕ → Type 0 = λ l. ReadsRequest l h (drop spans.len (front bytes) ++ drop 8192 bytes) in
    record {
      reads = subst P (take-append-drop 8192 bytes) (ReadsRequest-append (front bytes) h (drop spans.len (front bytes)) (drop 8192 bytes) at.reads);
      whole = omega (arith, at.len, within.section.len_fits, length-take 8192 bytes);
      few = few;
    }

-- the spans are those of a head of the front
pub found_call : (bytes view : List ℕ) (fields : List HeaderSpan) (spans : RequestSpans) (call : Call) → view ≡ front bytes → length fields ≡ 64 → IsRequestWithin view fields spans → IsRequestOf view fields spans
    → ((h : RequestHead) → IsRequestAt view fields spans h → Calls h (Ok call)) → HasCall bytes call spans.len
found_call bytes view fields spans call e room within found calls = record {
  head = found.0;
  rest = drop spans.len (front bytes) ++ drop 8192 bytes;
  has = found_head bytes fields spans found.0 room (subst (λ l. IsRequestWithin l fields spans) e within) (subst (λ l. IsRequestAt l fields spans found.0) e found.1);
  calls = calls found.0 found.1;
  place = found.1.len;
}

pub found_refusal : (bytes view : List ℕ) (fields : List HeaderSpan) (spans : RequestSpans) (refusal : Refusal) → view ≡ front bytes → length fields ≡ 64 → IsRequestWithin view fields spans → IsRequestOf view fields spans
    → ((h : RequestHead) → IsRequestAt view fields spans h → Calls h (Err refusal)) → Decides bytes (Err refusal)
found_refusal bytes view fields spans refusal e room within found calls =
    let has = found_head bytes fields spans found.0 room (subst (λ l. IsRequestWithin l fields spans) e within) (subst (λ l. IsRequestAt l fields spans found.0) e found.1) in
    refuses_call bytes found.0 (drop spans.len (front bytes) ++ drop 8192 bytes) refusal has (calls found.0 found.1)

pub front_is : (bytes : List ℕ) (n : ℕ) → n ≡ min (length bytes) 8192 → take n bytes ≡ front bytes
front_is bytes n e = by (nat_le (length bytes) 8192) refl
  where
    by : (q : Bool) → nat_le (length bytes) 8192 ≡ q → take n bytes ≡ front bytes
    by true is =
        let short : length bytes ≤ 8192 = grind (arith, nat_tests) in
        take_all n bytes (omega arith) ∙ sym (take_all 8192 bytes short)
    by false is =
        let long : 8192 < length bytes = grind (arith, nat_tests) in
        let same : n ≡ 8192 = omega arith in
        ap (λ k. take k bytes) same

abbrev Other : Result Asked Refusal → Type 0
Other outcome = outcome ≢ Err BadRequest

-- what is no 400 stays
pub outcome_then : (stream more : List ℕ) (outcome : Result Asked Refusal) → Connection stream outcome → outcome ≢ Err BadRequest → Connection (stream ++ more) outcome
outcome_then stream more outcome (no_head {refusal} h) other = by refusal h other
  where
    by : (refusal : Refusal) → RefusesHead stream refusal → Other (Err refusal) → Connection (stream ++ more) (Err refusal)
    by BadRequest h other = absurd (other refl)
    by HeaderFieldsTooLarge (inl h) other = exceeds_it stream h.0 h.1 more
    by HeaderFieldsTooLarge (inr h) other = too_long stream h.0 h.1 h.2 more
    by refusal h other = absurd h
outcome_then stream more outcome (refused head rest has calls) other = refused head (rest ++ more) (head_then stream more head rest has) calls
outcome_then stream more outcome (whole call head rest has calls enough) other =
    let P : List ℕ → Type 0 = λ body. Connection (stream ++ more) (Ok (asked_with call.question body)) in
    subst P (take-append-le call.length rest more enough) (whole call head (rest ++ more) (head_then stream more head rest has) calls (omega (arith, length-append rest more)))
outcome_then stream more outcome (cut call head rest has calls short) other = absurd (other refl)
