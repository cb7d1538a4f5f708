-- What a head calls for.
use Rattle.std.proofs.Common.{◌≡◌, ◌≢◌, ℕ, ◌≤◌, inl, inr, Bool, true, false, not, nat_eq, List, [], ◌∷◌, length, map, nat_lt, cond, Result, Ok, Err, refl, sym, ap, subst, ◌∙◌, arith}
use Rattle.std.proofs.lemmas.Bool.Decides.{nat_tests}
use Rattle.httparse.specs.Grammar.{RequestHead}
use Rattle.httparse.specs.Spans.{name_and_value}
use Rattle.std.specs.Cmp.Lexicographic.{pointwise}
use Rattle.desk_codes.proofs.BicLemmas.{other_bytes, same_bytes}
use Rattle.desk_codes.specs.Number.{number_of}
use Rattle.desk_book.specs.declared.requests.question.Question.{Question}
use Rattle.desk_book.specs.Asked.{has_text}
use Rattle.desk_http.specs.declared.call.Call.{Call}
use Rattle.desk_http.specs.declared.refusal.Refusal.{Refusal}
use Rattle.desk_http.specs.declared.refusal.Refusal.TheVariants.{NotFound, MethodNotAllowed, PayloadTooLarge}
use Rattle.desk_http.specs.Connection.{Calls, nowhere, other_method, nothing, bodiless, posted, no_length}
use Rattle.desk_http.specs.Length.{BodyLength, Fields, LengthBy, LengthUnder, within_limit}
use Rattle.desk_http.specs.Paths.{IsPath, Names, Path, method_of}

-- A body keeps the limit.

limit_is : (count n : ℕ) → within_limit count ≡ Ok n → n ≤ 65536
limit_is count n e = by (nat_lt 65536 count) refl e
  where
    by : (q : Bool) → nat_lt 65536 count ≡ q → (cond {A = Result ℕ Refusal} q (Err PayloadTooLarge) (Ok count)) ≡ Ok n → n ≤ 65536
    by true is e = cc
    by false is e =
        let same : count ≡ n = cc in
        let within : count ≤ 65536 = grind (arith, nat_tests) in
        omega arith

length_fits : (values : List (List ℕ)) (n : ℕ) → LengthBy values (Ok n) → n ≤ 65536
length_fits [] n e = cc
length_fits (text ∷ []) n (inl h) = limit_is (number_of text) n (sym h.1)
length_fits (text ∷ []) n (inr h) = let e = h.1 in cc
length_fits (a ∷ b ∷ more) n e = cc

under_fits : (encodings lengths : List (List ℕ)) (n : ℕ) → LengthUnder encodings lengths (Ok n) → n ≤ 65536
under_fits [] lengths n h = length_fits lengths n h
under_fits (x ∷ encodings) lengths n h = cc

pub call_fits : (h : RequestHead) (call : Call) → Calls h (Ok call) → call.length ≤ 65536
call_fits h call (bodiless path is method names none zero) = omega (arith, zero)
call_fits h call (posted path is method names some length) = under_fits _ _ call.length length

-- What a head calls for.

abbrev Same : Result ℕ Refusal → Result ℕ Refusal → Type 0
Same a b = a ≡ b

pub differs : (a b c : List ℕ) → true ≡ not (pointwise nat_eq a b) → b ≡ c → a ≢ c
differs a b c other e same = by (pointwise nat_eq a b) refl
  where
    by : (q : Bool) → pointwise nat_eq a b ≡ q → ⊥
    by true is = let bad : true ≡ not true = other ∙ ap not is in cc
    by false is = other_bytes a b is (same ∙ sym e)

pub agrees : (a b c : List ℕ) → false ≡ not (pointwise nat_eq a b) → b ≡ c → a ≡ c
agrees a b c alike e = by (pointwise nat_eq a b) refl
  where
    by : (q : Bool) → pointwise nat_eq a b ≡ q → a ≡ c
    by true is = same_bytes a b is ∙ e
    by false is = let bad : false ≡ not false = alike ∙ ap not is in cc

pub no_path : (h : RequestHead) (target : List ℕ) → target ≡ h.target → ((path : Path) → IsPath path target → ⊥) → Calls h (Err NotFound)
no_path h target e none = nowhere (λ path is. none path (subst (λ t. IsPath path t) (sym e) is))

pub no_method : (h : RequestHead) (target method : List ℕ) (path : Path) → target ≡ h.target → method ≡ h.method → IsPath path target → method ≢ method_of path → Calls h (Err MethodNotAllowed)
no_method h target method path e m is other = other_method path (subst (λ t. IsPath path t) e is) (λ same. other (m ∙ same))

pub no_name : (h : RequestHead) (target method : List ℕ) (path : Path) → target ≡ h.target → method ≡ h.method → IsPath path target → method ≡ method_of path → ((question : Question) → Names path question → ⊥) → Calls h (Err NotFound)
no_name h target method path e m is same none = nothing path (subst (λ t. IsPath path t) e is) (sym m ∙ same) none

pub length_refused : (h : RequestHead) (target method : List ℕ) (path : Path) (question : Question) (fields : Fields) (refusal : Refusal) → target ≡ h.target → method ≡ h.method → IsPath path target → method ≡ method_of path
    → Names path question → fields ≡ map name_and_value h.fields → (has_text question ≡ true → BodyLength fields (Err refusal)) → (has_text question ≡ false → Same (Err refusal) (Ok 0)) → Calls h (Err refusal)
length_refused h target method path question fields refusal e m is same names f with without = by (has_text question) refl
  where
    by : (q : Bool) → has_text question ≡ q → Calls h (Err refusal)
    by true q = no_length path question (subst (λ t. IsPath path t) e is) (sym m ∙ same) names q (subst (λ l. BodyLength l (Err refusal)) f (with q))
    by false q = let never : Same (Err refusal) (Ok 0) = without q in cc

pub called : (h : RequestHead) (target method : List ℕ) (path : Path) (question : Question) (fields : Fields) (count : ℕ) → target ≡ h.target → method ≡ h.method → IsPath path target → method ≡ method_of path
    → Names path question → fields ≡ map name_and_value h.fields → (has_text question ≡ true → BodyLength fields (Ok count)) → (has_text question ≡ false → Same (Ok count) (Ok 0)) → Calls h (Ok (record { question = question; length = count }))
called h target method path question fields count e m is same names f with without = by (has_text question) refl
  where
    by : (q : Bool) → has_text question ≡ q → Calls h (Ok (record { question = question; length = count }))
    by true q = posted path (subst (λ t. IsPath path t) e is) (sym m ∙ same) names q (subst (λ l. BodyLength l (Ok count)) f (with q))
    by false q =
        let zero : Same (Ok count) (Ok 0) = without q in
        let none : count ≡ 0 = cc in
        bodiless path (subst (λ t. IsPath path t) e is) (sym m ∙ same) names q none
