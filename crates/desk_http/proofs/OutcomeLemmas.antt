-- A stream has one outcome.
use Rattle.std.proofs.Common.{◌≡◌, ◌≢◌, ℕ, ◌-◌, ◌⊎◌, inl, inr, List, [], ◌∷◌, ◌++◌, length, take, drop, get_or, map, codes, true, false, if◌then◌else◌, nat_eq, nat_le, Result, Ok, Err, refl, sym, ap, subst, ◌∙◌, arith, append-nil}
use Rattle.std.proofs.lemmas.Bool.Decides.{nat_tests}
use Rattle.std.proofs.lemmas.List.{append_cancel_left, take_all, take-append-drop}
use Rattle.httparse.specs.Grammar.{RequestHead, ReadsRequest, HasNoRequest, print_request}
use Rattle.httparse.specs.Spans.{name_and_value}
use Rattle.httparse.proofs.GrammarLemmas.{request_unique}
use Rattle.desk_book.specs.declared.requests.question.Question.{Question}
use Rattle.desk_book.specs.declared.requests.question.Question.TheVariants.{Message, Operator, Status, Holdings, Sent, Sums}
use Rattle.desk_book.specs.Asked.{Asked, asked_with, has_text}
use Rattle.desk_book.proofs.OneReading.{same_kind}
use Rattle.desk_http.specs.declared.call.Call.{Call}
use Rattle.desk_http.specs.declared.refusal.Refusal.{Refusal}
use Rattle.desk_http.specs.declared.refusal.Refusal.TheVariants.{BadRequest, NotFound, MethodNotAllowed, HeaderFieldsTooLarge}
use Rattle.desk_http.specs.declared.route.Route.{Route}
use Rattle.desk_http.specs.declared.route.Route.TheVariants as routes
use Rattle.desk_http.specs.Connection.{Calls, Connection, HasHead, IsLeftOpen, RefusesHead, front, nowhere, other_method, nothing, bodiless, posted, no_length, no_head, refused, whole, cut}
use Rattle.desk_http.specs.Length.{BodyLength, LengthBy, LengthUnder}
use Rattle.desk_http.specs.Paths.{IsPath, Names, Path, message, operator, status, holdings, sent, sums, method_of}
use Rattle.desk_http.specs.Rows.{route_of}
use Rattle.desk_http.proofs.DecisionLemmas.{take_then}
use Rattle.desk_http.proofs.RouteLemmas.{same_cut}

-- A target is one path.

-- the route by the second and the third character
abbrev route_at : ℕ → ℕ → Route
route_at second third =
    if nat_eq second 104 then routes.Holdings else (
    if nat_eq second 105 then routes.Message else (
    if nat_eq second 111 then (if nat_eq third 112 then routes.Operator else routes.Sent) else (
    if nat_eq third 116 then routes.Status else routes.Sums)))

abbrev route_by : List ℕ → Route
route_by target = route_at (get_or target 1 0) (get_or target 2 0)

route_is : (path : Path) (target : List ℕ) → IsPath path target → route_by target ≡ route_of path
route_is (message bic mt) target is = ap route_by is.2
route_is operator target is = ap route_by is
route_is (status bic) target is = ap route_by is.1
route_is (holdings bic) target is = ap route_by is.1
route_is (sent bic number) target is = ap route_by is.2
route_is sums target is = ap route_by is

path_by : (p q : Path) (target : List ℕ) → route_of p ≡ route_of q → IsPath p target → IsPath q target → p ≡ q
path_by (message a b) (message c d) target e p q =
    let same = same_cut a b c d p.0.no_slash q.0.no_slash (append_cancel_left (codes "/in/") (a ++ 47 ∷ b) (c ++ 47 ∷ d) (sym p.2 ∙ q.2)) in
    rw (same.0, same.1) refl
path_by operator operator target e p q = refl
path_by (status a) (status c) target e p q = ap status (append_cancel_left (codes "/status/") a c (sym p.1 ∙ q.1))
path_by (holdings a) (holdings c) target e p q = ap holdings (append_cancel_left (codes "/holdings/") a c (sym p.1 ∙ q.1))
path_by (sent a b) (sent c d) target e p q =
    let same = same_cut a b c d p.0.no_slash q.0.no_slash (append_cancel_left (codes "/out/") (a ++ 47 ∷ b) (c ++ 47 ∷ d) (sym p.2 ∙ q.2)) in
    rw (same.0, same.1) refl
path_by sums sums target e p q = refl
path_by p q target e _ _ = cc

path_is : (p q : Path) (target : List ℕ) → IsPath p target → IsPath q target → p ≡ q
path_is p q target a b = path_by p q target (sym (route_is p target a) ∙ route_is q target b) a b

-- A path names one question.

question_is : (path : Path) (r s : Question) → Names path r → Names path s → r ≡ s
question_is (message bic mt) r s n m = by r s n m
  where
    by : (r s : Question) → Names (message bic mt) r → Names (message bic mt) s → r ≡ s
    by (Message x t) (Message y u) n m =
        let who : x ≡ y = n.0.0 ∙ sym m.0.0 in
        let what : t ≡ u = same_kind t u (n.1 ∙ sym m.1) in
        rw (who, what) refl
    by (Message x t) s n m = absurd m
    by r s n m = absurd n
question_is operator r s n m = by r s n m
  where
    by : (r s : Question) → Names operator r → Names operator s → r ≡ s
    by Operator Operator n m = refl
    by Operator s n m = absurd m
    by r s n m = absurd n
question_is (status bic) r s n m = by r s n m
  where
    by : (r s : Question) → Names (status bic) r → Names (status bic) s → r ≡ s
    by (Status x) (Status y) n m = ap Status (n.0 ∙ sym m.0)
    by (Status x) s n m = absurd m
    by r s n m = absurd n
question_is (holdings bic) r s n m = by r s n m
  where
    by : (r s : Question) → Names (holdings bic) r → Names (holdings bic) s → r ≡ s
    by (Holdings x) (Holdings y) n m = ap Holdings (n.0 ∙ sym m.0)
    by (Holdings x) s n m = absurd m
    by r s n m = absurd n
question_is (sent bic number) r s n m = by r s n m
  where
    by : (r s : Question) → Names (sent bic number) r → Names (sent bic number) s → r ≡ s
    by (Sent x k) (Sent y l) n m =
        let who : x ≡ y = n.0.0 ∙ sym m.0.0 in
        let what : k ≡ l = n.1.is ∙ sym m.1.is in
        rw (who, what) refl
    by (Sent x k) s n m = absurd m
    by r s n m = absurd n
question_is sums r s n m = by r s n m
  where
    by : (r s : Question) → Names sums r → Names sums s → r ≡ s
    by Sums Sums n m = refl
    by Sums s n m = absurd m
    by r s n m = absurd n

-- A body has one length.

length_is : (values : List (List ℕ)) (a b : Result ℕ Refusal) → LengthBy values a → LengthBy values b → a ≡ b
length_is [] a b x y = x ∙ sym y
length_is (text ∷ []) a b (inl x) (inl y) = x.1 ∙ sym y.1
length_is (text ∷ []) a b (inl x) (inr y) = absurd (y.0 x.0)
length_is (text ∷ []) a b (inr x) (inl y) = absurd (x.0 y.0)
length_is (text ∷ []) a b (inr x) (inr y) = x.1 ∙ sym y.1
length_is (text ∷ other ∷ more) a b x y = x ∙ sym y

under_is : (encodings lengths : List (List ℕ)) (a b : Result ℕ Refusal) → LengthUnder encodings lengths a → LengthUnder encodings lengths b → a ≡ b
under_is [] lengths a b x y = length_is lengths a b x y
under_is (encoding ∷ encodings) lengths a b x y = x ∙ sym y

-- A head calls for one thing.

abbrev call_with : Question → Result ℕ Refusal → Result Call Refusal
call_with question (Ok count) = Ok (record { question = question; length = count })
call_with question (Err refusal) = Err refusal

abbrev OnQuestion : RequestHead → Path → Question → Result Call Refusal → Type 0
OnQuestion h path question x =
    ((has_text question ≡ false) × (x ≡ call_with question (Ok 0)))
    ⊎ ((has_text question ≡ true) × (count : Result ℕ Refusal) × BodyLength (map name_and_value h.fields) count × (x ≡ call_with question count))

abbrev OnMethod : RequestHead → Path → Result Call Refusal → Type 0
OnMethod h path x =
    (((question : Question) → ¬ Names path question) × (x ≡ Err NotFound)) ⊎ ((question : Question) × Names path question × OnQuestion h path question x)

abbrev OnPath : RequestHead → Path → Result Call Refusal → Type 0
OnPath h path x = ((h.method ≢ method_of path) × (x ≡ Err MethodNotAllowed)) ⊎ ((h.method ≡ method_of path) × OnMethod h path x)

abbrev OnTarget : RequestHead → Result Call Refusal → Type 0
OnTarget h x = (((path : Path) → ¬ IsPath path h.target) × (x ≡ Err NotFound)) ⊎ ((path : Path) × IsPath path h.target × OnPath h path x)

on_target : (h : RequestHead) (x : Result Call Refusal) → Calls h x → OnTarget h x
on_target h x (nowhere none) = inl (none, refl)
on_target h x (other_method path is other) = inr (path, is, inl (other, refl))
on_target h x (nothing path is method none) = inr (path, is, inr (method, inl (none, refl)))
on_target h x (bodiless {call} path is method names no_body zero) =
    let same : call ≡ record { question = call.question; length = 0 } = ap (λ n. record { question = call.question; length = n }) zero in
    inr (path, is, inr (method, inr (call.question, names, inl (no_body, ap Ok same))))
on_target h x (posted {call} path is method names body length) = inr (path, is, inr (method, inr (call.question, names, inr (body, Ok call.length, length, refl))))
on_target h x (no_length {refusal} path question is method names body length) = inr (path, is, inr (method, inr (question, names, inr (body, Err refusal, length, refl))))

by_question : (h : RequestHead) (path : Path) (question : Question) (x y : Result Call Refusal) → OnQuestion h path question x → OnQuestion h path question y → x ≡ y
by_question h path question x y (inl a) (inl b) = a.1 ∙ sym b.1
by_question h path question x y (inl a) (inr b) = let bad = sym a.0 ∙ b.0 in cc
by_question h path question x y (inr a) (inl b) = let bad = sym a.0 ∙ b.0 in cc
by_question h path question x y (inr a) (inr b) = a.3 ∙ ap (call_with question) (under_is _ _ a.1 b.1 a.2 b.2) ∙ sym b.3

by_method : (h : RequestHead) (path : Path) (x y : Result Call Refusal) → OnMethod h path x → OnMethod h path y → x ≡ y
by_method h path x y (inl a) (inl b) = a.1 ∙ sym b.1
by_method h path x y (inl a) (inr b) = absurd (a.0 b.0 b.1)
by_method h path x y (inr a) (inl b) = absurd (b.0 a.0 a.1)
by_method h path x y (inr a) (inr b) =
    let P : Question → Type 0 = λ r. OnQuestion h path r y in
    by_question h path a.0 x y a.2 (subst P (question_is path b.0 a.0 b.1 a.1) b.2)

by_path : (h : RequestHead) (path : Path) (x y : Result Call Refusal) → OnPath h path x → OnPath h path y → x ≡ y
by_path h path x y (inl a) (inl b) = a.1 ∙ sym b.1
by_path h path x y (inl a) (inr b) = absurd (a.0 b.0)
by_path h path x y (inr a) (inl b) = absurd (b.0 a.0)
by_path h path x y (inr a) (inr b) = by_method h path x y a.1 b.1

by_target : (h : RequestHead) (x y : Result Call Refusal) → OnTarget h x → OnTarget h y → x ≡ y
by_target h x y (inl a) (inl b) = a.1 ∙ sym b.1
by_target h x y (inl a) (inr b) = absurd (a.0 b.0 b.1)
by_target h x y (inr a) (inl b) = absurd (b.0 a.0 a.1)
by_target h x y (inr a) (inr b) =
    let P : Path → Type 0 = λ p. OnPath h p y in
    by_path h a.0 x y a.2 (subst P (path_is b.0 a.0 h.target b.1 a.1) b.2)

call_is : (h : RequestHead) (x y : Result Call Refusal) → Calls h x → Calls h y → x ≡ y
call_is h x y a b = by_target h x y (on_target h x a) (on_target h y b)

-- A stream.

abbrev outcome_of : Result Call Refusal → List ℕ → Result Asked Refusal
outcome_of (Ok call) rest = if nat_le call.length (length rest) then Ok (asked_with call.question (take call.length rest)) else Err BadRequest
outcome_of (Err refusal) rest = Err refusal

abbrev Refused : List ℕ → Result Asked Refusal → Type 0
Refused stream outcome = (refusal : Refusal) × RefusesHead stream refusal × (outcome ≡ Err refusal)

abbrev Headed : List ℕ → Result Asked Refusal → Type 0
Headed stream outcome = (h : RequestHead) × (rest : List ℕ) × HasHead stream h rest × (call : Result Call Refusal) × Calls h call × (outcome ≡ outcome_of call rest)

view_of : (stream : List ℕ) (outcome : Result Asked Refusal) → Connection stream outcome → Refused stream outcome ⊎ Headed stream outcome
view_of stream outcome (no_head {refusal} h) = inl (refusal, h, refl)
view_of stream outcome (refused {refusal} head rest has calls) = inr (head, rest, has, Err refusal, calls, refl)
view_of stream outcome (whole call head rest has calls enough) =
    let yes : nat_le call.length (length rest) ≡ true = grind (arith, nat_tests) in
    inr (head, rest, has, Ok call, calls, rw yes refl)
view_of stream outcome (cut call head rest has calls short) =
    let less : nat_le call.length (length rest) ≡ false = grind (arith, nat_tests) in
    inr (head, rest, has, Ok call, calls, rw less refl)

whole_stream : (stream : List ℕ) (h : RequestHead) (rest : List ℕ) → HasHead stream h rest → ReadsRequest (front stream ++ drop 8192 stream) h rest
whole_stream stream h rest has = let P : List ℕ → Type 0 = λ l. ReadsRequest l h rest in subst P (sym (take-append-drop 8192 stream)) has.reads

front_reads : (stream : List ℕ) (h : RequestHead) (rest : List ℕ) → HasHead stream h rest → (left : List ℕ) × ReadsRequest (front stream) h left
front_reads stream h rest has =
    let left = take (8192 - length (print_request h)) rest in
    let long = has.whole in (
      left,
      (
        has.reads.0,
        ap front has.reads.1 ∙ take_then 8192 (print_request h) rest ∙ ap (λ l. l ++ left) (take_all 8192 (print_request h) (omega arith)),
      ),
    )

head_or_refusal : (stream : List ℕ) (h : RequestHead) (rest : List ℕ) (refusal : Refusal) → HasHead stream h rest → RefusesHead stream refusal → ⊥
head_or_refusal stream h rest refusal has r = by refusal r
  where
    by : (refusal : Refusal) → RefusesHead stream refusal → ⊥
    by BadRequest (inl never) = never (drop 8192 stream) h rest (whole_stream stream h rest has)
    by BadRequest (inr none) = none.0 h rest has.reads
    by HeaderFieldsTooLarge (inl many) = let over = many.1 (drop 8192 stream) h rest (whole_stream stream h rest has) in absurd (omega (arith, has.few))
    by HeaderFieldsTooLarge (inr full) = let r = front_reads stream h rest has in full.0 h r.0 r.1
    by refusal r = r

one_refusal : (stream : List ℕ) (a b : Refusal) → RefusesHead stream a → RefusesHead stream b → (IsLeftOpen stream → ⊥) → a ≡ b
one_refusal stream a b x y closed = by a b x y
  where
    mixed : RefusesHead stream BadRequest → RefusesHead stream HeaderFieldsTooLarge → ⊥
    mixed (inl never) (inl many) = closed (inl (many.0, λ h rest reads. never [] h rest (rw (append-nil (front stream)) reads)))
    mixed (inl never) (inr (none, inl may, long)) = never may.0 may.1 [] may.2
    mixed (inl never) (inr (none, inr ends, long)) = closed (inr (ends, long))
    mixed (inr (none, short)) (inl many) =
        let all : front stream ≡ stream = take_all 8192 stream (omega arith) in
        let P : List ℕ → Type 0 = λ l. HasNoRequest l in
        closed (inl (many.0, subst P (sym all) none))
    mixed (inr (none, short)) (inr full) = absurd (omega (arith, full.2))

    by : (a b : Refusal) → RefusesHead stream a → RefusesHead stream b → a ≡ b
    by BadRequest BadRequest x y = refl
    by HeaderFieldsTooLarge HeaderFieldsTooLarge x y = refl
    by BadRequest HeaderFieldsTooLarge x y = absurd (mixed x y)
    by HeaderFieldsTooLarge BadRequest x y = absurd (mixed y x)
    by BadRequest b x y = absurd y
    by HeaderFieldsTooLarge b x y = absurd y
    by a b x y = absurd x

pub outcome_is : (stream : List ℕ) (a b : Result Asked Refusal) → Connection stream a → Connection stream b → (IsLeftOpen stream → ⊥) → a ≡ b
outcome_is stream a b x y closed = by (view_of stream a x) (view_of stream b y)
  where
    by : Refused stream a ⊎ Headed stream a → Refused stream b ⊎ Headed stream b → a ≡ b
    by (inl x) (inl y) = x.2 ∙ ap Err (one_refusal stream x.0 y.0 x.1 y.1 closed) ∙ sym y.2
    by (inl x) (inr y) = absurd (head_or_refusal stream y.0 y.1 x.0 y.2 x.1)
    by (inr x) (inl y) = absurd (head_or_refusal stream x.0 x.1 y.0 x.2 y.1)
    by (inr x) (inr y) =
        let same = request_unique stream y.0 x.0 y.1 x.1 y.2.reads x.2.reads in
        let P : RequestHead → Type 0 = λ h. Calls h y.3 in
        x.5 ∙ ap (λ c. outcome_of c x.1) (call_is x.0 x.3 y.3 x.4 (subst P same.0 y.4)) ∙ ap (λ l. outcome_of y.3 l) (sym same.1) ∙ sym y.5
