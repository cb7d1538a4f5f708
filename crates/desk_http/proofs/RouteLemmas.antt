-- Which path a target is, by the rows of the desk's router.
use Rattle.std.proofs.Common.{◌≡◌, ◌≢◌, ℕ, inl, inr, List, [], ◌∷◌, ◌++◌, Bool, true, ltb, Option, Some, None, IfNone, IsSome, codes, refl, sym, ap, subst, ◌∙◌, arith, append-nil}
use Rattle.std.specs.List.{list_all}
use Rattle.std.proofs.lemmas.List.{append_cancel_left}
use Rattle.std.proofs.lemmas.Bool.Decides.{nat_tests}
use Rattle.std.proofs.lemmas.List.Elements.{All-cons, All-head, All-tail}
use Rattle.matchit.specs.Router.{RouteOf}
use Rattle.matchit.specs.Seek.{first, seek}
use Rattle.desk_http.specs.Paths.{IsPart, IsPath, Path, message, operator, status, holdings, sent, sums}
use Rattle.desk_http.specs.Rows.{desk_rows, one_part, two_parts, IsOn}
use Rattle.desk_http.specs.declared.route.Route.{Route}
use Rattle.desk_http.proofs.WalkLemmas.{Fits, HasRow, NoSlash, both, fits, last_found, no_slash_nil, past, two_found}

-- each is a byte, and no parameter
abbrev are_bytes : List ℕ → Bool
are_bytes word = list_all (λ c. ltb c 256) word

-- what is spelled by a word and further tokens begins with the word
behind_word : (word tokens target : List ℕ) → are_bytes word ≡ true → Fits (word ++ tokens) target → (rest : List ℕ) × (target ≡ word ++ rest) × Fits tokens rest
behind_word [] tokens target e f = (target, refl, f)
behind_word (x ∷ word) tokens target e (inl f) =
    let r = behind_word word tokens f.0 (both (ltb x 256) (are_bytes word) e).1 f.2 in
    (r.0, f.1 ∙ ap (λ l. x ∷ l) r.1, r.2)
behind_word (x ∷ word) tokens target e (inr (inl f)) =
    let small = (both (ltb x 256) (are_bytes word) e).0 in
    let is : x ≡ 256 = f.0 in
    absurd (grind (arith, nat_tests))
behind_word (x ∷ word) tokens target e (inr (inr is)) =
    let small = (both (ltb x 256) (are_bytes word) e).0 in
    let all : x ≡ 257 = is in
    absurd (grind (arith, nat_tests))

parameter_part : IsPart (256 ∷ [])
parameter_part = record { some = omega arith; no_slash = All-cons (λ c. c ≢ 47) 256 [] (λ e. omega arith) no_slash_nil }

one_is : (target : List ℕ) → Fits one_part target → IsPart target
one_is target (inl f) = let P : List ℕ → Type 0 = IsPart in subst P (sym (f.1 ∙ ap (λ l. 256 ∷ l) f.2)) parameter_part
one_is target (inr (inl f)) = let P : List ℕ → Type 0 = IsPart in subst P (sym (f.4 ∙ (ap (λ l. f.1 ++ l) f.5 ∙ append-nil f.1))) f.3
one_is target (inr (inr is)) = absurd (omega arith)

two_are : (target : List ℕ) → Fits two_parts target → (a : List ℕ) × (b : List ℕ) × IsPart a × IsPart b × (target ≡ a ++ 47 ∷ b)
two_are target (inl f) =
    let r = behind_word (47 ∷ []) one_part f.0 refl f.2 in
    (256 ∷ [], r.0, parameter_part, one_is r.0 r.2, f.1 ∙ ap (λ l. 256 ∷ l) r.1)
two_are target (inr (inl f)) =
    let r = behind_word (47 ∷ []) one_part f.2 refl f.5 in
    (f.1, r.0, f.3, one_is r.0 r.2, f.4 ∙ ap (λ l. f.1 ++ l) r.1)
two_are target (inr (inr is)) = absurd (omega arith)

-- the target is a path of this route
pub on_route : (target : List ℕ) (found : RouteOf Route) → first desk_rows target ≡ Some found → IsOn found.value target
on_route target found e = let f = fits 0 desk_rows target found e in by f.0 f.1 f.2
  where
    by : (tokens : List ℕ) → HasRow desk_rows tokens found → Fits tokens target → IsOn found.value target
    by tokens (inl is) fit =
        let r = behind_word (codes "/holdings/") one_part target refl (subst (λ t. Fits t target) is.0 fit) in
        (holdings r.0, sym (ap (λ k. k.value) is.1), (one_is r.0 r.2, r.1))
    by tokens (inr (inl is)) fit =
        let r = behind_word (codes "/in/") two_parts target refl (subst (λ t. Fits t target) is.0 fit) in
        let p = two_are r.0 r.2 in
        (message p.0 p.1, sym (ap (λ k. k.value) is.1), (p.2, p.3, r.1 ∙ ap (λ l. codes "/in/" ++ l) p.4))
    by tokens (inr (inr (inl is))) fit =
        let r = behind_word (codes "/ops") [] target refl (subst (λ t. Fits t target) is.0 fit) in
        (operator, sym (ap (λ k. k.value) is.1), r.1 ∙ ap (λ l. codes "/ops" ++ l) r.2)
    by tokens (inr (inr (inr (inl is)))) fit =
        let r = behind_word (codes "/out/") two_parts target refl (subst (λ t. Fits t target) is.0 fit) in
        let p = two_are r.0 r.2 in
        (sent p.0 p.1, sym (ap (λ k. k.value) is.1), (p.2, p.3, r.1 ∙ ap (λ l. codes "/out/" ++ l) p.4))
    by tokens (inr (inr (inr (inr (inl is))))) fit =
        let r = behind_word (codes "/status/") one_part target refl (subst (λ t. Fits t target) is.0 fit) in
        (status r.0, sym (ap (λ k. k.value) is.1), (one_is r.0 r.2, r.1))
    by tokens (inr (inr (inr (inr (inr (inl is)))))) fit =
        let r = behind_word (codes "/sums") [] target refl (subst (λ t. Fits t target) is.0 fit) in
        (sums, sym (ap (λ k. k.value) is.1), r.1 ∙ ap (λ l. codes "/sums" ++ l) r.2)
    by tokens (inr (inr (inr (inr (inr (inr none)))))) fit = absurd none

missing : (word rest target : List ℕ) → target ≡ word ++ rest → first desk_rows target ≡ None → seek 0 desk_rows (word ++ rest) ≡ None
missing word rest target is e = let P : List ℕ → Type 0 = λ t. first desk_rows t ≡ None in subst P is e

-- a path is found
pub found_path : (path : Path) (target : List ℕ) → IsPath path target → first desk_rows target ≡ None → ⊥
unfolding seek
found_path (message bic mt) target is e = two_found _ bic mt is.0 is.1 (sym (past (codes "/in/") desk_rows (bic ++ 47 ∷ mt) refl) ∙ missing (codes "/in/") (bic ++ 47 ∷ mt) target is.2 e)
found_path operator target is e = let none = sym (past (codes "/ops") desk_rows [] refl) ∙ missing (codes "/ops") [] target is e in cc
found_path (status bic) target is e = last_found _ bic is.0 (sym (past (codes "/status/") desk_rows bic refl) ∙ missing (codes "/status/") bic target is.1 e)
found_path (holdings bic) target is e = last_found _ bic is.0 (sym (past (codes "/holdings/") desk_rows bic refl) ∙ missing (codes "/holdings/") bic target is.1 e)
found_path (sent bic number) target is e = two_found _ bic number is.0 is.1 (sym (past (codes "/out/") desk_rows (bic ++ 47 ∷ number) refl) ∙ missing (codes "/out/") (bic ++ 47 ∷ number) target is.2 e)
found_path sums target is e = let none = sym (past (codes "/sums") desk_rows [] refl) ∙ missing (codes "/sums") [] target is e in cc

-- Parts, cut at the first slash.

no_cut : (text first last : List ℕ) → NoSlash text → text ≡ first ++ 47 ∷ last → ⊥
no_cut [] [] last none e = cc
no_cut [] (y ∷ first) last none e = cc
no_cut (x ∷ text) [] last none e = All-head (λ c. c ≢ 47) x text none cc
no_cut (x ∷ text) (y ∷ first) last none e = no_cut text first last (All-tail (λ c. c ≢ 47) x text none) cc

pub same_cut : (a b c d : List ℕ) → NoSlash a → NoSlash c → a ++ 47 ∷ b ≡ c ++ 47 ∷ d → (a ≡ c) × (b ≡ d)
same_cut [] b [] d p q e = (refl, cc)
same_cut [] b (y ∷ c) d p q e = absurd (All-head (λ c. c ≢ 47) y c q cc)
same_cut (x ∷ a) b [] d p q e = absurd (All-head (λ c. c ≢ 47) x a p cc)
same_cut (x ∷ a) b (y ∷ c) d p q e =
    let rest = same_cut a b c d (All-tail (λ c. c ≢ 47) x a p) (All-tail (λ c. c ≢ 47) y c q) cc in
    let head : x ≡ y = cc in
    (rw (head, rest.0) refl, rest.1)

-- two parts are there to be cut
pub must_cut : (prefix target rest first last : List ℕ) → target ≡ prefix ++ rest → IsPart first → target ≡ prefix ++ (first ++ 47 ∷ last) → NoSlash rest → ⊥
must_cut prefix target rest first last begins is e none = no_cut rest first last none (append_cancel_left prefix rest (first ++ 47 ∷ last) (sym begins ∙ e))

pub cut_parts : (prefix target rest first last a b : List ℕ) → target ≡ prefix ++ rest → IsPart first → IsPart last → target ≡ prefix ++ (first ++ 47 ∷ last) → rest ≡ a ++ 47 ∷ b → NoSlash a
    → IsPart a × IsPart b × (target ≡ prefix ++ (a ++ 47 ∷ b))
cut_parts prefix target rest first last a b begins is then e cut none =
    let same = same_cut a b first last none is.no_slash (sym cut ∙ append_cancel_left prefix rest (first ++ 47 ∷ last) (sym begins ∙ e)) in
    rw (same.0, same.1) (is, then, e)

pub must_be : {T : Type 0} (o : Option T) (P : Type 0) → IfNone o P → (P → ⊥) → IsSome o
must_be None P h never = absurd (never h)
must_be (Some x) P h never = refl

pub last_is : (prefix target rest part : List ℕ) → target ≡ prefix ++ rest → IsPart part → target ≡ prefix ++ part → IsPart rest × (target ≡ prefix ++ rest)
last_is prefix target rest part begins is e =
    let P : List ℕ → Type 0 = IsPart in
    (subst P (append_cancel_left prefix part rest (sym e ∙ begins)) is, begins)
