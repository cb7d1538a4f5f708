-- What stands behind the first of some characters.
use Rattle.std.proofs.Common.{◌≡◌, ◌≢◌, ℕ, true, false, cond, eqb, List, [], ◌∷◌, ◌++◌, All, refl, ap, ◌∙◌, arith}
use Rattle.std.proofs.lemmas.Bool.Decides.{nat_tests}
use Rattle.std.proofs.lemmas.List.Elements.{All-head, All-tail}
use Rattle.desk_reasons.specs.Characters.{behind_first}

is_not : (c d : ℕ) → c ≢ d → eqb c d ≡ false
is_not c d ne = grind (arith, nat_tests)

is_same : (c : ℕ) → eqb c c ≡ true
is_same c = grind (arith, nat_tests)

pub behind_found : (c : ℕ) (front rest : List ℕ) → All (λ d. d ≢ c) front → behind_first c (front ++ c ∷ rest) ≡ rest
behind_found c [] rest a = ap (λ b. cond b rest (behind_first c rest)) (is_same c)
behind_found c (d ∷ front) rest a =
    ap (λ b. cond b (front ++ c ∷ rest) (behind_first c (front ++ c ∷ rest))) (is_not d c (All-head (λ d. d ≢ c) d front a))
    ∙ behind_found c front rest (All-tail (λ d. d ≢ c) d front a)

pub behind_none : (c : ℕ) (text : List ℕ) → All (λ d. d ≢ c) text → behind_first c text ≡ []
behind_none c [] a = refl
behind_none c (d ∷ text) a =
    ap (λ b. cond b text (behind_first c text)) (is_not d c (All-head (λ d. d ≢ c) d text a)) ∙ behind_none c text (All-tail (λ d. d ≢ c) d text a)
