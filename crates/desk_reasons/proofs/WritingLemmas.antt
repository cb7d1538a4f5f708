-- Texts of a list, written one behind another.
use Rattle.std.proofs.Common.{◌≡◌, ℕ, ◌+◌, ◌<◌, List, [], ◌∷◌, ◌++◌, length, take, get_or, Option, append-nil, sym, ap, subst, ◌∙◌}
use Rattle.std.proofs.KnownBytes.{Appends-trans}
use Rattle.std.proofs.lemmas.List.{take_more}
use Rattle.std.proofs.lemmas.List.Concat.{flat_map-cons}
use Rattle.std.proofs.lemmas.Grind.{flat_map-append}
use Rattle.std.specs.List.{flat_map}
use Rattle.std.specs.Io.KnownBytes.{Appends}

one_more : {X : Type 0} (f : X → List ℕ) (xs : List X) (i : ℕ) (d : X) → i < length xs → flat_map f (take (i + 1) xs) ≡ flat_map f (take i xs) ++ f (get_or xs i d)
one_more f xs i d below =
    let last : flat_map f (get_or xs i d ∷ []) ≡ f (get_or xs i d) = flat_map-cons f (get_or xs i d) [] ∙ append-nil (f (get_or xs i d)) in
    ap (flat_map f) (take_more xs i d below) ∙ flat_map-append f (take i xs) (get_or xs i d ∷ []) ∙ ap (λ z. flat_map f (take i xs) ++ z) last

pub one_written : {X : Type 0} (f : X → List ℕ) (xs : List X) (before between after : Option (List ℕ)) (i : ℕ) (d : X) → i < length xs → Appends before between (flat_map f (take i xs))
    → Appends between after (f (get_or xs i d)) → Appends before after (flat_map f (take (i + 1) xs))
one_written f xs before between after i d below front now =
    let P : List ℕ → Type 0 = λ text. Appends before after text in
    subst P (sym (one_more f xs i d below)) (Appends-trans before between after (flat_map f (take i xs)) (f (get_or xs i d)) front now)

-- a text behind another, each under another name
pub two_written : (before between after : Option (List ℕ)) (a b x y : List ℕ) → a ≡ x → b ≡ y → Appends before between a → Appends between after b → Appends before after (x ++ y)
two_written before between after a b x y is_x is_y one two =
    let P : List ℕ → Type 0 = λ text. Appends before after text in
    subst P (ap (λ z. z ++ b) is_x ∙ ap (λ z. x ++ z) is_y) (Appends-trans before between after a b one two)
