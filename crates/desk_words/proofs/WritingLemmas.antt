-- Texts, written one behind another.
use Rattle.std.proofs.Common.{◌≡◌, ℕ, ◌+◌, ◌<◌, List, [], ◌∷◌, ◌++◌, length, map, take, get_or, Option, Some, None, Result, Ok, Err, refl, append-nil, append_assoc, sym, ap, ◌∙◌}
use Rattle.std.proofs.lemmas.List.{take_more}
use Rattle.std.proofs.lemmas.List.Concat.{flat_map-cons}
use Rattle.std.proofs.lemmas.Grind.{flat_map-append}
use Rattle.std.specs.Prelude.{OnOk}
use Rattle.std.specs.List.{flat_map}
use Rattle.std.specs.Io.KnownBytes.{Appends}

pub both : (before between after : Option (List ℕ)) (front rest text : List ℕ) → Appends before between front → Appends between after rest → text ≡ front ++ rest → Appends before after text
both None between after front rest text one two is = tt
both (Some xs) None after front rest text one two is = absurd one
both (Some xs) (Some ys) None front rest text one two is = absurd two
both (Some xs) (Some ys) (Some zs) front rest text one two is = two ∙ ap (λ y. y ++ rest) one ∙ append_assoc xs front rest ∙ ap (λ t. xs ++ t) (sym is)

module _ {X : Type 0} (f : X → List ℕ) (xs : List X) where
  one_more : (i : ℕ) (d : X) → i < length xs → flat_map f (take (i + 1) xs) ≡ flat_map f (take i xs) ++ f (get_or xs i d)
  one_more i d below =
      let last : flat_map f (get_or xs i d ∷ []) ≡ f (get_or xs i d) = flat_map-cons f (get_or xs i d) [] ∙ append-nil (f (get_or xs i d)) in
      ap (flat_map f) (take_more xs i d below) ∙ flat_map-append f (take i xs) (get_or xs i d ∷ []) ∙ ap (λ z. flat_map f (take i xs) ++ z) last

  pub written : (before between after : Option (List ℕ)) (i : ℕ) (d : X) → i < length xs → Appends before between (flat_map f (take i xs)) → Appends between after (f (get_or xs i d))
      → Appends before after (flat_map f (take (i + 1) xs))
  written before between after i d below front now = both before between after (flat_map f (take i xs)) (f (get_or xs i d)) (flat_map f (take (i + 1) xs)) front now (one_more i d below)

-- one text is written, and then another
pub one_behind : {T E : Type 0} (before between after : Option (List ℕ)) (front rest : List ℕ) (written : Result T E) → Appends before between front → OnOk written (Appends between after rest) → OnOk written (Appends before after (front ++ rest))
one_behind before between after front rest (Ok done) one two = both before between after front rest (front ++ rest) one two refl
one_behind before between after front rest (Err error) one two = two

-- texts of rows are those of their values
pub over_values : {R V : Type 0} (text : V → List ℕ) (value : R → V) (rows : List R) → flat_map (λ row. text (value row)) rows ≡ flat_map text (map value rows)
over_values text value [] = refl
over_values text value (row ∷ rows) =
    flat_map-cons (λ row. text (value row)) row rows ∙ ap (λ t. text (value row) ++ t) (over_values text value rows) ∙ sym (flat_map-cons text (value row) (map value rows))
