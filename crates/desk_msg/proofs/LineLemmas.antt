-- Lines with a line feed between them.
use Rattle.std.proofs.Common.{◌≡◌, ℕ, List, [], ◌∷◌, ◌++◌, append_assoc, sym, ◌∙◌, ap, refl, arith}
use Rattle.std.specs.List.{join_with_byte}
use Rattle.std.proofs.lemmas.Grind.{common_steps}
use Rattle.desk_msg.specs.FieldsText.{named}
use Rattle.desk_msg.specs.FedLines.{fed}

pub append_nil : (a : List ℕ) → a ++ [] ≡ a
append_nil a = grind (arith, common_steps)

-- a line, and more lines behind line feeds
pub fed_join : (a : List ℕ) (lines : List (List ℕ)) → a ++ fed lines ≡ join_with_byte 10 (a ∷ lines)
fed_join a [] = append_nil a
fed_join a (l ∷ lines) = ap (λ rest. a ++ (10 ∷ rest)) (fed_join l lines)

pub fed-append : (xs ys : List (List ℕ)) → fed (xs ++ ys) ≡ fed xs ++ fed ys
fed-append [] ys = refl
fed-append (x ∷ xs) ys = ap (λ rest. 10 ∷ (x ++ rest)) (fed-append xs ys) ∙ ap (λ rest. 10 ∷ rest) (sym (append_assoc x (fed xs) (fed ys)))

-- a text to which lines were added three times
pub fed_thrice : (a t u v : List ℕ) (xs ys zs : List (List ℕ)) → t ≡ a ++ fed xs → u ≡ t ++ fed ys → v ≡ u ++ fed zs → v ≡ join_with_byte 10 (a ∷ (xs ++ ys ++ zs))
fed_thrice a t u v xs ys zs et eu ev =
    ev ∙ ap (λ w. w ++ fed zs) (eu ∙ ap (λ w. w ++ fed ys) et)
    ∙ append_assoc (a ++ fed xs) (fed ys) (fed zs)
    ∙ append_assoc a (fed xs) (fed ys ++ fed zs)
    ∙ ap (λ w. a ++ w) (sym (append_assoc (fed xs) (fed ys) (fed zs)) ∙ ap (λ w. w ++ fed zs) (sym (fed-append xs ys)) ∙ sym (fed-append (xs ++ ys) zs))
    ∙ fed_join a (xs ++ ys ++ zs)

-- a line that was added, with the value that it shows
pub line_is : (t u n w v : List ℕ) → u ≡ t ++ 10 ∷ named n w → w ≡ v → u ≡ t ++ 10 ∷ named n v
line_is t u n w v e same = e ∙ ap (λ z. t ++ 10 ∷ named n z) same

-- four lines, added one after another
pub fed_four : (t a b c d k l m n : List ℕ) → a ≡ t ++ 10 ∷ k → b ≡ a ++ 10 ∷ l → c ≡ b ++ 10 ∷ m → d ≡ c ++ 10 ∷ n → d ≡ t ++ fed (k ∷ l ∷ m ∷ n ∷ [])
fed_four t a b c d k l m n ea eb ec ed =
    ed ∙ ap (λ z. z ++ 10 ∷ n) (ec ∙ ap (λ z. z ++ 10 ∷ m) (eb ∙ ap (λ z. z ++ 10 ∷ l) ea))
    ∙ append_assoc ((t ++ 10 ∷ k) ++ 10 ∷ l) (10 ∷ m) (10 ∷ n)
    ∙ append_assoc (t ++ 10 ∷ k) (10 ∷ l) ((10 ∷ m) ++ 10 ∷ n)
    ∙ append_assoc t (10 ∷ k) ((10 ∷ l) ++ ((10 ∷ m) ++ 10 ∷ n))
    ∙ ap (λ z. t ++ 10 ∷ (k ++ 10 ∷ (l ++ 10 ∷ (m ++ 10 ∷ z)))) (sym (append_nil n))
