-- What stands behind a beginning.
use Rattle.std.proofs.Common.{◌≡◌, ℕ, true, false, List, [], ◌∷◌, ◌++◌, ◌≤◌, ◌-◌, length, take, drop, nat_eq, sym, ◌∙◌, ap, subst, arith, Option, Some, None, Bor, codes, append_assoc}
use Rattle.std.proofs.lemmas.Grind.{common_steps}
use Rattle.std.proofs.lemmas.List.{append_cancel_left, take-append-drop}
use Rattle.std.proofs.Math.Seq.{take-append_seam}
use Rattle.std.specs.Cmp.Lexicographic.{pointwise, same_text, other_text}
use Rattle.desk_text.specs.Fields.{Found}
use Rattle.desk_msg.specs.Profile.{Bears, Behind, slashed}
use Rattle.desk_msg.specs.Finding.{text_in}
use Rattle.desk_msg.specs.Named.{IsFound}

-- a text that begins so
pub begins_so : (text begins : List ℕ) → pointwise nat_eq begins (take (length begins) text) ≡ true → text ≡ begins ++ drop (length begins) text
begins_so text begins h =
    sym (take-append-drop (length begins) text) ∙ ap (λ front. front ++ drop (length begins) text) (sym (same_text begins (take (length begins) text) (sym h)))

-- what stands behind a beginning, as a slice takes it
pub rest_behind : (text begins : List ℕ) → length begins ≤ length text → take (length text - length begins) (drop (length begins) text) ≡ drop (length begins) text
rest_behind text begins h = grind (arith, common_steps)

-- a text that doesn't begin so
pub begins_not : (text begins rest : List ℕ) → pointwise nat_eq begins (take (length begins) text) ≡ false → text ≡ begins ++ rest → ⊥
begins_not text begins rest h e =
    other_text begins (take (length begins) text) (sym h) (sym (ap (take (length begins)) e ∙ take-append_seam begins rest))

pub one_head : (x y : List ℕ) (xs ys : List (List ℕ)) → x ∷ xs ≡ y ∷ ys → x ≡ y
one_head x y xs ys e = cc

-- one text stands behind a beginning
pub one_behind : (begins : List ℕ) (field : Found) (x y : List ℕ) → Bears begins field x → Bears begins field y → x ≡ y
one_behind begins field x y bx by = append_cancel_left begins x y (one_head (begins ++ x) (begins ++ y) [] [] (sym bx ∙ by))

-- a value that is found in the text behind a beginning is found behind it
pub found_behind : {X Y : Type 0} (view : X → Y) (P : List ℕ → Y → Type 0) (begins : List ℕ) (field : Found) (text : List ℕ) (r : Option X) → Bears begins field text → IsFound view (P text) r → IsFound view (λ y. Behind begins field (λ t. P t y)) r
found_behind view P begins field text (Some x) bears found = (text, bears, found)
found_behind view P begins field text None bears found = λ y h. let Q : List ℕ → Type 0 = λ t. P t y in found y (subst Q (one_behind begins field h.0 text h.1 bears) h.2)

-- where no text stands behind a beginning, nothing is found there
pub none_behind : {Y : Type 0} (P : List ℕ → Y → Type 0) (begins : List ℕ) (field : Found) → ((t : List ℕ) → Bears begins field t → ⊥) → (y : Y) → Behind begins field (λ t. P t y) → ⊥
none_behind P begins field none y h = none h.0 h.1

-- what stands behind `:QUAL/` and a slash
pub text_under : (begins : List ℕ) (field : Found) (rest : List ℕ) (r : Option (Bor (List ℕ))) → Bears begins field rest → IsFound text_in (λ t. rest ≡ codes "/" ++ t) r → IsFound text_in (Bears (slashed begins) field) r
text_under begins field rest (Some text) bears found = bears ∙ ap (λ v. v ∷ []) (ap (λ w. begins ++ w) found ∙ sym (append_assoc begins (47 ∷ []) text.now))
text_under begins field rest None bears found = λ y h. found y (one_behind begins field rest (47 ∷ y) bears (h ∙ ap (λ v. v ∷ []) (append_assoc begins (47 ∷ []) y)))
