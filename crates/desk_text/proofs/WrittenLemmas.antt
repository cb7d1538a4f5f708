-- What is written, over plain lists.
use Rattle.std.proofs.Common.{◌≡◌, ℕ, ◌≤◌, Bool, true, false, cond, eqb, min, List, [], ◌∷◌, ◌++◌, length, take, refl, sym, ap, ◌∙◌, arith, append_assoc, append-nil}
use Rattle.std.proofs.lemmas.List.{take-append-le, length-take, flat_map_more}
use Rattle.desk_text.specs.Lines.{value_lines, onto_first, ended, written}
use Rattle.std.specs.List.{flat_map}
use Rattle.desk_text.specs.Written.{tagged, Draft, Part, after, lines_of_part}

-- the front of a buffer stays

pub front_more : (front out more : List ℕ) (n : ℕ) → n ≡ length front → take n out ≡ front → take n (out ++ more) ≡ front
front_more front out more n e at_front =
    let len : min n (length out) ≡ length front = sym (length-take n out) ∙ ap length at_front in
    let le : n ≤ length out = omega arith in
    take-append-le n out more le ∙ at_front

-- a value's lines, one after another

pub value_step : (out out' line rest after all : List ℕ) → out' ≡ out ++ (line ++ 13 ∷ 10 ∷ []) → value_lines rest ≡ line ∷ value_lines after → out ++ written (value_lines rest) ≡ all → out' ++ written (value_lines after) ≡ all
value_step out out' line rest after all e lines same =
    ap (λ z. z ++ written (value_lines after)) e ∙ append_assoc out (ended line) (written (value_lines after)) ∙ ap (λ z. out ++ z) (sym (ap written lines)) ∙ same

pub value_end : (out out' rest all : List ℕ) → value_lines rest ≡ rest ∷ [] → out ++ written (value_lines rest) ≡ all → out' ≡ out ++ (rest ++ 13 ∷ 10 ∷ []) → out' ≡ all
value_end out out' rest all lines same e =
    e ∙ ap (λ z. out ++ z) (sym (append-nil (ended rest)) ∙ sym (ap written lines)) ∙ same

-- there is a first line
pub record HasFirst (lines : List (List ℕ)) : Type 0 where
  pub first : List ℕ
  pub further : List (List ℕ)
  pub is : lines ≡ first ∷ further

onto-has_first : (c : ℕ) (lines : List (List ℕ)) → HasFirst (onto_first c lines)
onto-has_first c [] = record { first = c ∷ []; further = []; is = refl }
onto-has_first c (line ∷ lines) = record { first = c ∷ line; further = lines; is = refl }

either : (b : Bool) (x y : List (List ℕ)) → HasFirst x → HasFirst y → HasFirst (cond b x y)
either true x y p q = p
either false x y p q = q

pub value-has_first : (value : List ℕ) → HasFirst (value_lines value)
value-has_first [] = record { first = []; further = []; is = refl }
value-has_first (c ∷ value) = either (eqb c 10) ([] ∷ value_lines value) (onto_first c (value_lines value)) (record { first = []; further = value_lines value; is = refl }) (onto-has_first c (value_lines value))

tagged_cons : (tag first : List ℕ) (further : List (List ℕ)) → (58 ∷ (tag ++ 58 ∷ [])) ++ written (first ∷ further) ≡ written (tagged tag (first ∷ further))
tagged_cons tag first further = simp append_assoc

pub tagged_text : (tag value : List ℕ) → (58 ∷ (tag ++ 58 ∷ [])) ++ written (value_lines value) ≡ written (tagged tag (value_lines value))
tagged_text tag value =
    let h = value-has_first value in
    ap (λ z. (58 ∷ (tag ++ 58 ∷ [])) ++ written z) h.is ∙ tagged_cons tag h.first h.further ∙ sym (ap (λ z. written (tagged tag z)) h.is)

pub field_text : (out mid now tag value : List ℕ) → mid ≡ out ++ (58 ∷ (tag ++ 58 ∷ [])) → now ≡ mid ++ written (value_lines value) → now ≡ out ++ written (tagged tag (value_lines value))
field_text out mid now tag value a b =
    b ∙ ap (λ z. z ++ written (value_lines value)) a ∙ append_assoc out (58 ∷ (tag ++ 58 ∷ [])) (written (value_lines value)) ∙ ap (λ z. out ++ z) (tagged_text tag value)

-- one part more

pub written-append : (a b : List (List ℕ)) → written (a ++ b) ≡ written a ++ written b
written-append [] b = refl
written-append (line ∷ a) b = ap (λ z. ended line ++ z) (written-append a b) ∙ sym (append_assoc (ended line) (written a) (written b))

pub draft-more : (draft : Draft) (parts : List Part) (part : Part) → draft.text ≡ written (flat_map lines_of_part parts) → (after part draft).text ≡ written (flat_map lines_of_part (parts ++ part ∷ []))
draft-more draft parts part e =
    ap (λ z. z ++ written (lines_of_part part)) e ∙ sym (written-append (flat_map lines_of_part parts) (lines_of_part part)) ∙ ap written (flat_map_more lines_of_part [] parts part)
