-- The parts of a BIC.
use Rattle.std.proofs.Common.{◌≡◌, ◌≢◌, ℕ, ◌≤◌, Bool, true, false, List, All, take, drop, length, codes, arith, ap, sym, ◌∙◌, subst, inl, inr, lit≤}
use Rattle.std.proofs.lemmas.List.{drop-drop, drop_all, length-take, drop-take, take-take}
use Rattle.std.proofs.lemmas.List.Elements.{All-take}
use Rattle.std.specs.Prelude.{nat_eq, if◌then◌else◌}
use Rattle.std.specs.Cmp.Lexicographic.{pointwise}
use Rattle.std.proofs.lemmas.Cmp.{nat_list_eq_equiv}
use Rattle.std.specs.Cmp.Lexicographic as Lexicographic
use Rattle.desk_codes.specs.Characters.{IsCapital, IsCodeChar}
use Rattle.desk_codes.specs.Bic.{HasBicLength, IsBicShaped, IsBic, party_of}
use Rattle.desk_codes.proofs.CharacterLemmas.{All-split, capitals_are_codes}

-- the parts that a text was cut into are those of its shape
pub shape_from_parts : (text party tail country rest : List ℕ) → party ≡ take 4 text → tail ≡ drop 4 text → country ≡ take 2 tail → rest ≡ drop 2 tail
    → All IsCodeChar party → All IsCapital country → All IsCodeChar rest → IsBicShaped text
shape_from_parts text party tail country rest p t c r a b d = record {
  party = subst (All IsCodeChar) p a;
  country = subst (All IsCapital) (c ∙ ap (take 2) t) b;
  rest = subst (All IsCodeChar) (r ∙ ap (drop 2) t ∙ drop-drop 2 4 text) d;
}

pub party_part : (text party : List ℕ) → party ≡ take 4 text → IsBicShaped text → All IsCodeChar party
party_part text party p s = subst (All IsCodeChar) (sym p) s.party

pub country_part : (text tail country : List ℕ) → tail ≡ drop 4 text → country ≡ take 2 tail → IsBicShaped text → All IsCapital country
country_part text tail country t c s = subst (All IsCapital) (sym (c ∙ ap (take 2) t)) s.country

pub rest_part : (text tail rest : List ℕ) → tail ≡ drop 4 text → rest ≡ drop 2 tail → IsBicShaped text → All IsCodeChar rest
rest_part text tail rest t r s = subst (All IsCodeChar) (sym (r ∙ ap (drop 2) t ∙ drop-drop 2 4 text)) s.rest

-- a code's characters are letters and digits
pub shape_codes : (text : List ℕ) → IsBicShaped text → All IsCodeChar text
shape_codes text s =
    All-split IsCodeChar 4 text s.party
    (All-split IsCodeChar 2 (drop 4 text) (capitals_are_codes (take 2 (drop 4 text)) s.country) (subst (All IsCodeChar) (sym (drop-drop 2 4 text)) s.rest))

-- texts that compare as equal are one
pub same_bytes : (a b : List ℕ) → pointwise nat_eq a b ≡ true → a ≡ b
same_bytes a b e = Lexicographic.same_text a b (sym e)

pub other_bytes : (a b : List ℕ) → pointwise nat_eq a b ≡ false → a ≢ b
other_bytes a b e same = let yes = nat_list_eq_equiv.refl b in let no = subst (λ z. pointwise nat_eq z b ≡ false) same e in cc

-- the head office of eleven characters is named by eight
pub front_is_bic : (text front : List ℕ) → HasBicLength text → IsBicShaped text → front ≡ take 8 text → drop 8 text ≡ codes "XXX" → IsBic front
front_is_bic text front lengths s is xxx =
    let long : 8 ≤ length text = elim lengths [ inl a ↦ omega arith | inr b ↦ omega arith ] in
    let size : length front ≡ 8 = ap length is ∙ omega (arith, length-take 8 text) in
    record {
      len = inl size;
      shaped = record {
        party = subst (All IsCodeChar) (sym (ap (take 4) is ∙ take-take 4 8 text (lit≤ tt))) s.party;
        country = subst (All IsCapital) (sym (ap (λ z. take 2 (drop 4 z)) is ∙ ap (take 2) (drop-take 4 4 text) ∙ take-take 2 4 (drop 4 text) (lit≤ tt))) s.country;
        rest = subst (All IsCodeChar) (sym (ap (drop 6) is ∙ drop-take 6 2 text)) (All-take IsCodeChar 2 (drop 6 text) s.rest);
      };
      branch = λ e. let none = drop_all 8 front (omega arith) in cc;
    }

pub whole_is_bic : (text : List ℕ) → HasBicLength text → IsBicShaped text → pointwise nat_eq (drop 8 text) (codes "XXX") ≡ false → IsBic text
whole_is_bic text lengths s other = record { len = lengths; shaped = s; branch = other_bytes (drop 8 text) (codes "XXX") other }

-- whether the branch is XXX decides which party a text names
pub head_office : (text branch : List ℕ) → branch ≡ drop 8 text → true ≡ pointwise nat_eq branch (codes "XXX") → party_of text ≡ take 8 text
head_office text branch is same =
    let test : pointwise nat_eq (drop 8 text) (codes "XXX") ≡ true = sym (same ∙ ap (λ z. pointwise nat_eq z (codes "XXX")) is) in
    ap (λ (b : Bool). if b then take 8 text else text) test

pub own_branch : (text branch : List ℕ) → branch ≡ drop 8 text → false ≡ pointwise nat_eq branch (codes "XXX") → party_of text ≡ text
own_branch text branch is other =
    let test : pointwise nat_eq (drop 8 text) (codes "XXX") ≡ false = sym (other ∙ ap (λ z. pointwise nat_eq z (codes "XXX")) is) in
    ap (λ (b : Bool). if b then take 8 text else text) test
