-- A line and what it is by itself.
use Rattle.std.proofs.Common.{◌≡◌, ◌≢◌, ℕ, Bool, true, false, not, cond, ◌&&◌, eqb, codes, List, [], ◌∷◌, ◌++◌, Option, Some, None, refl, ap, ◌∙◌, arith}
use Rattle.std.proofs.lemmas.Bool.Decides.{nat_tests}
use Rattle.std.proofs.lemmas.Bool.{eqb-true}
use Rattle.std.proofs.lemmas.Slice.Eq.{bytes_eq-Decides}
use Rattle.std.specs.Prelude.{IsTrue, nat_le}
use Rattle.std.specs.List.{list_all}
use Rattle.std.specs.Str.{bytes_eq}
use Rattle.desk_text.specs.BlockGrammar.{is_printable, is_digit, is_capital, is_any_tag, is_name, is_tag, is_first, is_further, opening, closing, field_line}
use Rattle.desk_text.specs.Signs.{Sign, opens, closes, starts, further, ends, strange, sign_of, sign_of_tag, sign_of_split, split_tag}

pub both : (a b : Bool) → (a && b) ≡ true → (a ≡ true) × (b ≡ true)
both true b e = (refl, e)
both false b e = absurd (let h = e in cc)

pub not_so : (b : Bool) → not b ≡ true → b ≡ false
not_so true e = absurd (let h = e in cc)
not_so false e = refl

pub same_bytes : (a b : List ℕ) → bytes_eq a b ≡ true → a ≡ b
same_bytes a b e = (bytes_eq-Decides a b).0 e

-- the line of a sign
abbrev pub line_of : Sign → List ℕ
line_of (opens name) = opening name
line_of (closes name) = closing name
line_of (starts tag first) = field_line tag first
line_of (further line) = line
line_of ends = codes "-}"
line_of strange = []

-- names, tags and values are right
abbrev pub IsRightSign : Sign → Type 0
IsRightSign (opens name) = IsTrue (is_name name)
IsRightSign (closes name) = IsTrue (is_name name)
IsRightSign (starts tag first) = IsTrue (is_tag tag) × IsTrue (is_first first)
IsRightSign (further line) = IsTrue (is_further line)
IsRightSign ends = Unit {0}
IsRightSign strange = Unit {0}

-- the line is of that sign
pub record IsSigned (line : List ℕ) (sign : Sign) : Type 0 where
  pub is : sign ≢ strange → line ≡ line_of sign
  pub right : IsRightSign sign

strange-signed : (line : List ℕ) → IsSigned line strange
strange-signed line = record { is = λ some. absurd (some refl); right = tt }

when_sign : (P : Sign → Type 0) (b : Bool) (x y : Sign) → (b ≡ true → P x) → (b ≡ false → P y) → P (cond b x y)
when_sign P true x y p q = p refl
when_sign P false x y p q = q refl

when_split : (P : Option (List ℕ × List ℕ) → Type 0) (b : Bool) (x y : Option (List ℕ × List ℕ)) → (b ≡ true → P x) → (b ≡ false → P y) → P (cond b x y)
when_split P true x y p q = p refl
when_split P false x y p q = q refl

-- the parts of a line round its colon
abbrev pub IsSplit : List ℕ → Option (List ℕ × List ℕ) → Type 0
IsSplit line None = Unit {0}
IsSplit line (Some (tag, value)) = line ≡ tag ++ 58 ∷ value

split-sound : (line : List ℕ) → IsSplit line (split_tag line)
split-sound [] = tt
split-sound (a ∷ []) = tt
split-sound (a ∷ b ∷ []) = tt
split-sound (a ∷ b ∷ c ∷ []) =
    when_split (IsSplit (a ∷ b ∷ c ∷ [])) (eqb c 58) (Some (a ∷ b ∷ [], [])) None (λ e. ap (λ z. a ∷ b ∷ z ∷ []) (eqb-true c 58 e)) (λ e. tt)
split-sound (a ∷ b ∷ c ∷ d ∷ rest) =
    when_split (IsSplit (a ∷ b ∷ c ∷ d ∷ rest)) (eqb c 58) (Some (a ∷ b ∷ [], d ∷ rest)) (cond (eqb d 58) (Some (a ∷ b ∷ c ∷ [], rest)) None)
    (λ e. ap (λ z. a ∷ b ∷ z ∷ d ∷ rest) (eqb-true c 58 e))
    (λ _. when_split (IsSplit (a ∷ b ∷ c ∷ d ∷ rest)) (eqb d 58) (Some (a ∷ b ∷ c ∷ [], rest)) None (λ e. ap (λ z. a ∷ b ∷ c ∷ z ∷ rest) (eqb-true d 58 e)) (λ e. tt))

tag-signed : (tag value : List ℕ) → IsSigned (field_line tag value) (sign_of_tag tag value)
tag-signed tag value =
    let P : Sign → Type 0 = λ s. IsSigned (field_line tag value) s in
    when_sign P (bytes_eq tag (codes "16R")) (cond (is_name value) (opens value) strange) (cond (bytes_eq tag (codes "16S")) (cond (is_name value) (closes value) strange) (cond (is_tag tag && is_first value) (starts tag value) strange))
    (λ e. when_sign P (is_name value) (opens value) strange (λ n. record { is = λ _. ap (λ z. field_line z value) (same_bytes tag (codes "16R") e); right = n }) (λ _. strange-signed (field_line tag value)))
    (λ _. when_sign P (bytes_eq tag (codes "16S")) (cond (is_name value) (closes value) strange) (cond (is_tag tag && is_first value) (starts tag value) strange)
    (λ e. when_sign P (is_name value) (closes value) strange (λ n. record { is = λ _. ap (λ z. field_line z value) (same_bytes tag (codes "16S") e); right = n }) (λ _. strange-signed (field_line tag value)))
    (λ _. when_sign P (is_tag tag && is_first value) (starts tag value) strange (λ e. record { is = λ _. refl; right = both (is_tag tag) (is_first value) e }) (λ _. strange-signed (field_line tag value))))

split-signed : (line : List ℕ) (parts : Option (List ℕ × List ℕ)) → IsSplit line parts → IsSigned (58 ∷ line) (sign_of_split parts)
split-signed line None e = strange-signed (58 ∷ line)
split-signed line (Some (tag, value)) e = rw e (tag-signed tag value)

-- What a line is said to be, it is.
pub sign-sound : (line : List ℕ) → IsSigned line (sign_of line)
sign-sound [] = record { is = λ _. refl; right = refl }
sign-sound (c ∷ line) =
    let P : Sign → Type 0 = λ s. IsSigned (c ∷ line) s in
    when_sign P (eqb c 58) (sign_of_split (split_tag line)) (cond (bytes_eq (c ∷ line) (codes "-}")) ends (cond (is_further (c ∷ line)) (further (c ∷ line)) strange))
    (λ e. rw (eqb-true c 58 e) (split-signed line (split_tag line) (split-sound line)))
    (λ _. when_sign P (bytes_eq (c ∷ line) (codes "-}")) ends (cond (is_further (c ∷ line)) (further (c ∷ line)) strange)
    (λ e. record { is = λ _. same_bytes (c ∷ line) (codes "-}") e; right = tt })
    (λ _. when_sign P (is_further (c ∷ line)) (further (c ∷ line)) strange (λ e. record { is = λ _. refl; right = e }) (λ _. strange-signed (c ∷ line))))

-- What a line is, it is said to be.

pub opening-sign : (name : List ℕ) → IsTrue (is_name name) → sign_of (opening name) ≡ opens name
opening-sign name e = ap (λ b. cond b (opens name) strange) e

pub closing-sign : (name : List ℕ) → IsTrue (is_name name) → sign_of (closing name) ≡ closes name
closing-sign name e = ap (λ b. cond b (closes name) strange) e

not_colon : (c : ℕ) → is_capital c ≡ true → eqb c 58 ≡ false
not_colon c e = grind (arith, nat_tests, both (nat_le 65 c) (nat_le c 90) e)

two-split : (a b : ℕ) (first : List ℕ) → split_tag (a ∷ b ∷ 58 ∷ first) ≡ Some (a ∷ b ∷ [], first)
two-split a b [] = refl
two-split a b (c ∷ first) = refl

three-split : (a b c : ℕ) (first : List ℕ) → is_capital c ≡ true → split_tag (a ∷ b ∷ c ∷ 58 ∷ first) ≡ Some (a ∷ b ∷ c ∷ [], first)
three-split a b c first e = rw (not_colon c e) refl

tag-split : (tag first : List ℕ) → is_any_tag tag ≡ true → split_tag (tag ++ 58 ∷ first) ≡ Some (tag, first)
tag-split [] first e = absurd (let h = e in cc)
tag-split (a ∷ []) first e = absurd (let h = e in cc)
tag-split (a ∷ b ∷ []) first e = two-split a b first
tag-split (a ∷ b ∷ c ∷ []) first e = three-split a b c first (both (is_digit a && is_digit b) (is_capital c) e).1
tag-split (a ∷ b ∷ c ∷ d ∷ more) first e = absurd (let h = e in cc)

pub field-sign : (tag first : List ℕ) → IsTrue (is_tag tag) → IsTrue (is_first first) → sign_of (field_line tag first) ≡ starts tag first
field-sign tag first t f =
    let parts = both (is_any_tag tag && not (bytes_eq tag (codes "16R"))) (not (bytes_eq tag (codes "16S"))) t in
    let front = both (is_any_tag tag) (not (bytes_eq tag (codes "16R"))) parts.0 in
    let r : bytes_eq tag (codes "16R") ≡ false = not_so (bytes_eq tag (codes "16R")) front.1 in
    let s : bytes_eq tag (codes "16S") ≡ false = not_so (bytes_eq tag (codes "16S")) parts.1 in
    ap sign_of_split (tag-split tag first front.0)
    ∙ ap (λ b. cond b (cond (is_name first) (opens first) strange) (cond (bytes_eq tag (codes "16S")) (cond (is_name first) (closes first) strange) (cond (is_tag tag && is_first first) (starts tag first) strange))) r
    ∙ ap (λ b. cond b (cond (is_name first) (closes first) strange) (cond (is_tag tag && is_first first) (starts tag first) strange)) s
    ∙ ap (λ b. cond (b && is_first first) (starts tag first) strange) t
    ∙ ap (λ b. cond b (starts tag first) strange) f

further-some : (c : ℕ) (line : List ℕ) → IsTrue (is_further (c ∷ line)) → sign_of (c ∷ line) ≡ further (c ∷ line)
further-some c line e =
    let parts = both (not (eqb c 58) && not (eqb c 45)) (list_all is_printable (c ∷ line)) e in
    let front = both (not (eqb c 58)) (not (eqb c 45)) parts.0 in
    let colon : eqb c 58 ≡ false = not_so (eqb c 58) front.0 in
    let dash : eqb c 45 ≡ false = not_so (eqb c 45) front.1 in
    ap (λ b. cond b (sign_of_split (split_tag line)) (cond (bytes_eq (c ∷ line) (codes "-}")) ends (cond (is_further (c ∷ line)) (further (c ∷ line)) strange))) colon
    ∙ ap (λ b. cond (b && bytes_eq line (125 ∷ [])) ends (cond (is_further (c ∷ line)) (further (c ∷ line)) strange)) dash
    ∙ ap (λ b. cond b (further (c ∷ line)) strange) e

pub further-sign : (line : List ℕ) → IsTrue (is_further line) → sign_of line ≡ further line
further-sign [] e = refl
further-sign (c ∷ line) e = further-some c line e
