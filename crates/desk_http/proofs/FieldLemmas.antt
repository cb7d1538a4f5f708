-- The values of the fields of one name.
use Rattle.std.proofs.Common.{◌≡◌, ℕ, zero, suc, ◌+◌, ◌<◌, ◌≤◌, List, [], ◌∷◌, length, take, map, get_or, Bool, true, false, cond, Option, Some, None, refl, ap, ◌∙◌, arith}
use Rattle.std.specs.Prelude.{is_some, filter}
use Rattle.std.specs.Borrow.{Bor}
use Rattle.httparse.specs.declared.spans.HeaderSpan.{HeaderSpan}
use Rattle.httparse.specs.Spans.{header_bytes}
use Rattle.desk_http.specs.Length.{is_named, values_of}
use Rattle.desk_http.specs.Values.{values_in}

longer : (front name : List ℕ) (fields : List HeaderSpan) (i : ℕ) (d : HeaderSpan) → i < length fields → is_named name (header_bytes front (get_or fields i d)) ≡ true
    → length (values_of name (map (header_bytes front) (take i fields))) + 1 ≤ length (values_of name (map (header_bytes front) fields))
longer front name [] i d inside is = absurd (omega arith)
longer front name (f ∷ fields) zero d inside is = rw is (omega arith)
longer front name (f ∷ fields) (suc i) d inside is = by (is_named name (header_bytes front f)) (longer front name fields i d (omega arith) is)
  where
    by : (q : Bool) → length (values_of name (map (header_bytes front) (take i fields))) + 1 ≤ length (values_of name (map (header_bytes front) fields))
        → length (map (λ (field : List ℕ × List ℕ). field.1) (cond q (header_bytes front f ∷ filter (λ field. is_named name field) (map (header_bytes front) (take i fields))) (filter (λ field. is_named name field) (map (header_bytes front) (take i fields))))) + 1
        ≤ length (map (λ (field : List ℕ × List ℕ). field.1) (cond q (header_bytes front f ∷ filter (λ field. is_named name field) (map (header_bytes front) fields)) (filter (λ field. is_named name field) (map (header_bytes front) fields))))
    by true more = omega arith
    by false more = more

one_in : (found : Option (Bor (List ℕ))) → is_some found ≡ true → length (values_in found) ≡ 1
one_in None e = cc
one_in (Some value) e = refl

pub several : (front name : List ℕ) (fields : List HeaderSpan) (i : ℕ) (d : HeaderSpan) (found : Option (Bor (List ℕ))) → i < length fields → is_named name (header_bytes front (get_or fields i d)) ≡ true
    → values_of name (map (header_bytes front) (take i fields)) ≡ values_in found → is_some found ≡ true → 2 ≤ length (values_of name (map (header_bytes front) fields))
several front name fields i d found inside is so_far e =
    let more = longer front name fields i d inside is in
    let one = ap length so_far ∙ one_in found e in
    omega arith
