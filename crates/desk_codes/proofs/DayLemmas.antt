-- The year, the month and the day of eight digits, as the calendar takes them.
use Rattle.std.proofs.Common.{◌≡◌, ℕ, ◌<◌, ◌≤◌, ◌^◌, List, take, length, arith, ap, sym, ◌∙◌, subst, ℤ, pos, Result, Option, IsOk, is_ok, w8, w16, to_z}
use Rattle.std.specs.Prelude.{IsSome, is_some, ◌↔◌, Ok, Err, IfOk, IfSome}
use Rattle.std.specs.Result.{result_ok}
use Rattle.std.proofs.lemmas.Int.{to_z_pos}
use Rattle.std.proofs.lemmas.List.{length-take}
use Rattle.std.proofs.Math.Nat.{pow-le-pow_right}
use Rattle.jiff.specs.Words.{IsDate, IsYmd}
use Rattle.jiff_core.specs.declared.civil.date.Date.{Date}

-- the number of a front of digits is small
pub front_below : (n k : ℕ) (text : List ℕ) → n < 10 ^ length (take k text) → n < 10 ^ k
front_below n k text lt =
    let short : length (take k text) ≤ k = omega (arith, length-take k text) in
    let most : 10 ^ length (take k text) ≤ 10 ^ k = pow-le-pow_right (omega arith) short in
    omega (arith, most)

-- a date is found exactly where the calendar has it
pub found_by_parts : {T E : Type 0} (y m d year month day : ℕ) (made : Result T E) (found : Option T) → y ≡ year → m ≡ month → d ≡ day → y < 10 ^ 4 → m < 10 ^ 2 → d < 10 ^ 2
    → IsOk made ↔ IsDate (to_z w16 y) (to_z w8 m) (to_z w8 d) → is_some found ≡ is_ok made → IsSome found ↔ IsDate (pos year) (pos month) (pos day)
found_by_parts y m d year month day made found ey em ed ly lm ld succeeds variant =
    let zy : to_z w16 y ≡ pos year = to_z_pos w16 y (omega arith) ∙ ap pos ey in
    let zm : to_z w8 m ≡ pos month = to_z_pos w8 m (omega arith) ∙ ap pos em in
    let zd : to_z w8 d ≡ pos day = to_z_pos w8 d (omega arith) ∙ ap pos ed in
    let exact = rw (zy, zm, zd) at succeeds in
    (λ some. exact.0 (sym variant ∙ some), λ date. variant ∙ exact.1 date)

-- the date that is found has these parts
ymd_found : {E : Type 0} (y m d : ℤ) (made : Result Date E) → IfOk made (IsYmd y m d) → IfSome (result_ok made) (IsYmd y m d)
ymd_found y m d (Ok date) h = h
ymd_found y m d (Err e) h = tt

pub value_by_parts : {E : Type 0} (y m d year month day : ℕ) (made : Result Date E) (found : Option Date) → y ≡ year → m ≡ month → d ≡ day → y < 10 ^ 4 → m < 10 ^ 2 → d < 10 ^ 2
    → IfOk made (IsYmd (to_z w16 y) (to_z w8 m) (to_z w8 d)) → found ≡ result_ok made → IfSome found (IsYmd (pos year) (pos month) (pos day))
value_by_parts y m d year month day made found ey em ed ly lm ld value is =
    let zy : to_z w16 y ≡ pos year = to_z_pos w16 y (omega arith) ∙ ap pos ey in
    let zm : to_z w8 m ≡ pos month = to_z_pos w8 m (omega arith) ∙ ap pos em in
    let zd : to_z w8 d ≡ pos day = to_z_pos w8 d (omega arith) ∙ ap pos ed in
    let exact = rw (zy, zm, zd) at value in
    subst (λ o. IfSome o (IsYmd (pos year) (pos month) (pos day))) (sym is) (ymd_found (pos year) (pos month) (pos day) made exact)
