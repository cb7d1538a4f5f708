-- Two places are one, or they are not.
use Rattle.std.proofs.Common.{◌≡◌, ℕ, Bool, true, false, refl, arith}
use Rattle.std.specs.Prelude.{◌&&◌}
use Rattle.std.specs.Ordering.{is_eq, nat_cmp, ordering_then}
use Rattle.std.specs.declared.cmp.Ordering.{Ordering}
use Rattle.std.specs.declared.cmp.Ordering.TheVariants.{Less, Equal, Greater}
use Rattle.desk_rules.specs.declared.history.pair.Place.{Place}
use Rattle.desk_register.proofs.CaseLemmas.{by_bool}
use Rattle.desk_rules.specs.Places.{place_cmp}
use Rattle.memory_short.proofs.DueLemmas.{same_place}

itself : (day number : ℕ) → is_eq (ordering_then (nat_cmp day day) (nat_cmp number number)) ≡ true
itself day number = grind arith

pub no_second : (a b : Bool) → b ≡ false → (a && b) ≡ false
no_second true b e = e
no_second false b e = refl

pub equal_place : (at : Place) → is_eq (place_cmp at at) ≡ true
equal_place at = itself at.day at.number

pub equal_if : (o : Ordering) → is_eq o ≡ true → o ≡ Equal
equal_if Less e = cc
equal_if Equal e = refl
equal_if Greater e = cc

pub by_place : (here at : Place) {G : Type 0} → (here ≡ at → G) → (is_eq (place_cmp here at) ≡ false → G) → G
by_place here at same other = by_bool (is_eq (place_cmp here at)) (λ tied. same (same_place here at tied)) other
