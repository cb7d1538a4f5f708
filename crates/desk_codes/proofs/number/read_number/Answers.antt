use Rattle.std.proofs.Common.{◌≡◌, ℕ, All, arith, subst, List, length, sym, ap, drop, refl}
use Rattle.std.proofs.lemmas.Bool.{eqb-true}
use Rattle.std.proofs.lemmas.Grind.{common_steps}
use Rattle.std.proofs.lemmas.List.Elements.{All-take}
use Rattle.desk_codes.specs.Characters.{IsDigit}
use Rattle.desk_codes.proofs.NumberLemmas.{none_to_split, one_shape}
use Rattle.desk_codes.proofs.number.read_number.Goals as goal
use Rattle.desk_codes.proofs.number.read_number.Goals.{then-is_empty-via-then-is_empty, then-is_empty-via-else-is_empty+then-not-are_digits, then-is_empty-via-else-is_empty+else-not-are_digits+then-not-are_digits-2}

pub returns-in_default : goal.returns-in_default
returns-in_default c = λ whole part s. none_to_split c.args.text.now whole part c.in_default.ensures.none s.split

pub returns-then-is_empty : goal.returns-then-is_empty
returns-then-is_empty c = λ whole part s.
    let same = one_shape c.args.text.now c.in-Some.whole.now c.in-Some.part.now whole part c.in-Some.ensures.found s in
    elim c.then-is_empty.branch [
      | then-is_empty-via-then-is_empty w ↦ let some = s.some in let e = ap (length {A = ℕ}) same.0 in let empty = eqb-true (length c.in-Some.whole.now) 0 (sym w.if-is_empty.ensures) in omega arith
      | then-is_empty-via-else-is_empty+then-not-are_digits w ↦
          let P : List ℕ → Type 0 = λ z. All IsDigit z in
          let yes = w.are_digits.ensures.1 (subst P (sym same.0) s.whole_digits) in cc
      | then-is_empty-via-else-is_empty+else-not-are_digits+then-not-are_digits-2 w ↦
          let P : List ℕ → Type 0 = λ z. All IsDigit z in
          let yes = w.are_digits-else-not-are_digits.ensures.1 (subst P (sym same.1) s.part_digits) in cc
    ]

pub returns-then-not-are_zeros : goal.returns-then-not-are_zeros
returns-then-not-are_zeros c =
    let zero : ℕ → Type 0 = λ x. x ≡ 48 in (
      c.in-Some.whole.now,
      c.in-Some.part.now,
      record {
        split = c.in-Some.ensures.found.0;
        some = grind (arith, common_steps);
        whole_digits = c.if-not-are_digits.ensures.0 refl;
        part_digits = c.if-not-are_digits-2.ensures.0 refl;
      },
      omega arith,
      λ exact. let yes = c.are_zeros.ensures.1 (All-take zero _ (drop c.args.decimals c.in-Some.part.now) exact) in cc,
    )
