use Rattle.std.proofs.Common.{ℕ, ◌+◌, suc, ◌≡◌, length, arith, subst}
use Rattle.desk_rules.specs.declared.answers.verdict.Verdict.TheVariants.{Repeat}
use Rattle.desk_rules.specs.Verdict.{IsVerdict}
use Rattle.desk_rules.proofs.AcceptedOnce as laws
use Rattle.desk_rules.proofs.laws.accepted_once.Goals as goal

pub returns : goal.returns
returns c = λ limit books after entry rest accepted grown.
    let e : suc (length books.history) ≡ length books.history + 1 = omega arith in
    let P : ℕ → Type 0 = λ n. IsVerdict limit after entry (Repeat n) in
    subst P e (laws.accepted_once limit books after entry rest accepted grown)
