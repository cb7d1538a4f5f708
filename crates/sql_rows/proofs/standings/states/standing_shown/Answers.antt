use Rattle.std.proofs.Common.{◌≡◌, inl, inr, List, None, Some, Option, Result, IfOk, slice_get, sym, ap, subst, ◌∙◌}
use Rattle.std.specs.Option.{option_copied}
use Rattle.sqlite.specs.Order.{Row}
use Rattle.sqlite.specs.declared.error.Error.{Error}
use Rattle.desk_rules.specs.declared.history.standing.Standing.{Standing}
use Rattle.sql_rows.specs.Standings.{columns_of, standing_written, IsStandingShown, Written}
use Rattle.sql_rows.proofs.standings.states.standing_shown.Goals as goal

shown : (rows : List Row) (row : Row) (r : Result Standing Error) → slice_get rows 0 ≡ Some row → ((w : Written) → row ≡ columns_of w → IfOk r (λ s. s ≡ standing_written w)) → (standing : Standing)
    → IsStandingShown rows standing → IfOk r (λ s. s ≡ standing)
shown rows row r first says standing (inl none) = absurd (let e : ◌≡◌ {A = Option Row} None (Some row) = sym (ap (λ xs. slice_get xs 0) none.0) ∙ first in cc)
shown rows row r first says standing (inr it) =
    let e : Some (columns_of it.0) ≡ Some row = sym (ap (λ xs. slice_get xs 0) it.1) ∙ first in
    let same : row ≡ columns_of it.0 = cc in
    subst (λ s. IfOk r (λ x. x ≡ s)) (sym it.2) (says it.0 same)

pub returns-in-Some-clause-value : goal.returns-in-Some-clause-value
returns-in-Some-clause-value c = shown c.args.rows.now c.in-Some.row.now c.standing_of_row.result (sym c.first.ensures.value ∙ ap option_copied c.in-Some.is) c.standing_of_row.ensures.value
