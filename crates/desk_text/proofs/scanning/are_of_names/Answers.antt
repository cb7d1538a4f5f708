use Rattle.std.proofs.Common.{ℕ, Bool, ◌||◌, sym, ◌∙◌, arith, ◌-◌, length}
use Rattle.desk_text.specs.BlockGrammar.{is_capital, is_digit}
use Rattle.desk_text.proofs.LaneLemmas.{more_pass, some_wrong, last_decides}
use Rattle.desk_text.proofs.scanning.are_of_names.Goals as goal

abbrev of_names : ℕ → Bool
of_names c = is_capital c || is_digit c

pub returns-then-not-are_of_names_at : goal.returns-then-not-are_of_names_at
returns-then-not-are_of_names_at c =
    sym (some_wrong of_names c.args.name.now c.loop-at.at 4 (sym c.are_of_names_at.ensures ∙ c.if-not-are_of_names_at.true))

pub loop-at-preserved : goal.loop-at-preserved
loop-at-preserved c = record {
  within = omega (arith, c.loop-at-test.true);
  front = more_pass of_names c.args.name.now c.loop-at.at 4 c.loop-at.invariant.front (sym c.are_of_names_at.ensures ∙ c.if-not-are_of_names_at.false);
}

pub returns : goal.returns
returns c =
    c.are_of_names_at-2.ensures
    ∙ last_decides of_names c.args.name.now c.loop-at.at (length c.args.name.now - 4) 4 (omega (arith, c.loop-at-test.false)) (omega (arith, c.if-name-lt-NAME_LANES.false)) c.loop-at.invariant.front
