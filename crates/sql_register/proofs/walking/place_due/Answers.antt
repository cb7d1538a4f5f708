use Rattle.std.proofs.Common.{◌≡◌, ◌∙◌, ap, arith, refl, rules, sym, Some}
use Rattle.desk_codes.specs.Number.{number_of}
use Rattle.desk_rules.specs.declared.history.standing.Standing.{Standing}
use Rattle.sql_register.proofs.WalkLemmas.{due_here}
use Rattle.sql_register.proofs.walking.place_due.Goals as goal

pub returns : goal.returns
returns c = λ content standing is.
    let mate : c.args.standing.mate ≡ Some c.in_ok-mate.mate = search rules in (
      refl,
      due_here content (number_of c.args.day) c.args.place c.args.number c.args.later.now is c.in_ok-mate.mate c.in-Matched.field-0 _ refl (ap (λ (s : Standing). s.mate) standing ∙ mate)
          (ap (λ (s : Standing). s.state) standing ∙ c.in-Matched.is) (omega arith) c.yyyymmdd.ensures (omega arith) (sym c.is_past.ensures ∙ c.if-not-is_past.false),
    )
