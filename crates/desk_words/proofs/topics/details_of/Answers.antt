use Rattle.std.proofs.Common.{◌≡◌, ◌==◌, ◌∙◌, false, refl, sym, true}
use Rattle.std.proofs.lemmas.Bool.{eq-eqb}
use Rattle.desk_words.specs.Topics.{commands, fields, tells_field}
use Rattle.desk_words.proofs.topics.details_of.Goals as goal

pub returns-then-tells_field : goal.returns-then-tells_field
unfolding fields
returns-then-tells_field c = let is : tells_field c.args.number ≡ true = sym c.tells_field.ensures ∙ c.if-tells_field.true in rw is refl

pub returns-then-number-eq30 : goal.returns-then-number-eq30
unfolding commands
returns-then-number-eq30 c =
    let is : tells_field c.args.number ≡ false = sym c.tells_field.ensures ∙ c.if-tells_field.false in
    let also : (c.args.number == 30) ≡ true = eq-eqb c.args.number 30 c.if-number-eq30.true in
    rw (is, also) refl
