use Rattle.std.proofs.Common.{ap, sym, ◌∙◌}
use Rattle.desk_reasons.specs.Characters.{stands_in, behind_first}
use Rattle.desk_reasons.proofs.CharacterLemmas.{behind_found, behind_none}
use Rattle.desk_reasons.proofs.characters.stands_twice.Goals as goal

pub returns-in-Some : goal.returns-in-Some
returns-in-Some c =
    let found = c.in-Some.ensures.found in
    let behind = ap (behind_first c.args.byte) found.0 ∙ behind_found c.args.byte c.in-Some._front.now c.in-Some.rest.now found.1 in
    c.stands_in.ensures ∙ ap (stands_in c.args.byte) (sym behind)

pub returns-in-None : goal.returns-in-None
returns-in-None c = ap (stands_in c.args.byte) (sym (behind_none c.args.byte c.args.text.now c.in-None.ensures.none))
