use Rattle.std.proofs.Common.{rules, refl, ap}
use Rattle.desk_text.specs.Seen.{found_of}
use Rattle.desk_reasons.specs.declared.reasons.MissingReason.TheVariants.{OtherOption}
use Rattle.desk_reasons.specs.FieldFaults.{as_option, misspelt, elsewhere}
use Rattle.desk_reasons.proofs.fields.missing_spot.Goals as goal

pub returns-in-Some : goal.returns-in-Some
returns-in-Some c = as_option (found_of c.in-Some.field.now) c.in-Some.ensures.found refl (ap OtherOption c.letter_of.ensures)

pub returns-in-Some-first_misspelt : goal.returns-in-Some-first_misspelt
returns-in-Some-first_misspelt c = misspelt (search rules) (found_of c.in-Some-first_misspelt.field.now) c.in-Some-first_misspelt.ensures.found refl (search rules)

pub returns-in-Some-first_elsewhere : goal.returns-in-Some-first_elsewhere
returns-in-Some-first_elsewhere c =
    elsewhere (search rules) (search rules) (found_of c.in-Some-first_elsewhere.field.now) c.in-Some-first_elsewhere.ensures.found refl refl
