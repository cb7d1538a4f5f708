use Rattle.std.proofs.Common.{rules, refl}
use Rattle.desk_text.specs.Seen.{found_of}
use Rattle.desk_reasons.proofs.ValueLemmas.{security_told, line_told}
use Rattle.desk_reasons.proofs.values.value_reason.Goals as goal

pub returns-in-len1-up : goal.returns-in-len1-up
returns-in-len1-up c =
    security_told c.args.word (found_of c.args.field.now) c.args.field.now.values.items c.as_slice.result.now _ c.security_reason.result
    (search rules) refl c.as_slice.ensures c.in-len1-up.len_at_least c.security_reason.ensures

pub returns-in-len1 : goal.returns-in-len1
returns-in-len1 c =
    line_told c.args.word (found_of c.args.field.now) c.args.field.now.values.items c.as_slice.result.now _ c.line_reason.result
    (search rules) refl c.as_slice.ensures c.in-len1.len_at_least c.in-len1.len_below c.line_reason.ensures
