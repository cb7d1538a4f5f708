use Rattle.desk_findings.proofs.LineLemmas.{no_more, other_word}
use Rattle.desk_findings.proofs.lines.reading.type_fault.Goals as goal

pub returns-in_default-parse-clause-fault : goal.returns-in_default-parse-clause-fault
returns-in_default-parse-clause-fault c =
    let split = c.in-Some-split_at.ensures.found in
    (c.in_default.ensures.none, other_word c.args.behind.now c.in-Some-split_at.word.now c.in-Some-split_at.field-0-1.now split.0 split.1 c.in_default-parse.ensures.none)

pub returns-in_default-split_at-clause-fault : goal.returns-in_default-split_at-clause-fault
returns-in_default-split_at-clause-fault c = (c.in_default.ensures.none, no_more c.args.behind.now c.in_default-split_at.ensures.none)
