use Rattle.std.proofs.Common.{List, ℕ, option_map, subst, sym}
use Rattle.desk_book.proofs.CommandLemmas.{if_none}
use Rattle.desk_findings.specs.LineFaults.{IsWords}
use Rattle.desk_findings.proofs.LineLemmas.{can_ask}
use Rattle.desk_findings.proofs.lines.reading.line_fault.Goals as goal

pub returns-clause-right : goal.returns-clause-right
returns-clause-right c =
    let rest = option_map (λ r. r.now) c.words_in.result.1 in
    let P : List ℕ → Type 0 = λ w. IsWords w rest c.args.said.now in
    if_none c.form_fault.result (can_ask c.args.said.now c.in-Some.form rest c.if-said-gt-LONGEST_LINE.false (subst P (sym c.in-Some.ensures.found) c.words_in.ensures)) c.form_fault.ensures.right
