use Rattle.std.proofs.Common.{◌≡◌, List, ℕ, IfOk, subst, ◌∙◌, ap, codes, ◌++◌}
use Rattle.desk_msg.specs.OwnText.{own_reference}
use Rattle.desk_msg.specs.declared.writing.status.Own.TheVariants.{Answer}
use Rattle.desk_msg.specs.RowPieces.{general_before}
use Rattle.desk_msg.proofs.RowTexts.{empty_lines}
use Rattle.desk_msg.proofs.writing.holdings.write_rest.Goals as goal

pub returns : goal.returns
returns c =
    let h = c.args.heading.now in
    let is = ap (λ w. general_before (codes ":SEME//" ++ own_reference (Answer h.entries)) h.day h.account w) c.empty_pieces-pieces.ensures ∙ empty_lines h c.write_general.ensures.day c.write_general.ensures.account in
    let P : List ℕ → Type 0 = λ w. IfOk c.write_general.result (λ text. text.items ≡ w) in
    rw c.if-is_begun.false (subst P is c.write_general.ensures.text)
