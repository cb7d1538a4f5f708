use Rattle.std.proofs.Common.{◌≡◌, List, ℕ, IfOk, subst, ◌∙◌, ap, codes, ◌++◌}
use Rattle.desk_msg.specs.declared.writing.status.Own.TheVariants.{Answer}
use Rattle.desk_msg.specs.OwnText.{own_reference}
use Rattle.desk_msg.specs.RowPieces.{general_before, row_behind}
use Rattle.desk_msg.proofs.RowTexts.{row_lines, first_lines}
use Rattle.desk_msg.proofs.writing.holdings.write_row.Goals as goal

pub returns-then-is_begun : goal.returns-then-is_begun
returns-then-is_begun c =
    let row = c.args.row in
    let is = c.row_pieces-pieces.ensures.text
    ∙ ap (λ n. row_behind (codes ":16R:FIN\r\n:35B:ISIN ") row.isin row.kind n) (c.deref.ensures.value ∙ c.in_ok-quantity.ensures.value)
    ∙ row_lines row c.row_pieces-pieces.ensures.isin c.number_text.ensures.fits in
    let P : List ℕ → Type 0 = λ w. IfOk c.write_pieces.result (λ text. text.items ≡ w) in
    rw c.if-is_begun.true (subst P is c.write_pieces.ensures)

pub returns : goal.returns
returns c =
    let h = c.args.heading.now in
    let row = c.args.row in
    let is = ap (λ w. general_before (codes ":SEME//" ++ own_reference (Answer h.entries)) h.day h.account w)
    (c.row_pieces-pieces-2.ensures.text
    ∙ ap (λ n. row_behind (codes "\r\n:17B::ACTI//Y\r\n:17B::CONS//N\r\n:16S:GENL\r\n:16R:SUBSAFE\r\n:16R:FIN\r\n:35B:ISIN ") row.isin row.kind n) (c.deref-2.ensures.value ∙ c.in_ok-quantity.ensures.value))
    ∙ first_lines h row c.write_general.ensures.day c.write_general.ensures.account c.row_pieces-pieces-2.ensures.isin c.number_text.ensures.fits in
    let P : List ℕ → Type 0 = λ w. IfOk c.write_general.result (λ text. text.items ≡ w) in
    rw c.if-is_begun.false (subst P is c.write_general.ensures.text)
