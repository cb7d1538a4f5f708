-- A statement is what stands before its rows, these, and what ends it.
use Rattle.std.proofs.Common.{◌≡◌, ℕ, List, [], ◌∷◌, ◌++◌, codes, ◌∙◌, ap, refl, sym, append_assoc, append-nil}
use Rattle.std.specs.List.{flat_map}
use Rattle.std.proofs.lemmas.List.Concat.{flat_map-append}
use Rattle.desk_text.specs.Lines.{written}
use Rattle.desk_text.specs.Written.{Part, open_part, close_part, lines_of_part, first_line}
use Rattle.desk_text.proofs.WrittenLemmas.{written-append}
use Rattle.desk_msg.specs.declared.writing.statement_row.StatementRow.{StatementRow}
use Rattle.desk_msg.specs.declared.writing.holdings.Heading.{Heading}
use Rattle.desk_msg.specs.HoldingsText.{general_parts, row_parts, holdings, holdings_parts}
use Rattle.desk_msg.specs.HoldingsPieces.{text_of, general_text, front_text, row_text, rest_text, written_by, has_row, added_by}

-- the lines of parts, and of more behind them
pub text_of-append : (a b : List Part) → text_of (a ++ b) ≡ text_of a ++ text_of b
text_of-append a b = ap written (flat_map-append lines_of_part a b) ∙ written-append (flat_map lines_of_part a) (flat_map lines_of_part b)

-- the lines of all rows
text_of-rows : (rows : List StatementRow) → text_of (flat_map row_parts rows) ≡ flat_map row_text rows
unfolding row_text
text_of-rows [] = refl
text_of-rows (row ∷ rows) = text_of-append (row_parts row) (flat_map row_parts rows) ∙ ap (λ v. text_of (row_parts row) ++ v) (text_of-rows rows)

-- what stands round the rows
around : (general rows : List Part) → text_of (general ++ open_part (codes "SUBSAFE") ∷ (rows ++ close_part (codes "SUBSAFE") ∷ []))
    ≡ text_of general ++ (text_of (open_part (codes "SUBSAFE") ∷ []) ++ (text_of rows ++ text_of (close_part (codes "SUBSAFE") ∷ [])))
around general rows =
    text_of-append general (open_part (codes "SUBSAFE") ∷ (rows ++ close_part (codes "SUBSAFE") ∷ []))
    ∙ ap (λ v. text_of general ++ v) (text_of-append (open_part (codes "SUBSAFE") ∷ []) (rows ++ close_part (codes "SUBSAFE") ∷ []))
    ∙ ap (λ v. text_of general ++ (text_of (open_part (codes "SUBSAFE") ∷ []) ++ v)) (text_of-append rows (close_part (codes "SUBSAFE") ∷ []))

-- five texts in a row
regrouped : (a b c d e f : List ℕ) → (((a ++ b) ++ c) ++ d) ++ (e ++ f) ≡ (a ++ (b ++ (c ++ (d ++ e)))) ++ f
regrouped a b c d e f = Prim.simp append_assoc

-- what was written by the rows, and what ends it, is the statement
pub whole_written : (h : Heading) (rows : List StatementRow) → written_by h rows ++ rest_text h (has_row rows) ≡ holdings h.entries h.day h.account rows
unfolding holdings holdings_parts front_text general_text
whole_written h [] = refl
whole_written h (row ∷ rows) =
    let general : List Part = general_parts h.entries h.day h.account (codes "Y") in
    let opened : List ℕ = text_of (open_part (codes "SUBSAFE") ∷ []) in
    let closed : List ℕ = text_of (close_part (codes "SUBSAFE") ∷ []) in
    ap (λ v. (((first_line ++ text_of general) ++ opened) ++ v) ++ (closed ++ codes "-}")) (sym (text_of-rows (row ∷ rows)))
    ∙ regrouped first_line (text_of general) opened (text_of (flat_map row_parts (row ∷ rows))) closed (codes "-}")
    ∙ ap (λ v. (first_line ++ v) ++ codes "-}") (sym (around general (flat_map row_parts (row ∷ rows))))

-- what one row more adds
pub one_more : (h : Heading) (rows : List StatementRow) (row : StatementRow) → written_by h rows ++ added_by h (has_row rows) row ≡ written_by h (rows ++ row ∷ [])
one_more h [] row = ap (λ v. front_text h ++ v) (sym (append-nil (row_text row)))
one_more h (first ∷ rows) row =
    append_assoc (front_text h) (flat_map row_text (first ∷ rows)) (row_text row)
    ∙ ap (λ v. front_text h ++ (flat_map row_text (first ∷ rows) ++ v)) (sym (append-nil (row_text row)))
    ∙ ap (λ v. front_text h ++ v) (sym (flat_map-append row_text (first ∷ rows) (row ∷ [])))
