-- The lines of an advice as they are written.
use Rattle.std.proofs.Common.{◌≡◌, refl, subst, IsTrue, Result, Ok, Err, IfOk, ℕ, List, [], ◌∷◌, ◌++◌, codes, sym, ◌∙◌, ap, append_assoc, append-nil}
use Rattle.std.specs.List.{flat_map}
use Rattle.desk_text.specs.Lines.{value_lines, written}
use Rattle.desk_text.specs.BlockGrammar.{is_first}
use Rattle.desk_text.specs.Written.{Part, open_part, field_part, close_part, tagged, lines_of_part, block_text}
use Rattle.desk_text.proofs.LawLemmas.{value-line}
use Rattle.desk_msg.specs.declared.writing.status.Case.{Case}
use Rattle.desk_msg.specs.declared.writing.status.Case.TheVariants.{Unmatched, Matched, Cancelled, CancelDone, CancelWaits, NewRefused, CancelRefused}
use Rattle.desk_msg.specs.OwnText.{last_digits}
use Rattle.desk_msg.specs.StatusText.{statuses_of, function_of_advice}
use Rattle.desk_msg.specs.AdviceParts.{header_of, parts_of}
use Rattle.desk_msg.specs.HoldingsPieces.{text_of}
use Rattle.desk_msg.proofs.HoldingsLemmas.{text_of-append}
use Rattle.desk_msg.proofs.PrintableLemmas.{digits-printable}

-- the line of a value of one line, those behind it, and a text behind these
pub line_before : (tag value : List ℕ) (rest : List Part) (end : List ℕ) → value_lines value ≡ value ∷ []
    → text_of (field_part tag value ∷ rest) ++ end ≡ codes ":" ++ (tag ++ 58 ∷ (value ++ (codes "\r\n" ++ (text_of rest ++ end))))
line_before tag value rest end one =
    let later : List ℕ = text_of rest in
    ap (λ lines. written (tagged tag lines ++ flat_map lines_of_part rest) ++ end) one
    ∙ append_assoc (58 ∷ (tag ++ 58 ∷ value) ++ 13 ∷ 10 ∷ []) later end
    ∙ append_assoc (58 ∷ (tag ++ 58 ∷ value)) (13 ∷ 10 ∷ []) (later ++ end)
    ∙ ap (λ w. 58 ∷ w) (append_assoc tag (58 ∷ value) (13 ∷ 10 ∷ (later ++ end)))

-- the end of a refusal
rejected_end : List Part
rejected_end = close_part (codes "REAS") ∷ close_part (codes "STAT") ∷ []

narrative_line : (number : ℕ) → written (flat_map lines_of_part (field_part (codes "70D") (codes ":REAS//DESK " ++ last_digits 2 number) ∷ rejected_end))
    ≡ codes ":70D:" ++ ((codes ":REAS//DESK " ++ last_digits 2 number) ++ codes "\r\n:16S:REAS\r\n:16S:STAT\r\n")
unfolding rejected_end
narrative_line number =
    let narrative : List ℕ = codes ":REAS//DESK " ++ last_digits 2 number in
    sym (append-nil (text_of (field_part (codes "70D") narrative ∷ rejected_end))) ∙ line_before (codes "70D") narrative rejected_end [] (value-line narrative (digits-printable 2 number))

-- the lines of a refusal's statuses
pub new_refused : (narrative : List ℕ) (number : ℕ) → narrative ≡ codes ":REAS//DESK " ++ last_digits 2 number
    → codes ":16R:STAT\r\n:25D::IPRC//REJT\r\n:16R:REAS\r\n:24B::REJT//NARR\r\n:70D:" ++ (narrative ++ codes "\r\n:16S:REAS\r\n:16S:STAT\r\n") ≡ written (flat_map lines_of_part (statuses_of (NewRefused number)))
unfolding rejected_end
new_refused narrative number is =
    ap (λ v. codes ":16R:STAT\r\n:25D::IPRC//REJT\r\n:16R:REAS\r\n:24B::REJT//NARR\r\n:70D:" ++ (v ++ codes "\r\n:16S:REAS\r\n:16S:STAT\r\n")) is
    ∙ ap (λ w. codes ":16R:STAT\r\n:25D::IPRC//REJT\r\n:16R:REAS\r\n:24B::REJT//NARR\r\n" ++ w) (sym (narrative_line number))

pub cancel_refused : (narrative : List ℕ) (number : ℕ) → narrative ≡ codes ":REAS//DESK " ++ last_digits 2 number
    → codes ":16R:STAT\r\n:25D::CPRC//REJT\r\n:16R:REAS\r\n:24B::REJT//NARR\r\n:70D:" ++ (narrative ++ codes "\r\n:16S:REAS\r\n:16S:STAT\r\n") ≡ written (flat_map lines_of_part (statuses_of (CancelRefused number)))
unfolding rejected_end
cancel_refused narrative number is =
    ap (λ v. codes ":16R:STAT\r\n:25D::CPRC//REJT\r\n:16R:REAS\r\n:24B::REJT//NARR\r\n:70D:" ++ (v ++ codes "\r\n:16S:REAS\r\n:16S:STAT\r\n")) is
    ∙ ap (λ w. codes ":16R:STAT\r\n:25D::CPRC//REJT\r\n:16R:REAS\r\n:24B::REJT//NARR\r\n" ++ w) (sym (narrative_line number))

-- the text of an advice with these values
pub advice_written : (own function digits reference : List ℕ) (statuses : List Part) → value_lines own ≡ own ∷ [] → value_lines function ≡ function ∷ [] → value_lines (codes ":LINK//" ++ digits) ≡ (codes ":LINK//" ++ digits) ∷ [] → value_lines (codes ":RELA//" ++ reference) ≡ (codes ":RELA//" ++ reference) ∷ []
    → block_text (open_part (codes "GENL") ∷ (header_of own function (codes ":LINK//" ++ digits) (codes ":RELA//" ++ reference) ++ statuses ++ close_part (codes "GENL") ∷ []))
    ≡ codes "{4:\r\n:16R:GENL\r\n:20C:" ++ (own ++ (codes "\r\n:23G:" ++ (function ++ (codes "\r\n:16R:LINK\r\n:13A::LINK//" ++ (digits ++ (codes "\r\n:20C::RELA//" ++ (reference ++ (codes "\r\n:16S:LINK\r\n" ++ (text_of statuses ++ codes ":16S:GENL\r\n-}")))))))))
advice_written own function digits reference statuses o f d r =
    let four : List Part = statuses ++ close_part (codes "GENL") ∷ [] in
    let three : List Part = close_part (codes "LINK") ∷ four in
    let two : List Part = field_part (codes "20C") (codes ":RELA//" ++ reference) ∷ three in
    let one : List Part = open_part (codes "LINK") ∷ field_part (codes "13A") (codes ":LINK//" ++ digits) ∷ two in
    ap (λ w. codes "{4:\r\n:16R:GENL\r\n" ++ w) (line_before (codes "20C") own (field_part (codes "23G") function ∷ one) (codes "-}") o)
    ∙ ap (λ w. codes "{4:\r\n:16R:GENL\r\n:20C:" ++ (own ++ (codes "\r\n" ++ w))) (line_before (codes "23G") function one (codes "-}") f)
    ∙ ap (λ w. codes "{4:\r\n:16R:GENL\r\n:20C:" ++ (own ++ (codes "\r\n:23G:" ++ (function ++ (codes "\r\n:16R:LINK\r\n" ++ w))))) (line_before (codes "13A") (codes ":LINK//" ++ digits) two (codes "-}") d)
    ∙ ap (λ w. codes "{4:\r\n:16R:GENL\r\n:20C:" ++ (own ++ (codes "\r\n:23G:" ++ (function ++ (codes "\r\n:16R:LINK\r\n:13A::LINK//" ++ (digits ++ (codes "\r\n" ++ w))))))) (line_before (codes "20C") (codes ":RELA//" ++ reference) three (codes "-}") r)
    ∙ ap (λ w. codes "{4:\r\n:16R:GENL\r\n:20C:" ++ (own ++ (codes "\r\n:23G:" ++ (function ++ (codes "\r\n:16R:LINK\r\n:13A::LINK//" ++ (digits ++ (codes "\r\n:20C::RELA//" ++ (reference ++ (codes "\r\n:16S:LINK\r\n" ++ w)))))))))
    (ap (λ w. w ++ codes "-}") (text_of-append statuses (close_part (codes "GENL") ∷ [])) ∙ append_assoc (text_of statuses) (codes ":16S:GENL\r\n") (codes "-}"))

-- three pieces, and a text behind them
pub three_then : (a b c rest lines : List ℕ) → a ++ (b ++ c) ≡ lines → a ++ (b ++ (c ++ rest)) ≡ lines ++ rest
three_then a b c rest lines e = sym (append_assoc a (b ++ c) rest ∙ ap (λ w. a ++ w) (append_assoc b c rest)) ∙ ap (λ w. w ++ rest) e

function_first : (about : Case) → IsTrue (is_first (function_of_advice about))
function_first Unmatched = refl
function_first (Matched reason) = refl
function_first Cancelled = refl
function_first CancelDone = refl
function_first CancelWaits = refl
function_first (NewRefused number) = refl
function_first (CancelRefused number) = refl

-- the pieces of an advice, in a row, are its text
pub advice_is : (own function digits reference front value end : List ℕ) (about : Case) → IsTrue (is_first own) → IsTrue (is_first digits) → IsTrue (is_first reference) → function ≡ function_of_advice about
    → front ++ (value ++ end) ≡ text_of (statuses_of about)
    → codes "{4:\r\n:16R:GENL\r\n:20C:" ++ (own ++ (codes "\r\n:23G:" ++ (function ++ (codes "\r\n:16R:LINK\r\n:13A::LINK//" ++ (digits ++ (codes "\r\n:20C::RELA//" ++ (reference ++ (codes "\r\n:16S:LINK\r\n" ++ (front ++ (value ++ (end ++ codes ":16S:GENL\r\n-}")))))))))))
    ≡ block_text (parts_of own (codes ":LINK//" ++ digits) (codes ":RELA//" ++ reference) about)
advice_is own function digits reference front value end about o d r f s =
    ap (λ w. codes "{4:\r\n:16R:GENL\r\n:20C:" ++ (own ++ (codes "\r\n:23G:" ++ (w ++ (codes "\r\n:16R:LINK\r\n:13A::LINK//" ++ (digits ++ (codes "\r\n:20C::RELA//" ++ (reference ++ (codes "\r\n:16S:LINK\r\n" ++ (front ++ (value ++ (end ++ codes ":16S:GENL\r\n-}")))))))))))) f
    ∙ ap (λ w. codes "{4:\r\n:16R:GENL\r\n:20C:" ++ (own ++ (codes "\r\n:23G:" ++ (function_of_advice about ++ (codes "\r\n:16R:LINK\r\n:13A::LINK//" ++ (digits ++ (codes "\r\n:20C::RELA//" ++ (reference ++ (codes "\r\n:16S:LINK\r\n" ++ w)))))))))
    (three_then front value end (codes ":16S:GENL\r\n-}") (text_of (statuses_of about)) s)
    ∙ sym (advice_written own (function_of_advice about) digits reference (statuses_of about) (value-line own o) (value-line (function_of_advice about) (function_first about)) (value-line (codes ":LINK//" ++ digits) d) (value-line (codes ":RELA//" ++ reference) r))

-- what holds of the text that was written, where one was
pub ok_then : {T E : Type 0} (items : T → List ℕ) (result : Result T E) (text : List ℕ) (Q : List ℕ → Type 0) → IfOk result (λ t. items t ≡ text) → Q text → IfOk result (λ t. Q (items t))
ok_then items (Ok t) text Q is holds = subst Q (sym is) holds
ok_then items (Err e) text Q is holds = is
