-- What a confirmation begins with.
use Rattle.std.proofs.Common.{◌≡◌, ℕ, ◌≤◌, List, ◌++◌, codes, length, sym, ◌∙◌, ap, arith, length-append}
use Rattle.std.specs.Prelude.{take, drop}
use Rattle.std.proofs.Math.Seq.{take-append_seam}
use Rattle.desk_text.specs.Written.{Part}
use Rattle.desk_text.proofs.LawLemmas.{value-line}
use Rattle.desk_msg.specs.declared.writing.status.Own.TheVariants.{Sent}
use Rattle.desk_msg.specs.declared.instruction.Instruction.{Instruction}
use Rattle.desk_msg.specs.OwnText.{last_digits, own_reference}
use Rattle.desk_msg.specs.ConfirmationText.{confirmation, confirmation_parts}
use Rattle.desk_msg.specs.HoldingsPieces.{text_of}
use Rattle.desk_msg.proofs.PrintableLemmas.{digits-printable}
use Rattle.desk_msg.proofs.StatusLemmas.{line_before}
use Rattle.desk_journal.proofs.NumeralLemmas.{length-last_digits}

-- up to the number
abbrev pub beginning : List ℕ
beginning = codes "{4:\r\n:16R:GENL\r\n:20C::SEME//D"

-- the number's digits stand behind that
parts : (k : ℕ) (i : Instruction) (day : List ℕ) → (rest : List ℕ) × (confirmation k i day ≡ beginning ++ (last_digits 15 k ++ rest))
unfolding confirmation confirmation_parts
parts k i day =
    let own : List ℕ = codes ":SEME//" ++ own_reference (Sent k) in
    let later : List Part = drop 2 (confirmation_parts k i day) in
    (codes "\r\n" ++ (text_of later ++ codes "-}"), ap (λ w. codes "{4:\r\n:16R:GENL\r\n" ++ w) (line_before (codes "20C") own later (codes "-}") (value-line own (digits-printable 15 k))))

behind : (k : ℕ) (i : Instruction) (day : List ℕ) → drop 29 (confirmation k i day) ≡ last_digits 15 k ++ (parts k i day).0
behind k i day = ap (drop 29) (parts k i day).1

pub begins : (k : ℕ) (i : Instruction) (day : List ℕ) → take 29 (confirmation k i day) ≡ beginning
begins k i day = ap (take 29) (parts k i day).1

-- fifteen of them
pub goes_on : (k : ℕ) (i : Instruction) (day : List ℕ) → 15 ≤ length (drop 29 (confirmation k i day))
goes_on k i day =
    let rest = (parts k i day).0 in
    omega (arith, ap length (behind k i day), length-append (last_digits 15 k) rest, length-last_digits 15 k)

pub numbered : (k : ℕ) (i : Instruction) (day : List ℕ) → take 15 (drop 29 (confirmation k i day)) ≡ last_digits 15 k
numbered k i day =
    let rest = (parts k i day).0 in
    ap (take 15) (behind k i day) ∙ ap (λ n. take n (last_digits 15 k ++ rest)) (sym (length-last_digits 15 k)) ∙ take-append_seam (last_digits 15 k) rest
