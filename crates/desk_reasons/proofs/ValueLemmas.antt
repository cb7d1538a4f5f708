-- The first line of a value, and the only one.
use Rattle.std.proofs.Common.{◌≡◌, ◌≢◌, ℕ, ◌<◌, ◌≤◌, List, [], ◌∷◌, length, get_or, refl, sym, ◌∙◌, ap, arith, Bor, subst, codes, drop, true}
use Rattle.desk_text.specs.Fields.{Found}
use Rattle.desk_text.specs.Seen.{texts}
use Rattle.desk_msg.specs.declared.fault.Word.{Word}
use Rattle.desk_msg.specs.declared.fault.Word.TheVariants.{Field35B}
use Rattle.desk_reasons.specs.declared.reasons.SecurityReason.{SecurityReason}
use Rattle.desk_reasons.specs.declared.reasons.ValueReason.{ValueReason}
use Rattle.desk_reasons.specs.declared.reasons.ValueReason.TheVariants.{Security}
use Rattle.desk_reasons.specs.declared.reasons.SecurityReason.TheVariants.{NoIsin, LowerCase, Isin, Other as OtherSecurity}
use Rattle.desk_reasons.specs.Characters.{begins_so}
use Rattle.desk_reasons.specs.Codes.{IsIsinReason, IsSecurityReason}
use Rattle.desk_reasons.specs.Values.{IsLineReason, IsValueReason, of_security, of_line}

first_line : (lines : List (Bor (List ℕ))) (d : Bor (List ℕ)) → 1 ≤ length lines → (further : List (List ℕ)) × (texts lines ≡ (get_or lines 0 d).now ∷ further)
first_line [] d some = absurd (omega arith)
first_line (line ∷ lines) d some = (texts lines, refl)

only_line : (lines : List (Bor (List ℕ))) (d : Bor (List ℕ)) → 1 ≤ length lines → length lines < 2 → texts lines ≡ (get_or lines 0 d).now ∷ []
only_line [] d some few = absurd (omega arith)
only_line (line ∷ []) d some few = refl
only_line (line ∷ more ∷ lines) d some few = absurd (omega arith)

pub security_told : (word : Word) (field : Found) (lines slice : List (Bor (List ℕ))) (d : Bor (List ℕ)) (why : SecurityReason) → word ≡ Field35B → field.values ≡ texts lines → slice ≡ lines → 1 ≤ length slice
    → IsSecurityReason (get_or slice 0 d).now why → IsValueReason word field (Security why)
security_told word field lines slice d why is values same some reason =
    let split = first_line slice d some in
    of_security (get_or slice 0 d).now split.0 why is (values ∙ ap texts (sym same) ∙ split.1) reason refl

pub line_told : (word : Word) (field : Found) (lines slice : List (Bor (List ℕ))) (d : Bor (List ℕ)) (reason : ValueReason) → word ≢ Field35B → field.values ≡ texts lines → slice ≡ lines → 1 ≤ length slice → length slice < 2
    → IsLineReason word field.tag (get_or slice 0 d).now reason → IsValueReason word field reason
line_told word field lines slice d reason other values same some few is =
    of_line (get_or slice 0 d).now other (values ∙ ap texts (sym same) ∙ only_line slice d some few) is

-- what is told of the text behind `ISIN` and a space is told of the line
pub isin_told : (line code : List ℕ) (reason : SecurityReason) → begins_so line (codes "ISIN ") ≡ true → code ≡ drop 5 line → IsIsinReason code reason → IsSecurityReason line reason
isin_told line code NoIsin begins is told = absurd told
isin_told line code LowerCase begins is told = let P : List ℕ → Type 0 = λ c. IsIsinReason c LowerCase in (begins, subst P is told)
isin_told line code (Isin fault) begins is told = let P : List ℕ → Type 0 = λ c. IsIsinReason c (Isin fault) in (begins, subst P is told)
isin_told line code OtherSecurity begins is told = let P : List ℕ → Type 0 = λ c. IsIsinReason c OtherSecurity in (begins, subst P is told)
