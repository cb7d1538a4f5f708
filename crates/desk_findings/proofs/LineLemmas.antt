-- The lines that ask something, by their words.
use Rattle.std.proofs.Common.{◌≡◌, ◌≢◌, ◌≤◌, ℕ, Bool, true, List, [], ◌∷◌, ◌++◌, length, Option, Some, None, IfNone, IfSome, unwrap_or, codes, refl, sym, ap, ◌∙◌, subst, arith}
use Rattle.std.specs.Str.{byte}
use Rattle.std.proofs.lemmas.List.Elements.{All-cons, All-nil}
use Rattle.desk_msg.specs.MessageType.{digits_of_type}
use Rattle.desk_book.specs.declared.limits.TheConstants.{LONGEST_LINE}
use Rattle.desk_book.specs.declared.requests.question.Question.TheVariants as questions
use Rattle.desk_book.specs.Asked.{mt_of}
use Rattle.desk_book.specs.declared.requests.question.InstructionType.{InstructionType}
use Rattle.desk_book.specs.declared.requests.question.InstructionType.TheVariants.{Mt540, Mt541, Mt542, Mt543}
use Rattle.desk_book.proofs.FormLemmas.{NoSpace, none_to_split, same_split}
use Rattle.desk_book.specs.Lines.{is_skipped, said_by, script_lines}
use Rattle.desk_book.specs.Script.{BeginsWith, bad_line, ended}
use Rattle.desk_findings.specs.LineFaults.{CanAsk, IsBadFor, IsLineFault, IsNoBadLine, nothing, skipped_line, IsRight, IsRightBehind, IsWords, word_of}
use Rattle.desk_findings.specs.declared.lines.fault.LineFault.{LineFault}
use Rattle.desk_findings.specs.declared.lines.fault.LineFault.TheVariants.{NoStop}
use Rattle.desk_findings.specs.declared.lines.form.Form.{Form}
use Rattle.desk_findings.specs.declared.lines.form.Form.TheVariants as forms
use Rattle.desk_findings.specs.declared.lines.form.Named.{Named}
use Rattle.desk_findings.specs.declared.lines.form.Named.TheVariants.{Message, Status, Sent, Holdings}

abbrev IsShort : List ℕ → Type 0
IsShort said = length said ≤ LONGEST_LINE

-- a line of a form that names a participant
named_line : (named : Named) (rest : List ℕ) → IsShort (word_of (forms.Named named) ++ byte " " ∷ rest) → IsRightBehind named rest → CanAsk (word_of (forms.Named named) ++ byte " " ∷ rest)
named_line Message rest short right =
    let bic = right.0 in
    let same : rest ≡ bic ++ byte " " ∷ digits_of_type (mt_of right.5.0) = right.3 ∙ ap (λ b. bic ++ byte " " ∷ b) (sym right.5.1) in
    record {
      asks = λ text. (
        record { question = questions.Message right.1 right.5.0; text = text },
        record { short = short; form = (bic, right.4, ap (λ b. codes "in " ++ b) same); behind = refl; empty = λ none. cc },
      );
    }
named_line Status rest short right =
    record {
      asks = λ text. (
        record { question = questions.Status right.1; text = right.2 },
        record { short = short; form = (right.0, right.4, ap (λ b. codes "status " ++ b) right.3); behind = refl; empty = λ none. cc },
      );
    }
named_line Sent rest short right =
    record {
      asks = λ text. (
        record { question = questions.Sent right.1 right.5.0; text = [] },
        record { short = short; form = (right.2, right.5.1, (right.0, right.4, ap (λ b. codes "sent " ++ b) right.3)); behind = refl; empty = λ none. refl },
      );
    }
named_line Holdings rest short right =
    record {
      asks = λ text. (
        record { question = questions.Holdings right.1; text = right.2 },
        record { short = short; form = (right.0, right.4, ap (λ b. codes "holdings " ++ b) right.3); behind = refl; empty = λ none. cc },
      );
    }

pub can_ask : (said : List ℕ) (form : Form) (rest : Option (List ℕ)) → IsShort said → IsWords (word_of form) rest said → IsRight form rest → CanAsk said
can_ask said forms.Command None short words right =
    subst CanAsk (sym words.1) (record {
      asks = λ text. (record { question = questions.Operator; text = text }, record { short = subst IsShort words.1 short; form = refl; behind = refl; empty = λ none. cc });
    })
can_ask said forms.Command (Some rest) short words right = absurd right
can_ask said forms.Sums None short words right =
    subst CanAsk (sym words.1) (record {
      asks = λ text. (record { question = questions.Sums; text = [] }, record { short = subst IsShort words.1 short; form = refl; behind = refl; empty = λ none. refl });
    })
can_ask said forms.Sums (Some rest) short words right = absurd right
can_ask said (forms.Named named) None short words right = absurd right
can_ask said (forms.Named named) (Some rest) short words right = subst CanAsk (sym words.1) (named_line named rest (subst IsShort words.1 short) right)

three : (a b c : ℕ) → a ≢ 32 → b ≢ 32 → c ≢ 32 → NoSpace (a ∷ b ∷ c ∷ [])
three a b c na nb nc = All-cons (λ x. x ≢ 32) a (b ∷ c ∷ []) na (All-cons (λ x. x ≢ 32) b (c ∷ []) nb (All-cons (λ x. x ≢ 32) c [] nc (All-nil (λ x. x ≢ 32))))

-- a type is written without a space
type_no_space : (kind : InstructionType) → NoSpace (digits_of_type (mt_of kind))
type_no_space Mt540 = three 53 52 48 (λ e. omega (arith, e)) (λ e. omega (arith, e)) (λ e. omega (arith, e))
type_no_space Mt541 = three 53 52 49 (λ e. omega (arith, e)) (λ e. omega (arith, e)) (λ e. omega (arith, e))
type_no_space Mt542 = three 53 52 50 (λ e. omega (arith, e)) (λ e. omega (arith, e)) (λ e. omega (arith, e))
type_no_space Mt543 = three 53 52 51 (λ e. omega (arith, e)) (λ e. omega (arith, e)) (λ e. omega (arith, e))

-- what has no space is no type and more behind one
pub no_more : (behind : List ℕ) → NoSpace behind → (kind : InstructionType) (more : List ℕ) → ¬ (behind ≡ digits_of_type (mt_of kind) ++ 32 ∷ more)
no_more behind none kind more is = none_to_split behind (digits_of_type (mt_of kind)) more none is

-- and neither is what begins with another word
pub other_word : (behind word after : List ℕ) → behind ≡ word ++ 32 ∷ after → NoSpace word → ((kind : InstructionType) → ¬ (digits_of_type (mt_of kind) ≡ word)) → (kind : InstructionType) (more : List ℕ)
    → ¬ (behind ≡ digits_of_type (mt_of kind) ++ 32 ∷ more)
other_word behind word after split none other kind more is = other kind (same_split (digits_of_type (mt_of kind)) word more after (type_no_space kind) none (sym is ∙ split)).0

pub nothing_at_all : (script : List ℕ) → script ≡ [] → IsNoBadLine script
nothing_at_all script is = subst IsNoBadLine (sym is) (nothing ended)

pub skipped_first : (script line said : List ℕ) (more : List (List ℕ)) (skips : Bool) → script_lines script ≡ line ∷ more → said ≡ said_by line → skips ≡ is_skipped said → skips ≡ true → IsNoBadLine script
skipped_first script line said more skips first says is holds = skipped_line line more first (sym (is ∙ ap is_skipped says) ∙ holds)

-- a fault of the line, or of the body that it can ask with
wrong_with : (said : List ℕ) (found : Option LineFault) → IfSome found (IsLineFault said) → IfNone found (CanAsk said) → IsLineFault said (unwrap_or found NoStop)
wrong_with said None fault right = right
wrong_with said (Some told) fault right = fault

pub bad_for : (script line said rest : List ℕ) (more : List (List ℕ)) (found : Option LineFault) (fault : LineFault) → script_lines script ≡ line ∷ more → said ≡ said_by line → BeginsWith (script_lines script) bad_line rest → IfSome found (IsLineFault said)
    → IfNone found (CanAsk said) → fault ≡ unwrap_or found NoStop → IsBadFor script fault
bad_for script line said rest more found fault first says begins wrong right is =
    let P : LineFault → Type 0 = λ f. IsLineFault (said_by line) f in
    let Q : List ℕ → Type 0 = λ s. IsLineFault s (unwrap_or found NoStop) in
    record { line = line; more = more; first = first; rest = rest; begins = begins; wrong = subst P (sym is) (subst Q says (wrong_with said found wrong right)) }
