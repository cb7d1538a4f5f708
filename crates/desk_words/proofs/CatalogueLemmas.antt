-- The causes of a catalogue, found by their numbers.
use Rattle.std.proofs.Common.{◌≡◌, ◌≢◌, ◌==◌, ℕ, zero, suc, ◌<◌, Bool, true, false, List, [], ◌∷◌, ◌++◌, codes, Contains, Option, Some, None, cond, refl, subst, sym, ◌∙◌, ap, arith}
use Rattle.std.specs.Option.{option_map}
use Rattle.std.specs.Borrow.{Bor}
use Rattle.std.specs.Prelude.{◌&&◌, MatchOption, is_none}
use Rattle.std.proofs.lemmas.Bool.{eqb-true, eq-eqb, false≢true}
use Rattle.std.specs.Fmt.{decimal, digits}
use Rattle.desk_msg.specs.Refused.{refusal_line}
use Rattle.desk_msg.specs.Words.{letters_of_word}
use Rattle.desk_msg.specs.declared.reading.refusal.TextRefusal.{TextRefusal}
use Rattle.desk_msg.specs.declared.reading.refusal.TextRefusal.TheVariants as text
use Rattle.desk_msg.specs.declared.fault.MsgFault.TheVariants as fields
use Rattle.desk_rules.specs.Questions.{no_message}
use Rattle.desk_rules.specs.Refusals.{number_of_refusal}
use Rattle.desk_rules.specs.declared.answers.verdict.Refusal.{Refusal}
use Rattle.desk_rules.specs.declared.answers.verdict.Refusal.TheVariants.{SenderUnknown, ReferenceReused, PlaceNotUs, UnknownSecurity, KindDiffers, AccountNotSenders, CounterpartyUnknown, NoSuchInstruction, AlreadyCancelled, AlreadySettled, Full, CancellationWaits, CommandReused, Exists, ParticipantUnknown, AccountUnknown, SecurityUnknown, OverLimit, NotEnough, DayGoesBack}
use Rattle.desk_book.specs.Task.{no_command}
use Rattle.desk_book.specs.WrittenAnswers.{bad_line_text, text_of_fault}
use Rattle.desk_book.specs.declared.fault.Fault.{Fault}
use Rattle.desk_book.specs.declared.fault.Fault.TheVariants as faults
use Rattle.desk_drop.specs.Taken.{name_refused}
use Rattle.desk_words.specs.Causes.{CauseValue, IsExplained, TellsCause, cause_among, catalogue, heading_of, value_of_cause}

none_below : (k : ℕ) → k < 0 → ⊥
none_below k below = omega arith

module _ (number : ℕ) where
  -- a cause that is found among others is one of them, and has the number; where none is found none has it
  IsOne : List CauseValue → Option CauseValue → Type 0
  IsOne causes r = MatchOption r ((cause : CauseValue) → Contains causes cause → cause.number ≢ number) (λ cause. Contains causes cause × (cause.number ≡ number))

  one_more : (first : CauseValue) (causes : List CauseValue) (b : Bool) → (first.number == number) ≡ b → (r : Option CauseValue) → IsOne causes r → IsOne (first ∷ causes) (cond b (Some first) r)
  unfolding IsOne
  one_more first causes true is r one = ((0, omega arith, refl), eqb-true first.number number is)
  one_more first causes false is None one = λ cause among same. other cause among same
    where
      other : (cause : CauseValue) → Contains (first ∷ causes) cause → cause.number ≢ number
      other cause (zero, below, same) has = false≢true (sym is ∙ eq-eqb first.number number (ap (λ c. c.number) same ∙ has))
      other cause (suc k, below, same) has = one cause (k, omega arith, same) has
  one_more first causes false is (Some cause) one = ((suc one.0.0, omega arith, one.0.2), one.1)

  among : (causes : List CauseValue) → IsOne causes (cause_among number causes)
  unfolding IsOne
  among [] = λ cause is same. absurd (none_below is.0 is.1)
  among (first ∷ causes) = one_more first causes (first.number == number) refl (cause_among number causes) (among causes)

  pub found : (causes : List CauseValue) (r : Option (ℕ × Bor (List ℕ) × Bor (List ℕ))) → option_map value_of_cause r ≡ cause_among number causes
      → MatchOption r ((cause : CauseValue) → Contains causes cause → cause.number ≢ number) (λ row. Contains causes (value_of_cause row) × (row.0 ≡ number))
  unfolding IsOne
  found causes None same = subst (IsOne causes) (sym same) (among causes)
  found causes (Some row) same = subst (IsOne causes) (sym same) (among causes)

-- no two of them have one number
are_apart : List CauseValue → Bool
are_apart [] = true
are_apart (cause ∷ causes) = is_none (cause_among cause.number causes) && are_apart causes

none_beside : (n : ℕ) (causes : List CauseValue) (r : Option CauseValue) → IsOne n causes r → is_none r ≡ true → (cause : CauseValue) → Contains causes cause → cause.number ≢ n
unfolding IsOne
none_beside n causes None one none = one
none_beside n causes (Some first) one none = cc

both : (a b : Bool) → (a && b) ≡ true → (a ≡ true) × (b ≡ true)
both true b is = (refl, is)
both false b is = cc

apart : (causes : List CauseValue) → are_apart causes ≡ true → (a b : CauseValue) → Contains causes a → Contains causes b → a.number ≡ b.number → a ≡ b
unfolding are_apart
apart [] is a b (k, below, at) in_b same = absurd (none_below k below)
apart (first ∷ causes) is a b (zero, below, at) (zero, below_b, at_b) same = sym at ∙ at_b
apart (first ∷ causes) is a b (zero, below, at) (suc k, below_b, at_b) same =
    absurd (none_beside first.number causes (cause_among first.number causes) (among first.number causes) (both _ _ is).0 b (k, omega arith, at_b) (sym same ∙ ap (λ c. c.number) (sym at)))
apart (first ∷ causes) is a b (suc k, below, at) (zero, below_b, at_b) same =
    absurd (none_beside first.number causes (cause_among first.number causes) (among first.number causes) (both _ _ is).0 a (k, omega arith, at) (same ∙ ap (λ c. c.number) (sym at_b)))
apart (first ∷ causes) is a b (suc k, below, at) (suc m, below_b, at_b) same = apart causes (both _ _ is).1 a b (k, omega arith, at) (m, omega arith, at_b) same

pub one_meaning : (a b : CauseValue) → Contains catalogue a → Contains catalogue b → a.number ≡ b.number → a ≡ b
unfolding catalogue are_apart
one_meaning a b in_a in_b same = apart catalogue refl a b in_a in_b same

pub entry_explained : (refusal : Refusal) → IsExplained (number_of_refusal refusal)
unfolding catalogue
entry_explained SenderUnknown = refl
entry_explained ReferenceReused = refl
entry_explained PlaceNotUs = refl
entry_explained UnknownSecurity = refl
entry_explained KindDiffers = refl
entry_explained AccountNotSenders = refl
entry_explained CounterpartyUnknown = refl
entry_explained NoSuchInstruction = refl
entry_explained AlreadyCancelled = refl
entry_explained AlreadySettled = refl
entry_explained Full = refl
entry_explained CancellationWaits = refl
entry_explained CommandReused = refl
entry_explained Exists = refl
entry_explained ParticipantUnknown = refl
entry_explained AccountUnknown = refl
entry_explained SecurityUnknown = refl
entry_explained OverLimit = refl
entry_explained NotEnough = refl
entry_explained DayGoesBack = refl

pub message_explained : IsExplained no_message
unfolding catalogue
message_explained = refl

pub tells : (number : ℕ) (rest text : List ℕ) → IsExplained number → text ≡ heading_of number ++ rest → TellsCause text
tells number rest text is begins = record { number = number; rest = rest; is_explained = is; begins = begins }

pub text_told : (refusal : TextRefusal) → TellsCause (refusal_line refusal)
unfolding catalogue digits
text_told text.NotBlock = tells 1 [] _ refl refl
text_told (text.BadLine line) = tells 2 (codes " " ++ decimal line) _ refl refl
text_told (text.BadNesting line) = tells 3 (codes " " ++ decimal line) _ refl refl
text_told text.TooLong = tells 4 [] _ refl refl
text_told (text.Fields (fields.Missing word)) = tells 5 (codes " " ++ letters_of_word word) _ refl refl
text_told (text.Fields (fields.Repeated word)) = tells 6 (codes " " ++ letters_of_word word) _ refl refl
text_told (text.Fields (fields.BadValue word)) = tells 7 (codes " " ++ letters_of_word word) _ refl refl
text_told (text.Fields fields.Function) = tells 8 [] _ refl refl

pub command_told : TellsCause no_command.text
unfolding catalogue digits
command_told = tells 30 [] _ refl refl

pub name_told : TellsCause name_refused.text
unfolding catalogue digits
name_told = tells 40 [] _ refl refl

pub line_told : TellsCause bad_line_text
unfolding catalogue digits
line_told = tells 41 [] _ refl refl

pub fault_told : (fault : Fault) → TellsCause (text_of_fault fault)
unfolding catalogue digits
fault_told faults.Memory = tells 60 [] _ refl refl
fault_told faults.Storage = tells 61 [] _ refl refl
fault_told faults.Closed = tells 62 [] _ refl refl
