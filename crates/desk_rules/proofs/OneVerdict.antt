-- An entry has one verdict at most.
use Rattle.std.proofs.Common.{◌≡◌, ℕ, Bool, true, false, sym, ◌∙◌, ap}
use Rattle.std.specs.Prelude.{MatchBool, Option, Some, None}
use Rattle.desk_rules.specs.declared.history.entry.Entry.{Entry}
use Rattle.desk_rules.specs.declared.answers.verdict.Verdict.{Verdict}
use Rattle.desk_rules.specs.declared.answers.verdict.Verdict.TheVariants.{Accept, Repeat, Refuse}
use Rattle.desk_rules.specs.declared.answers.verdict.Refusal.TheVariants.{SenderUnknown}
use Rattle.desk_rules.specs.History.{number_of_key, reference_of, sender_of}
use Rattle.desk_rules.specs.Books.{Books}
use Rattle.desk_rules.specs.Verdict.{IsVerdict, IsVerdictAt, is_from_stranger}

one_at : (limit : ℕ) (books : Books) (entry : Entry) (number : Option ℕ) (a b : Verdict) → IsVerdictAt limit books entry number a → IsVerdictAt limit books entry number b → a ≡ b
one_at limit books entry None a b x y = x ∙ sym y
one_at limit books entry (Some n) Accept b x y = absurd x
one_at limit books entry (Some n) (Repeat k) Accept x y = absurd y
one_at limit books entry (Some n) (Repeat k) (Repeat l) x y = ap Repeat (x.0 ∙ sym y.0)
one_at limit books entry (Some n) (Repeat k) (Refuse refusal) x y = absurd (y.1 x.1)
one_at limit books entry (Some n) (Refuse refusal) Accept x y = absurd y
one_at limit books entry (Some n) (Refuse refusal) (Repeat l) x y = absurd (x.1 y.1)
one_at limit books entry (Some n) (Refuse refusal) (Refuse other) x y = ap Refuse (x.0 ∙ sym y.0)

one_of : (limit : ℕ) (books : Books) (entry : Entry) (stranger : Bool) (number : Option ℕ) (a b : Verdict)
    → MatchBool stranger (a ≡ Refuse SenderUnknown) (IsVerdictAt limit books entry number a)
    → MatchBool stranger (b ≡ Refuse SenderUnknown) (IsVerdictAt limit books entry number b) → a ≡ b
one_of limit books entry true number a b x y = x ∙ sym y
one_of limit books entry false number a b x y = one_at limit books entry number a b x y

pub one_verdict : (limit : ℕ) (books : Books) (entry : Entry) (a b : Verdict) → IsVerdict limit books entry a → IsVerdict limit books entry b → a ≡ b
one_verdict limit books entry =
    one_of limit books entry (is_from_stranger books.history (sender_of entry)) (number_of_key books.history (sender_of entry) (reference_of entry))
