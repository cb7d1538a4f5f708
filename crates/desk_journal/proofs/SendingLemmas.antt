-- What was noted of all that was sent.
use Rattle.std.proofs.Common.{◌≡◌, ℕ, zero, suc, List, [], ◌∷◌, Some, sym, ap, ◌∙◌, subst}
use Rattle.std.specs.Prelude.{slice_get}
use Rattle.desk_rules.specs.declared.answers.reply.Notice.{Notice}
use Rattle.desk_rules.specs.Books.{Books}
use Rattle.desk_rules.specs.Content.{Content}
use Rattle.desk_rules.specs.History.{instruction_at}
use Rattle.desk_rules.specs.Sent.{notices_of}
use Rattle.desk_rules.specs.Tables.{AreTables}
use Rattle.desk_rules.proofs.SentNumbers.{Every, IsKnown, all_known}
use Rattle.desk_journal.specs.Sending.{HoldNotices}

every_at : {X : Type 0} (P : X → Type 0) (xs : List X) (j : ℕ) (x : X) → Every P xs → slice_get xs j ≡ Some x → P x
every_at P [] j x all is = absurd (cc)
every_at P (y ∷ xs) zero x all is = (let same : y ≡ x = cc in subst P same all.0)
every_at P (y ∷ xs) (suc j) x all is = every_at P xs j x all.1 is

-- each notice is about an instruction
pub hold_notices : (books : Books) (content : Content) (notices : List Notice) → AreTables books content → notices ≡ notices_of books → HoldNotices content notices
hold_notices books content notices are same = λ place notice at.
    let known = every_at (IsKnown books.history) (notices_of books) place notice (all_known books are.are) (sym (ap (λ l. slice_get l place) same) ∙ at) in
    record { instructed = known.0; at = ap (λ h. instruction_at h notice.about) are.history ∙ known.1 }
