-- What the steps come to.
use Rattle.std.proofs.Common.{◌≡◌, ℕ, zero, suc, ◌+◌, Bool, false, List, [], ◌∷◌, ◌++◌, length, take, drop, slice_get, Some, refl, sym, ◌∙◌, ap, subst}
use Rattle.std.specs.Prelude.{◌↔◌, IsTrue}
use Rattle.std.proofs.lemmas.List.{take-append-drop}
use Rattle.desk_rules.specs.declared.history.entry.Entry.{Entry}
use Rattle.desk_rules.specs.declared.answers.reply.Kept.{Kept}
use Rattle.desk_rules.specs.declared.answers.verdict.Refusal.{Refusal}
use Rattle.desk_rules.specs.declared.answers.verdict.Verdict.{Verdict}
use Rattle.desk_rules.specs.declared.answers.verdict.Verdict.TheVariants.{Accept, Refuse, Repeat}
use Rattle.desk_rules.specs.Books.{Books}
use Rattle.desk_rules.specs.Content.{Content}
use Rattle.desk_rules.specs.Verdict.{IsVerdict, WasAccepted}
use Rattle.desk_rules.proofs.HistoryLemmas.{before-all, entry_at-end}
use Rattle.desk_rules.proofs.OneVerdict.{one_verdict}
use Rattle.desk_engine.specs.Applied.{HasApplied, Keeps}
use Rattle.desk_engine.specs.declared.applied.Accepted.{Accepted}
use Rattle.desk_engine.specs.KeptHistory.{CanBeKept}
use Rattle.desk_engine.specs.Taken.{IsNext, IsTakenIn}
use Rattle.desk_engine.proofs.KeptHistoryLemmas.{front}

-- what was applied is taken in, and was accepted
pub taken_in : (limit : ℕ) (books : Books) (entry : Entry) (accepted : Accepted) (old new : Content) → Keeps limit books old → HasApplied limit books entry accepted new
    → IsTakenIn limit books entry accepted.reply new
taken_in limit books entry accepted old new keeps has =
    let was = subst (WasAccepted limit) has.longer has.keeps.accepted in
    let n = length books.history + 1 in record {
      verdict = was.each n entry books (entry_at-end books.history entry n refl) (sym (before-all books.history (entry ∷ []) n refl)) keeps.tables.are;
      after = has.after;
      longer = has.longer;
      keeps = has.keeps;
      replied = has.replied;
    }

-- An entry has one verdict.

pub repeated : (limit : ℕ) (books : Books) (entry : Entry) (verdict : Verdict) (n : ℕ) → IsVerdict limit books entry verdict → verdict ≡ Repeat n → IsVerdict limit books entry Accept → ⊥
repeated limit books entry verdict n is that accepted = absurd (let same : Accept ≡ Repeat n = one_verdict limit books entry Accept verdict accepted is ∙ that in cc)

pub refused : (limit : ℕ) (books : Books) (entry : Entry) (verdict : Verdict) (why : Refusal) → IsVerdict limit books entry verdict → verdict ≡ Refuse why → IsVerdict limit books entry Accept → ⊥
refused limit books entry verdict why is that accepted = absurd (let same : Accept ≡ Refuse why = one_verdict limit books entry Accept verdict accepted is ∙ that in cc)

-- Over a list, with one entry looked at more.

pub take_one : {X : Type 0} (xs : List X) (i : ℕ) (x : X) → slice_get xs i ≡ Some x → take (suc i) xs ≡ take i xs ++ x ∷ []
take_one [] i x at = absurd (cc)
take_one (y ∷ xs) zero x at = let same : y ≡ x = cc in ap (λ z. z ∷ []) same
take_one (y ∷ xs) (suc i) x at = ap (λ z. y ∷ z) (take_one xs i x at)

never_true : IsTrue false → ⊥
never_true is = cc

-- where the answer to one is false, the whole list cannot be kept
pub never_kept : (limit room : ℕ) (kept : List Kept) (i : ℕ) (one : Kept) (taken : Bool) (content : Content) → room ≡ limit → slice_get kept i ≡ Some one → IsNext room (take i kept) one taken content
    → taken ≡ false → CanBeKept limit kept → ⊥
never_kept limit room kept i one taken content same at is not_taken can =
    let all = subst (CanBeKept room) (sym (take-append-drop (suc i) kept)) (subst (λ r. CanBeKept r kept) (sym same) can) in
    let so_far = subst (CanBeKept room) (take_one kept i one at) (front room (take (suc i) kept) (drop (suc i) kept) all) in
    never_true (subst IsTrue not_taken (is.exact.1 so_far))

-- whether a list can be kept that cannot
pub exact_never : (limit : ℕ) (kept : List Kept) → (CanBeKept limit kept → ⊥) → IsTrue false ↔ CanBeKept limit kept
exact_never limit kept never = (λ is. absurd (never_true is), λ can. absurd (never can))
