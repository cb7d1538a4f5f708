-- What a register keeps, from call to call.
use Rattle.std.proofs.Common.{◌≡◌, ℕ, sym, subst}
use Rattle.desk_rules.specs.Books.{Books}
use Rattle.desk_engine.specs.Applied.{Keeps, no_books}
use Rattle.desk_engine.proofs.HeldLemmas.{empty_keeps}
use Rattle.desk_rules.specs.Content.{Content}
use Rattle.desk_register.specs.Changes.{empty_content}

-- what is kept is kept in the same content of another register
pub kept_in : (limit now : ℕ) (books : Books) (old new : Content) → now ≡ limit → new ≡ old → Keeps limit books old → Keeps now books new
kept_in limit now books old new room same keeps =
    let P : Content → Type 0 = λ c. Keeps limit books c in
    let Q : ℕ → Type 0 = λ k. Keeps k books new in
    subst Q (sym room) (subst P (sym same) keeps)

-- what holds nothing keeps the tables of the history that has no entry
pub empty_kept : (limit : ℕ) (content : Content) → content ≡ empty_content → Keeps limit no_books content
empty_kept limit content empty = (let P : Content → Type 0 = Keeps limit no_books in subst P (sym empty) (empty_keeps limit))
