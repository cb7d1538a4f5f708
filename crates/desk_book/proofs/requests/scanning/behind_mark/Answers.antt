-- A mark behind white space.
use Rattle.std.proofs.Common.{[], ◌∷◌, sym, subst}
use Rattle.json.specs.Lex.{operator_lexeme}
use Rattle.desk_book.specs.Flat.{Passes}
use Rattle.desk_book.proofs.FormLemmas.{stripped}
use Rattle.desk_book.proofs.FlatLemmas.{mark_passed, passes_both}
use Rattle.desk_book.proofs.requests.scanning.behind_mark.Goals as goal

pub returns : goal.returns
returns c =
    let rest = c.in_ok-rest.rest.now in
    let mark = c.args.mark in
    passes_both [] (operator_lexeme mark ∷ []) _ _ _ c.after_space.ensures
    (subst (λ l. Passes (operator_lexeme mark ∷ []) l rest) (sym (stripped (mark ∷ []) c.after_space.result.now rest c.in_ok-rest.ensures.cases.0 c.in_ok-rest.ensures.cases.1)) (mark_passed mark rest c.requires.1 c.requires.0))
