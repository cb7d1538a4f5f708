-- What names an operator's command, and what names nothing.
use Rattle.std.proofs.Common.{◌≡◌, ℕ, List, ◌++◌, codes, subst}
use Rattle.std.proofs.lemmas.Option.{MatchOption-at_none, MatchOption-at_some}
use Rattle.std.specs.Prelude.{IfNone}
use Rattle.desk_book.specs.declared.requests.question.Question.{Question}
use Rattle.desk_drop.specs.Names.{IsNameOf}
use Rattle.desk_drop.proofs.NameLemmas.{ended, if_none, nothing, other_end}
use Rattle.desk_drop.proofs.naming.question_of.Goals as goal

pub returns-in-Some-clause-named : goal.returns-in-Some-clause-named
returns-in-Some-clause-named c =
    let P : List ℕ → Type 0 = λ name. (front : List ℕ) × (name ≡ front ++ codes ".json") in
    let found = MatchOption-at_some _ _ c.in-Some._front c.in-Some.is c.strip_suffix.ensures.cases in
    subst P c.as_bytes-name.ensures.value (c.in-Some._front.now, ended (codes ".json") c.as_bytes-name.result.now c.in-Some._front.now found.0 found.1)

pub returns-in-None-clause-none : goal.returns-in-None-clause-none
returns-in-None-clause-none c =
    let P : List ℕ → Type 0 = λ name. IfNone c.message_question.result ((question : Question) → ¬ IsNameOf question name) in
    let other = MatchOption-at_none _ _ c.in-None.is c.strip_suffix.ensures.cases in
    subst P c.as_bytes-name.ensures.value
    (if_none c.message_question.result (λ no_message. nothing c.as_bytes-name.result.now no_message (λ front is. other_end (codes ".json") c.as_bytes-name.result.now front other is)) c.message_question.ensures.none)
