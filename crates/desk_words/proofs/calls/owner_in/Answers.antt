use Rattle.std.proofs.Common.{◌≡◌, ◌∙◌, Some}
use Rattle.desk_words.proofs.WordsLemmas.{known_party}
use Rattle.desk_words.proofs.calls.owner_in.Goals as goal

pub returns-clause-asked : goal.returns-clause-asked
returns-clause-asked c = λ bic is first.
    let both : Some c.in_ok-get_str.field-0.now ≡ Some bic = c.in_ok-get_str.ensures ∙ first in
    let same : c.in_ok-get_str.field-0.now ≡ bic = cc in
    known_party c.party.result bic c.in_ok-get_str.field-0.now is same (rw c.as_bytes.ensures.value at c.party.ensures.none) (rw c.as_bytes.ensures.value at c.party.ensures.some)
