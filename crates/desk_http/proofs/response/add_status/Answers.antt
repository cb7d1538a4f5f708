use Rattle.std.proofs.Common.{◌∙◌}
use Rattle.std.proofs.lemmas.Result.{on_ok_weaker}
use Rattle.desk_http.proofs.ResponseLemmas.{five}
use Rattle.desk_http.proofs.response.add_status.Goals as goal

pub returns-clause-written : goal.returns-clause-written
returns-clause-written g c =
    on_ok_weaker c.add-4.result
    (λ last. five _ _ _ _ _ _ _ _ _ _ _ _ (c.as_bytes.ensures.value ∙ c.phrase_of.ensures) c.in_ok-add.ensures.written c.in_ok-add_number.ensures.written c.in_ok-add-2.ensures.written c.in_ok-add-3.ensures.written last)
    c.add-4.ensures.written
