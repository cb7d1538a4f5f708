use Rattle.std.proofs.lemmas.Result.{on_ok_weaker}
use Rattle.desk_http.proofs.ResponseLemmas.{three}
use Rattle.desk_http.proofs.response.add_type.Goals as goal

pub returns-clause-written : goal.returns-clause-written
returns-clause-written g c = rw c.in-Some.is (on_ok_weaker c.add-2.result (λ last. three _ _ _ _ _ _ _ c.in_ok-add.ensures.written c.in_ok-add_number.ensures.written last) c.add-2.ensures.written)
