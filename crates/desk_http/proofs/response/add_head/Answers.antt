use Rattle.std.proofs.lemmas.Result.{on_ok_weaker}
use Rattle.desk_http.proofs.ResponseLemmas.{three}
use Rattle.desk_http.proofs.response.add_head.Goals as goal

pub returns-clause-written : goal.returns-clause-written
returns-clause-written g c = on_ok_weaker c.add.result (λ last. three _ _ _ _ _ _ _ c.in_ok-add_status.ensures.written c.in_ok-add_type.ensures.written last) c.add.ensures.written
