use Rattle.std.proofs.lemmas.Result.{on_ok_weaker}
use Rattle.desk_http.proofs.ResponseLemmas.{whole}
use Rattle.desk_http.proofs.response.write_response.Goals as goal

pub returns-clause-written : goal.returns-clause-written
returns-clause-written g c =
    on_ok_weaker c.finish.result (λ last. whole _ _ _ _ _ _ _ _ _ c.requires.empty c.in_ok-add_head.ensures.written c.in_ok-add.ensures.written last) c.finish.ensures.written
