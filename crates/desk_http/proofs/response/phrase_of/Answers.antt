use Rattle.std.proofs.Common.{◌∙◌, [], ap, unwrap_or}
use Rattle.http.specs.StatusCode.{reason_phrase}
use Rattle.desk_http.proofs.ResponseLemmas.{phrase_is}
use Rattle.desk_http.proofs.response.phrase_of.Goals as goal

pub returns-in-Ok : goal.returns-in-Ok
returns-in-Ok c = let is = c.in-Ok.ensures in c.reason_of.ensures ∙ ap (λ n. unwrap_or (reason_phrase n) []) is.1 ∙ phrase_is c.args.status is.0
