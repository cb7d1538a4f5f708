use Rattle.desk_http.proofs.RouteLemmas.{last_is}
use Rattle.desk_http.proofs.route.last_part.Goals as goal

pub returns : goal.returns
returns c =
    let r = c.requires in
    last_is _ _ _ _ c.behind.ensures r.1 r.2
