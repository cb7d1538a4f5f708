use Rattle.std.proofs.Common.{◌≢◌, All}
use Rattle.desk_http.proofs.RouteLemmas.{cut_parts, must_be, must_cut}
use Rattle.desk_http.proofs.route.two_parts.Goals as goal

pub unwrap-requires : goal.unwrap-requires
unwrap-requires c =
    let r = c.requires in
    must_be c.split_at.result (All (λ b. b ≢ 47) c.behind.result.now) c.split_at.ensures.none (must_cut _ _ _ _ _ c.behind.ensures r.2 r.4)

pub returns : goal.returns
returns c =
    let r = c.requires in
    let found = rw c.unwrap.ensures at c.split_at.ensures.found in
    cut_parts _ _ _ _ _ _ _ c.behind.ensures r.2 r.3 r.4 found.0 found.1
