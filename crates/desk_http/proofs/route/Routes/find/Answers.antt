use Rattle.desk_http.proofs.RouteLemmas.{found_path, on_route}
use Rattle.desk_http.proofs.route.Routes.find.Goals as goal

pub returns-in-Err-clause-none : goal.returns-in-Err-clause-none
returns-in-Err-clause-none c = λ path is. found_path path c.args.target.now is (rw c.args.self.now.rows at c.in-Err.ensures.missing)

pub path_on-requires : goal.path_on-requires
path_on-requires c = rw c.as_bytes.ensures.value (on_route c.args.target.now _ (rw c.args.self.now.rows at c.in-Ok.ensures.found))
