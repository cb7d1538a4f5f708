use Rattle.serde_json.specs.Data.{no_members}
use Rattle.desk_book.proofs.FlatLemmas.{all_ordered}
use Rattle.desk_book.proofs.requests.flat.FlatObject.member_count.Goals as goal

pub returns-clause-ordered : goal.returns-clause-ordered
returns-clause-ordered c = all_ordered c.args.self.now.members.items no_members tt
