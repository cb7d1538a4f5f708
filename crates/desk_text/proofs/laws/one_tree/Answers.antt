use Rattle.desk_text.proofs.LawLemmas.{one-tree, one-fields}
use Rattle.desk_text.proofs.laws.one_tree.Goals as goal

pub returns-clause-tree : goal.returns-clause-tree
returns-clause-tree c = one-tree

pub returns-clause-fields : goal.returns-clause-fields
returns-clause-fields c = one-fields
