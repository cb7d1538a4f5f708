use Rattle.std.proofs.Common.{◌∙◌}
use Rattle.desk_file.proofs.ReopenLemmas.{committed_back}
use Rattle.desk_file.proofs.reopening.give_up.Goals as goal

pub returns-clause-left : goal.returns-clause-left
returns-clause-left g c = λ clean now db recovered.
    let store = c.into_store.result in
    g.met.S.Store.settled store db now recovered ∙ committed_back _ (g.S.Store.view store) c.into_store.ensures.undone clean now
