use Rattle.std.proofs.Common.{◌∙◌, sym}
use Rattle.desk_rules.specs.Content.{history_of}
use Rattle.desk_rules.specs.Facts.{owner_by}
use Rattle.memory_rows.specs.RowsView.{view_of_rows}
use Rattle.memory_register.specs.Registered.{adds_account}
use Rattle.memory_register.proofs.FirstLemmas.{said_first, said_none}
use Rattle.memory_register.proofs.LookUpLemmas.{gives_owner}
use Rattle.memory_register.proofs.entries.registered.Registered.owner.Goals as goal

pub returns-in_err-copied : goal.returns-in_err-copied
returns-in_err-copied c are =
    let account = c.args.account.now in
    let history = history_of (view_of_rows c.args.held.now).content in
    c.from_residual.ensures ∙ sym (said_none (adds_account account) (owner_by account) (gives_owner account) history (sym (are.accounts account) ∙ sym c.get.ensures.value ∙ sym c.in_err-copied.ensures))

pub returns : goal.returns
returns c are =
    let account = c.args.account.now in
    let history = history_of (view_of_rows c.args.held.now).content in
    c.owner_at.ensures ∙ sym (said_first (adds_account account) (owner_by account) (gives_owner account) history c.in_ok-copied.field-0 (sym (are.accounts account) ∙ sym c.get.ensures.value ∙ sym c.in_ok-copied.ensures))
