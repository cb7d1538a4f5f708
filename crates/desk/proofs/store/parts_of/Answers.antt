use Rattle.std.proofs.Common.{◌≡◌, ◌≢◌, ◌∙◌, ap, sym}
use Rattle.memory_register.specs.ListsView.{view_of_lists}
use Rattle.desk_register.specs.declared.register.Stage.TheVariants.{Failed, Idle}
use Rattle.desk_file.specs.Opened.{view_of_both}
use Rattle.desk.proofs.LeftLemmas.{same_handed, tables_say}
use Rattle.desk.proofs.store.parts_of.Goals as goal

pub returns-clause-left : goal.returns-clause-left
returns-clause-left g c = λ idle books keeps.
    let parts = c.into_parts-memory.ensures in
    let handed = c.into_connection-conn.ensures in
    let state = g.S.Session.state in
    let content = (view_of_both g.S.Session.state c.args.both).content in
    let goes : c.args.both.stage ≢ Failed = λ failed. (let clash : Idle ≡ Failed = sym idle ∙ failed in cc) in
    let same = same_handed state c.into_parts-memory.result.1.connection c.into_connection-conn.result content handed.connection (λ clean is_open. sym (ap (λ m. (view_of_lists m).content) parts.memory) ∙ parts.same goes clean is_open) in
    tables_say (state c.into_connection-conn.result) c.into_parts-memory.result.1.stage content books (parts.idle idle) handed.kept c.is_live.ensures same keeps
