use Rattle.std.proofs.Common.{◌≡◌, ◌∙◌, arith, subst, sym, IsTrue}
use Rattle.sqlite.specs.State.{HasCleanDisk}
use Rattle.memory_register.specs.ListsView.{view_of_lists}
use Rattle.desk_engine.proofs.KeptHistoryLemmas.{holds_none}
use Rattle.desk_file.specs.Audited.{IsAudited}
use Rattle.desk_file.specs.Reading.{HoldsFormed}
use Rattle.sql_register.specs.Content.{content_in}
use Rattle.sql_tables.specs.Ends.{IsSame}
use Rattle.desk_file.specs.Opened.{Finds, KeepAudited, StandsOpen}
use Rattle.desk_file.specs.OtherVersion.{SaysOther}
use Rattle.desk_file.proofs.FoundLemmas.{finds, keeps, order_now, same_content}
use Rattle.desk_file.proofs.OpenedLemmas.{found_as, opened_as}
use Rattle.desk_file.proofs.taking.find.Goals as goal

pub audit-requires-clause-empty : goal.audit-requires-clause-empty
audit-requires-clause-empty g c = λ honest sure. holds_none _ _ c.new-memory.ensures.empty

pub over-requires-clause-unlimited : goal.over-requires-clause-unlimited
over-requires-clause-unlimited g c = c.in-Ok-Whole.ensures.look.later.limit ∙ c.requires.unlimited

pub new-requires-clause-same : goal.new-requires-clause-same
new-requires-clause-same g c =
    let s0 = g.S.Session.state c.args.conn in
    let s1 = g.S.Session.state c.audit.new.conn in
    let a = c.in-Ok-Whole.ensures in
    let content = (view_of_lists c.audit.new.register).content in
    let stood : HasCleanDisk s1 → StandsOpen s0 = λ clean. c.requires.open (omega (arith, clean, a.look.later.clean)) in
    let audited : HasCleanDisk s1 → IsAudited s0.now c.args.limit content = λ clean.
    (let stands = stood clean in subst (λ r. IsAudited s0.now r content) c.new-memory.ensures.limit (a.whole clean stands.opens.is_open tt tt (order_now s0 stands) (omega (arith, c.new-memory.ensures.limit, c.requires.limit)) c.in-Ok-Whole.field-0-is)) in
    let same : HasCleanDisk s1 → IsSame s0 s1 = λ clean. a.look.ok clean (stood clean).opens.is_open (audited clean).becomes.desk.schema in
    subst (λ (h : g.row.S.Denot). HasCleanDisk (g.S.Session.state h) → IsTrue (g.S.Session.state h).is_open → content ≡ content_in (g.S.Session.state h).now) (sym c.over.ensures.connection)
    (λ clean is_open. same_content s0 s1 (stood clean) (same clean) c.args.limit content (audited clean))

pub returns-in-Ok-Whole-clause-opened : goal.returns-in-Ok-Whole-clause-opened
returns-in-Ok-Whole-clause-opened g c =
    let s0 = g.S.Session.state c.args.conn in
    let s1 = g.S.Session.state c.audit.new.conn in
    let a = c.in-Ok-Whole.ensures in
    let content = (view_of_lists c.audit.new.register).content in
    let stood : HasCleanDisk s1 → StandsOpen s0 = λ clean. c.requires.open (omega (arith, clean, a.look.later.clean)) in
    let audited : HasCleanDisk s1 → IsAudited s0.now c.args.limit content = λ clean.
    (let stands = stood clean in subst (λ r. IsAudited s0.now r content) c.new-memory.ensures.limit (a.whole clean stands.opens.is_open tt tt (order_now s0 stands) (omega (arith, c.new-memory.ensures.limit, c.requires.limit)) c.in-Ok-Whole.field-0-is)) in
    let same : HasCleanDisk s1 → IsSame s0 s1 = λ clean. a.look.ok clean (stood clean).opens.is_open (audited clean).becomes.desk.schema in
    let both = c.new in
    opened_as g.S.Session.state c.args.limit both.result c.audit.new.register c.over.result both.ensures.memory both.ensures.tables both.ensures.stage
    (a.later.room ∙ c.new-memory.ensures.limit)
    (subst (λ r. HoldsFormed r content) c.new-memory.ensures.limit (a.holds tt tt c.in-Ok-Whole.field-0-is))
    (record { stage = c.over.ensures.stage; room = c.over.ensures.limit })
    (subst (λ (h : g.row.S.Denot). HasCleanDisk (g.S.Session.state h) → KeepAudited (g.S.Session.state h) c.args.limit content) (sym c.over.ensures.connection)
    (λ clean. keeps s0 s1 (stood clean) (same clean) c.args.limit content (audited clean)))

pub returns-in-Ok-Whole-clause-which : goal.returns-in-Ok-Whole-clause-which
returns-in-Ok-Whole-clause-which g c =
    let s0 = g.S.Session.state c.args.conn in
    let s1 = g.S.Session.state c.audit.new.conn in
    let a = c.in-Ok-Whole.ensures in
    let content = (view_of_lists c.audit.new.register).content in
    let stood : HasCleanDisk s1 → StandsOpen s0 = λ clean. c.requires.open (omega (arith, clean, a.look.later.clean)) in
    let audited : HasCleanDisk s1 → IsAudited s0.now c.args.limit content = λ clean.
    (let stands = stood clean in subst (λ r. IsAudited s0.now r content) c.new-memory.ensures.limit (a.whole clean stands.opens.is_open tt tt (order_now s0 stands) (omega (arith, c.new-memory.ensures.limit, c.requires.limit)) c.in-Ok-Whole.field-0-is)) in
    let same : HasCleanDisk s1 → IsSame s0 s1 = λ clean. a.look.ok clean (stood clean).opens.is_open (audited clean).becomes.desk.schema in
    let both = c.new in
    found_as g.S.Session.state c.args.limit both.result c.audit.new.register c.over.result both.ensures.memory both.ensures.tables s0.committed
    (subst (λ (h : g.row.S.Denot). HasCleanDisk (g.S.Session.state h) → Finds s0.committed (g.S.Session.state h).committed content) (sym c.over.ensures.connection)
    (λ clean. finds s0 s1 (stood clean) (same clean) c.args.limit content (audited clean)))

pub returns-in-Ok-OtherTables-clause-other : goal.returns-in-Ok-OtherTables-clause-other
returns-in-Ok-OtherTables-clause-other g c = λ clean is.
    let s0 = g.S.Session.state c.args.conn in
    let s1 = g.S.Session.state c.audit.new.conn in
    let a = c.in-Ok-OtherTables.ensures in
    let told = c.refusal-fault.ensures in
    let clean1 : HasCleanDisk s1 = (let less = told.spares.later.clean in omega (arith, clean, less)) in
    let clean0 : HasCleanDisk s0 = (let less = a.look.later.clean in omega (arith, clean1, less)) in
    subst (SaysOther g.S.Session.state) (a.same clean1 (c.requires.open clean0).opens.is_open).now (told.other clean is)
