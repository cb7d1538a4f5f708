use Rattle.std.proofs.Common.{◌∙◌, ap, arith, inl, sym}
use Rattle.sqlite.specs.Effect.{Database}
use Rattle.sqlite.specs.State.{HasCleanDisk}
use Rattle.memory_register.specs.ListsView.{view_of_lists}
use Rattle.desk_file.proofs.OpenedLemmas.{found_as, nothing_audited, nothing_held, opened_as}
use Rattle.desk_file.proofs.taking.make.Goals as goal

pub new-requires-in-Ok-2-clause-same : goal.new-requires-in-Ok-2-clause-same
new-requires-in-Ok-2-clause-same g c = λ honest sure. c.new-in-Ok.ensures.empty ∙ sym (c.in-Ok.ensures.empty honest)

pub returns-in-Ok-clause-opened : goal.returns-in-Ok-clause-opened
returns-in-Ok-clause-opened g c =
    let memory = c.new-in-Ok.result in
    let tables = c.in-Ok.tables in
    let both = c.new-in-Ok-2 in
    let t = c.in-Ok.ensures in
    let content = (view_of_lists memory).content in
    opened_as g.S.Session.state c.args.limit both.result memory tables both.ensures.memory both.ensures.tables both.ensures.stage c.new-in-Ok.ensures.limit
    (nothing_held c.args.limit content c.new-in-Ok.ensures.empty)
    (record { stage = t.stage; room = t.limit })
    (λ clean. record {
      is_open = t.sure clean;
      settled = t.settled clean;
      closed = t.closed clean;
      audited = nothing_audited (g.S.Session.state tables.connection).now c.args.limit content c.new-in-Ok.ensures.empty (t.desk clean);
    })

pub returns-in-Ok-clause-which : goal.returns-in-Ok-clause-which
returns-in-Ok-clause-which g c =
    let memory = c.new-in-Ok.result in
    let tables = c.in-Ok.tables in
    let both = c.new-in-Ok-2 in
    let t = c.in-Ok.ensures in
    let s0 = g.S.Session.state c.args.conn in
    found_as g.S.Session.state c.args.limit both.result memory tables both.ensures.memory both.ensures.tables s0.committed
    (λ clean.
    let clean0 : HasCleanDisk s0 = omega (arith, clean, t.later.clean) in
    inl (sym (ap (λ (d : Database). d.schema) (c.requires.open clean0).opens.clean) ∙ t.unmade, c.new-in-Ok.ensures.empty))
