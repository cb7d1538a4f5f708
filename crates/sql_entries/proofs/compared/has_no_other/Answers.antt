use Rattle.std.proofs.Common.{◌≡◌, ◌==◌, ◌↔◌, [], filter, ap, subst, ◌∙◌, arith, Bool, false, Ok, Vec}
use Rattle.std.specs.declared.alloc.Global.{Global}
use Rattle.sqlite.specs.Order.{Row}
use Rattle.sql_tables.proofs.LookLemmas.{look_ok, look_passed, look_then}
use Rattle.sqlite.specs.Effect.{Database}
use Rattle.sqlite.specs.State.{HasCleanDisk}
use Rattle.sql_tables.specs.Ends.{IsSame}
use Rattle.sql_tables.specs.Versions.{register_tree, schema_in}
use Rattle.sql_tables.specs.ByNumber.{is_below}
use Rattle.sql_entries.proofs.ComparedRows.{none_other, some_other}
use Rattle.sql_entries.proofs.compared.has_no_other.Goals as goal

pub returns-then-not-is_empty-clause-none : goal.returns-then-not-is_empty-clause-none
returns-then-not-is_empty-clause-none g c = λ version clean is_open has. some_other ((g.S.Session.state c.args.conn.now).now.trees (register_tree version)) c.args.count _ c.is_empty.result (c.in_ok-rows_above.ensures.shown version clean is_open has) (c.is_empty.ensures ∙ ap (λ n. n == 0) c.in_ok-rows_above.field-0.ok.0) c.if-not-is_empty.true

pub returns-clause-none : goal.returns-clause-none
returns-clause-none g c = λ version clean is_open has.
    let s0 = g.S.Session.state c.args.conn.now in
    let s1 = g.S.Session.state c.rows_above.new.conn in
    let one = c.in_ok-rows_above.ensures in
    let later = (c.in_ok-rows_below.ensures.look version).later in
    let clean1 : HasCleanDisk s1 = (let less = later.clean in omega (arith, clean)) in
    let same : IsSame s0 s1 = (one.look version).ok clean1 is_open has in
    let has1 : s1.now.schema ≡ schema_in version = ap (λ (d : Database). d.schema) same.now ∙ has in
    let shown = subst (λ (d : Database). (c.in_ok-rows_below.field-0.items ≡ []) ↔ (filter (is_below 1) (d.trees (register_tree version)) ≡ [])) same.now (c.in_ok-rows_below.ensures.shown version clean same.is_open has1) in
    none_other (s0.now.trees (register_tree version)) c.args.count _ _ c.is_empty.result c.is_empty-2.result (one.shown version clean1 is_open has) shown
    (c.is_empty.ensures ∙ ap (λ n. n == 0) c.in_ok-rows_above.field-0.ok.0) c.if-not-is_empty.false (c.is_empty-2.ensures ∙ ap (λ n. n == 0) c.in_ok-rows_below.field-0.ok.0)

pub returns-in_err-rows_above-clause-look : goal.returns-in_err-rows_above-clause-look
returns-in_err-rows_above-clause-look g c = λ version.
    look_passed (Vec Row Global) c.in_err-rows_above.field-0.0 c.from_residual.result c.from_residual.ensures.1 (g.S.Session.state c.args.conn.now) (g.S.Session.state c.rows_above.new.conn) (c.in_err-rows_above.ensures.look version)

pub returns-then-not-is_empty-clause-look : goal.returns-then-not-is_empty-clause-look
returns-then-not-is_empty-clause-look g c = λ version.
    look_ok c.in_ok-rows_above.field-0 false (g.S.Session.state c.args.conn.now) (g.S.Session.state c.rows_above.new.conn) (c.in_ok-rows_above.ensures.look version)

pub returns-in_err-rows_below-clause-look : goal.returns-in_err-rows_below-clause-look
returns-in_err-rows_below-clause-look g c = λ version.
    let s1 = g.S.Session.state c.rows_above.new.conn in
    let s2 = g.S.Session.state c.rows_below.new.conn in
    let fell = look_passed (Vec Row Global) {Y = Bool} c.in_err-rows_below.field-0.0 c.from_residual-in_err-rows_below.result c.from_residual-in_err-rows_below.ensures.1 s1 s2 (c.in_err-rows_below.ensures.look version) in
    look_then c.in_ok-rows_above.field-0 c.from_residual-in_err-rows_below.result (g.S.Session.state c.args.conn.now) s1 s2 (c.in_ok-rows_above.ensures.look version) fell

pub returns-clause-look : goal.returns-clause-look
returns-clause-look g c = λ version.
    let s0 = g.S.Session.state c.args.conn.now in
    let s1 = g.S.Session.state c.rows_above.new.conn in
    let s2 = g.S.Session.state c.rows_below.new.conn in
    let both = look_then c.in_ok-rows_above.field-0 (Ok c.in_ok-rows_below.field-0) s0 s1 s2 (c.in_ok-rows_above.ensures.look version) (c.in_ok-rows_below.ensures.look version) in
    look_ok c.in_ok-rows_below.field-0 c.is_empty-2.result s0 s2 both
