use Rattle.std.proofs.Common.{◌≡◌, ◌==◌, ◌↔◌, [], filter, ap, subst, ◌∙◌, arith}
use Rattle.sqlite.specs.Effect.{Database}
use Rattle.sqlite.specs.State.{HasCleanDisk}
use Rattle.sql_tables.specs.Ends.{ForCause, IsSame}
use Rattle.sql_tables.specs.Schema.{desk_schema}
use Rattle.sql_tables.specs.ByNumber.{is_below}
use Rattle.sql_tables.proofs.LookLemmas.{look_more, look_ok}
use Rattle.sql_tables.proofs.ResultLemmas.{on_error}
use Rattle.sql_rows.proofs.LookedLemmas.{caused_later, look_failed}
use Rattle.sql_rows.proofs.StepLemmas.{look_handed, no_value, none_other, some_other}
use Rattle.sql_rows.proofs.sent.compared.rows.has_no_other.Goals as goal

pub returns-in_err-rows_above-clause-none : goal.returns-in_err-rows_above-clause-none
returns-in_err-rows_above-clause-none g c = λ clean is_open has. no_value c.in_err-rows_above.field-0.0 c.from_residual.result c.from_residual.ensures.1 _

pub returns-in_err-rows_above-clause-look : goal.returns-in_err-rows_above-clause-look
returns-in_err-rows_above-clause-look g c = look_handed c.in_err-rows_above.field-0.0 c.from_residual.result c.from_residual.ensures.1 (g.S.Session.state c.args.conn.now) (g.S.Session.state c.rows_above.new.conn) c.in_err-rows_above.ensures.look

pub returns-in_err-rows_above-clause-blame : goal.returns-in_err-rows_above-clause-blame
returns-in_err-rows_above-clause-blame g c = λ clean is_open has. on_error c.from_residual.result c.in_err-rows_above.field-0.0 (ForCause (g.S.Session.state c.args.conn.now) (g.S.Session.state c.rows_above.new.conn)) c.from_residual.ensures.1 (c.in_err-rows_above.ensures.blame clean is_open has)

pub returns-then-not-is_empty-clause-none : goal.returns-then-not-is_empty-clause-none
returns-then-not-is_empty-clause-none g c = λ clean is_open has. some_other ((g.S.Session.state c.args.conn.now).now.trees 9) c.args.count _ c.is_empty.result (c.in_ok-rows_above.ensures.shown clean is_open has) (c.is_empty.ensures ∙ ap (λ n. n == 0) c.in_ok-rows_above.field-0.ok.0) c.if-not-is_empty.true

pub returns-then-not-is_empty-clause-look : goal.returns-then-not-is_empty-clause-look
returns-then-not-is_empty-clause-look g c = look_ok _ _ (g.S.Session.state c.args.conn.now) (g.S.Session.state c.rows_above.new.conn) c.in_ok-rows_above.ensures.look

pub returns-in_err-rows_below-clause-none : goal.returns-in_err-rows_below-clause-none
returns-in_err-rows_below-clause-none g c = λ clean is_open has. no_value c.in_err-rows_below.field-0.0 c.from_residual-in_err-rows_below.result c.from_residual-in_err-rows_below.ensures.1 _

pub returns-in_err-rows_below-clause-look : goal.returns-in_err-rows_below-clause-look
returns-in_err-rows_below-clause-look g c = look_failed c.in_err-rows_below.field-0.0 c.from_residual-in_err-rows_below.result c.from_residual-in_err-rows_below.ensures.1 (g.S.Session.state c.args.conn.now) (g.S.Session.state c.rows_above.new.conn) (g.S.Session.state c.rows_below.new.conn) (look_ok _ tt (g.S.Session.state c.args.conn.now) (g.S.Session.state c.rows_above.new.conn) c.in_ok-rows_above.ensures.look) c.in_err-rows_below.ensures.look

pub returns-in_err-rows_below-clause-blame : goal.returns-in_err-rows_below-clause-blame
returns-in_err-rows_below-clause-blame g c = λ clean is_open has.
    let s0 = g.S.Session.state c.args.conn.now in
    let s1 = g.S.Session.state c.rows_above.new.conn in
    let s2 = g.S.Session.state c.rows_below.new.conn in
    let one = c.in_ok-rows_above.ensures in
    let later = c.in_err-rows_below.ensures.look.later in
    let clean1 : HasCleanDisk s1 = (let less = later.clean in omega (arith, clean)) in
    let same : IsSame s0 s1 = one.look.ok clean1 is_open has in
    let has1 : s1.now.schema ≡ desk_schema = ap (λ (d : Database). d.schema) same.now ∙ has in
    caused_later c.from_residual-in_err-rows_below.result s0 s1 s2 one.look.later later
    (on_error c.from_residual-in_err-rows_below.result c.in_err-rows_below.field-0.0 (ForCause s1 s2) c.from_residual-in_err-rows_below.ensures.1 (c.in_err-rows_below.ensures.blame clean same.is_open has1))

pub returns-clause-none : goal.returns-clause-none
returns-clause-none g c = λ clean is_open has.
    let s0 = g.S.Session.state c.args.conn.now in
    let s1 = g.S.Session.state c.rows_above.new.conn in
    let s2 = g.S.Session.state c.rows_below.new.conn in
    let one = c.in_ok-rows_above.ensures in
    let later = c.in_ok-rows_below.ensures.look.later in
    let clean1 : HasCleanDisk s1 = (let less = later.clean in omega (arith, clean)) in
    let same : IsSame s0 s1 = one.look.ok clean1 is_open has in
    let has1 : s1.now.schema ≡ desk_schema = ap (λ (d : Database). d.schema) same.now ∙ has in
    let shown = subst (λ (d : Database). (c.in_ok-rows_below.field-0.items ≡ []) ↔ (filter (is_below 1) (d.trees 9) ≡ [])) same.now (c.in_ok-rows_below.ensures.shown clean same.is_open has1) in
    none_other (s0.now.trees 9) c.args.count _ _ c.is_empty.result c.is_empty-2.result (one.shown clean1 is_open has) shown
    (c.is_empty.ensures ∙ ap (λ n. n == 0) c.in_ok-rows_above.field-0.ok.0) c.if-not-is_empty.false (c.is_empty-2.ensures ∙ ap (λ n. n == 0) c.in_ok-rows_below.field-0.ok.0)

pub returns-clause-look : goal.returns-clause-look
returns-clause-look g c = look_ok _ _ (g.S.Session.state c.args.conn.now) (g.S.Session.state c.rows_below.new.conn) (look_more _ (g.S.Session.state c.args.conn.now) (g.S.Session.state c.rows_above.new.conn) (g.S.Session.state c.rows_below.new.conn) (look_ok _ tt (g.S.Session.state c.args.conn.now) (g.S.Session.state c.rows_above.new.conn) c.in_ok-rows_above.ensures.look) c.in_ok-rows_below.ensures.look)
