use Rattle.std.proofs.Common.{IfOk, IsTrue, sym, ◌∙◌}
use Rattle.sqlite.specs.Effect.{Database}
use Rattle.desk_rules.specs.Content.{Content}
use Rattle.sql_rows.specs.declared.amounts.key.Ledger.{Ledger}
use Rattle.sql_rows.specs.declared.amounts.key.Ledger.TheVariants.{Balance, Cash, Total}
use Rattle.sql_tables.specs.Ends.{HasLooked}
use Rattle.sql_tables.specs.Schema.{desk_schema}
use Rattle.sql_tables.specs.Audits.{of_register, of_tables}
use Rattle.sql_tables.proofs.LookLemmas.{cause_after, look_more, look_then}
use Rattle.desk_register.specs.View.{HasRead}
use Rattle.desk_register.proofs.ReadLemmas.{read_idle, read_more, read_then}
use Rattle.sql_rows.specs.Said.{HasReadable}
use Rattle.sql_tables.specs.Forms.{AreAllFormed}
use Rattle.sql_tables.specs.Order.{AreInOrder}
use Rattle.sql_rows.specs.Shown.{IsTrueTable}
use Rattle.sql_rows.proofs.StepLemmas.{cause_first, cause_later, look_first, none_told, read_first}
use Rattle.sql_rows.proofs.AmountWalkLemmas.{all_three, in_three, look_failed, moved, read_failed}
use Rattle.sql_rows.proofs.amounts.compared.table.are_true_tables.Goals as goal

abbrev Says : Ledger → Database → Content → Type 0
Says ledger db content = AreInOrder desk_schema db.trees → AreAllFormed db.trees → IsTrueTable db content ledger

pub returns-clause-says : goal.returns-clause-says
returns-clause-says g c = λ clean is_open has honest sure order formed.
    let s0 = g.S.Session.state c.args.conn.now in
    let v0 = g.R.Register.view c.args.register.now in
    let one = c.in_ok-is_true_table.ensures in
    let two = c.in_ok-is_true_table-2.ensures in
    let three = c.is_true_table-3.ensures in
    let r = c.is_true_table-3.result in
    let all = in_three s0 (g.S.Session.state c.is_true_table.new.conn) (g.S.Session.state c.is_true_table-2.new.conn) (g.S.Session.state c.is_true_table-3.new.conn)
    v0 (g.R.Register.view c.is_true_table.new.register) (g.R.Register.view c.is_true_table-2.new.register) (g.R.Register.view c.is_true_table-3.new.register)
    one.look one.read two.look two.read three.look.later three.read.later
    (Says Balance) (Says Cash) (λ db content. AreInOrder desk_schema db.trees → AreAllFormed db.trees → IfOk r (λ so. IsTrue so → IsTrueTable db content Total))
    (λ clean is_open has honest sure order formed. one.says clean is_open has honest sure order formed c.if-not-branch.false)
    (λ clean is_open has honest sure order formed. two.says clean is_open has honest sure order formed c.if-not-branch-2.false)
    three.says clean is_open has honest sure in
    all_three s0.now v0.content r (all.0.0 order formed, all.0.1 order formed) (all.1 order formed)

-- a table that says what the content has is found to
abbrev Finds : Ledger → Type 0 → Database → Content → Type 0
Finds ledger Found db content = IsTrueTable db content ledger → HasReadable content → Found

pub returns-then-not-branch-clause-exact : goal.returns-then-not-branch-clause-exact
returns-then-not-branch-clause-exact g c = λ clean is_open has honest sure so can.
    sym c.if-not-branch.true ∙ c.in_ok-is_true_table.ensures.exact clean is_open has honest sure so.balance can

pub returns-then-not-branch-2-clause-exact : goal.returns-then-not-branch-2-clause-exact
returns-then-not-branch-2-clause-exact g c = λ clean is_open has honest sure so can.
    let one = c.in_ok-is_true_table.ensures in
    let two = c.in_ok-is_true_table-2.ensures in
    sym c.if-not-branch-2.true ∙ moved (g.S.Session.state c.args.conn.now) (g.S.Session.state c.is_true_table.new.conn) (g.S.Session.state c.is_true_table-2.new.conn)
    (g.R.Register.view c.args.register.now) (g.R.Register.view c.is_true_table.new.register) (g.R.Register.view c.is_true_table-2.new.register) two.look.later two.read.later
    (Finds Cash _) one.look one.read two.exact clean is_open has honest sure so.cash can

pub returns-clause-exact : goal.returns-clause-exact
returns-clause-exact g c = λ clean is_open has honest sure so can.
    let s0 = g.S.Session.state c.args.conn.now in
    let s1 = g.S.Session.state c.is_true_table.new.conn in
    let s2 = g.S.Session.state c.is_true_table-2.new.conn in
    let v0 = g.R.Register.view c.args.register.now in
    let v1 = g.R.Register.view c.is_true_table.new.register in
    let v2 = g.R.Register.view c.is_true_table-2.new.register in
    let one = c.in_ok-is_true_table.ensures in
    let two = c.in_ok-is_true_table-2.ensures in
    let three = c.is_true_table-3.ensures in
    let looked : HasLooked s0 s2 = look_more tt s0 s1 s2 one.look two.look in
    let read : HasRead v0 v2 = read_more tt v0 v1 v2 one.read two.read in
    moved s0 s2 (g.S.Session.state c.is_true_table-3.new.conn) v0 v2 (g.R.Register.view c.is_true_table-3.new.register) three.look.later three.read.later
    (Finds Total _) looked read three.exact clean is_open has honest sure so.total can

pub is_true_table-requires-2 : goal.is_true_table-requires-2
is_true_table-requires-2 g c = record { stage = read_idle (g.R.Register.view c.args.register.now) (g.R.Register.view c.is_true_table.new.register) c.in_ok-is_true_table.ensures.read c.requires.stage }

pub is_true_table-requires-3 : goal.is_true_table-requires-3
is_true_table-requires-3 g c =
    let v0 = g.R.Register.view c.args.register.now in
    let v2 = g.R.Register.view c.is_true_table-2.new.register in
    let read : HasRead v0 v2 = read_more tt v0 (g.R.Register.view c.is_true_table.new.register) v2 c.in_ok-is_true_table.ensures.read c.in_ok-is_true_table-2.ensures.read in
    record { stage = read_idle v0 v2 read c.requires.stage }

pub returns-in_err-is_true_table-clause-says : goal.returns-in_err-is_true_table-clause-says
returns-in_err-is_true_table-clause-says g c = λ clean is_open has honest sure order formed. none_told c.in_err-is_true_table.field-0.0 c.from_residual.result c.from_residual.ensures.1 _

pub returns-in_err-is_true_table-clause-exact : goal.returns-in_err-is_true_table-clause-exact
returns-in_err-is_true_table-clause-exact g c = λ clean is_open has honest sure so can. none_told c.in_err-is_true_table.field-0.0 c.from_residual.result c.from_residual.ensures.1 _

pub returns-in_err-is_true_table-clause-look : goal.returns-in_err-is_true_table-clause-look
returns-in_err-is_true_table-clause-look g c = look_first c.in_err-is_true_table.field-0.0 c.from_residual.result c.from_residual.ensures.1 (g.S.Session.state c.args.conn.now) (g.S.Session.state c.is_true_table.new.conn) c.in_err-is_true_table.ensures.look

pub returns-in_err-is_true_table-clause-read : goal.returns-in_err-is_true_table-clause-read
returns-in_err-is_true_table-clause-read g c = read_first c.in_err-is_true_table.field-0.0 c.from_residual.result c.from_residual.ensures.1 (g.R.Register.view c.args.register.now) (g.R.Register.view c.is_true_table.new.register) c.in_err-is_true_table.ensures.read

pub returns-in_err-is_true_table-clause-blame : goal.returns-in_err-is_true_table-clause-blame
returns-in_err-is_true_table-clause-blame g c = λ clean is_open has. cause_first c.in_err-is_true_table.field-0.0 c.from_residual.result c.from_residual.ensures.1 (g.S.Session.state c.args.conn.now) (g.S.Session.state c.is_true_table.new.conn) (c.in_err-is_true_table.ensures.blame clean is_open has)

pub returns-in_err-is_true_table-2-clause-says : goal.returns-in_err-is_true_table-2-clause-says
returns-in_err-is_true_table-2-clause-says g c = λ clean is_open has honest sure order formed. none_told c.in_err-is_true_table-2.field-0.0 c.from_residual-in_err-is_true_table-2.result c.from_residual-in_err-is_true_table-2.ensures.1 _

pub returns-in_err-is_true_table-2-clause-exact : goal.returns-in_err-is_true_table-2-clause-exact
returns-in_err-is_true_table-2-clause-exact g c = λ clean is_open has honest sure so can. none_told c.in_err-is_true_table-2.field-0.0 c.from_residual-in_err-is_true_table-2.result c.from_residual-in_err-is_true_table-2.ensures.1 _

pub returns-in_err-is_true_table-2-clause-look : goal.returns-in_err-is_true_table-2-clause-look
returns-in_err-is_true_table-2-clause-look g c = look_failed c.in_err-is_true_table-2.field-0.0 c.from_residual-in_err-is_true_table-2.result c.from_residual-in_err-is_true_table-2.ensures.1 (g.S.Session.state c.args.conn.now) (g.S.Session.state c.is_true_table.new.conn) (g.S.Session.state c.is_true_table-2.new.conn) c.in_ok-is_true_table.ensures.look c.in_err-is_true_table-2.ensures.look

pub returns-in_err-is_true_table-2-clause-read : goal.returns-in_err-is_true_table-2-clause-read
returns-in_err-is_true_table-2-clause-read g c = read_failed c.in_err-is_true_table-2.field-0.0 c.from_residual-in_err-is_true_table-2.result c.from_residual-in_err-is_true_table-2.ensures.1 (g.R.Register.view c.args.register.now) (g.R.Register.view c.is_true_table.new.register) (g.R.Register.view c.is_true_table-2.new.register) c.in_ok-is_true_table.ensures.read c.in_err-is_true_table-2.ensures.read

pub returns-in_err-is_true_table-2-clause-blame : goal.returns-in_err-is_true_table-2-clause-blame
returns-in_err-is_true_table-2-clause-blame g c = cause_later c.in_err-is_true_table-2.field-0.0 c.from_residual-in_err-is_true_table-2.result c.from_residual-in_err-is_true_table-2.ensures.1 (g.S.Session.state c.args.conn.now) (g.S.Session.state c.is_true_table.new.conn) (g.S.Session.state c.is_true_table-2.new.conn) c.in_ok-is_true_table.ensures.look c.in_err-is_true_table-2.ensures.look.later c.in_err-is_true_table-2.ensures.blame

pub returns-then-not-branch-2-clause-look : goal.returns-then-not-branch-2-clause-look
returns-then-not-branch-2-clause-look g c = look_more tt (g.S.Session.state c.args.conn.now) (g.S.Session.state c.is_true_table.new.conn) (g.S.Session.state c.is_true_table-2.new.conn) c.in_ok-is_true_table.ensures.look c.in_ok-is_true_table-2.ensures.look

pub returns-then-not-branch-2-clause-read : goal.returns-then-not-branch-2-clause-read
returns-then-not-branch-2-clause-read g c = read_more tt (g.R.Register.view c.args.register.now) (g.R.Register.view c.is_true_table.new.register) (g.R.Register.view c.is_true_table-2.new.register) c.in_ok-is_true_table.ensures.read c.in_ok-is_true_table-2.ensures.read

pub returns-clause-look : goal.returns-clause-look
returns-clause-look g c =
    let s0 = g.S.Session.state c.args.conn.now in
    let s2 = g.S.Session.state c.is_true_table-2.new.conn in
    let looked : HasLooked s0 s2 = look_more tt s0 (g.S.Session.state c.is_true_table.new.conn) s2 c.in_ok-is_true_table.ensures.look c.in_ok-is_true_table-2.ensures.look in
    look_then tt (of_tables c.is_true_table-3.result) s0 s2 (g.S.Session.state c.is_true_table-3.new.conn) looked c.is_true_table-3.ensures.look

pub returns-clause-blame : goal.returns-clause-blame
returns-clause-blame g c =
    let s0 = g.S.Session.state c.args.conn.now in
    let s2 = g.S.Session.state c.is_true_table-2.new.conn in
    let looked : HasLooked s0 s2 = look_more tt s0 (g.S.Session.state c.is_true_table.new.conn) s2 c.in_ok-is_true_table.ensures.look c.in_ok-is_true_table-2.ensures.look in
    cause_after (of_tables c.is_true_table-3.result) s0 s2 (g.S.Session.state c.is_true_table-3.new.conn) looked c.is_true_table-3.ensures.look.later c.is_true_table-3.ensures.blame

pub returns-clause-read : goal.returns-clause-read
returns-clause-read g c =
    let v0 = g.R.Register.view c.args.register.now in
    let v2 = g.R.Register.view c.is_true_table-2.new.register in
    let read : HasRead v0 v2 = read_more tt v0 (g.R.Register.view c.is_true_table.new.register) v2 c.in_ok-is_true_table.ensures.read c.in_ok-is_true_table-2.ensures.read in
    read_then v0 v2 (g.R.Register.view c.is_true_table-3.new.register) read (of_register c.is_true_table-3.result) c.is_true_table-3.ensures.read
