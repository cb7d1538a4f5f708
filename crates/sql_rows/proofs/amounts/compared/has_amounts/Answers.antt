use Rattle.std.proofs.Common.{Bool, IfOk, IsTrue, ap, arith, subst, sym, ◌∙◌}
use Rattle.sql_rows.specs.Amounts.{AreAmounts}
use Rattle.sqlite.specs.Effect.{Database}
use Rattle.sqlite.specs.State.{HasCleanDisk}
use Rattle.sql_tables.specs.Ends.{HasLooked, IsSame}
use Rattle.sql_tables.specs.Schema.{desk_schema}
use Rattle.sql_tables.specs.Audits.{of_register, of_tables}
use Rattle.sql_tables.proofs.LookLemmas.{look_more, look_then}
use Rattle.desk_register.specs.View.{HasRead}
use Rattle.desk_register.proofs.ReadLemmas.{read_idle, read_more, read_then}
use Rattle.sql_tables.specs.Forms.{AreAllFormed}
use Rattle.sql_tables.specs.Order.{AreInOrder}
use Rattle.sql_rows.specs.Recorded.{AreAllRecorded, IsPaidRecorded, SaysAll}
use Rattle.sql_rows.specs.Shown.{AreTrueTables}
use Rattle.sql_rows.proofs.EntryLemmas.{amounts_of, says_all, tables_of}
use Rattle.sql_rows.proofs.StepLemmas.{cause_first, look_first, none_told, read_first}
use Rattle.sql_rows.proofs.AmountWalkLemmas.{cause_failed, cause_on, found_so, has_told, in_three, look_failed, read_failed}
use Rattle.sql_rows.proofs.amounts.compared.has_amounts.Goals as goal

pub returns-clause-says : goal.returns-clause-says
returns-clause-says g c = λ clean is_open has honest sure order formed strange.
    let s0 = g.S.Session.state c.args.conn.now in
    let v0 = g.R.Register.view c.args.register.now in
    let one = c.in_ok-are_true_tables.ensures in
    let two = c.in_ok-are_entries_recorded.ensures in
    let three = c.is_paid_recorded.ensures in
    let r = c.is_paid_recorded.result in
    let all = in_three s0 (g.S.Session.state c.are_true_tables.new.conn) (g.S.Session.state c.are_entries_recorded.new.conn) (g.S.Session.state c.is_paid_recorded.new.conn)
    v0 (g.R.Register.view c.are_true_tables.new.register) (g.R.Register.view c.are_entries_recorded.new.register) (g.R.Register.view c.is_paid_recorded.new.register)
    one.look one.read two.look two.read three.look.later three.read.later
    (λ db content. AreInOrder desk_schema db.trees → AreAllFormed db.trees → AreTrueTables db content) (λ db content. AreAmounts db → AreAllRecorded db content)
    (λ db content. AreAmounts db → IfOk r (λ so. IsTrue so → IsPaidRecorded db content))
    (λ clean is_open has honest sure order formed. one.says clean is_open has honest sure order formed c.if-not-branch.false)
    (λ clean is_open has honest sure amounts. two.says clean is_open has honest sure amounts c.if-not-branch-2.false)
    three.says clean is_open has honest sure in
    let tables = all.0.0 order formed in
    let amounts = amounts_of s0.now v0.content tables in
    has_told s0.now v0.content r strange (tables, all.0.1 amounts) (all.1 amounts)

pub returns-then-not-branch-clause-exact : goal.returns-then-not-branch-clause-exact
returns-then-not-branch-clause-exact g c = λ clean is_open has honest sure can it.
    sym c.if-not-branch.true ∙ c.in_ok-are_true_tables.ensures.exact clean is_open has honest sure (tables_of (g.S.Session.state c.args.conn.now).now (g.R.Register.view c.args.register.now).content it) can

pub returns-then-not-branch-2-clause-exact : goal.returns-then-not-branch-2-clause-exact
returns-then-not-branch-2-clause-exact g c = λ clean is_open has honest sure can it.
    let s0 = g.S.Session.state c.args.conn.now in
    let v0 = g.R.Register.view c.args.register.now in
    let one = c.in_ok-are_true_tables.ensures in
    let two = c.in_ok-are_entries_recorded.ensures in
    sym c.if-not-branch-2.true ∙ found_so s0 (g.S.Session.state c.are_true_tables.new.conn) (g.S.Session.state c.are_entries_recorded.new.conn)
    v0 (g.R.Register.view c.are_true_tables.new.register) (g.R.Register.view c.are_entries_recorded.new.register) one.look one.read two.look.later two.read.later SaysAll two.exact clean is_open has honest sure
    (says_all s0.now v0.content can it)

pub returns-clause-exact : goal.returns-clause-exact
returns-clause-exact g c = λ clean is_open has honest sure can it.
    let s0 = g.S.Session.state c.args.conn.now in
    let s1 = g.S.Session.state c.are_true_tables.new.conn in
    let s2 = g.S.Session.state c.are_entries_recorded.new.conn in
    let v0 = g.R.Register.view c.args.register.now in
    let v1 = g.R.Register.view c.are_true_tables.new.register in
    let v2 = g.R.Register.view c.are_entries_recorded.new.register in
    let one = c.in_ok-are_true_tables.ensures in
    let two = c.in_ok-are_entries_recorded.ensures in
    let three = c.is_paid_recorded.ensures in
    let looked : HasLooked s0 s2 = look_more tt s0 s1 s2 one.look two.look in
    let read : HasRead v0 v2 = read_more tt v0 v1 v2 one.read two.read in
    found_so s0 s2 (g.S.Session.state c.is_paid_recorded.new.conn) v0 v2 (g.R.Register.view c.is_paid_recorded.new.register) looked read three.look.later three.read.later SaysAll three.exact clean is_open has honest sure
    (says_all s0.now v0.content can it)

pub returns-in_err-are_entries_recorded-clause-blame : goal.returns-in_err-are_entries_recorded-clause-blame
returns-in_err-are_entries_recorded-clause-blame g c = λ clean is_open has honest sure order formed.
    let s0 = g.S.Session.state c.args.conn.now in
    let s1 = g.S.Session.state c.are_true_tables.new.conn in
    let s2 = g.S.Session.state c.are_entries_recorded.new.conn in
    let one = c.in_ok-are_true_tables.ensures in
    let two = c.in_err-are_entries_recorded.ensures in
    let later = c.are_entries_recorded.ensures.look.later in
    let clean1 : HasCleanDisk s1 = (let more = later.clean in omega (arith, clean)) in
    let same : IsSame s0 s1 = one.look.ok clean1 is_open has in
    let tables = one.says clean1 is_open has (c.are_entries_recorded.ensures.read.later.honest honest) sure order formed c.if-not-branch.false in
    let amounts : AreAmounts s1.now = subst AreAmounts (sym same.now) (amounts_of s0.now (g.R.Register.view c.args.register.now).content tables) in
    cause_failed Bool c.in_err-are_entries_recorded.field-0.0 c.from_residual-in_err-are_entries_recorded.result c.from_residual-in_err-are_entries_recorded.ensures.1 s0 s1 s2 one.look.later later
    (two.blame clean same.is_open (ap (λ (d : Database). d.schema) same.now ∙ has) amounts)

pub returns-clause-blame : goal.returns-clause-blame
returns-clause-blame g c = λ clean is_open has honest sure order formed.
    let s0 = g.S.Session.state c.args.conn.now in
    let s1 = g.S.Session.state c.are_true_tables.new.conn in
    let s2 = g.S.Session.state c.are_entries_recorded.new.conn in
    let s3 = g.S.Session.state c.is_paid_recorded.new.conn in
    let one = c.in_ok-are_true_tables.ensures in
    let two = c.in_ok-are_entries_recorded.ensures in
    let three = c.is_paid_recorded.ensures in
    let clean2 : HasCleanDisk s2 = (let more = three.look.later.clean in omega (arith, clean)) in
    let clean1 : HasCleanDisk s1 = (let more = two.look.later.clean in omega (arith, clean2)) in
    let looked : HasLooked s0 s2 = look_more tt s0 s1 s2 one.look two.look in
    let same : IsSame s0 s2 = looked.ok clean2 is_open has in
    let tables = one.says clean1 is_open has (two.read.later.honest (three.read.later.honest honest)) sure order formed c.if-not-branch.false in
    let amounts : AreAmounts s2.now = subst AreAmounts (sym same.now) (amounts_of s0.now (g.R.Register.view c.args.register.now).content tables) in
    cause_on c.is_paid_recorded.result s0 s2 s3 looked.later three.look.later (three.blame clean same.is_open (ap (λ (d : Database). d.schema) same.now ∙ has) amounts)

pub are_entries_recorded-requires : goal.are_entries_recorded-requires
are_entries_recorded-requires g c = record { stage = read_idle (g.R.Register.view c.args.register.now) (g.R.Register.view c.are_true_tables.new.register) c.in_ok-are_true_tables.ensures.read c.requires.stage }

pub is_paid_recorded-requires : goal.is_paid_recorded-requires
is_paid_recorded-requires g c =
    let v0 = g.R.Register.view c.args.register.now in
    let v2 = g.R.Register.view c.are_entries_recorded.new.register in
    let read : HasRead v0 v2 = read_more tt v0 (g.R.Register.view c.are_true_tables.new.register) v2 c.in_ok-are_true_tables.ensures.read c.in_ok-are_entries_recorded.ensures.read in
    record { stage = read_idle v0 v2 read c.requires.stage }

pub returns-in_err-are_true_tables-clause-says : goal.returns-in_err-are_true_tables-clause-says
returns-in_err-are_true_tables-clause-says g c = λ clean is_open has honest sure order formed strange. none_told c.in_err-are_true_tables.field-0.0 c.from_residual.result c.from_residual.ensures.1 _

pub returns-in_err-are_true_tables-clause-exact : goal.returns-in_err-are_true_tables-clause-exact
returns-in_err-are_true_tables-clause-exact g c = λ clean is_open has honest sure can it. none_told c.in_err-are_true_tables.field-0.0 c.from_residual.result c.from_residual.ensures.1 _

pub returns-in_err-are_true_tables-clause-look : goal.returns-in_err-are_true_tables-clause-look
returns-in_err-are_true_tables-clause-look g c = look_first c.in_err-are_true_tables.field-0.0 c.from_residual.result c.from_residual.ensures.1 (g.S.Session.state c.args.conn.now) (g.S.Session.state c.are_true_tables.new.conn) c.in_err-are_true_tables.ensures.look

pub returns-in_err-are_true_tables-clause-read : goal.returns-in_err-are_true_tables-clause-read
returns-in_err-are_true_tables-clause-read g c = read_first c.in_err-are_true_tables.field-0.0 c.from_residual.result c.from_residual.ensures.1 (g.R.Register.view c.args.register.now) (g.R.Register.view c.are_true_tables.new.register) c.in_err-are_true_tables.ensures.read

pub returns-in_err-are_true_tables-clause-blame : goal.returns-in_err-are_true_tables-clause-blame
returns-in_err-are_true_tables-clause-blame g c = λ clean is_open has honest sure order formed. cause_first c.in_err-are_true_tables.field-0.0 c.from_residual.result c.from_residual.ensures.1 (g.S.Session.state c.args.conn.now) (g.S.Session.state c.are_true_tables.new.conn) (c.in_err-are_true_tables.ensures.blame clean is_open has)

pub returns-in_err-are_entries_recorded-clause-says : goal.returns-in_err-are_entries_recorded-clause-says
returns-in_err-are_entries_recorded-clause-says g c = λ clean is_open has honest sure order formed strange. none_told c.in_err-are_entries_recorded.field-0.0 c.from_residual-in_err-are_entries_recorded.result c.from_residual-in_err-are_entries_recorded.ensures.1 _

pub returns-in_err-are_entries_recorded-clause-exact : goal.returns-in_err-are_entries_recorded-clause-exact
returns-in_err-are_entries_recorded-clause-exact g c = λ clean is_open has honest sure can it. none_told c.in_err-are_entries_recorded.field-0.0 c.from_residual-in_err-are_entries_recorded.result c.from_residual-in_err-are_entries_recorded.ensures.1 _

pub returns-in_err-are_entries_recorded-clause-look : goal.returns-in_err-are_entries_recorded-clause-look
returns-in_err-are_entries_recorded-clause-look g c = look_failed c.in_err-are_entries_recorded.field-0.0 c.from_residual-in_err-are_entries_recorded.result c.from_residual-in_err-are_entries_recorded.ensures.1 (g.S.Session.state c.args.conn.now) (g.S.Session.state c.are_true_tables.new.conn) (g.S.Session.state c.are_entries_recorded.new.conn) c.in_ok-are_true_tables.ensures.look c.in_err-are_entries_recorded.ensures.look

pub returns-in_err-are_entries_recorded-clause-read : goal.returns-in_err-are_entries_recorded-clause-read
returns-in_err-are_entries_recorded-clause-read g c = read_failed c.in_err-are_entries_recorded.field-0.0 c.from_residual-in_err-are_entries_recorded.result c.from_residual-in_err-are_entries_recorded.ensures.1 (g.R.Register.view c.args.register.now) (g.R.Register.view c.are_true_tables.new.register) (g.R.Register.view c.are_entries_recorded.new.register) c.in_ok-are_true_tables.ensures.read c.in_err-are_entries_recorded.ensures.read

pub returns-then-not-branch-2-clause-look : goal.returns-then-not-branch-2-clause-look
returns-then-not-branch-2-clause-look g c = look_more tt (g.S.Session.state c.args.conn.now) (g.S.Session.state c.are_true_tables.new.conn) (g.S.Session.state c.are_entries_recorded.new.conn) c.in_ok-are_true_tables.ensures.look c.in_ok-are_entries_recorded.ensures.look

pub returns-then-not-branch-2-clause-read : goal.returns-then-not-branch-2-clause-read
returns-then-not-branch-2-clause-read g c = read_more tt (g.R.Register.view c.args.register.now) (g.R.Register.view c.are_true_tables.new.register) (g.R.Register.view c.are_entries_recorded.new.register) c.in_ok-are_true_tables.ensures.read c.in_ok-are_entries_recorded.ensures.read

pub returns-clause-look : goal.returns-clause-look
returns-clause-look g c =
    let s0 = g.S.Session.state c.args.conn.now in
    let s2 = g.S.Session.state c.are_entries_recorded.new.conn in
    let looked : HasLooked s0 s2 = look_more tt s0 (g.S.Session.state c.are_true_tables.new.conn) s2 c.in_ok-are_true_tables.ensures.look c.in_ok-are_entries_recorded.ensures.look in
    look_then tt (of_tables c.is_paid_recorded.result) s0 s2 (g.S.Session.state c.is_paid_recorded.new.conn) looked c.is_paid_recorded.ensures.look

pub returns-clause-read : goal.returns-clause-read
returns-clause-read g c =
    let v0 = g.R.Register.view c.args.register.now in
    let v2 = g.R.Register.view c.are_entries_recorded.new.register in
    let read : HasRead v0 v2 = read_more tt v0 (g.R.Register.view c.are_true_tables.new.register) v2 c.in_ok-are_true_tables.ensures.read c.in_ok-are_entries_recorded.ensures.read in
    read_then v0 v2 (g.R.Register.view c.is_paid_recorded.new.register) read (of_register c.is_paid_recorded.result) c.is_paid_recorded.ensures.read
