use Rattle.std.proofs.Common.{◌∙◌, ap, subst, sym, Bool, IsTrue, arith}
use Rattle.std.proofs.lemmas.Bool.{both_ways}
use Rattle.sqlite.specs.Effect.{Database}
use Rattle.sqlite.specs.State.{HasCleanDisk}
use Rattle.desk_rules.specs.Content.{Content}
use Rattle.sql_rows.specs.Messages.{AreSent}
use Rattle.sql_rows.specs.Said.{HasAmounts, HasReadable}
use Rattle.sql_rows.proofs.AmountWalkLemmas.{cause_failed, found_so}
use Rattle.desk_register.specs.View.{HasRead}
use Rattle.sql_tables.specs.Ends.{HasLooked, IsSame}
use Rattle.sql_tables.specs.Schema.{desk_schema}
use Rattle.sql_tables.specs.Forms.{AreAllFormed}
use Rattle.sql_tables.specs.Order.{AreInOrder}
use Rattle.sql_tables.proofs.LookLemmas.{look_more}
use Rattle.desk_register.proofs.ReadLemmas.{read_more}
use Rattle.desk_file.proofs.GoneLemmas.{moved, IsAccepted}
use Rattle.desk_file.proofs.HandedLemmas.{look_fell, look_handed, no_answer, read_fell, read_handed}
use Rattle.desk_file.proofs.ReadableFacts.{readable}
use Rattle.desk_file.proofs.RestLemmas.{no_stranger, stands_within}
use Rattle.desk_file.proofs.audit.rest.first_unlike.Goals as goal

pub returns-clause-says : goal.returns-clause-says
returns-clause-says g c = λ clean3 is_open has honest3 sure order formed held none.
    let s0 = g.S.Session.state c.args.conn.now in
    let s1 = g.S.Session.state c.has_standings.new.conn in
    let s2 = g.S.Session.state c.has_sent.new.conn in
    let s3 = g.S.Session.state c.has_amounts.new.conn in
    let v0 = g.R.Register.view c.args.register.now in
    let v1 = g.R.Register.view c.has_standings.new.register in
    let v2 = g.R.Register.view c.has_sent.new.register in
    let v3 = g.R.Register.view c.has_amounts.new.register in
    let e1 = c.in_ok-has_standings.ensures in
    let e2 = c.in_ok-has_sent.ensures in
    let e3 = c.in_ok-has_amounts.ensures in
    let l2 : HasLooked s0 s2 = look_more tt s0 s1 s2 e1.look e2.look in
    let r2 : HasRead v0 v2 = read_more tt v0 v1 v2 e1.read e2.read in
    let clean2 : HasCleanDisk s2 = (let less = e3.look.later.clean in omega (arith, less, clean3)) in
    let clean1 : HasCleanDisk s1 = (let less = e2.look.later.clean in omega (arith, less, clean2)) in
    let honest2 = e3.read.later.honest honest3 in
    let honest1 = e2.read.later.honest honest2 in
    let it : IsAccepted s0.now v0.room v0.content = record { order = order; formed = formed; held = held } in
    record {
      standings = e1.says clean1 is_open has honest1 sure order formed (stands_within v0.room v0.content held) c.if-not-branch.false;
      sent = moved s0 s1 s2 v0 v1 v2 (λ (d : Database) (x : Content). AreSent d x.sent) e1.look e1.read e2.look.later e2.read.later
          (λ clean is_open has honest sure it. e2.sent clean is_open has honest sure it.order it.formed c.if-not-branch-2.false) clean2 is_open has honest2 sure it;
      amounts = moved s0 s2 s3 v0 v2 v3 HasAmounts l2 r2 e3.look.later e3.read.later
          (λ clean is_open has honest sure it. e3.says clean is_open has honest sure it.order it.formed (no_stranger v2.room v2.content it.held) c.if-not-branch-3.false) clean3 is_open has honest3 sure it;
    }

pub returns-then-not-branch-clause-exact : goal.returns-then-not-branch-clause-exact
returns-then-not-branch-clause-exact g c = λ clean is_open has honest sure held formed rest.
    let v0 = g.R.Register.view c.args.register.now in
    absurd (both_ways c.in_ok-has_standings.field-0 c.if-not-branch.true (c.in_ok-has_standings.ensures.exact clean is_open has honest sure (stands_within v0.room v0.content held) rest.standings))

pub returns-then-not-branch-2-clause-exact : goal.returns-then-not-branch-2-clause-exact
returns-then-not-branch-2-clause-exact g c = λ clean is_open has honest sure held formed rest.
    let e1 = c.in_ok-has_standings.ensures in
    let e2 = c.in_ok-has_sent.ensures in
    absurd (both_ways c.in_ok-has_sent.field-0 c.if-not-branch-2.true
    (found_so (g.S.Session.state c.args.conn.now) (g.S.Session.state c.has_standings.new.conn) (g.S.Session.state c.has_sent.new.conn)
    (g.R.Register.view c.args.register.now) (g.R.Register.view c.has_standings.new.register) (g.R.Register.view c.has_sent.new.register)
    e1.look e1.read e2.look.later e2.read.later (λ (d : Database) (x : Content). AreSent d x.sent) e2.exact clean is_open has honest sure rest.sent))

pub returns-then-not-branch-3-clause-exact : goal.returns-then-not-branch-3-clause-exact
returns-then-not-branch-3-clause-exact g c = λ clean is_open has honest sure held formed rest.
    let s0 = g.S.Session.state c.args.conn.now in
    let s1 = g.S.Session.state c.has_standings.new.conn in
    let s2 = g.S.Session.state c.has_sent.new.conn in
    let v0 = g.R.Register.view c.args.register.now in
    let v1 = g.R.Register.view c.has_standings.new.register in
    let v2 = g.R.Register.view c.has_sent.new.register in
    let e1 = c.in_ok-has_standings.ensures in
    let e2 = c.in_ok-has_sent.ensures in
    let e3 = c.in_ok-has_amounts.ensures in
    let l2 : HasLooked s0 s2 = look_more tt s0 s1 s2 e1.look e2.look in
    let r2 : HasRead v0 v2 = read_more tt v0 v1 v2 e1.read e2.read in
    absurd (both_ways c.in_ok-has_amounts.field-0 c.if-not-branch-3.true
    (found_so s0 s2 (g.S.Session.state c.has_amounts.new.conn) v0 v2 (g.R.Register.view c.has_amounts.new.register) l2 r2 e3.look.later e3.read.later
    (λ (d : Database) (x : Content). HasReadable x × HasAmounts d x)
    (λ clean is_open has honest sure both. e3.exact clean is_open has honest sure both.0 both.1) clean is_open has honest sure (readable v0.room v0.content held formed, rest.amounts)))

pub returns-in_err-has_sent-clause-cause : goal.returns-in_err-has_sent-clause-cause
returns-in_err-has_sent-clause-cause g c = λ clean is_open has honest sure order formed.
    let s0 = g.S.Session.state c.args.conn.now in
    let s1 = g.S.Session.state c.has_standings.new.conn in
    let s2 = g.S.Session.state c.has_sent.new.conn in
    let e1 = c.in_ok-has_standings.ensures in
    let later = c.has_sent.ensures.look.later in
    let clean1 : HasCleanDisk s1 = (let less = later.clean in omega (arith, less, clean)) in
    let same : IsSame s0 s1 = e1.look.ok clean1 is_open has in
    cause_failed Bool c.in_err-has_sent.field-0.0 c.from_residual-in_err-has_sent.result c.from_residual-in_err-has_sent.ensures.1 s0 s1 s2 e1.look.later later
    (c.in_err-has_sent.ensures.blame clean same.is_open (ap (λ (d : Database). d.schema) same.now ∙ has))

pub returns-in_err-has_amounts-clause-cause : goal.returns-in_err-has_amounts-clause-cause
returns-in_err-has_amounts-clause-cause g c = λ clean3 is_open has honest3 sure order formed.
    let s0 = g.S.Session.state c.args.conn.now in
    let s1 = g.S.Session.state c.has_standings.new.conn in
    let s2 = g.S.Session.state c.has_sent.new.conn in
    let s3 = g.S.Session.state c.has_amounts.new.conn in
    let v0 = g.R.Register.view c.args.register.now in
    let v1 = g.R.Register.view c.has_standings.new.register in
    let v2 = g.R.Register.view c.has_sent.new.register in
    let e1 = c.in_ok-has_standings.ensures in
    let e2 = c.in_ok-has_sent.ensures in
    let later = c.has_amounts.ensures.look.later in
    let l2 : HasLooked s0 s2 = look_more tt s0 s1 s2 e1.look e2.look in
    let r2 : HasRead v0 v2 = read_more tt v0 v1 v2 e1.read e2.read in
    let clean2 : HasCleanDisk s2 = (let less = later.clean in omega (arith, less, clean3)) in
    let same : IsSame s0 s2 = l2.ok clean2 is_open has in
    let honest2 = c.has_amounts.ensures.read.later.honest honest3 in
    let order2 = subst (λ (d : Database). AreInOrder desk_schema d.trees) (sym same.now) order in
    let formed2 = subst (λ (d : Database). AreAllFormed d.trees) (sym same.now) formed in
    cause_failed Bool c.in_err-has_amounts.field-0.0 c.from_residual-in_err-has_amounts.result c.from_residual-in_err-has_amounts.ensures.1 s0 s2 s3 l2.later later
    (c.in_err-has_amounts.ensures.blame clean3 same.is_open (ap (λ (d : Database). d.schema) same.now ∙ has) honest3 (r2.ok.sure honest2 sure) order2 formed2)

pub returns-in_err-has_standings-clause-says : goal.returns-in_err-has_standings-clause-says
returns-in_err-has_standings-clause-says g c clean is_open has honest sure order formed held = no_answer c.from_residual.result _ _ c.from_residual.ensures.1

pub returns-in_err-has_standings-clause-exact : goal.returns-in_err-has_standings-clause-exact
returns-in_err-has_standings-clause-exact g c clean is_open has honest sure held formed rest = no_answer c.from_residual.result _ _ c.from_residual.ensures.1

pub returns-in_err-has_standings-clause-look : goal.returns-in_err-has_standings-clause-look
returns-in_err-has_standings-clause-look g c =
    let s0 = g.S.Session.state c.args.conn.now in
    let s1 = g.S.Session.state c.has_standings.new.conn in
    look_handed Bool c.in_err-has_standings.field-0.0 c.from_residual.result c.from_residual.ensures.1 s0 s1 c.in_err-has_standings.ensures.look

pub returns-in_err-has_standings-clause-read : goal.returns-in_err-has_standings-clause-read
returns-in_err-has_standings-clause-read g c =
    let v0 = g.R.Register.view c.args.register.now in
    let v1 = g.R.Register.view c.has_standings.new.register in
    read_handed Bool c.in_err-has_standings.field-0.0 c.from_residual.result c.from_residual.ensures.1 v0 v1 c.in_err-has_standings.ensures.read

pub returns-in_err-has_sent-clause-says : goal.returns-in_err-has_sent-clause-says
returns-in_err-has_sent-clause-says g c clean is_open has honest sure order formed held = no_answer c.from_residual-in_err-has_sent.result _ _ c.from_residual-in_err-has_sent.ensures.1

pub returns-in_err-has_sent-clause-exact : goal.returns-in_err-has_sent-clause-exact
returns-in_err-has_sent-clause-exact g c clean is_open has honest sure held formed rest = no_answer c.from_residual-in_err-has_sent.result _ _ c.from_residual-in_err-has_sent.ensures.1

pub returns-in_err-has_sent-clause-look : goal.returns-in_err-has_sent-clause-look
returns-in_err-has_sent-clause-look g c =
    let s0 = g.S.Session.state c.args.conn.now in
    let s1 = g.S.Session.state c.has_standings.new.conn in
    let s2 = g.S.Session.state c.has_sent.new.conn in
    look_fell Bool c.in_err-has_sent.field-0.0 c.from_residual-in_err-has_sent.result c.from_residual-in_err-has_sent.ensures.1 s0 s1 s2 c.in_ok-has_standings.ensures.look c.in_err-has_sent.ensures.look

pub returns-in_err-has_sent-clause-read : goal.returns-in_err-has_sent-clause-read
returns-in_err-has_sent-clause-read g c =
    let v0 = g.R.Register.view c.args.register.now in
    let v1 = g.R.Register.view c.has_standings.new.register in
    let v2 = g.R.Register.view c.has_sent.new.register in
    read_fell Bool c.in_err-has_sent.field-0.0 c.from_residual-in_err-has_sent.result c.from_residual-in_err-has_sent.ensures.1 v0 v1 v2 c.in_ok-has_standings.ensures.read c.in_err-has_sent.ensures.read

pub returns-in_err-has_amounts-clause-says : goal.returns-in_err-has_amounts-clause-says
returns-in_err-has_amounts-clause-says g c clean is_open has honest sure order formed held = no_answer c.from_residual-in_err-has_amounts.result _ _ c.from_residual-in_err-has_amounts.ensures.1

pub returns-in_err-has_amounts-clause-exact : goal.returns-in_err-has_amounts-clause-exact
returns-in_err-has_amounts-clause-exact g c clean is_open has honest sure held formed rest = no_answer c.from_residual-in_err-has_amounts.result _ _ c.from_residual-in_err-has_amounts.ensures.1

pub returns-in_err-has_amounts-clause-look : goal.returns-in_err-has_amounts-clause-look
returns-in_err-has_amounts-clause-look g c =
    let s0 = g.S.Session.state c.args.conn.now in
    let s1 = g.S.Session.state c.has_standings.new.conn in
    let s2 = g.S.Session.state c.has_sent.new.conn in
    let s3 = g.S.Session.state c.has_amounts.new.conn in
    look_fell Bool c.in_err-has_amounts.field-0.0 c.from_residual-in_err-has_amounts.result c.from_residual-in_err-has_amounts.ensures.1 s0 s2 s3 (look_more tt s0 s1 s2 c.in_ok-has_standings.ensures.look c.in_ok-has_sent.ensures.look) c.in_err-has_amounts.ensures.look

pub returns-in_err-has_amounts-clause-read : goal.returns-in_err-has_amounts-clause-read
returns-in_err-has_amounts-clause-read g c =
    let v0 = g.R.Register.view c.args.register.now in
    let v1 = g.R.Register.view c.has_standings.new.register in
    let v2 = g.R.Register.view c.has_sent.new.register in
    let v3 = g.R.Register.view c.has_amounts.new.register in
    read_fell Bool c.in_err-has_amounts.field-0.0 c.from_residual-in_err-has_amounts.result c.from_residual-in_err-has_amounts.ensures.1 v0 v2 v3 (read_more tt v0 v1 v2 c.in_ok-has_standings.ensures.read c.in_ok-has_sent.ensures.read) c.in_err-has_amounts.ensures.read

pub returns-then-not-branch-2-clause-look : goal.returns-then-not-branch-2-clause-look
returns-then-not-branch-2-clause-look g c =
    let s0 = g.S.Session.state c.args.conn.now in
    let s1 = g.S.Session.state c.has_standings.new.conn in
    let s2 = g.S.Session.state c.has_sent.new.conn in
    look_more tt s0 s1 s2 c.in_ok-has_standings.ensures.look c.in_ok-has_sent.ensures.look

pub returns-then-not-branch-2-clause-read : goal.returns-then-not-branch-2-clause-read
returns-then-not-branch-2-clause-read g c =
    let v0 = g.R.Register.view c.args.register.now in
    let v1 = g.R.Register.view c.has_standings.new.register in
    let v2 = g.R.Register.view c.has_sent.new.register in
    read_more tt v0 v1 v2 c.in_ok-has_standings.ensures.read c.in_ok-has_sent.ensures.read

pub returns-then-not-branch-3-clause-look : goal.returns-then-not-branch-3-clause-look
returns-then-not-branch-3-clause-look g c =
    let s0 = g.S.Session.state c.args.conn.now in
    let s1 = g.S.Session.state c.has_standings.new.conn in
    let s2 = g.S.Session.state c.has_sent.new.conn in
    let s3 = g.S.Session.state c.has_amounts.new.conn in
    look_more tt s0 s2 s3 (look_more tt s0 s1 s2 c.in_ok-has_standings.ensures.look c.in_ok-has_sent.ensures.look) c.in_ok-has_amounts.ensures.look

pub returns-then-not-branch-3-clause-read : goal.returns-then-not-branch-3-clause-read
returns-then-not-branch-3-clause-read g c =
    let v0 = g.R.Register.view c.args.register.now in
    let v1 = g.R.Register.view c.has_standings.new.register in
    let v2 = g.R.Register.view c.has_sent.new.register in
    let v3 = g.R.Register.view c.has_amounts.new.register in
    read_more tt v0 v2 v3 (read_more tt v0 v1 v2 c.in_ok-has_standings.ensures.read c.in_ok-has_sent.ensures.read) c.in_ok-has_amounts.ensures.read

pub returns-clause-look : goal.returns-clause-look
returns-clause-look g c =
    let s0 = g.S.Session.state c.args.conn.now in
    let s1 = g.S.Session.state c.has_standings.new.conn in
    let s2 = g.S.Session.state c.has_sent.new.conn in
    let s3 = g.S.Session.state c.has_amounts.new.conn in
    look_more tt s0 s2 s3 (look_more tt s0 s1 s2 c.in_ok-has_standings.ensures.look c.in_ok-has_sent.ensures.look) c.in_ok-has_amounts.ensures.look

pub returns-clause-read : goal.returns-clause-read
returns-clause-read g c =
    let v0 = g.R.Register.view c.args.register.now in
    let v1 = g.R.Register.view c.has_standings.new.register in
    let v2 = g.R.Register.view c.has_sent.new.register in
    let v3 = g.R.Register.view c.has_amounts.new.register in
    read_more tt v0 v2 v3 (read_more tt v0 v1 v2 c.in_ok-has_standings.ensures.read c.in_ok-has_sent.ensures.read) c.in_ok-has_amounts.ensures.read
