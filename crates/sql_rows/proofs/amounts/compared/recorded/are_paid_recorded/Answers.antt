use Rattle.std.proofs.Common.{ℕ, ◌<◌, get_or, slice_index_or, sym, ◌∙◌, arith}
use Rattle.desk_codes.specs.declared.currency.Ccy.{Ccy}
use Rattle.desk_codes.specs.declared.currency.Ccy.TheVariants.{Chf}
use Rattle.desk_codes.specs.declared.currency.TheConstants.{CURRENCIES}
use Rattle.desk_register.proofs.ReadLemmas.{read_idle, read_more, read_none}
use Rattle.sql_rows.specs.declared.amounts.key.AmountKey.TheVariants.{Currency}
use Rattle.sql_rows.specs.Amounts.{AreAmounts}
use Rattle.sql_tables.proofs.LookLemmas.{look_more, look_none}
use Rattle.sql_rows.specs.Recorded.{IsRecorded, SaysAll}
use Rattle.sql_rows.proofs.StepLemmas.{cause_later_so, none_told}
use Rattle.sql_rows.proofs.AmountWalkLemmas.{found_so, in_turn, look_failed, next_currency, read_failed}
use Rattle.sql_rows.proofs.amounts.compared.recorded.are_paid_recorded.Goals as goal

pub loop-ccy-preserved : goal.loop-ccy-preserved
loop-ccy-preserved g c =
    let s0 = g.S.Session.state c.args.conn.now in
    let s1 = g.S.Session.state c.loop-ccy.conn in
    let s2 = g.S.Session.state c.is_recorded.new.conn in
    let v0 = g.R.Register.view c.args.register.now in
    let v1 = g.R.Register.view c.loop-ccy.register in
    let v2 = g.R.Register.view c.is_recorded.new.register in
    let i = c.loop-ccy.invariant in
    let so = c.in_ok-is_recorded.ensures in
    let first : Ccy = get_or CURRENCIES 0 Chf in
    let here : Ccy = slice_index_or c.args.ccys.now c.loop-ccy.ccy-index first in
    record {
      look = look_more _ s0 s1 s2 i.look so.look;
      read = read_more _ v0 v1 v2 i.read so.read;
      said = λ clean is_open has honest sure amounts.
          let both = in_turn s0 s1 s2 v0 v1 v2 i.look i.read so.look.later so.read.later
          (λ db content. AreAmounts db → (k : ℕ) (d : Ccy) → k < c.loop-ccy.ccy-index → IsRecorded db content (Currency (slice_index_or c.args.ccys.now k d)))
          (λ db content. AreAmounts db → IsRecorded db content (Currency here))
          i.said
          (λ clean is_open has honest sure amounts. so.says clean is_open has honest sure amounts c.if-not-branch.false) clean is_open has honest sure in
          next_currency (λ ccy. IsRecorded s0.now v0.content (Currency ccy)) c.args.ccys.now c.loop-ccy.ccy-index first c.loop-ccy-test.true (both.0 amounts) (both.1 amounts);
    }

pub returns-then-not-branch-clause-exact : goal.returns-then-not-branch-clause-exact
returns-then-not-branch-clause-exact g c = λ clean is_open has honest sure all.
    let i = c.loop-ccy.invariant in
    let so = c.in_ok-is_recorded.ensures in
    sym c.if-not-branch.true ∙ found_so (g.S.Session.state c.args.conn.now) (g.S.Session.state c.loop-ccy.conn) (g.S.Session.state c.is_recorded.new.conn)
    (g.R.Register.view c.args.register.now) (g.R.Register.view c.loop-ccy.register) (g.R.Register.view c.is_recorded.new.register)
    i.look i.read so.look.later so.read.later SaysAll so.exact clean is_open has honest sure all

pub loop-ccy-init : goal.loop-ccy-init
loop-ccy-init g c = record {
  look = look_none tt (g.S.Session.state c.args.conn.now);
  read = read_none (g.R.Register.view c.args.register.now);
  said = λ clean is_open has honest sure amounts k d low. absurd (omega (arith, low));
}

pub is_recorded-requires : goal.is_recorded-requires
is_recorded-requires g c = record { stage = read_idle (g.R.Register.view c.args.register.now) (g.R.Register.view c.loop-ccy.register) c.loop-ccy.invariant.read c.requires.stage }

pub returns-in_err-is_recorded-clause-says : goal.returns-in_err-is_recorded-clause-says
returns-in_err-is_recorded-clause-says g c = λ clean is_open has honest sure amounts. none_told c.in_err-is_recorded.field-0.0 c.from_residual.result c.from_residual.ensures.1 _

pub returns-in_err-is_recorded-clause-exact : goal.returns-in_err-is_recorded-clause-exact
returns-in_err-is_recorded-clause-exact g c = λ clean is_open has honest sure all. none_told c.in_err-is_recorded.field-0.0 c.from_residual.result c.from_residual.ensures.1 _

pub returns-in_err-is_recorded-clause-look : goal.returns-in_err-is_recorded-clause-look
returns-in_err-is_recorded-clause-look g c = look_failed c.in_err-is_recorded.field-0.0 c.from_residual.result c.from_residual.ensures.1 (g.S.Session.state c.args.conn.now) (g.S.Session.state c.loop-ccy.conn) (g.S.Session.state c.is_recorded.new.conn) c.loop-ccy.invariant.look c.in_err-is_recorded.ensures.look

pub returns-in_err-is_recorded-clause-blame : goal.returns-in_err-is_recorded-clause-blame
returns-in_err-is_recorded-clause-blame g c = cause_later_so AreAmounts c.in_err-is_recorded.field-0.0 c.from_residual.result c.from_residual.ensures.1 (g.S.Session.state c.args.conn.now) (g.S.Session.state c.loop-ccy.conn) (g.S.Session.state c.is_recorded.new.conn) c.loop-ccy.invariant.look c.in_err-is_recorded.ensures.look.later c.in_err-is_recorded.ensures.blame

pub returns-in_err-is_recorded-clause-read : goal.returns-in_err-is_recorded-clause-read
returns-in_err-is_recorded-clause-read g c = read_failed c.in_err-is_recorded.field-0.0 c.from_residual.result c.from_residual.ensures.1 (g.R.Register.view c.args.register.now) (g.R.Register.view c.loop-ccy.register) (g.R.Register.view c.is_recorded.new.register) c.loop-ccy.invariant.read c.in_err-is_recorded.ensures.read

pub returns-then-not-branch-clause-look : goal.returns-then-not-branch-clause-look
returns-then-not-branch-clause-look g c = look_more tt (g.S.Session.state c.args.conn.now) (g.S.Session.state c.loop-ccy.conn) (g.S.Session.state c.is_recorded.new.conn) c.loop-ccy.invariant.look c.in_ok-is_recorded.ensures.look

pub returns-then-not-branch-clause-read : goal.returns-then-not-branch-clause-read
returns-then-not-branch-clause-read g c = read_more tt (g.R.Register.view c.args.register.now) (g.R.Register.view c.loop-ccy.register) (g.R.Register.view c.is_recorded.new.register) c.loop-ccy.invariant.read c.in_ok-is_recorded.ensures.read

pub returns-clause-says : goal.returns-clause-says
returns-clause-says g c = λ clean is_open has honest sure amounts yes k d low. c.loop-ccy.invariant.said clean is_open has honest sure amounts k d (omega (arith, low))
