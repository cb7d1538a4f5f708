use Rattle.std.proofs.Common.{◌<◌, arith, subst, sym, IfSome}
use Rattle.sqlite.specs.Effect.{Database}
use Rattle.sqlite.specs.State.{HasCleanDisk}
use Rattle.desk_codes.specs.Number.{number_of}
use Rattle.sql_tables.specs.Ends.{ForCause}
use Rattle.sql_tables.proofs.LookLemmas.{look_more, look_none, look_ok}
use Rattle.sql_tables.proofs.ResultLemmas.{on_error}
use Rattle.sql_register.specs.Content.{content_in}
use Rattle.sql_register.specs.Walking.{IsPairAbove}
use Rattle.sql_register.proofs.WalkLemmas.{fails_then, first_all, first_more, look_handed, none_due, shown_then, IsFirstUpTo}
use Rattle.sql_register.proofs.ReadLemmas.{was_clean}
use Rattle.sql_register.proofs.walking.due_pair_after.Goals as goal

pub loop-number-init : goal.loop-number-init
loop-number-init g c =
    let s0 = g.S.Session.state c.args.conn.now in
    record { look = look_none tt s0; small = omega arith; sooner = λ clean is_open has desk. none_due (content_in s0.now) (number_of c.args.day) c.args.place }

pub pair_above-requires : goal.pair_above-requires
pair_above-requires g c = let small = c.loop-number.invariant.small in omega (arith, small)

pub returns-in_err-number-clause-look : goal.returns-in_err-number-clause-look
returns-in_err-number-clause-look g c =
    look_handed tt (g.S.Session.state c.args.conn.now) (g.S.Session.state c.loop-number.conn) (g.S.Session.state c.pair_above.new.conn) c.loop-number.invariant.look c.from_residual.result c.in_err-number.field-0.0
    c.from_residual.ensures.1 c.in_err-number.ensures.look

pub returns-in_err-number-clause-blame : goal.returns-in_err-number-clause-blame
returns-in_err-number-clause-blame g c clean is_open has desk =
    let s0 = g.S.Session.state c.args.conn.now in
    let s1 = g.S.Session.state c.loop-number.conn in
    let s2 = g.S.Session.state c.pair_above.new.conn in
    let e = c.in_err-number.field-0.0 in
    on_error c.from_residual.result e (ForCause s0 s2) c.from_residual.ensures.1
    (fails_then tt s0 s1 s2 c.loop-number.invariant.look e (λ d. Unit {0}) c.in_err-number.ensures.look.later (λ clean2 open1 has1 desk1 u. c.in_err-number.ensures.blame clean2 open1 has1 desk1) clean is_open has desk tt)

pub loop-number-smaller : goal.loop-number-smaller
loop-number-smaller g c =
    let within = subst (λ o. IfSome o (λ found. (c.loop-number.after < found.0) × (found.0 < 1_000_000_000))) c.in-Some.is c.in_ok-number.ensures.within in
    let rising = within.0 in
    let small = within.1 in
    omega (arith, small, rising)

pub loop-number-preserved : goal.loop-number-preserved
loop-number-preserved g c =
    let s0 = g.S.Session.state c.args.conn.now in
    let s1 = g.S.Session.state c.loop-number.conn in
    let s2 = g.S.Session.state c.pair_above.new.conn in
    let day = number_of c.args.day in
    let looked = c.in_ok-number.ensures.look in
    record {
      look = look_more _ s0 s1 s2 c.loop-number.invariant.look looked;
      small = (subst (λ o. IfSome o (λ found. (c.loop-number.after < found.0) × (found.0 < 1_000_000_000))) c.in-Some.is c.in_ok-number.ensures.within).1;
      sooner = λ clean is_open has desk.
          let clean1 : HasCleanDisk s1 = was_clean _ _ looked.later clean in
          let next = shown_then tt s0 s1 s2 c.loop-number.invariant.look (λ (d : Database). IsPairAbove d day c.args.place c.loop-number.after c.in_ok-number.field-0) looked.later c.in_ok-number.ensures.value clean is_open has desk in
          let met = subst (IsPairAbove s0.now day c.args.place c.loop-number.after) c.in-Some.is next in
          subst (IsFirstUpTo (content_in s0.now) day c.args.place c.in-Some.number) (sym c.sooner-first.ensures)
          (first_more (content_in s0.now) day c.args.place c.loop-number.after c.in-Some.number (λ m reason matched past. met.0.1 m (record { reason = reason; matched = matched; above = past })) c.loop-number.first c.in-Some.due
          (c.loop-number.invariant.sooner clean1 is_open has desk) met.1);
    }

pub returns-clause-value : goal.returns-clause-value
returns-clause-value g c clean is_open has desk =
    let s0 = g.S.Session.state c.args.conn.now in
    let s1 = g.S.Session.state c.loop-number.conn in
    let s2 = g.S.Session.state c.pair_above.new.conn in
    let day = number_of c.args.day in
    let looked = c.in_ok-number.ensures.look in
    let clean1 : HasCleanDisk s1 = was_clean _ _ looked.later clean in
    let next = shown_then tt s0 s1 s2 c.loop-number.invariant.look (λ (d : Database). IsPairAbove d day c.args.place c.loop-number.after c.in_ok-number.field-0) looked.later c.in_ok-number.ensures.value clean is_open has desk in
    let none = subst (IsPairAbove s0.now day c.args.place c.loop-number.after) c.in_default.is next in
    first_all (content_in s0.now) day c.args.place c.loop-number.after (λ m reason matched past. none m (record { reason = reason; matched = matched; above = past })) c.loop-number.first (c.loop-number.invariant.sooner clean1 is_open has desk)

pub returns-clause-look : goal.returns-clause-look
returns-clause-look g c =
    let s0 = g.S.Session.state c.args.conn.now in
    let s1 = g.S.Session.state c.loop-number.conn in
    let s2 = g.S.Session.state c.pair_above.new.conn in
    look_ok tt c.loop-number.first s0 s2 (look_more _ s0 s1 s2 c.loop-number.invariant.look c.in_ok-number.ensures.look)
