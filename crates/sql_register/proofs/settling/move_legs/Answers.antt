use Rattle.std.proofs.Common.{rules, Bool, Ok, ◌<◌, ◌^◌, arith, lit<, subst, true}
use Rattle.sqlite.specs.State.{HasCleanDisk}
use Rattle.desk_rules.proofs.ShortNumbers.{short_quantity}
use Rattle.sql_tables.proofs.CallLemmas.{later_then, write_ok, write_then}
use Rattle.sql_register.specs.Settling.{TakesCash, TakesHeld, AmountsSo, more_held}
use Rattle.sql_register.proofs.LegLemmas.{legs_settled, legs_short, legs_unpaid, pay_fits, put_fits, puts_held, takes_held}
use Rattle.sql_tables.specs.Ends.{ForCause}
use Rattle.sql_tables.proofs.ResultLemmas.{on_error}
use Rattle.sql_register.specs.Content.{content_in}
use Rattle.sql_register.proofs.CauseLemmas.{caused_error, wrote, wrote_then}
use Rattle.sql_register.proofs.FailedLemmas.{no_value, write_fell, write_handed}
use Rattle.sql_register.proofs.ReadLemmas.{was_clean}
use Rattle.sql_register.proofs.settling.move_legs.Goals as goal

pub take-requires : goal.take-requires
take-requires g c =
    let i = c.args.pair.now.later.instruction in
    let short = short_quantity i.quantity (search rules) i.short in
    let room : 10 ^ 18 < 2 ^ 63 = lit< tt in
    record { small = omega (arith, short, room) }

pub put-requires : goal.put-requires
put-requires g c =
    let i = c.args.pair.now.later.instruction in
    let short = short_quantity i.quantity (search rules) i.short in
    let room : 10 ^ 18 < 2 ^ 63 = lit< tt in
    record { small = omega (arith, short, room) }

pub returns-clause-changed : goal.returns-clause-changed
returns-clause-changed g c clean is_open has amounts fits =
    let s0 = g.S.Session.state c.args.conn.now in
    let s1 = g.S.Session.state c.take.new.conn in
    let s2 = g.S.Session.state c.take_cash.new.conn in
    let s3 = g.S.Session.state c.put.new.conn in
    let s4 = g.S.Session.state c.put_cash.new.conn in
    let clean3 : HasCleanDisk s3 = was_clean _ _ c.in_ok-put_cash.ensures.write.later clean in
    let clean2 : HasCleanDisk s2 = was_clean _ _ c.in_ok-put.ensures.write.later clean3 in
    let clean1 : HasCleanDisk s1 = was_clean _ _ c.in_ok-take_cash.ensures.write.later clean2 in
    let m1 = c.in_ok-take.ensures.write.ok clean1 is_open has in
    let m2 = c.in_ok-take_cash.ensures.write.ok clean2 m1.is_open m1.schema in
    let m3 = c.in_ok-put.ensures.write.ok clean3 m2.is_open m2.schema in
    let earlier = c.args.pair.now.earlier in
    let later = c.args.pair.now.later in
    let from = c.deliverer-from.result.now in
    let to = c.receiver-to.result.now in
    let takes = subst (λ (r : Bool). TakesHeld s0.now s1.now from.instruction.account later.instruction.isin later.instruction.quantity r) c.if-not-branch.false
    (takes_held s0.now s1.now from.instruction.account later.instruction.isin later.instruction.quantity later.instruction.some amounts _ (c.in_ok-take.ensures.changed clean1 is_open has amounts)) in
    let pays = subst (λ (r : Bool). TakesCash s1.now s2.now to.sender later.instruction.cash r) c.if-not-branch-2.false
    (c.in_ok-take_cash.ensures.changed clean2 m1.is_open m1.schema takes.1.kept) in
    let gives = puts_held s2.now s3.now to.instruction.account later.instruction.isin later.instruction.quantity (Ok c.in_ok-put.field-0)
    (c.in_ok-put.ensures.changed clean3 m2.is_open m2.schema pays.1.kept (put_fits s0.now s1.now s2.now s3.now s4.now earlier later from to c.deliverer-from.ensures c.receiver-to.ensures fits takes pays)) in
    let paid = c.in_ok-put_cash.ensures.changed clean m3.is_open m3.schema gives.kept (pay_fits s0.now s1.now s2.now s3.now s4.now earlier later from to c.deliverer-from.ensures c.receiver-to.ensures fits takes pays gives) in
    legs_settled s0.now s1.now s2.now s3.now s4.now earlier later from to c.deliverer-from.ensures c.receiver-to.ensures takes pays gives paid

pub returns-in_err-take-clause-changed : goal.returns-in_err-take-clause-changed
returns-in_err-take-clause-changed g c clean is_open has amounts fits = no_value c.from_residual.result c.in_err-take.field-0.0 c.from_residual.ensures.1 _

pub returns-in_err-take-clause-write : goal.returns-in_err-take-clause-write
returns-in_err-take-clause-write g c =
    write_handed c.from_residual.result c.in_err-take.field-0.0 c.from_residual.ensures.1 Bool (g.S.Session.state c.args.conn.now) (g.S.Session.state c.take.new.conn) c.in_err-take.ensures.write

pub returns-in_err-take-clause-blame : goal.returns-in_err-take-clause-blame
returns-in_err-take-clause-blame g c clean is_open has amounts fits =
    on_error c.from_residual.result c.in_err-take.field-0.0 (ForCause (g.S.Session.state c.args.conn.now) (g.S.Session.state c.take.new.conn)) c.from_residual.ensures.1
    (c.in_err-take.ensures.blame clean is_open has amounts)

pub returns-then-not-branch-clause-changed : goal.returns-then-not-branch-clause-changed
returns-then-not-branch-clause-changed g c clean is_open has amounts fits =
    let s0 = g.S.Session.state c.args.conn.now in
    let s1 = g.S.Session.state c.take.new.conn in
    let earlier = c.args.pair.now.earlier in
    let later = c.args.pair.now.later in
    let from = c.deliverer-from.result.now in
    let to = c.receiver-to.result.now in
    let takes = subst (λ (r : Bool). TakesHeld s0.now s1.now from.instruction.account later.instruction.isin later.instruction.quantity r) c.if-not-branch.true
    (takes_held s0.now s1.now from.instruction.account later.instruction.isin later.instruction.quantity later.instruction.some amounts _ (c.in_ok-take.ensures.changed clean is_open has amounts)) in
    legs_short s0.now s1.now s1.now s1.now s1.now earlier later from to c.deliverer-from.ensures c.receiver-to.ensures takes

pub returns-then-not-branch-clause-write : goal.returns-then-not-branch-clause-write
returns-then-not-branch-clause-write g c = write_ok _ _ (g.S.Session.state c.args.conn.now) (g.S.Session.state c.take.new.conn) c.in_ok-take.ensures.write

pub returns-then-not-branch-clause-blame : goal.returns-then-not-branch-clause-blame
returns-then-not-branch-clause-blame g c clean is_open has amounts fits = tt

pub returns-in_err-take_cash-clause-changed : goal.returns-in_err-take_cash-clause-changed
returns-in_err-take_cash-clause-changed g c clean is_open has amounts fits = no_value c.from_residual-in_err-take_cash.result c.in_err-take_cash.field-0.0 c.from_residual-in_err-take_cash.ensures.1 _

pub returns-in_err-take_cash-clause-write : goal.returns-in_err-take_cash-clause-write
returns-in_err-take_cash-clause-write g c =
    let s0 = g.S.Session.state c.args.conn.now in
    let s1 = g.S.Session.state c.take.new.conn in
    let s2 = g.S.Session.state c.take_cash.new.conn in
    write_fell c.from_residual-in_err-take_cash.result c.in_err-take_cash.field-0.0 c.from_residual-in_err-take_cash.ensures.1 Bool c.in_ok-take.field-0 s0 s1 s2 c.in_ok-take.ensures.write c.in_err-take_cash.ensures.write

pub returns-then-not-branch-2-clause-changed : goal.returns-then-not-branch-2-clause-changed
returns-then-not-branch-2-clause-changed g c clean is_open has amounts fits =
    let s0 = g.S.Session.state c.args.conn.now in
    let s1 = g.S.Session.state c.take.new.conn in
    let s2 = g.S.Session.state c.take_cash.new.conn in
    let clean1 : HasCleanDisk s1 = was_clean _ _ c.in_ok-take_cash.ensures.write.later clean in
    let m1 = c.in_ok-take.ensures.write.ok clean1 is_open has in
    let earlier = c.args.pair.now.earlier in
    let later = c.args.pair.now.later in
    let from = c.deliverer-from.result.now in
    let to = c.receiver-to.result.now in
    let takes = subst (λ (r : Bool). TakesHeld s0.now s1.now from.instruction.account later.instruction.isin later.instruction.quantity r) c.if-not-branch.false
    (takes_held s0.now s1.now from.instruction.account later.instruction.isin later.instruction.quantity later.instruction.some amounts _ (c.in_ok-take.ensures.changed clean1 is_open has amounts)) in
    let lacks = subst (λ (r : Bool). TakesCash s1.now s2.now to.sender later.instruction.cash r) c.if-not-branch-2.true
    (c.in_ok-take_cash.ensures.changed clean m1.is_open m1.schema takes.1.kept) in
    legs_unpaid s0.now s1.now s2.now s2.now s2.now earlier later from to c.deliverer-from.ensures c.receiver-to.ensures takes lacks

pub returns-then-not-branch-2-clause-write : goal.returns-then-not-branch-2-clause-write
returns-then-not-branch-2-clause-write g c =
    let s0 = g.S.Session.state c.args.conn.now in
    let s1 = g.S.Session.state c.take.new.conn in
    let s2 = g.S.Session.state c.take_cash.new.conn in
    write_ok c.in_ok-take_cash.field-0 _ s0 s2 (write_then c.in_ok-take.field-0 (Ok c.in_ok-take_cash.field-0) s0 s1 s2 c.in_ok-take.ensures.write c.in_ok-take_cash.ensures.write)

pub returns-then-not-branch-2-clause-blame : goal.returns-then-not-branch-2-clause-blame
returns-then-not-branch-2-clause-blame g c clean is_open has amounts fits = tt

pub returns-in_err-put-clause-changed : goal.returns-in_err-put-clause-changed
returns-in_err-put-clause-changed g c clean is_open has amounts fits = no_value c.from_residual-in_err-put.result c.in_err-put.field-0.0 c.from_residual-in_err-put.ensures.1 _

pub returns-in_err-put-clause-write : goal.returns-in_err-put-clause-write
returns-in_err-put-clause-write g c =
    let s0 = g.S.Session.state c.args.conn.now in
    let s1 = g.S.Session.state c.take.new.conn in
    let s2 = g.S.Session.state c.take_cash.new.conn in
    let s3 = g.S.Session.state c.put.new.conn in
    let taken = write_then c.in_ok-take.field-0 (Ok c.in_ok-take_cash.field-0) s0 s1 s2 c.in_ok-take.ensures.write c.in_ok-take_cash.ensures.write in
    write_fell c.from_residual-in_err-put.result c.in_err-put.field-0.0 c.from_residual-in_err-put.ensures.1 (Unit {0}) c.in_ok-take_cash.field-0 s0 s2 s3 taken c.in_err-put.ensures.write

pub returns-in_err-put_cash-clause-changed : goal.returns-in_err-put_cash-clause-changed
returns-in_err-put_cash-clause-changed g c clean is_open has amounts fits = no_value c.from_residual-in_err-put_cash.result c.in_err-put_cash.field-0.0 c.from_residual-in_err-put_cash.ensures.1 _

pub returns-in_err-put_cash-clause-write : goal.returns-in_err-put_cash-clause-write
returns-in_err-put_cash-clause-write g c =
    let s0 = g.S.Session.state c.args.conn.now in
    let s1 = g.S.Session.state c.take.new.conn in
    let s2 = g.S.Session.state c.take_cash.new.conn in
    let s3 = g.S.Session.state c.put.new.conn in
    let s4 = g.S.Session.state c.put_cash.new.conn in
    let taken = write_then c.in_ok-take.field-0 (Ok c.in_ok-take_cash.field-0) s0 s1 s2 c.in_ok-take.ensures.write c.in_ok-take_cash.ensures.write in
    let held = write_then c.in_ok-take_cash.field-0 (Ok c.in_ok-put.field-0) s0 s2 s3 taken c.in_ok-put.ensures.write in
    write_fell c.from_residual-in_err-put_cash.result c.in_err-put_cash.field-0.0 c.from_residual-in_err-put_cash.ensures.1 (Unit {0}) c.in_ok-put.field-0 s0 s3 s4 held c.in_err-put_cash.ensures.write

pub returns-clause-write : goal.returns-clause-write
returns-clause-write g c =
    let s0 = g.S.Session.state c.args.conn.now in
    let s1 = g.S.Session.state c.take.new.conn in
    let s2 = g.S.Session.state c.take_cash.new.conn in
    let s3 = g.S.Session.state c.put.new.conn in
    let s4 = g.S.Session.state c.put_cash.new.conn in
    let taken = write_then c.in_ok-take.field-0 (Ok c.in_ok-take_cash.field-0) s0 s1 s2 c.in_ok-take.ensures.write c.in_ok-take_cash.ensures.write in
    let held = write_then c.in_ok-take_cash.field-0 (Ok c.in_ok-put.field-0) s0 s2 s3 taken c.in_ok-put.ensures.write in
    write_ok c.in_ok-put_cash.field-0 _ s0 s4 (write_then c.in_ok-put.field-0 (Ok c.in_ok-put_cash.field-0) s0 s3 s4 held c.in_ok-put_cash.ensures.write)

pub returns-clause-blame : goal.returns-clause-blame
returns-clause-blame g c clean is_open has amounts fits = tt

pub returns-in_err-take_cash-clause-blame : goal.returns-in_err-take_cash-clause-blame
returns-in_err-take_cash-clause-blame g c clean is_open has amounts fits =
    let s0 = g.S.Session.state c.args.conn.now in
    let s1 = g.S.Session.state c.take.new.conn in
    let s2 = g.S.Session.state c.take_cash.new.conn in
    let e = c.in_err-take_cash.field-0.0 in
    let later = c.args.pair.now.later in
    let from = c.deliverer-from.result.now in
    let Takes = TakesHeld s0.now s1.now from.instruction.account later.instruction.isin later.instruction.quantity true in
    let first = wrote c.in_ok-take.field-0 s0 s1 Takes c.in_ok-take.ensures.write (λ clean1 open0 has0.
    subst (λ (r : Bool). TakesHeld s0.now s1.now from.instruction.account later.instruction.isin later.instruction.quantity r) c.if-not-branch.false (takes_held s0.now s1.now from.instruction.account later.instruction.isin later.instruction.quantity later.instruction.some amounts _ (c.in_ok-take.ensures.changed clean1 open0 has0 amounts))) in
    on_error c.from_residual-in_err-take_cash.result e (ForCause s0 s2) c.from_residual-in_err-take_cash.ensures.1
    (caused_error e s0 s1 s2 Takes c.in_ok-take.ensures.write.later c.in_err-take_cash.ensures.write.later first (λ clean2 open1 has1 takes. c.in_err-take_cash.ensures.blame clean2 open1 has1 takes.1.kept) clean is_open has)

pub returns-in_err-put-clause-blame : goal.returns-in_err-put-clause-blame
returns-in_err-put-clause-blame g c clean is_open has amounts fits =
    let s0 = g.S.Session.state c.args.conn.now in
    let s1 = g.S.Session.state c.take.new.conn in
    let s2 = g.S.Session.state c.take_cash.new.conn in
    let s3 = g.S.Session.state c.put.new.conn in
    let e = c.in_err-put.field-0.0 in
    let earlier = c.args.pair.now.earlier in
    let later = c.args.pair.now.later in
    let from = c.deliverer-from.result.now in
    let to = c.receiver-to.result.now in
    let Takes = TakesHeld s0.now s1.now from.instruction.account later.instruction.isin later.instruction.quantity true in
    let Pays = TakesCash s1.now s2.now to.sender later.instruction.cash true in
    let first = wrote c.in_ok-take.field-0 s0 s1 Takes c.in_ok-take.ensures.write (λ clean1 open0 has0.
    subst (λ (r : Bool). TakesHeld s0.now s1.now from.instruction.account later.instruction.isin later.instruction.quantity r) c.if-not-branch.false (takes_held s0.now s1.now from.instruction.account later.instruction.isin later.instruction.quantity later.instruction.some amounts _ (c.in_ok-take.ensures.changed clean1 open0 has0 amounts))) in
    let second = wrote_then c.in_ok-take_cash.field-0 s0 s1 s2 Takes (Takes × Pays) first c.in_ok-take_cash.ensures.write (λ clean2 open1 has1 takes.
    (takes, subst (λ (r : Bool). TakesCash s1.now s2.now to.sender later.instruction.cash r) c.if-not-branch-2.false (c.in_ok-take_cash.ensures.changed clean2 open1 has1 takes.1.kept))) in
    on_error c.from_residual-in_err-put.result e (ForCause s0 s3) c.from_residual-in_err-put.ensures.1
    (caused_error e s0 s2 s3 (Takes × Pays) (later_then s0 s1 s2 c.in_ok-take.ensures.write.later c.in_ok-take_cash.ensures.write.later) c.in_err-put.ensures.write.later second
    (λ clean3 open2 has2 it. c.in_err-put.ensures.blame clean3 open2 has2 it.1.1.kept (put_fits s0.now s1.now s2.now s3.now s3.now earlier later from to c.deliverer-from.ensures c.receiver-to.ensures fits it.0 it.1)) clean is_open has)

pub returns-in_err-put_cash-clause-blame : goal.returns-in_err-put_cash-clause-blame
returns-in_err-put_cash-clause-blame g c clean is_open has amounts fits =
    let s0 = g.S.Session.state c.args.conn.now in
    let s1 = g.S.Session.state c.take.new.conn in
    let s2 = g.S.Session.state c.take_cash.new.conn in
    let s3 = g.S.Session.state c.put.new.conn in
    let s4 = g.S.Session.state c.put_cash.new.conn in
    let e = c.in_err-put_cash.field-0.0 in
    let earlier = c.args.pair.now.earlier in
    let later = c.args.pair.now.later in
    let from = c.deliverer-from.result.now in
    let to = c.receiver-to.result.now in
    let Takes = TakesHeld s0.now s1.now from.instruction.account later.instruction.isin later.instruction.quantity true in
    let Pays = TakesCash s1.now s2.now to.sender later.instruction.cash true in
    let Gives = AmountsSo s2.now s3.now (more_held (content_in s2.now).position to.instruction.account later.instruction.isin later.instruction.quantity) (content_in s2.now).cash in
    let first = wrote c.in_ok-take.field-0 s0 s1 Takes c.in_ok-take.ensures.write (λ clean1 open0 has0.
    subst (λ (r : Bool). TakesHeld s0.now s1.now from.instruction.account later.instruction.isin later.instruction.quantity r) c.if-not-branch.false (takes_held s0.now s1.now from.instruction.account later.instruction.isin later.instruction.quantity later.instruction.some amounts _ (c.in_ok-take.ensures.changed clean1 open0 has0 amounts))) in
    let second = wrote_then c.in_ok-take_cash.field-0 s0 s1 s2 Takes (Takes × Pays) first c.in_ok-take_cash.ensures.write (λ clean2 open1 has1 takes.
    (takes, subst (λ (r : Bool). TakesCash s1.now s2.now to.sender later.instruction.cash r) c.if-not-branch-2.false (c.in_ok-take_cash.ensures.changed clean2 open1 has1 takes.1.kept))) in
    let third = wrote_then c.in_ok-put.field-0 s0 s2 s3 (Takes × Pays) ((Takes × Pays) × Gives) second c.in_ok-put.ensures.write (λ clean3 open2 has2 it. (
      it,
      puts_held s2.now s3.now to.instruction.account later.instruction.isin later.instruction.quantity (Ok c.in_ok-put.field-0)
          (c.in_ok-put.ensures.changed clean3 open2 has2 it.1.1.kept (put_fits s0.now s1.now s2.now s3.now s4.now earlier later from to c.deliverer-from.ensures c.receiver-to.ensures fits it.0 it.1)),
    )) in
    let before = later_then s0 s2 s3 (later_then s0 s1 s2 c.in_ok-take.ensures.write.later c.in_ok-take_cash.ensures.write.later) c.in_ok-put.ensures.write.later in
    on_error c.from_residual-in_err-put_cash.result e (ForCause s0 s4) c.from_residual-in_err-put_cash.ensures.1
    (caused_error e s0 s3 s4 ((Takes × Pays) × Gives) before c.in_err-put_cash.ensures.write.later third
    (λ clean4 open3 has3 it. c.in_err-put_cash.ensures.blame clean4 open3 has3 it.1.kept (pay_fits s0.now s1.now s2.now s3.now s4.now earlier later from to c.deliverer-from.ensures c.receiver-to.ensures fits it.0.0 it.0.1 it.1)) clean is_open has)
