use Rattle.std.proofs.Common.{◌≡◌, ℕ, ◌+◌, ◌<◌, ◌^◌, ◌∙◌, Err, length, ap, subst, sym, arith}
use Rattle.sqlite.specs.Effect.{Database}
use Rattle.sqlite.specs.State.{HasCleanDisk}
use Rattle.sql_tables.specs.Ends.{ForCause, IsSame}
use Rattle.sql_tables.specs.Schema.{desk_schema}
use Rattle.sql_tables.proofs.CallLemmas.{look_write, write_ok, write_then}
use Rattle.sql_tables.proofs.ResultLemmas.{no_error, on_error}
use Rattle.sql_rows.specs.Messages.{Adds, AreSent}
use Rattle.sql_rows.proofs.StepLemmas.{caused_behind, look_so, none_done, write_handed, write_handed_then}
use Rattle.sql_rows.proofs.sent.messages.add_sent.Goals as goal

pub returns-in_err-count-clause-added : goal.returns-in_err-count-clause-added
returns-in_err-count-clause-added g c = λ clean is_open has messages are. none_done c.in_err-count.field-0.0 c.from_residual.result c.from_residual.ensures.1 _

pub returns-in_err-count-clause-write : goal.returns-in_err-count-clause-write
returns-in_err-count-clause-write g c = write_handed c.in_err-count.field-0.0 c.from_residual.result c.from_residual.ensures.1 (g.S.Session.state c.args.conn.now) (g.S.Session.state c.sent_count.new.conn) (look_write (Err c.in_err-count.field-0.0) (g.S.Session.state c.args.conn.now) (g.S.Session.state c.sent_count.new.conn) c.in_err-count.ensures.look)

pub returns-in_err-count-clause-blame : goal.returns-in_err-count-clause-blame
returns-in_err-count-clause-blame g c = λ clean is_open has messages are fits. on_error c.from_residual.result c.in_err-count.field-0.0 (ForCause (g.S.Session.state c.args.conn.now) (g.S.Session.state c.sent_count.new.conn)) c.from_residual.ensures.1 (c.in_err-count.ensures.blame clean is_open has messages are)

pub returns-in_err-number-clause-added : goal.returns-in_err-number-clause-added
returns-in_err-number-clause-added g c = λ clean is_open has messages are. none_done c.in_err-number.field-0.0 c.from_residual-in_err-number.result c.from_residual-in_err-number.ensures.1 _

pub returns-in_err-number-clause-write : goal.returns-in_err-number-clause-write
returns-in_err-number-clause-write g c = look_write c.from_residual-in_err-number.result (g.S.Session.state c.args.conn.now) (g.S.Session.state c.sent_count.new.conn) (look_so _ c.from_residual-in_err-number.result (g.S.Session.state c.args.conn.now) (g.S.Session.state c.sent_count.new.conn) c.in_ok-count.ensures.look)

pub returns-in_err-number-clause-blame : goal.returns-in_err-number-clause-blame
returns-in_err-number-clause-blame g c = λ clean is_open has messages are fits.
    let is : c.in_ok-count.count ≡ length messages = c.in_ok-count.ensures.value clean is_open has messages are in
    let well = c.in_err-number.ensures.all (subst (λ n. n + 1 < 2 ^ 63) (sym is) fits) in
    on_error c.from_residual-in_err-number.result c.in_err-number.field-0.0 (ForCause (g.S.Session.state c.args.conn.now) (g.S.Session.state c.sent_count.new.conn)) c.from_residual-in_err-number.ensures.1 (no_error {X = ℕ} (Err c.in_err-number.field-0.0) (ForCause (g.S.Session.state c.args.conn.now) (g.S.Session.state c.sent_count.new.conn)) well)

pub returns-in_err-insert-clause-added : goal.returns-in_err-insert-clause-added
returns-in_err-insert-clause-added g c = λ clean is_open has messages are. none_done c.in_err-insert.field-0.0 c.from_residual-in_err-insert.result c.from_residual-in_err-insert.ensures.1 _

pub returns-in_err-insert-clause-write : goal.returns-in_err-insert-clause-write
returns-in_err-insert-clause-write g c = write_handed_then _ c.in_err-insert.field-0.0 c.from_residual-in_err-insert.result c.from_residual-in_err-insert.ensures.1 (g.S.Session.state c.args.conn.now) (g.S.Session.state c.sent_count.new.conn) (g.S.Session.state c.insert.new.conn) (look_write _ (g.S.Session.state c.args.conn.now) (g.S.Session.state c.sent_count.new.conn) c.in_ok-count.ensures.look) c.in_err-insert.ensures.write

pub returns-in_err-insert-clause-blame : goal.returns-in_err-insert-clause-blame
returns-in_err-insert-clause-blame g c = λ clean is_open has messages are fits.
    let clean1 : HasCleanDisk (g.S.Session.state c.sent_count.new.conn) = (let less = c.in_err-insert.ensures.write.later.clean in omega (arith, clean)) in
    let number_is : c.in_ok-number.number ≡ length messages + 1 = c.in_ok-number.ensures.value ∙ ap (λ n. n + 1) (c.in_ok-count.ensures.value clean1 is_open has messages are) in
    caused_behind c.in_ok-count.count c.in_err-insert.field-0.0 c.from_residual-in_err-insert.result c.from_residual-in_err-insert.ensures.1 (g.S.Session.state c.args.conn.now) (g.S.Session.state c.sent_count.new.conn) (g.S.Session.state c.insert.new.conn)
    (λ db. AreSent db messages) c.in_ok-count.ensures.look c.in_err-insert.ensures.write.later (λ clean2 open1 has1 it. c.in_err-insert.ensures.blame clean2 open1 has1 messages it number_is) clean is_open has are

pub returns-clause-added : goal.returns-clause-added
returns-clause-added g c = λ clean is_open has messages are.
    let s0 = g.S.Session.state c.args.conn.now in
    let s1 = g.S.Session.state c.sent_count.new.conn in
    let s2 = g.S.Session.state c.insert.new.conn in
    let one = c.in_ok-count.ensures in
    let later = c.in_ok-insert.ensures.write.later in
    let clean1 : HasCleanDisk s1 = (let less = later.clean in omega (arith, clean)) in
    let number_is : c.in_ok-number.number ≡ length messages + 1 = c.in_ok-number.ensures.value ∙ ap (λ n. n + 1) (one.value clean1 is_open has messages are) in
    let same : IsSame s0 s1 = one.look.ok clean1 is_open has in
    let has1 : s1.now.schema ≡ desk_schema = ap (λ (d : Database). d.schema) same.now ∙ has in
    let are1 = subst (λ (d : Database). AreSent d messages) (sym same.now) are in
    subst (λ (d : Database). Adds d s2.now messages c.args.message.now) same.now (c.in_ok-insert.ensures.added clean same.is_open has1 messages are1 number_is)

pub returns-clause-write : goal.returns-clause-write
returns-clause-write g c = write_ok _ _ (g.S.Session.state c.args.conn.now) (g.S.Session.state c.insert.new.conn) (write_then _ _ (g.S.Session.state c.args.conn.now) (g.S.Session.state c.sent_count.new.conn) (g.S.Session.state c.insert.new.conn) (look_write _ (g.S.Session.state c.args.conn.now) (g.S.Session.state c.sent_count.new.conn) c.in_ok-count.ensures.look) c.in_ok-insert.ensures.write)
