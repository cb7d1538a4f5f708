use Rattle.std.proofs.Common.{◌∙◌, ap, sym, Option}
use Rattle.std.proofs.lemmas.Result.{IfOk-weaker}
use Rattle.std.specs.Prelude.{option_and_then}
use Rattle.desk_rules.specs.History.{instructed}
use Rattle.desk_rules.specs.declared.history.entry.Entry.{Entry}
use Rattle.sql_tables.specs.Ends.{ForCause}
use Rattle.sql_tables.proofs.ResultLemmas.{no_error, on_error}
use Rattle.sql_register.specs.Content.{content_in}
use Rattle.sql_register.proofs.FailedLemmas.{look_only, no_value}
use Rattle.sql_register.proofs.WalkLemmas.{look_any}
use Rattle.sql_register.proofs.looking.instruction.Goals as goal

pub returns-in_err-found-clause-blame : goal.returns-in_err-found-clause-blame
returns-in_err-found-clause-blame g c clean is_open has desk i is =
    let s0 = g.S.Session.state c.args.conn.now in
    let e = c.in_err-found.field-0.0 in
    on_error c.from_residual.result e (ForCause s0 (g.S.Session.state c.entry_at.new.conn)) c.from_residual.ensures.1
    (c.in_err-found.ensures.blame clean is_open has (content_in s0.now).register desk.entries desk.formed)

pub returns-clause-blame : goal.returns-clause-blame
returns-clause-blame g c clean is_open has desk i is =
    let s0 = g.S.Session.state c.args.conn.now in
    let found = c.in_ok-found.ensures.value clean is_open has (content_in s0.now).register desk.entries in
    no_error c.instructed_by.result (ForCause s0 (g.S.Session.state c.entry_at.new.conn)) (c.instructed_by.ensures.all i (ap (λ (o : Option Entry). option_and_then instructed o) found ∙ is))

pub returns-in_err-found-clause-value : goal.returns-in_err-found-clause-value
returns-in_err-found-clause-value g c clean is_open has desk = no_value c.from_residual.result c.in_err-found.field-0.0 c.from_residual.ensures.1 _

pub returns-in_err-found-clause-look : goal.returns-in_err-found-clause-look
returns-in_err-found-clause-look g c = look_only c.from_residual.result c.in_err-found.field-0.0 c.from_residual.ensures.1 (Option Entry) (g.S.Session.state c.args.conn.now) (g.S.Session.state c.entry_at.new.conn) c.in_err-found.ensures.look

pub returns-clause-value : goal.returns-clause-value
returns-clause-value g c clean is_open has desk =
    let s0 = g.S.Session.state c.args.conn.now in
    let found = c.in_ok-found.ensures.value clean is_open has (content_in s0.now).register desk.entries in
    IfOk-weaker c.instructed_by.result _ _ (λ i at. sym (ap (λ (o : Option Entry). option_and_then instructed o) found) ∙ at) c.instructed_by.ensures.value

pub returns-clause-look : goal.returns-clause-look
returns-clause-look g c = look_any c.in_ok-found.found c.instructed_by.result (g.S.Session.state c.args.conn.now) (g.S.Session.state c.entry_at.new.conn) c.in_ok-found.ensures.look
