use Rattle.std.proofs.Common.{Ok, Err, Result, OnOk, ◌∙◌, ℕ, ◌+◌, ◌<◌, length, sym, arith}
use Rattle.sqlite.specs.State.{State, HasCleanDisk}
use Rattle.sqlite.specs.declared.error.Error.{Error}
use Rattle.desk_register.specs.Changes.{appended}
use Rattle.desk_rules.specs.declared.history.entry.Entry.{Entry}
use Rattle.desk_rules.specs.declared.answers.reply.Reply.{Reply}
use Rattle.sql_tables.specs.Ends.{Stays, ForCause}
use Rattle.sql_tables.proofs.CallLemmas.{later_then, write_ok, write_then}
use Rattle.sql_tables.proofs.ResultLemmas.{on_error}
use Rattle.sql_register.specs.Appending.{RowAdded}
use Rattle.sql_register.specs.Content.{content_in}
use Rattle.sql_register.specs.Holds.{Becomes}
use Rattle.sql_register.specs.Posting.{Posts}
use Rattle.sql_register.specs.declared.posting.Posting.{Posting}
use Rattle.sql_register.proofs.AppendedRow.{alone_becomes, row_added}
use Rattle.sql_register.proofs.CauseLemmas.{caused_error, caused_from, wrote, wrote_then}
use Rattle.sql_register.proofs.FailedLemmas.{not_done, write_fell, write_handed}
use Rattle.sql_register.proofs.PostedLemmas.{IsPosted, Sets, posting_small, posts_nothing, posts_so, sets, sets_kept}
use Rattle.sql_register.proofs.ReadLemmas.{was_clean}
use Rattle.sql_register.proofs.appending.append_command.Goals as goal

becomes : (old d1 d2 new : State) (e : Entry) (reply : Reply) (p : Posting) (r : Result (Unit {0}) Error) → IsPosted old.now d1.now reply e p → Sets p.direction d1.now d2.now p.balance p.amount → OnOk r (Stays d2 new)
    → OnOk r (Posts p.direction d2.now new.now p.total p.amount) → OnOk r (Becomes new.now (appended e reply (content_in old.now)))
becomes old d1 d2 new e reply p (Ok tt) posted first stays second = posted.becomes d2.now new.now first (sets p.direction d2.now new.now p.total p.amount (posted.second d2.now first) second) stays.schema
becomes old d1 d2 new e reply p (Err f) posted first stays second = tt

pub post-requires : goal.post-requires
post-requires g c = record { small = posting_small c.args.entry.now c.in-Some.posting (sym c.posting_of.ensures ∙ c.in-Some.is) c.in_ok-add_row.ensures.formed }

pub post-requires-2 : goal.post-requires-2
post-requires-2 g c = record { small = posting_small c.args.entry.now c.in-Some.posting (sym c.posting_of.ensures ∙ c.in-Some.is) c.in_ok-add_row.ensures.formed }

pub returns-in_err-add_row-clause-changed : goal.returns-in_err-add_row-clause-changed
returns-in_err-add_row-clause-changed g c clean is_open has desk from room can = not_done c.from_residual.result c.in_err-add_row.field-0.0 c.from_residual.ensures.1 _

pub returns-in_err-add_row-clause-write : goal.returns-in_err-add_row-clause-write
returns-in_err-add_row-clause-write g c = write_handed c.from_residual.result c.in_err-add_row.field-0.0 c.from_residual.ensures.1 ℕ (g.S.Session.state c.args.conn.now) (g.S.Session.state c.add_row.new.conn) c.in_err-add_row.ensures.write

pub returns-in_err-add_row-clause-blame : goal.returns-in_err-add_row-clause-blame
returns-in_err-add_row-clause-blame g c clean is_open has desk room small can =
    let s0 = g.S.Session.state c.args.conn.now in
    let e = c.in_err-add_row.field-0.0 in
    let has_room = can.has_room in
    let fits : length (content_in s0.now).register + 1 < 1_000_000_000 = omega (arith, has_room, small) in
    on_error c.from_residual.result e (ForCause s0 (g.S.Session.state c.add_row.new.conn)) c.from_residual.ensures.1
    (c.in_err-add_row.ensures.blame clean is_open has (content_in s0.now).register desk.entries fits desk.formed can.new_key)

pub returns-in_default-clause-changed : goal.returns-in_default-clause-changed
returns-in_default-clause-changed g c clean is_open has desk from room can =
    let s0 = g.S.Session.state c.args.conn.now in
    let s1 = g.S.Session.state c.add_row.new.conn in
    let register = (content_in s0.now).register in
    let e = c.args.entry.now in
    let reply = c.args.reply.now in
    let added = row_added s0.now s1.now register e reply c.in_ok-add_row.field-0 (c.in_ok-add_row.ensures.added clean is_open has register desk.entries) c.in_ok-add_row.ensures.within c.in_ok-add_row.ensures.formed c.in_ok-add_row.ensures.short in
    alone_becomes s0.now s1.now e reply added room desk (posts_nothing e from (sym c.posting_of.ensures ∙ c.in_default.is)) can (c.in_ok-add_row.ensures.write.ok clean is_open has).schema

pub returns-in_default-clause-write : goal.returns-in_default-clause-write
returns-in_default-clause-write g c = write_ok _ _ (g.S.Session.state c.args.conn.now) (g.S.Session.state c.add_row.new.conn) c.in_ok-add_row.ensures.write

pub returns-in_default-clause-blame : goal.returns-in_default-clause-blame
returns-in_default-clause-blame g c clean is_open has desk room small can = tt

pub returns-in_err-post-clause-changed : goal.returns-in_err-post-clause-changed
returns-in_err-post-clause-changed g c clean is_open has desk from room can = not_done c.from_residual-in_err-post.result c.in_err-post.field-0.0 c.from_residual-in_err-post.ensures.1 _

pub returns-in_err-post-clause-write : goal.returns-in_err-post-clause-write
returns-in_err-post-clause-write g c =
    let s0 = g.S.Session.state c.args.conn.now in
    let s1 = g.S.Session.state c.add_row.new.conn in
    let s2 = g.S.Session.state c.post.new.conn in
    write_fell c.from_residual-in_err-post.result c.in_err-post.field-0.0 c.from_residual-in_err-post.ensures.1 (Unit {0}) c.in_ok-add_row.field-0 s0 s1 s2 c.in_ok-add_row.ensures.write c.in_err-post.ensures.write

pub returns-in_err-post-clause-blame : goal.returns-in_err-post-clause-blame
returns-in_err-post-clause-blame g c clean is_open has desk room small can =
    let s0 = g.S.Session.state c.args.conn.now in
    let s1 = g.S.Session.state c.add_row.new.conn in
    let s2 = g.S.Session.state c.post.new.conn in
    let register = (content_in s0.now).register in
    let entry = c.args.entry.now in
    let reply = c.args.reply.now in
    let p = c.in-Some.posting in
    let e = c.in_err-post.field-0.0 in
    let Row : Type 0 = RowAdded s0.now s1.now register entry reply in
    let first = wrote c.in_ok-add_row.field-0 s0 s1 Row c.in_ok-add_row.ensures.write (λ clean1 open0 has0.
    row_added s0.now s1.now register entry reply c.in_ok-add_row.field-0 (c.in_ok-add_row.ensures.added clean1 open0 has0 register desk.entries) c.in_ok-add_row.ensures.within c.in_ok-add_row.ensures.formed c.in_ok-add_row.ensures.short) in
    on_error c.from_residual-in_err-post.result e (ForCause s0 s2) c.from_residual-in_err-post.ensures.1
    (caused_error e s0 s1 s2 Row c.in_ok-add_row.ensures.write.later c.in_err-post.ensures.write.later first
    (λ clean2 open1 has1 added.
    let posted = posts_so s0.now s1.now reply room desk entry p (sym c.posting_of.ensures ∙ c.in-Some.is) can added in
    c.in_err-post.ensures.blame clean2 open1 has1 posted.amounts posted.first) clean is_open has)

pub returns-clause-changed : goal.returns-clause-changed
returns-clause-changed g c clean is_open has desk from room can =
    let s0 = g.S.Session.state c.args.conn.now in
    let s1 = g.S.Session.state c.add_row.new.conn in
    let s2 = g.S.Session.state c.post.new.conn in
    let s3 = g.S.Session.state c.post-2.new.conn in
    let register = (content_in s0.now).register in
    let entry = c.args.entry.now in
    let reply = c.args.reply.now in
    let p = c.in-Some.posting in
    let clean2 : HasCleanDisk s2 = was_clean _ _ c.post-2.ensures.write.later clean in
    let clean1 : HasCleanDisk s1 = was_clean _ _ c.in_ok-post.ensures.write.later clean2 in
    let stays1 = c.in_ok-add_row.ensures.write.ok clean1 is_open has in
    let stays2 = c.in_ok-post.ensures.write.ok clean2 stays1.is_open stays1.schema in
    let added = row_added s0.now s1.now register entry reply c.in_ok-add_row.field-0 (c.in_ok-add_row.ensures.added clean1 is_open has register desk.entries) c.in_ok-add_row.ensures.within c.in_ok-add_row.ensures.formed c.in_ok-add_row.ensures.short in
    let posted = posts_so s0.now s1.now reply room desk entry p (sym c.posting_of.ensures ∙ c.in-Some.is) can added in
    let first = sets p.direction s1.now s2.now p.balance p.amount posted.first (c.in_ok-post.ensures.changed clean2 stays1.is_open stays1.schema posted.amounts) in
    becomes s0 s1 s2 s3 entry reply p c.post-2.result posted first (c.post-2.ensures.write.ok clean stays2.is_open stays2.schema)
    (c.post-2.ensures.changed clean stays2.is_open stays2.schema (sets_kept p.direction s1.now s2.now p.balance p.amount first))

pub returns-clause-write : goal.returns-clause-write
returns-clause-write g c =
    let s0 = g.S.Session.state c.args.conn.now in
    let s1 = g.S.Session.state c.add_row.new.conn in
    let s2 = g.S.Session.state c.post.new.conn in
    let s3 = g.S.Session.state c.post-2.new.conn in
    write_then c.in_ok-post.field-0 c.post-2.result s0 s2 s3 (write_then c.in_ok-add_row.field-0 (Ok c.in_ok-post.field-0) s0 s1 s2 c.in_ok-add_row.ensures.write c.in_ok-post.ensures.write) c.post-2.ensures.write

pub returns-clause-blame : goal.returns-clause-blame
returns-clause-blame g c clean is_open has desk room small can =
    let s0 = g.S.Session.state c.args.conn.now in
    let s1 = g.S.Session.state c.add_row.new.conn in
    let s2 = g.S.Session.state c.post.new.conn in
    let s3 = g.S.Session.state c.post-2.new.conn in
    let register = (content_in s0.now).register in
    let entry = c.args.entry.now in
    let reply = c.args.reply.now in
    let p = c.in-Some.posting in
    let Row : Type 0 = RowAdded s0.now s1.now register entry reply in
    let Both : Type 0 = IsPosted s0.now s1.now reply entry p × Sets p.direction s1.now s2.now p.balance p.amount in
    let first = wrote c.in_ok-add_row.field-0 s0 s1 Row c.in_ok-add_row.ensures.write (λ clean1 open0 has0.
    row_added s0.now s1.now register entry reply c.in_ok-add_row.field-0 (c.in_ok-add_row.ensures.added clean1 open0 has0 register desk.entries) c.in_ok-add_row.ensures.within c.in_ok-add_row.ensures.formed c.in_ok-add_row.ensures.short) in
    let second = wrote_then c.in_ok-post.field-0 s0 s1 s2 Row Both first c.in_ok-post.ensures.write (λ clean2 open1 has1 added.
    let posted = posts_so s0.now s1.now reply room desk entry p (sym c.posting_of.ensures ∙ c.in-Some.is) can added in
    (posted, sets p.direction s1.now s2.now p.balance p.amount posted.first (c.in_ok-post.ensures.changed clean2 open1 has1 posted.amounts))) in
    caused_from c.post-2.result s0 s2 s3 Both (later_then s0 s1 s2 c.in_ok-add_row.ensures.write.later c.in_ok-post.ensures.write.later) c.post-2.ensures.write.later second
    (λ clean3 open2 has2 it. c.post-2.ensures.blame clean3 open2 has2 (sets_kept p.direction s1.now s2.now p.balance p.amount it.1) (it.0.second s2.now it.1)) clean is_open has
