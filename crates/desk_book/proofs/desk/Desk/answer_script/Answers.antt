use Rattle.std.specs.Io.KnownBytes.{append_known}
use Rattle.desk_streams.specs.Waiting.{waits}
use Rattle.desk_book.specs.Script.{item_of}
use Rattle.desk_book.proofs.LeftLemmas.{leaves_all, leaves_on}
use Rattle.desk_book.proofs.PlayLemmas.{finished, front_and_one, front_played, more_so_far, none_so_far, script_played}
use Rattle.desk_book.proofs.desk.Desk.answer_script.Goals as goal

pub items-init : goal.items-init
items-init g c =
    let v0 = g.R.Register.view c.args.self.now.register in
    record {
      left = leaves_all g.R.Register.view g.R.Register.in_memory c.args.self.now;
      room = c.requires.room;
      played = λ books honest holds. none_so_far c.args.self.now.is_closed books c.args.script.now (append_known (g.O.Write.contents c.args.writer.now) (waits c.args.outbox.now)) v0 holds;
    }

pub items-preserved : goal.items-preserved
items-preserved g c =
    let i = c.items.invariant in
    let a = c.in_ok-answer_item.ensures in
    let v0 = g.R.Register.view c.args.self.now.register in
    let v1 = g.R.Register.view c.items.self.register in
    let v2 = g.R.Register.view c.answer_item.new.self.register in
    record {
      left = leaves_on g.R.Register.view g.R.Register.in_memory c.args.self.now c.items.self c.answer_item.new.self i.left a.left;
      room = a.room;
      played = λ books honest holds.
          let s = i.played books (a.left.later.honest honest) holds in
          more_so_far v0 v1 v2 c.args.self.now.is_closed c.items.self.is_closed c.answer_item.new.self.is_closed books c.args.script.now c.items.rest.now c.in-Some.after.now
          (append_known (g.O.Write.contents c.args.writer.now) (waits c.args.outbox.now)) (append_known (g.O.Write.contents c.items.writer) (waits c.items.outbox)) (append_known (g.O.Write.contents c.answer_item.new.writer) (waits c.answer_item.new.outbox)) (item_of c.in-Some.item) i.left.later a.left.later s c.in-Some.ensures.first
          (a.played s.played.last honest s.played.holds);
    }

pub returns-in_err-answer_item-clause-front : goal.returns-in_err-answer_item-clause-front
returns-in_err-answer_item-clause-front g c = λ books honest holds.
    let i = c.items.invariant in
    let a = c.in_err-answer_item.ensures in
    let s = i.played books (a.left.later.honest honest) holds in
    front_and_one (g.R.Register.view c.args.self.now.register) (g.R.Register.view c.items.self.register) (g.R.Register.view c.answer_item.new.self.register)
    c.args.self.now.is_closed c.items.self.is_closed c.answer_item.new.self.is_closed books c.args.script.now c.items.rest.now c.in-Some.after.now
    (append_known (g.O.Write.contents c.args.writer.now) (waits c.args.outbox.now)) (append_known (g.O.Write.contents c.items.writer) (waits c.items.outbox)) (item_of c.in-Some.item) i.left.later a.left.later s c.in-Some.ensures.first (a.front s.played.last honest s.played.holds)

pub returns-clause-played : goal.returns-clause-played
returns-clause-played g c = λ books honest holds.
    finished c.finish.result c.args.self.now.is_closed c.items.self.is_closed books c.args.script.now (g.O.Write.contents c.args.writer.now) (g.O.Write.contents c.items.writer) (g.O.Write.contents c.finish.new.writer)
    (waits c.items.outbox) (g.R.Register.view c.args.self.now.register) (g.R.Register.view c.items.self.register) c.requires.empty
    (script_played c.args.self.now.is_closed c.items.self.is_closed books c.args.script.now c.items.rest.now (append_known (g.O.Write.contents c.args.writer.now) (waits c.args.outbox.now)) (append_known (g.O.Write.contents c.items.writer) (waits c.items.outbox))
    (g.R.Register.view c.args.self.now.register) (g.R.Register.view c.items.self.register) (c.items.invariant.played books honest holds) c.in_default.ensures.none)
    c.finish.ensures.written

pub returns-clause-front : goal.returns-clause-front
returns-clause-front g c = λ books honest holds.
    front_played c.args.self.now.is_closed c.items.self.is_closed books c.args.script.now c.items.rest.now (append_known (g.O.Write.contents c.args.writer.now) (waits c.args.outbox.now)) (append_known (g.O.Write.contents c.items.writer) (waits c.items.outbox))
    (g.R.Register.view c.args.self.now.register) (g.R.Register.view c.items.self.register) (c.items.invariant.played books honest holds)
