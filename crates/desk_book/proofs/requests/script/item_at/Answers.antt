-- A line without a body, one with its body, and one whose body is cut off.
use Rattle.std.proofs.Common.{sym}
use Rattle.desk_book.specs.Script.{item_of}
use Rattle.desk_book.proofs.ScriptLemmas.{bodiless_begins, posted_begins, cut_begins}
use Rattle.desk_book.proofs.requests.script.item_at.Goals as goal

pub returns-then-not-has_body-clause-first : goal.returns-then-not-has_body-clause-first
returns-then-not-has_body-clause-first c =
    bodiless_begins c.args.line.now c.args.after.now c.said_by-said.result.now (item_of c.bodiless.result) c.said_by-said.ensures c.requires (sym c.if-not-has_body.ensures) c.bodiless.ensures

pub returns-in-Some-clause-first : goal.returns-in-Some-clause-first
returns-in-Some-clause-first c =
    posted_begins c.args.line.now c.args.after.now c.said_by-said.result.now c.in-Some.body.now c.in-Some.rest.now (item_of c.posted.result) c.said_by-said.ensures
    (sym c.if-not-has_body.ensures) c.in-Some.ensures.body (rw c.min.ensures at c.posted.ensures)

pub returns-in-None-clause-first : goal.returns-in-None-clause-first
returns-in-None-clause-first c = cut_begins c.args.line.now c.args.after.now c.said_by-said.result.now c.said_by-said.ensures (sym c.if-not-has_body.ensures) c.in-None.ensures.none
