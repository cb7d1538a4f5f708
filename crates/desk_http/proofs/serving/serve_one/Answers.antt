use Rattle.std.proofs.Common.{[], refl, arith}
use Rattle.std.proofs.KnownBytes.{Consumes-nil}
use Rattle.desk_book.proofs.LeftLemmas.{leaves_all}
use Rattle.desk_http.proofs.serving.serve_one.Goals as goal

pub returns-in_default-clause-memory : goal.returns-in_default-clause-memory
returns-in_default-clause-memory g c = λ memory. (refl, refl, refl)

pub returns-in_default-clause-taken : goal.returns-in_default-clause-taken
returns-in_default-clause-taken g c = ([], Consumes-nil (g.I.Read.remaining c.args.reader.now), omega arith)

pub returns-in_default-clause-left : goal.returns-in_default-clause-left
returns-in_default-clause-left g c = leaves_all g.R.Register.view g.R.Register.in_memory c.args.desk.now

pub returns-in_default-new-clause-memory : goal.returns-in_default-new-clause-memory
returns-in_default-new-clause-memory g c = λ memory. (refl, refl, refl)

pub returns-in_default-new-clause-taken : goal.returns-in_default-new-clause-taken
returns-in_default-new-clause-taken g c = ([], Consumes-nil (g.I.Read.remaining c.args.reader.now), omega arith)

pub returns-in_default-new-clause-left : goal.returns-in_default-new-clause-left
returns-in_default-new-clause-left g c = leaves_all g.R.Register.view g.R.Register.in_memory c.args.desk.now

pub returns-in_default-read_request-clause-taken : goal.returns-in_default-read_request-clause-taken
returns-in_default-read_request-clause-taken g c = (c.read_request.new.input.items, c.read_request.ensures.taken, omega (arith, c.read_request.ensures.limit, c.read_request.new.input.ok.0))

pub returns-in_default-read_request-clause-left : goal.returns-in_default-read_request-clause-left
returns-in_default-read_request-clause-left g c = leaves_all g.R.Register.view g.R.Register.in_memory c.args.desk.now

pub returns-in-Ok-respond-clause-responds : goal.returns-in-Ok-respond-clause-responds
returns-in-Ok-respond-clause-responds g c = λ books honest holds.
    c.in-Ok-respond.ensures.responds (g.I.Read.remaining c.args.reader.now) (rw c.deref.ensures.value c.in-Ok-read_request.ensures.asked) books honest holds

pub returns-in-Ok-respond-clause-taken : goal.returns-in-Ok-respond-clause-taken
returns-in-Ok-respond-clause-taken g c = (c.read_request.new.input.items, c.read_request.ensures.taken, omega (arith, c.read_request.ensures.limit, c.read_request.new.input.ok.0))

pub returns-in-Ok-respond-clause-left : goal.returns-in-Ok-respond-clause-left
returns-in-Ok-respond-clause-left g c = c.respond.ensures.left

pub returns-clause-taken : goal.returns-clause-taken
returns-clause-taken g c = (c.read_request.new.input.items, c.read_request.ensures.taken, omega (arith, c.read_request.ensures.limit, c.read_request.new.input.ok.0))

pub returns-clause-left : goal.returns-clause-left
returns-clause-left g c = c.respond.ensures.left

pub returns-clause-stands : goal.returns-clause-stands
returns-clause-stands g c = λ failed books honest holds.
    c.respond.ensures.stands (g.I.Read.remaining c.args.reader.now) (rw c.deref.ensures.value c.in-Ok-read_request.ensures.asked) books honest holds
