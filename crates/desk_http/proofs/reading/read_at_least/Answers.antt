-- What was read stands behind what was there.
use Rattle.std.proofs.Common.{[], ◌++◌, sym, ap, ◌∙◌, append_assoc, append-nil, arith}
use Rattle.std.proofs.KnownBytes.{Consumes-kept, Consumes-nil, Consumes-trans}
use Rattle.desk_http.proofs.reading.read_at_least.Goals as goal

pub reads-init : goal.reads-init
reads-init g c = (c.requires.room, c.requires.limit, [], sym (append-nil c.args.input.now.items), Consumes-nil (g.R.Read.remaining c.args.reader.now))

pub reads-preserved : goal.reads-preserved
reads-preserved g c =
    let i = c.reads.invariant in
    let r = c.in_ok-read_more.ensures.ok in (
      c.read_more.ensures.room,
      c.read_more.ensures.limit,
      i.2 ++ r.0,
      r.1 ∙ ap (λ z. z ++ r.0) i.3 ∙ append_assoc c.args.input.now.items i.2 r.0,
      Consumes-trans (g.R.Read.remaining c.args.reader.now) (g.R.Read.remaining c.reads.reader) (g.R.Read.remaining c.read_more.new.reader) i.2 r.0 i.4 r.2,
    )

pub returns-in_err-read_more-clause-taken : goal.returns-in_err-read_more-clause-taken
returns-in_err-read_more-clause-taken g c =
    let i = c.reads.invariant in
    let r = c.in_err-read_more.ensures.err in (
      i.2,
      r.0 ∙ i.3,
      Consumes-kept (g.R.Read.remaining c.args.reader.now) (g.R.Read.remaining c.reads.reader) (g.R.Read.remaining c.read_more.new.reader) i.2 i.4 r.1,
    )

pub returns-then-not-branch-clause-taken : goal.returns-then-not-branch-clause-taken
returns-then-not-branch-clause-taken g c =
    let i = c.reads.invariant in
    let r = c.in_ok-read_more.ensures.ok in (
      i.2 ++ r.0,
      r.1 ∙ ap (λ z. z ++ r.0) i.3 ∙ append_assoc c.args.input.now.items i.2 r.0,
      Consumes-trans (g.R.Read.remaining c.args.reader.now) (g.R.Read.remaining c.reads.reader) (g.R.Read.remaining c.read_more.new.reader) i.2 r.0 i.4 r.2,
    )

pub returns-clause-taken : goal.returns-clause-taken
returns-clause-taken g c = (c.reads.invariant.2, c.reads.invariant.3, c.reads.invariant.4)
