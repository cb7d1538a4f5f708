-- What was read is what the reader has lost.
use Rattle.std.proofs.Common.{sym, subst}
use Rattle.std.proofs.KnownBytes.{Consumes-trans}
use Rattle.std.specs.Io.KnownBytes.{Consumes}
use Rattle.desk_http.proofs.reading.read_request.Goals as goal

pub reads-preserved : goal.reads-preserved
reads-preserved g c =
    let a = g.R.Read.remaining c.args.reader.now in
    let b = g.R.Read.remaining c.reads.reader in
    let d = g.R.Read.remaining c.read_at_least.new.reader in
    let t = c.read_at_least.ensures.taken in
    record {
      taken = subst (λ z. Consumes a d z) (sym t.1) (Consumes-trans a b d c.reads.input.items t.0 c.reads.invariant.taken t.2);
      limit = c.read_at_least.ensures.limit;
      room = c.read_at_least.ensures.room;
    }

pub returns-in_err-read_at_least-clause-taken : goal.returns-in_err-read_at_least-clause-taken
returns-in_err-read_at_least-clause-taken g c =
    let a = g.R.Read.remaining c.args.reader.now in
    let b = g.R.Read.remaining c.reads.reader in
    let d = g.R.Read.remaining c.read_at_least.new.reader in
    let t = c.read_at_least.ensures.taken in
    subst (λ z. Consumes a d z) (sym t.1) (Consumes-trans a b d c.reads.input.items t.0 c.reads.invariant.taken t.2)

pub returns-then-not-branch-clause-taken : goal.returns-then-not-branch-clause-taken
returns-then-not-branch-clause-taken g c =
    let a = g.R.Read.remaining c.args.reader.now in
    let b = g.R.Read.remaining c.reads.reader in
    let d = g.R.Read.remaining c.read_at_least.new.reader in
    let t = c.read_at_least.ensures.taken in
    subst (λ z. Consumes a d z) (sym t.1) (Consumes-trans a b d c.reads.input.items t.0 c.reads.invariant.taken t.2)
