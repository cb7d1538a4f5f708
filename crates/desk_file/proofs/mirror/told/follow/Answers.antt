use Rattle.std.proofs.Common.{subst}
use Rattle.std.specs.Prelude.{IfSome}
use Rattle.desk_codes.specs.Number.{number_of}
use Rattle.desk_register.specs.Told.{IsKnownAt}
use Rattle.desk_file.proofs.ToldLemmas.{can_wait}
use Rattle.desk_file.proofs.mirror.told.follow.Goals as goal

pub wait_for-requires-clause-fits : goal.wait_for-requires-clause-fits
wait_for-requires-clause-fits g c = λ honest sure.
    let content = (g.S.Register.view c.args.tables.now).content in
    can_wait content c.args.number (number_of c.args.day) c.in-Some-Lacks.pair (c.requires.fits honest sure)
    (subst (λ k. IfSome k (λ p. IsKnownAt content c.args.number p)) c.in-Some-Lacks.is-0 (c.requires.known honest sure))
