use Rattle.std.proofs.Common.{codes, refl, sym}
use Rattle.clap.specs.Words.{found_of}
use Rattle.desk_words.proofs.WordsLemmas.{held_as, held_by, no_held_by, said_held}
use Rattle.desk_words.proofs.calls.holdings_call.Goals as goal

pub returns-in_err-db-clause-asked : goal.returns-in_err-db-clause-asked
returns-in_err-db-clause-asked c = λ asked named. let n = held_by asked (found_of c.args.inner.now) named in no_held_by c.in_err-db.ensures n.4

pub returns-in_err-owner-clause-asked : goal.returns-in_err-owner-clause-asked
returns-in_err-owner-clause-asked c = λ asked named. let n = held_by asked (found_of c.args.inner.now) named in absurd (c.in_err-owner.ensures.asked n.1 n.5 n.6)

pub returns-in_err-account-clause-asked : goal.returns-in_err-account-clause-asked
returns-in_err-account-clause-asked c = λ asked named. let n = held_by asked (found_of c.args.inner.now) named in no_held_by c.in_err-account.ensures n.7

pub returns-clause-said : goal.returns-clause-said
returns-clause-said c = said_held (codes "holdings") (found_of c.args.inner.now) _ _ _ refl (sym c.in_ok-db.ensures) c.in_ok-owner.ensures.said (sym c.in_ok-account.ensures)

pub returns-clause-asked : goal.returns-clause-asked
returns-clause-asked c = λ asked named. let n = held_by asked (found_of c.args.inner.now) named in held_as asked (found_of c.args.inner.now) n c.in_ok-db.db.now c.in_ok-owner.owner c.in_ok-account.account.now c.in_ok-db.ensures (c.in_ok-owner.ensures.asked n.1 n.5 n.6) c.in_ok-account.ensures
