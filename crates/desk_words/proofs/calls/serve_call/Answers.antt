use Rattle.std.proofs.Common.{None, Some, codes, refl}
use Rattle.clap.specs.Words.{found_of}
use Rattle.desk_words.proofs.WordsLemmas.{no_service, said_service, same_service}
use Rattle.desk_words.proofs.calls.serve_call.Goals as goal

pub returns-in_err-service-clause-asked : goal.returns-in_err-service-clause-asked
returns-in_err-service-clause-asked c = λ asked named. absurd (no_service asked (codes "serve") (found_of c.args.inner.now) refl c.in_err-service.ensures.asked named)

pub returns-in-Some-clause-said : goal.returns-in-Some-clause-said
returns-in-Some-clause-said c = said_service (codes "serve") (found_of c.args.inner.now) (Some c.in-Some.db.now) _ _ refl c.in-Some.ensures c.in_ok-service.ensures.port c.in_ok-service.ensures.count

pub returns-in-Some-clause-asked : goal.returns-in-Some-clause-asked
returns-in-Some-clause-asked c = λ asked named. same_service asked (codes "serve") (found_of c.args.inner.now) (Some c.in-Some.db.now) _ _ refl c.in-Some.ensures c.in_ok-service.ensures.asked named

pub returns-in-None-clause-said : goal.returns-in-None-clause-said
returns-in-None-clause-said c = said_service (codes "serve") (found_of c.args.inner.now) None _ _ refl c.in-None.ensures c.in_ok-service.ensures.port c.in_ok-service.ensures.count

pub returns-in-None-clause-asked : goal.returns-in-None-clause-asked
returns-in-None-clause-asked c = λ asked named. same_service asked (codes "serve") (found_of c.args.inner.now) None _ _ refl c.in-None.ensures c.in_ok-service.ensures.asked named
