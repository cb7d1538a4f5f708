use Rattle.std.proofs.Common.{refl}
use Rattle.desk_http.specs.Paths.{path_of}
use Rattle.desk_http.proofs.QuestionLemmas.{names_nobody}
use Rattle.desk_http.proofs.route.Path.question.Goals as goal

pub returns-in_err-party-in-Message-clause-none : goal.returns-in_err-party-in-Message-clause-none
returns-in_err-party-in-Message-clause-none c = names_nobody c.from_residual.result (path_of c.args.self.now) c.in-Message.bic.now (rw c.in-Message.is refl) c.in_err-party-in-Message.ensures.none

pub returns-in_err-party-in-Status-clause-none : goal.returns-in_err-party-in-Status-clause-none
returns-in_err-party-in-Status-clause-none c = names_nobody c.from_residual-in_err-party-in-Status.result (path_of c.args.self.now) c.in-Status.bic.now (rw c.in-Status.is refl) c.in_err-party-in-Status.ensures.none

pub returns-in_err-party-in-Holdings-clause-none : goal.returns-in_err-party-in-Holdings-clause-none
returns-in_err-party-in-Holdings-clause-none c = names_nobody c.from_residual-in_err-party-in-Holdings.result (path_of c.args.self.now) c.in-Holdings.bic.now (rw c.in-Holdings.is refl) c.in_err-party-in-Holdings.ensures.none

pub returns-in_err-party-in-Sent-clause-none : goal.returns-in_err-party-in-Sent-clause-none
returns-in_err-party-in-Sent-clause-none c = names_nobody c.from_residual-in_err-party-in-Sent.result (path_of c.args.self.now) c.in-Sent.bic.now (rw c.in-Sent.is refl) c.in_err-party-in-Sent.ensures.none
