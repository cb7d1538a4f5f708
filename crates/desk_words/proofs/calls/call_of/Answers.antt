use Rattle.std.proofs.Common.{◌≡◌}
use Rattle.std.proofs.lemmas.Result.{err_from_is_err_and}
use Rattle.clap.specs.Words.{kind_of}
use Rattle.clap.specs.declared.error.kind.ErrorKind.TheVariants.{OutOfMemory}
use Rattle.desk_words.proofs.ErrorLemmas.{err_either, err_ok, err_only}
use Rattle.desk_words.proofs.WordsLemmas.{entered, entered_several, fits_none, found_wrong, said_by, taken, taken_alone, taken_several}
use Rattle.desk_words.specs.Words.{parts_by, report}
use Rattle.desk_words.proofs.calls.call_of.Goals as goal

pub returns-in_err-matches-clause-asked : goal.returns-in_err-matches-clause-asked
returns-in_err-matches-clause-asked g c = λ program asked right are.
    let p = err_from_is_err_and c.from_residual-in_err-matches.result c.from_residual-in_err-matches.ensures.1 in
    rw (p.1, p.2) (c.in_err-matches.ensures.passes (taken _ _ program asked c.in_ok-desk.ensures are right))

pub returns-in_err-matches-clause-nothing : goal.returns-in_err-matches-clause-nothing
returns-in_err-matches-clause-nothing g c = λ program are.
    let p = err_from_is_err_and c.from_residual-in_err-matches.result c.from_residual-in_err-matches.ensures.1 in
    rw (p.1, p.2) (c.in_err-matches.ensures.passes (taken_alone _ _ program c.in_ok-desk.ensures are))

pub returns-in-Some-clause-asked : goal.returns-in-Some-clause-asked
returns-in-Some-clause-asked g c = λ program asked right are.
    c.in-Some.ensures.asked asked (entered _ _ c.in_ok-matches.matches program asked c.in_ok-matches.ensures.matches c.in_ok-desk.ensures are right)

pub returns-clause-asked : goal.returns-clause-asked
returns-clause-asked g c = λ program asked right are.
    absurd (c.in-None.ensures.asked asked (entered _ _ c.in_ok-matches.matches program asked c.in_ok-matches.ensures.matches c.in_ok-desk.ensures are right))

pub returns-in_err-matches-clause-several : goal.returns-in_err-matches-clause-several
returns-in_err-matches-clause-several g c = λ program db format named file parts are.
    let p = err_from_is_err_and c.from_residual-in_err-matches.result c.from_residual-in_err-matches.ensures.1 in
    rw (p.1, p.2) (c.in_err-matches.ensures.passes (taken_several _ _ program db format named c.in_ok-desk.ensures are file parts))

pub returns-in-Some-clause-several : goal.returns-in-Some-clause-several
returns-in-Some-clause-several g c = λ program db format named file parts are.
    c.in-Some.ensures.asked (report db (parts_by named) format) (entered_several _ _ c.in_ok-matches.matches program db format named c.in_ok-matches.ensures.matches c.in_ok-desk.ensures are file parts)

pub returns-clause-several : goal.returns-clause-several
returns-clause-several g c = λ program db format named file parts are.
    absurd (c.in-None.ensures.asked (report db (parts_by named) format) (entered_several _ _ c.in_ok-matches.matches program db format named c.in_ok-matches.ensures.matches c.in_ok-desk.ensures are file parts))

pub returns-in-Some-clause-said : goal.returns-in-Some-clause-said
returns-in-Some-clause-said g c = said_by _ _ c.in_ok-matches.matches _ c.in_ok-matches.ensures.matches c.in_ok-matches.ensures.kinds c.in_ok-desk.ensures c.in-Some.ensures.said

pub returns-in_err-matches-clause-wrong : goal.returns-in_err-matches-clause-wrong
returns-in_err-matches-clause-wrong g c =
    let p = err_from_is_err_and c.from_residual-in_err-matches.result c.from_residual-in_err-matches.ensures.1 in
    rw (p.1, p.2) (found_wrong _ _ _ c.in_err-matches.ensures.kinds c.in_ok-desk.ensures)

pub returns-clause-wrong : goal.returns-clause-wrong
returns-clause-wrong g c = fits_none _ _ _ c.in_ok-matches.ensures.kinds c.in_ok-desk.ensures c.in_ok-usage_error-in-None.ensures

pub returns-in_err-desk-clause-readable : goal.returns-in_err-desk-clause-readable
returns-in_err-desk-clause-readable g c = err_ok c.from_residual.result _ _ c.from_residual.ensures.1

pub returns-in_err-desk-clause-said : goal.returns-in_err-desk-clause-said
returns-in_err-desk-clause-said g c = err_ok c.from_residual.result _ _ c.from_residual.ensures.1

pub returns-in_err-desk-clause-asked : goal.returns-in_err-desk-clause-asked
returns-in_err-desk-clause-asked g c = λ program asked right are. err_only c.from_residual.result _ (λ error. kind_of error ≡ OutOfMemory) c.from_residual.ensures.1

pub returns-in_err-desk-clause-several : goal.returns-in_err-desk-clause-several
returns-in_err-desk-clause-several g c = λ program db format named file parts are. err_only c.from_residual.result _ (λ error. kind_of error ≡ OutOfMemory) c.from_residual.ensures.1

pub returns-in_err-desk-clause-nothing : goal.returns-in_err-desk-clause-nothing
returns-in_err-desk-clause-nothing g c = λ program are. err_only c.from_residual.result _ (λ error. kind_of error ≡ OutOfMemory) c.from_residual.ensures.1

pub returns-in_err-desk-clause-wrong : goal.returns-in_err-desk-clause-wrong
returns-in_err-desk-clause-wrong g c = err_either c.from_residual.result (λ error. kind_of error ≡ OutOfMemory) _ c.from_residual.ensures.1

pub returns-in_err-usage_error-in-None-clause-readable : goal.returns-in_err-usage_error-in-None-clause-readable
returns-in_err-usage_error-in-None-clause-readable g c = err_ok c.from_residual-in_err-usage_error-in-None.result _ _ c.from_residual-in_err-usage_error-in-None.ensures.1

pub returns-in_err-usage_error-in-None-clause-said : goal.returns-in_err-usage_error-in-None-clause-said
returns-in_err-usage_error-in-None-clause-said g c = err_ok c.from_residual-in_err-usage_error-in-None.result _ _ c.from_residual-in_err-usage_error-in-None.ensures.1

pub returns-in_err-usage_error-in-None-clause-asked : goal.returns-in_err-usage_error-in-None-clause-asked
returns-in_err-usage_error-in-None-clause-asked g c = λ program asked right are. err_only c.from_residual-in_err-usage_error-in-None.result _ (λ error. kind_of error ≡ OutOfMemory) c.from_residual-in_err-usage_error-in-None.ensures.1

pub returns-in_err-usage_error-in-None-clause-several : goal.returns-in_err-usage_error-in-None-clause-several
returns-in_err-usage_error-in-None-clause-several g c = λ program db format named file parts are. err_only c.from_residual-in_err-usage_error-in-None.result _ (λ error. kind_of error ≡ OutOfMemory) c.from_residual-in_err-usage_error-in-None.ensures.1

pub returns-in_err-usage_error-in-None-clause-nothing : goal.returns-in_err-usage_error-in-None-clause-nothing
returns-in_err-usage_error-in-None-clause-nothing g c = λ program are. err_only c.from_residual-in_err-usage_error-in-None.result _ (λ error. kind_of error ≡ OutOfMemory) c.from_residual-in_err-usage_error-in-None.ensures.1

pub returns-in_err-usage_error-in-None-clause-wrong : goal.returns-in_err-usage_error-in-None-clause-wrong
returns-in_err-usage_error-in-None-clause-wrong g c = err_either c.from_residual-in_err-usage_error-in-None.result (λ error. kind_of error ≡ OutOfMemory) _ c.from_residual-in_err-usage_error-in-None.ensures.1

pub returns-in_err-matches-clause-readable : goal.returns-in_err-matches-clause-readable
returns-in_err-matches-clause-readable g c = err_ok c.from_residual-in_err-matches.result _ _ c.from_residual-in_err-matches.ensures.1

pub returns-in_err-matches-clause-said : goal.returns-in_err-matches-clause-said
returns-in_err-matches-clause-said g c = err_ok c.from_residual-in_err-matches.result _ _ c.from_residual-in_err-matches.ensures.1

pub returns-in-Some-clause-readable : goal.returns-in-Some-clause-readable
returns-in-Some-clause-readable g c = c.in-Some.ensures.readable

pub returns-in-Some-clause-wrong : goal.returns-in-Some-clause-wrong
returns-in-Some-clause-wrong g c = tt

pub returns-clause-readable : goal.returns-clause-readable
returns-clause-readable g c = tt

pub returns-clause-said : goal.returns-clause-said
returns-clause-said g c = tt
