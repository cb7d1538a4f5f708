-- The number is noted where its confirmation stands, and nowhere where it has none.
use Rattle.std.proofs.Common.{◌∙◌, subst}
use Rattle.desk_journal.specs.Sending.{IsPlaceOf}
use Rattle.desk_journal.proofs.SettledLemmas.{noted_none, noted_one}
use Rattle.desk_journal.proofs.sending.note_settled.Goals as goal

pub returns-in_default-clause-noted : goal.returns-in_default-clause-noted
returns-in_default-clause-noted g c = λ books honest sure tables so.
    so ∙ noted_none books tables.are c.args.number (subst (IsPlaceOf books c.args.number) c.in_default.is (c.in_ok-place.ensures.place books honest sure tables))

pub returns-in-Some-get_mut-clause-noted : goal.returns-in-Some-get_mut-clause-noted
returns-in-Some-get_mut-clause-noted g c = λ books honest sure tables so.
    noted_one books c.args.number c.in-Some.place c.args.notices.now.items c.in-Some-get_mut.notice.now (subst (IsPlaceOf books c.args.number) c.in-Some.is (c.in_ok-place.ensures.place books honest sure tables)) so
    c.in-Some-get_mut.ensures.value
