use Rattle.std.specs.Io.KnownBytes.{Appends}
use Rattle.desk.specs.declared.answers.trial.Trial.TheVariants as trial
use Rattle.desk.proofs.TrialLemmas.{tried_as}
use Rattle.desk.proofs.answers.trial.try_on.Goals as goal

pub returns-in-Play-clause-told : goal.returns-in-Play-clause-told
returns-in-Play-clause-told g c = λ books keeps.
    tried_as c.play_on.result (g.R.Read.remaining c.args.reader.now) _ g.R.Source.may_fail (Appends (g.W.Write.contents c.args.writer.now) (g.W.Write.contents c.play_on.new.writer)) books c.args.trial trial.Play c.in-Play.is (c.play_on.ensures.told books keeps)

pub returns-in-Check-clause-told : goal.returns-in-Check-clause-told
returns-in-Check-clause-told g c = λ books keeps.
    tried_as c.check_on.result (g.R.Read.remaining c.args.reader.now) _ g.R.Source.may_fail (Appends (g.W.Write.contents c.args.writer.now) (g.W.Write.contents c.check_on.new.writer)) books c.args.trial (trial.Check c.in-Check.format) c.in-Check.is
    (c.check_on.ensures.told books keeps)
