use Rattle.desk.proofs.answers.migrate.read_old.Goals as goal

pub returns-in-Ok-clause-which : goal.returns-in-Ok-clause-which
returns-in-Ok-clause-which g c = record { which = c.in-Ok.ensures.which; kept = c.in-Ok.ensures.kept }
