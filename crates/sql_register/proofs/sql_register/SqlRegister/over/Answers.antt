use Rattle.sql_register.proofs.sql_register.SqlRegister.over.Goals as goal

pub invariant_of-result : goal.invariant_of-result
invariant_of-result g c = (c.requires.desk, record { few = c.requires.limit; unlimited = c.requires.unlimited })
