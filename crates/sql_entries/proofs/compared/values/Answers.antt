use Rattle.std.proofs.Common.{List, ℕ, [], ◌∷◌, refl}
use Rattle.sql_entries.specs.Entries.{given_in}
use Rattle.sql_entries.proofs.ComparedRows.{plain_reordered, reordered}
use Rattle.sql_entries.proofs.compared.values.Goals as goal

abbrev places : List ℕ
places = 1 ∷ 2 ∷ 3 ∷ 5 ∷ 6 ∷ 7 ∷ 8 ∷ 9 ∷ 10 ∷ 11 ∷ 12 ∷ 13 ∷ 14 ∷ 15 ∷ 16 ∷ 17 ∷ 18 ∷ 19 ∷ 20 ∷ 0 ∷ 4 ∷ []

pub returns-clause-said : goal.returns-clause-said
returns-clause-said c = reordered c.row_values.result (given_in c.args.version c.args.number c.args.kept.now.entry c.args.kept.now.reply) places c.row_values.ensures.said refl

pub returns-clause-plain : goal.returns-clause-plain
returns-clause-plain c = plain_reordered c.row_values.result places c.row_values.ensures.plain
