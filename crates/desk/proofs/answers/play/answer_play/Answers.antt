use Rattle.std.proofs.Common.{refl}
use Rattle.desk_rules.specs.declared.limits.TheConstants.{MOST_ENTRIES}
use Rattle.desk_engine.specs.Applied.{no_books}
use Rattle.desk_book.proofs.FormedLemmas.{empty_formed}
use Rattle.desk.proofs.answers.play.answer_play.Goals as goal

pub play_on-requires-clause-ready : goal.play_on-requires-clause-ready
play_on-requires-clause-ready g c = record { stage = λ is. c.new-memory.ensures.stage; sure = λ is honest. tt; device = λ is honest. tt; books = λ is honest. (no_books, empty_formed _ _ c.new-memory.ensures.empty) }

pub returns-clause-told : goal.returns-clause-told
returns-clause-told g c = c.play_on.ensures.told no_books (empty_formed MOST_ENTRIES _ c.new-memory.ensures.empty)
