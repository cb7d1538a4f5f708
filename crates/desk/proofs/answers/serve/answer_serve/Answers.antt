use Rattle.desk_engine.specs.Applied.{no_books}
use Rattle.desk_book.proofs.FormedLemmas.{empty_formed}
use Rattle.desk.proofs.answers.serve.answer_serve.Goals as goal

pub new-desk-requires : goal.new-desk-requires
new-desk-requires g c = record { stage = λ is. c.new.ensures.stage; sure = λ is honest. tt; device = λ is honest. tt; books = λ is honest. (no_books, empty_formed _ _ c.new.ensures.empty) }
