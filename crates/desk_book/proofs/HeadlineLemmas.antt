-- What is held keeps the desk's promise.
use Rattle.std.proofs.Common.{ℕ, Bool}
use Rattle.desk_rules.specs.Books.{Books}
use Rattle.desk_rules.specs.Content.{Content}
use Rattle.desk_engine.proofs.SoundLemmas.{kept_is_sound}
use Rattle.desk_register.specs.View.{View}
use Rattle.desk_book.specs.Headline.{Headline, KeepsPromise}
use Rattle.desk_book.specs.Held.{Holds}
use Rattle.desk_engine.specs.Ready.{KeepsFormed}

pub headline : (limit : ℕ) (books : Books) (content : Content) → KeepsFormed limit books content → Headline limit books content
headline limit books content keeps = record {
  tables = keeps.tables.tables;
  accepted_in_turn = keeps.tables.accepted;
  well_formed = keeps.formed;
  sound = kept_is_sound limit books content keeps.tables keeps.formed;
}

pub promised : (is_closed : Bool) (view : View) (books : Books) → Holds is_closed view books → KeepsPromise is_closed view books
promised is_closed view books holds = λ open_yet. headline view.room books view.content (holds open_yet)
