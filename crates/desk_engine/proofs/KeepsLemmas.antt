-- What a register keeps, in the relations in which the steps are proved, and back.
use Rattle.std.proofs.Common.{ℕ, refl, sym, subst}
use Rattle.desk_rules.specs.declared.history.standing.Standing.{Standing}
use Rattle.desk_rules.specs.History.{instruction_at}
use Rattle.desk_rules.specs.Books.{Books}
use Rattle.desk_rules.specs.Content.{Content}
use Rattle.desk_rules.specs.Stands.{StandsAt}
use Rattle.desk_rules.specs.Tables.{AreTables, HasReplies}
use Rattle.desk_rules.proofs.StandsLemmas.{stands_is, is_stands}
use Rattle.desk_engine.specs.Applied.{Keeps}
use Rattle.desk_engine.specs.Tables.{Tables}

pub tables_of : (limit : ℕ) (books : Books) (content : Content) → Keeps limit books content → Tables limit books content
tables_of limit books content keeps = record {
  history = keeps.tables.history;
  are_books = keeps.tables.are;
  accepted = keeps.accepted;
  standing = λ k.
      let P : Standing → Type 0 = λ s. StandsAt books k (instruction_at books.history k) s in
      subst P (sym (keeps.tables.standings.each k)) (is_stands books keeps.tables.are k (instruction_at books.history k) refl);
  position = keeps.tables.positions;
  cash = keeps.tables.cash;
  sent = keeps.tables.sent;
}

pub are_tables_of : (limit : ℕ) (books : Books) (content : Content) → Tables limit books content → HasReplies books content → AreTables books content
are_tables_of limit books content tables replies = record {
  history = tables.history;
  are = tables.are_books;
  replies = replies;
  standings = record { each = λ k. stands_is books tables.are_books k (content.standing k) (instruction_at books.history k) refl (tables.standing k) };
  positions = tables.position;
  cash = tables.cash;
  sent = tables.sent;
}
