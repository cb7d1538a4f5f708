-- What the texts on the table of messages mean.
use Rattle.std.proofs.Common.{◌≡◌, ℕ, ℤ, pos, List, [], ◌∷◌, true, codes, refl}
use Rattle.sqlite.specs.declared.types.Value.TheVariants.{Null, Int, Text as Words}
use Rattle.sqlite.specs.Term.{Term, lit, col, op2}
use Rattle.sqlite.specs.Collation.TheVariants.{Binary}
use Rattle.sqlite_sql.specs.declared.ops.BinaryOp.TheVariants.{Compare}
use Rattle.sqlite_sql.specs.declared.ops.CompareOp.TheVariants.{Ge, Gt, Le}
use Rattle.sqlite.specs.Command.TheVariants.{Select, Insert}
use Rattle.sqlite.specs.Source.TheVariants.{Values}
use Rattle.sqlite.specs.Listing.{understood}
use Rattle.sqlite_typing.specs.Types.{accepts_program}
use Rattle.sqlite_tied.specs.Compute.{everything}
use Rattle.sqlite.proofs.Callers.{command_of}
use Rattle.sql_tables.specs.Schema.{desk_schema}
use Rattle.sql_tables.specs.Statements.{IsEdit, IsQuery}
use Rattle.sql_tables.specs.Queries.{plain, first_of, rising, falling, equals}
use Rattle.sql_tables.proofs.BlameLemmas.{IsWhole}

abbrev pub number_text : List ℕ
number_text = codes "SELECT number FROM sent ORDER BY number DESC LIMIT 1"

abbrev pub next_text : List ℕ
next_text = codes "SELECT number FROM sent WHERE bic = ?1 AND number > ?2 ORDER BY number LIMIT 1"

abbrev pub message_text : List ℕ
message_text = codes "SELECT bic, mt, about, text FROM sent WHERE number = ?1"

abbrev pub confirmation_text : List ℕ
confirmation_text = codes "SELECT bic, mt, about, text FROM sent WHERE about = ?1 AND mt >= 544 AND mt <= 547 ORDER BY number LIMIT 1"

abbrev pub insert_text : List ℕ
insert_text = codes "INSERT INTO sent (number, bic, mt, about, text) VALUES (?1, ?2, ?3, ?4, ?5)"

abbrev pub by_bic : Term
by_bic = equals 2 0

abbrev pub past : Term
past = op2 (Compare Gt Binary) (col 1 0) (col 0 1)

abbrev pub by_number : Term
by_number = equals 0 0

abbrev pub by_about : Term
by_about = equals 4 0

abbrev pub from_544 : Term
from_544 = op2 (Compare Ge Binary) (col 1 3) (lit (Int (pos 544)))

abbrev pub to_547 : Term
to_547 = op2 (Compare Le Binary) (col 1 3) (lit (Int (pos 547)))

abbrev pub message_columns : List Term
message_columns = col 1 2 ∷ col 1 3 ∷ col 1 4 ∷ col 1 5 ∷ []

abbrev pub insert_terms : List Term
insert_terms = col 0 0 ∷ lit Null ∷ col 0 1 ∷ col 0 2 ∷ col 0 3 ∷ col 0 4 ∷ []

pub number_is : command_of (understood desk_schema number_text) ≡ Select (record { lets = []; body = first_of 9 [] (col 1 0 ∷ []) (col 1 0) falling }) (codes "number" ∷ [])
unfolding understood everything
number_is = refl

pub number_query : IsQuery number_text
unfolding understood everything
number_query = record { selects = refl; plain = (refl, refl); unlisted = refl }

pub next_is : command_of (understood desk_schema next_text) ≡ Select (record { lets = []; body = first_of 9 (by_bic ∷ past ∷ []) (col 1 0 ∷ []) (col 1 0) rising }) (codes "number" ∷ [])
unfolding understood everything
next_is = refl

pub next_query : IsQuery next_text
unfolding understood everything
next_query = record { selects = refl; plain = (refl, refl); unlisted = refl }

pub message_is : command_of (understood desk_schema message_text) ≡ Select (record { lets = []; body = plain 9 (by_number ∷ []) message_columns }) (codes "bic" ∷ codes "mt" ∷ codes "about" ∷ codes "text" ∷ [])
unfolding understood everything
message_is = refl

pub message_query : IsQuery message_text
unfolding understood everything
message_query = record { selects = refl; plain = (refl, refl); unlisted = refl }

pub confirmation_is : command_of (understood desk_schema confirmation_text)
    ≡ Select (record { lets = []; body = first_of 9 (by_about ∷ from_544 ∷ to_547 ∷ []) message_columns (col 1 0) rising }) (codes "bic" ∷ codes "mt" ∷ codes "about" ∷ codes "text" ∷ [])
unfolding understood everything
confirmation_is = refl

pub confirmation_query : IsQuery confirmation_text
unfolding understood everything
confirmation_query = record { selects = refl; plain = (refl, refl); unlisted = refl }

pub insert_is : command_of (understood desk_schema insert_text) ≡ Insert 5 (Values insert_terms 6)
unfolding understood everything
insert_is = refl

pub insert_edit : IsEdit insert_text
unfolding understood everything
insert_edit = record { changes = refl; plain = (refl, refl) }

-- ---- each is one whole statement

pub number_whole : IsWhole number_text 0
unfolding understood everything
number_whole = record { plain = (refl, refl); whole = refl; width_is = refl }

pub next_whole : IsWhole next_text 2
unfolding understood everything
next_whole = record { plain = (refl, refl); whole = refl; width_is = refl }

pub message_whole : IsWhole message_text 1
unfolding understood everything
message_whole = record { plain = (refl, refl); whole = refl; width_is = refl }

pub confirmation_whole : IsWhole confirmation_text 1
unfolding understood everything
confirmation_whole = record { plain = (refl, refl); whole = refl; width_is = refl }

pub insert_whole : IsWhole insert_text 5
unfolding understood everything
insert_whole = record { plain = (refl, refl); whole = refl; width_is = refl }

-- ---- the parameters are of the kinds that are compared

pub number_typed : accepts_program desk_schema [] (first_of 9 [] (col 1 0 ∷ []) (col 1 0) falling) [] ≡ true
number_typed = refl

pub next_typed : (bic : List ℕ) (after : ℤ) → accepts_program desk_schema [] (first_of 9 (by_bic ∷ past ∷ []) (col 1 0 ∷ []) (col 1 0) rising) (Words bic ∷ Int after ∷ []) ≡ true
next_typed bic after = refl

pub message_typed : (number : ℤ) → accepts_program desk_schema [] (plain 9 (by_number ∷ []) message_columns) (Int number ∷ []) ≡ true
message_typed number = refl

pub confirmation_typed : (about : ℤ) → accepts_program desk_schema [] (first_of 9 (by_about ∷ from_544 ∷ to_547 ∷ []) message_columns (col 1 0) rising) (Int about ∷ []) ≡ true
confirmation_typed about = refl
