-- What the texts on the standings mean.
use Rattle.std.proofs.Common.{◌≡◌, ℕ, pos, List, [], ◌∷◌, true, codes, refl}
use Rattle.sqlite.specs.declared.types.Value.TheVariants.{Null, Int}
use Rattle.sqlite.specs.Term.{Term, lit, col, op2}
use Rattle.sqlite.specs.Collation.TheVariants.{Binary}
use Rattle.sqlite_sql.specs.declared.ops.BinaryOp.TheVariants.{Compare}
use Rattle.sqlite_sql.specs.declared.ops.CompareOp.TheVariants.{Eq, Gt}
use Rattle.sqlite.specs.Command.TheVariants.{Select, Insert, Update}
use Rattle.sqlite.specs.Source.TheVariants.{Values}
use Rattle.sqlite.specs.Listing.{understood}
use Rattle.sqlite_typing.specs.Types.{accepts_program}
use Rattle.sqlite_tied.specs.Compute.{everything}
use Rattle.sqlite.proofs.Callers.{command_of}
use Rattle.sql_tables.specs.Schema.{desk_schema}
use Rattle.sql_tables.specs.Statements.{IsEdit, IsQuery}
use Rattle.sql_tables.specs.Queries.{plain, first_of, rising, equals}
use Rattle.sql_tables.proofs.BlameLemmas.{IsWhole}

-- ---- where instructions stand

abbrev pub read_text : List ℕ
read_text = codes "SELECT mate, state, reason, asked FROM state WHERE number = ?1"

abbrev pub add_text : List ℕ
add_text = codes "INSERT INTO state (number, mate, state, reason, asked) VALUES (?1, 0, 1, 0, 0)"

abbrev pub stand_text : List ℕ
stand_text = codes "UPDATE state SET mate = ?2, state = ?3, reason = ?4 WHERE number = ?1"

abbrev pub state_text : List ℕ
state_text = codes "UPDATE state SET state = ?2, reason = ?3 WHERE number = ?1"

abbrev pub ask_text : List ℕ
ask_text = codes "UPDATE state SET asked = 1 WHERE number = ?1"

-- the row of a number
abbrev pub by_number : Term
by_number = equals 0 0

abbrev pub read_shown : List Term
read_shown = col 1 2 ∷ col 1 3 ∷ col 1 4 ∷ col 1 5 ∷ []

abbrev pub add_terms : List Term
add_terms = col 0 0 ∷ lit Null ∷ lit (Int (pos 0)) ∷ lit (Int (pos 1)) ∷ lit (Int (pos 0)) ∷ lit (Int (pos 0)) ∷ []

abbrev pub stand_shown : List Term
stand_shown = col 1 0 ∷ col 1 0 ∷ lit Null ∷ col 0 1 ∷ col 0 2 ∷ col 0 3 ∷ col 1 5 ∷ []

abbrev pub state_shown : List Term
state_shown = col 1 0 ∷ col 1 0 ∷ lit Null ∷ col 1 2 ∷ col 0 1 ∷ col 0 2 ∷ col 1 5 ∷ []

abbrev pub ask_shown : List Term
ask_shown = col 1 0 ∷ col 1 0 ∷ lit Null ∷ col 1 2 ∷ col 1 3 ∷ col 1 4 ∷ lit (Int (pos 1)) ∷ []

pub reads : IsQuery read_text
unfolding understood everything
reads = record { selects = refl; plain = (refl, refl); unlisted = refl }

pub read_is : command_of (understood desk_schema read_text) ≡ Select (record { lets = []; body = plain 8 (by_number ∷ []) read_shown }) (codes "mate" ∷ codes "state" ∷ codes "reason" ∷ codes "asked" ∷ [])
unfolding understood everything
read_is = refl

pub read_whole : IsWhole read_text 1
unfolding understood everything
read_whole = record { plain = (refl, refl); whole = refl; width_is = refl }

pub read_typed : (n : ℕ) → accepts_program desk_schema [] (plain 8 (by_number ∷ []) read_shown) (Int (pos n) ∷ []) ≡ true
read_typed n = refl

pub adds : IsEdit add_text
unfolding understood everything
adds = record { changes = refl; plain = (refl, refl) }

pub add_is : command_of (understood desk_schema add_text) ≡ Insert 4 (Values add_terms 6)
unfolding understood everything
add_is = refl

pub add_whole : IsWhole add_text 1
unfolding understood everything
add_whole = record { plain = (refl, refl); whole = refl; width_is = refl }

pub stands : IsEdit stand_text
unfolding understood everything
stands = record { changes = refl; plain = (refl, refl) }

pub stand_is : command_of (understood desk_schema stand_text) ≡ Update 4 (record { lets = []; body = plain 8 (by_number ∷ []) stand_shown })
unfolding understood everything
stand_is = refl

pub stand_whole : IsWhole stand_text 4
unfolding understood everything
stand_whole = record { plain = (refl, refl); whole = refl; width_is = refl }

pub stand_typed : (n mate code reason : ℕ) → accepts_program desk_schema [] (plain 8 (by_number ∷ []) stand_shown) (Int (pos n) ∷ Int (pos mate) ∷ Int (pos code) ∷ Int (pos reason) ∷ []) ≡ true
stand_typed n mate code reason = refl

pub changes_state : IsEdit state_text
unfolding understood everything
changes_state = record { changes = refl; plain = (refl, refl) }

pub state_is : command_of (understood desk_schema state_text) ≡ Update 4 (record { lets = []; body = plain 8 (by_number ∷ []) state_shown })
unfolding understood everything
state_is = refl

pub state_whole : IsWhole state_text 3
unfolding understood everything
state_whole = record { plain = (refl, refl); whole = refl; width_is = refl }

pub state_typed : (n code reason : ℕ) → accepts_program desk_schema [] (plain 8 (by_number ∷ []) state_shown) (Int (pos n) ∷ Int (pos code) ∷ Int (pos reason) ∷ []) ≡ true
state_typed n code reason = refl

pub asks : IsEdit ask_text
unfolding understood everything
asks = record { changes = refl; plain = (refl, refl) }

pub ask_is : command_of (understood desk_schema ask_text) ≡ Update 4 (record { lets = []; body = plain 8 (by_number ∷ []) ask_shown })
unfolding understood everything
ask_is = refl

pub ask_whole : IsWhole ask_text 1
unfolding understood everything
ask_whole = record { plain = (refl, refl); whole = refl; width_is = refl }

pub ask_typed : (n : ℕ) → accepts_program desk_schema [] (plain 8 (by_number ∷ []) ask_shown) (Int (pos n) ∷ []) ≡ true
ask_typed n = refl

-- ---- what waits to be settled

abbrev pub next_text : List ℕ
next_text = codes "SELECT number FROM state WHERE state = 2 AND number > ?1 ORDER BY number LIMIT 1"

abbrev pub matched : Term
matched = op2 (Compare Eq Binary) (col 1 3) (lit (Int (pos 2)))

abbrev pub above : Term
above = op2 (Compare Gt Binary) (col 1 0) (col 0 0)

abbrev pub next_tests : List Term
next_tests = matched ∷ above ∷ []

pub finds_next : IsQuery next_text
unfolding understood everything
finds_next = record { selects = refl; plain = (refl, refl); unlisted = refl }

pub next_is : command_of (understood desk_schema next_text) ≡ Select (record { lets = []; body = first_of 8 next_tests (col 1 0 ∷ []) (col 1 0) rising }) (codes "number" ∷ [])
unfolding understood everything
next_is = refl

pub next_whole : IsWhole next_text 1
unfolding understood everything
next_whole = record { plain = (refl, refl); whole = refl; width_is = refl }

pub next_typed : (after : ℕ) → accepts_program desk_schema [] (first_of 8 next_tests (col 1 0 ∷ []) (col 1 0) rising) (Int (pos after) ∷ []) ≡ true
next_typed after = refl
