-- The texts, and the queries that they mean.
use Rattle.std.proofs.Common.{◌≡◌, ℕ, List, [], ◌∷◌, codes, pos, refl}
use Rattle.sqlite.specs.declared.types.Value.TheVariants.{Int, Text as Words}
use Rattle.sqlite.specs.Collation.TheVariants.{Binary}
use Rattle.sqlite.specs.Term.{Term, lit, col, op2}
use Rattle.sqlite_sql.specs.declared.ops.BinaryOp.TheVariants.{Compare}
use Rattle.sqlite_sql.specs.declared.ops.CompareOp.TheVariants.{Eq, Ne, Gt}
use Rattle.sqlite.specs.Command.TheVariants.{Select}
use Rattle.sqlite.specs.Listing.{understood}
use Rattle.sqlite_tied.specs.Compute.{everything}
use Rattle.sqlite.proofs.Callers.{command_of}
use Rattle.sql_tables.specs.Schema.{desk_schema}
use Rattle.sql_tables.specs.Statements.{IsQuery}
use Rattle.sqlite_value.specs.declared.keys.Key.{Key}
use Rattle.sql_tables.proofs.BlameLemmas.{IsWhole}
use Rattle.sql_tables.specs.Queries.{first_of, rising, falling, equals}

-- a column of the table is a literal, or is not, or is above a parameter
abbrev pub is_number : ℕ → ℕ → Term
is_number at n = op2 (Compare Eq Binary) (col 1 at) (lit (Int (pos n)))

abbrev pub is_other : ℕ → ℕ → Term
is_other at n = op2 (Compare Ne Binary) (col 1 at) (lit (Int (pos n)))

abbrev pub is_empty : ℕ → Term
is_empty at = op2 (Compare Eq Binary) (col 1 at) (lit (Words []))

abbrev pub is_above : ℕ → ℕ → Term
is_above at param = op2 (Compare Gt Binary) (col 1 at) (col 0 param)

-- what a text means: the first row, in order of a column, that passes some tests
pub record Finds (text : List ℕ) (by : Term) (key : Key) (terms shown : List Term) : Type 0 where
  pub names : List (List ℕ)
  pub is : command_of (understood desk_schema text) ≡ Select (record { lets = []; body = first_of 6 terms shown by key }) names
  pub query : IsQuery text

-- ---- numbers

abbrev pub entry_of_participant_text : List ℕ
entry_of_participant_text = codes "SELECT number FROM register WHERE sender = ?1 AND reference = ?2 ORDER BY number LIMIT 1"

pub finds_entry_of_participant : Finds entry_of_participant_text (col 1 0) rising (equals 2 0 ∷ equals 3 1 ∷ []) (col 1 0 ∷ [])
unfolding understood everything
finds_entry_of_participant = record { names = codes "number" ∷ []; is = refl; query = record { selects = refl; plain = (refl, refl); unlisted = refl } }

abbrev pub entry_of_operator_text : List ℕ
entry_of_operator_text = codes "SELECT number FROM register WHERE sender = '' AND reference = ?1 AND kind <> 8 AND kind <> 9 ORDER BY number LIMIT 1"

pub finds_entry_of_operator : Finds entry_of_operator_text (col 1 0) rising (is_empty 2 ∷ equals 3 0 ∷ is_other 4 8 ∷ is_other 4 9 ∷ []) (col 1 0 ∷ [])
unfolding understood everything
finds_entry_of_operator = record { names = codes "number" ∷ []; is = refl; query = record { selects = refl; plain = (refl, refl); unlisted = refl } }

-- ---- what is registered

abbrev pub participant_text : List ℕ
participant_text = codes "SELECT bic FROM register WHERE kind = 1 AND about = ?1 ORDER BY number LIMIT 1"

pub finds_participant : Finds participant_text (col 1 0) rising (is_number 4 1 ∷ equals 5 0 ∷ []) (col 1 6 ∷ [])
unfolding understood everything
finds_participant = record { names = codes "bic" ∷ []; is = refl; query = record { selects = refl; plain = (refl, refl); unlisted = refl } }

abbrev pub owner_text : List ℕ
owner_text = codes "SELECT bic FROM register WHERE kind = 2 AND about = ?1 ORDER BY number LIMIT 1"

pub finds_owner : Finds owner_text (col 1 0) rising (is_number 4 2 ∷ equals 5 0 ∷ []) (col 1 6 ∷ [])
unfolding understood everything
finds_owner = record { names = codes "bic" ∷ []; is = refl; query = record { selects = refl; plain = (refl, refl); unlisted = refl } }

abbrev pub security_text : List ℕ
security_text = codes "SELECT unit FROM register WHERE kind = 3 AND about = ?1 ORDER BY number LIMIT 1"

pub finds_security : Finds security_text (col 1 0) rising (is_number 4 3 ∷ equals 5 0 ∷ []) (col 1 9 ∷ [])
unfolding understood everything
finds_security = record { names = codes "unit" ∷ []; is = refl; query = record { selects = refl; plain = (refl, refl); unlisted = refl } }

-- ---- securities in order

abbrev pub first_security_text : List ℕ
first_security_text = codes "SELECT about FROM register WHERE kind = 3 ORDER BY about LIMIT 1"

pub finds_first_security : Finds first_security_text (col 1 5) rising (is_number 4 3 ∷ []) (col 1 5 ∷ [])
unfolding understood everything
finds_first_security = record { names = codes "about" ∷ []; is = refl; query = record { selects = refl; plain = (refl, refl); unlisted = refl } }

abbrev pub next_security_text : List ℕ
next_security_text = codes "SELECT about FROM register WHERE kind = 3 AND about > ?1 ORDER BY about LIMIT 1"

pub finds_next_security : Finds next_security_text (col 1 5) rising (is_number 4 3 ∷ is_above 5 0 ∷ []) (col 1 5 ∷ [])
unfolding understood everything
finds_next_security = record { names = codes "about" ∷ []; is = refl; query = record { selects = refl; plain = (refl, refl); unlisted = refl } }

-- ---- runs

abbrev pub last_run_text : List ℕ
last_run_text = codes "SELECT day FROM register WHERE kind = 10 AND about = '' ORDER BY number DESC LIMIT 1"

pub finds_last_run : Finds last_run_text (col 1 0) falling (is_number 4 10 ∷ is_empty 5 ∷ []) (col 1 13 ∷ [])
unfolding understood everything
finds_last_run = record { names = codes "day" ∷ []; is = refl; query = record { selects = refl; plain = (refl, refl); unlisted = refl } }

-- ---- instructions that are opposite to one

abbrev pub opposite_text : List ℕ
opposite_text =
    codes "SELECT number FROM register WHERE kind = 8 AND isin = ?1 AND day = ?2 AND quantity = ?3 AND sender = ?4 AND bic = ?5 AND mt = ?6 AND unit = ?7 AND currency = ?8 AND amount = ?9 AND number > ?10 ORDER BY number LIMIT 1"

abbrev pub opposite_terms : List Term
opposite_terms =
    is_number 4 8 ∷ equals 8 0 ∷ equals 13 1 ∷ equals 10 2 ∷ equals 2 3 ∷ equals 6 4 ∷ equals 15 5 ∷ equals 9 6 ∷ equals 11 7 ∷ equals 12 8 ∷ is_above 0 9 ∷ []

pub finds_opposite : Finds opposite_text (col 1 0) rising opposite_terms (col 1 0 ∷ [])
unfolding understood everything
finds_opposite = record { names = codes "number" ∷ []; is = refl; query = record { selects = refl; plain = (refl, refl); unlisted = refl } }

-- ---- each is one whole statement, of so many parameters

pub entry_of_participant_whole : IsWhole entry_of_participant_text 2
unfolding understood everything
entry_of_participant_whole = record { plain = (refl, refl); whole = refl; width_is = refl }

pub entry_of_operator_whole : IsWhole entry_of_operator_text 1
unfolding understood everything
entry_of_operator_whole = record { plain = (refl, refl); whole = refl; width_is = refl }

pub participant_whole : IsWhole participant_text 1
unfolding understood everything
participant_whole = record { plain = (refl, refl); whole = refl; width_is = refl }

pub owner_whole : IsWhole owner_text 1
unfolding understood everything
owner_whole = record { plain = (refl, refl); whole = refl; width_is = refl }

pub security_whole : IsWhole security_text 1
unfolding understood everything
security_whole = record { plain = (refl, refl); whole = refl; width_is = refl }

pub first_security_whole : IsWhole first_security_text 0
unfolding understood everything
first_security_whole = record { plain = (refl, refl); whole = refl; width_is = refl }

pub next_security_whole : IsWhole next_security_text 1
unfolding understood everything
next_security_whole = record { plain = (refl, refl); whole = refl; width_is = refl }

pub last_run_whole : IsWhole last_run_text 0
unfolding understood everything
last_run_whole = record { plain = (refl, refl); whole = refl; width_is = refl }

pub opposite_whole : IsWhole opposite_text 10
unfolding understood everything
opposite_whole = record { plain = (refl, refl); whole = refl; width_is = refl }
