-- What the texts mean, compiled against the desk's tables.
use Rattle.std.proofs.Common.{◌≡◌, ℕ, List, [], ◌∷◌, codes, refl}
use Rattle.sqlite.specs.declared.types.Value.TheVariants.{Null}
use Rattle.sqlite.specs.Command.TheVariants.{Select, Insert}
use Rattle.sqlite.specs.Source.TheVariants.{Values}
use Rattle.sqlite.specs.Listing.{understood}
use Rattle.sqlite.specs.Query.{Query}
use Rattle.sqlite.specs.Term.{Term, lit, col}
use Rattle.sqlite_tied.specs.Compute.{everything}
use Rattle.sqlite.proofs.Callers.{IsPlain, command_of}
use Rattle.sql_tables.specs.Schema.{desk_schema}
use Rattle.sql_tables.specs.Statements.{IsEdit, IsQuery}
use Rattle.sql_tables.proofs.BlameLemmas.{IsWhole}
use Rattle.sql_tables.specs.Queries.{plain, first_of, falling, equals}

abbrev pub insert_text : List ℕ
insert_text =
    codes "INSERT INTO register (number, sender, reference, kind, about, bic, account, isin, unit, quantity, currency, amount, day, rule, mt, settlement, place, previous, status, reply_mt, reply) VALUES (?1, ?2, ?3, ?4, ?5, ?6, ?7, ?8, ?9, ?10, ?11, ?12, ?13, ?14, ?15, ?16, ?17, ?18, ?19, ?20, ?21)"

abbrev pub last_text : List ℕ
last_text = codes "SELECT number FROM register ORDER BY number DESC LIMIT 1"

abbrev pub entry_text : List ℕ
entry_text =
    codes "SELECT sender, reference, kind, bic, account, isin, unit, quantity, currency, amount, day, rule, mt, settlement, place, previous FROM register WHERE number = ?1"

abbrev pub reply_text : List ℕ
reply_text = codes "SELECT status, reply_mt, reply FROM register WHERE number = ?1"

abbrev pub insert_terms : List Term
insert_terms =
    col 0 0 ∷ lit Null ∷ col 0 1 ∷ col 0 2 ∷ col 0 3 ∷ col 0 4 ∷ col 0 5 ∷ col 0 6 ∷ col 0 7 ∷ col 0 8 ∷ col 0 9 ∷ col 0 10 ∷ col 0 11 ∷ col 0 12 ∷ col 0 13
    ∷ col 0 14 ∷ col 0 15 ∷ col 0 16 ∷ col 0 17 ∷ col 0 18 ∷ col 0 19 ∷ col 0 20 ∷ []

abbrev pub by_number : Term
by_number = equals 0 0

abbrev pub entry_terms : List Term
entry_terms =
    col 1 2 ∷ col 1 3 ∷ col 1 4 ∷ col 1 6 ∷ col 1 7 ∷ col 1 8 ∷ col 1 9 ∷ col 1 10 ∷ col 1 11 ∷ col 1 12 ∷ col 1 13 ∷ col 1 14 ∷ col 1 15 ∷ col 1 16
    ∷ col 1 17 ∷ col 1 18 ∷ []

abbrev pub reply_terms : List Term
reply_terms = col 1 19 ∷ col 1 20 ∷ col 1 21 ∷ []

-- the greatest number first
abbrev pub last_query : Query
last_query = first_of 6 [] (col 1 0 ∷ []) (col 1 0) falling

pub insert_is : command_of (understood desk_schema insert_text) ≡ Insert 3 (Values insert_terms 22)
unfolding understood everything
insert_is = refl

pub insert_plain : IsPlain (understood desk_schema insert_text)
unfolding understood everything
insert_plain = (refl, refl)

pub insert_edit : IsEdit insert_text
unfolding understood everything
insert_edit = record { changes = refl; plain = (refl, refl) }

pub last_is : command_of (understood desk_schema last_text) ≡ Select (record { lets = []; body = last_query }) (codes "number" ∷ [])
unfolding understood everything
last_is = refl

pub lasts : IsQuery last_text
unfolding understood everything
lasts = record { selects = refl; plain = (refl, refl); unlisted = refl }

pub reply_is : command_of (understood desk_schema reply_text) ≡ Select (record { lets = []; body = plain 6 (by_number ∷ []) reply_terms }) (codes "status" ∷ codes "reply_mt" ∷ codes "reply" ∷ [])
unfolding understood everything
reply_is = refl

pub replies : IsQuery reply_text
unfolding understood everything
replies = record { selects = refl; plain = (refl, refl); unlisted = refl }

abbrev pub entry_names : List (List ℕ)
entry_names =
    codes "sender" ∷ codes "reference" ∷ codes "kind" ∷ codes "bic" ∷ codes "account" ∷ codes "isin" ∷ codes "unit" ∷ codes "quantity" ∷ codes "currency"
    ∷ codes "amount" ∷ codes "day" ∷ codes "rule" ∷ codes "mt" ∷ codes "settlement" ∷ codes "place" ∷ codes "previous" ∷ []

pub entry_is : command_of (understood desk_schema entry_text) ≡ Select (record { lets = []; body = plain 6 (by_number ∷ []) entry_terms }) entry_names
unfolding understood everything
entry_is = refl

pub entries : IsQuery entry_text
unfolding understood everything
entries = record { selects = refl; plain = (refl, refl); unlisted = refl }

-- ---- each is one whole statement, of so many parameters

pub insert_whole : IsWhole insert_text 21
unfolding understood everything
insert_whole = record { plain = (refl, refl); whole = refl; width_is = refl }

pub last_whole : IsWhole last_text 0
unfolding understood everything
last_whole = record { plain = (refl, refl); whole = refl; width_is = refl }

pub entry_whole : IsWhole entry_text 1
unfolding understood everything
entry_whole = record { plain = (refl, refl); whole = refl; width_is = refl }

pub reply_whole : IsWhole reply_text 1
unfolding understood everything
reply_whole = record { plain = (refl, refl); whole = refl; width_is = refl }
