-- What the texts on the tables of amounts mean. Each is compiled once, and what is known of it follows from that.
use Rattle.std.proofs.Common.{◌≡◌, ℕ, pos, List, [], ◌∷◌, length, true, codes, Ok, None, IsTrue, nat_le, refl, sym, ap, subst, arith}
use Rattle.std.proofs.lemmas.Bool.{le-leb}
use Rattle.sqlite.specs.declared.types.Value.TheVariants.{Null, Int, Text as Words}
use Rattle.sqlite.specs.Collation.TheVariants.{Binary}
use Rattle.sqlite.specs.Term.{Term, lit, col, op2}
use Rattle.sqlite_sql.specs.declared.ops.BinaryOp.TheVariants.{Compare, Arith}
use Rattle.sqlite_sql.specs.declared.ops.CompareOp.TheVariants.{Ge, Gt}
use Rattle.sqlite_sql.specs.declared.ops.ArithOp.TheVariants.{Sub, Add}
use Rattle.sqlite.specs.Command.{Command}
use Rattle.sqlite.specs.Command.TheVariants.{Select, Update, Insert}
use Rattle.sqlite.specs.Source.TheVariants.{Values}
use Rattle.sqlite.specs.Compile.{compiled}
use Rattle.sqlite.specs.Listing.{understood, misses_table}
use Rattle.sqlite_typing.specs.Types.{accepts_program}
use Rattle.sqlite_tied.specs.Compute.{everything}
use Rattle.sqlite.proofs.Callers.{IsPlain, command_of}
use Rattle.sql_tables.specs.Schema.{desk_schema}
use Rattle.sql_tables.specs.Statements.{IsEdit, IsQuery, changes_rows, command_in, selects}
use Rattle.sql_tables.specs.Queries.{plain, first_of, rising, equals}
use Rattle.sql_tables.proofs.BlameLemmas.{IsWhole, tail_in, width_in}
use Rattle.sql_rows.specs.declared.amounts.key.Ledger.{Ledger}
use Rattle.sql_rows.specs.declared.amounts.key.Ledger.TheVariants.{Balance, Cash, Total}
use Rattle.sql_rows.specs.Keys.{tree_of}
use Rattle.sql_rows.specs.AmountStatements.{amount_text, take_text, put_text, first_text, next_text, held_text, held_cash_text}

-- ---- the terms, the same of each table

abbrev pub by_first : Term
by_first = equals 1 0

abbrev pub by_second : Term
by_second = equals 2 1

abbrev pub enough : Term
enough = op2 (Compare Ge Binary) (col 1 3) (col 0 2)

abbrev pub above : Term
above = op2 (Compare Gt Binary) (col 1 2) (col 0 1)

abbrev pub some : Term
some = op2 (Compare Gt Binary) (col 1 3) (lit (Int (pos 0)))

abbrev pub with_amount : Term → List Term
with_amount term = col 1 0 ∷ col 1 0 ∷ col 1 1 ∷ col 1 2 ∷ term ∷ []

abbrev pub less_shown : List Term
less_shown = with_amount (op2 (Arith Sub) (col 1 3) (col 0 2))

abbrev pub more_shown : List Term
more_shown = with_amount (op2 (Arith Add) (col 1 3) (col 0 2))

abbrev pub key_terms : List Term
key_terms = by_first ∷ by_second ∷ []

abbrev pub take_terms : List Term
take_terms = by_first ∷ by_second ∷ enough ∷ []

abbrev pub next_terms : List Term
next_terms = by_first ∷ above ∷ some ∷ []

abbrev pub code_terms : List Term
code_terms = equals 2 0 ∷ []

abbrev pub first_terms : List Term
first_terms = lit Null ∷ col 0 0 ∷ col 0 1 ∷ col 0 2 ∷ []

-- the place of the table in the schema
abbrev pub place_of : Ledger → ℕ
place_of Balance = 0
place_of Cash = 1
place_of Total = 2

-- the name of the column that has the amount
abbrev pub amount_name : Ledger → List ℕ
amount_name Balance = codes "quantity"
amount_name Cash = codes "amount"
amount_name Total = codes "amount"

-- ---- a text that was compiled

-- it is one whole statement, this command of parameters of these names, and asks neither for rows back nor for the time
abbrev IsRead : List ℕ → Command → List (List ℕ) → Type 0
IsRead text command names = compiled desk_schema text ≡ Ok (record { command = command; returning = None; names = names; formats = []; start = 0; end = length text; tail = length text })

module _ (text : List ℕ) (command : Command) (names : List (List ℕ)) (read : IsRead text command names) where
  understood_so : understood desk_schema text ≡ Ok (record { command = command; returning = None; names = names; formats = []; start = 0; end = length text; tail = length text })
  unfolding understood
  understood_so = rw read refl

  plain_so : IsPlain (understood desk_schema text)
  plain_so = subst IsPlain (sym understood_so) (refl, refl)

  command_so : command_of (understood desk_schema text) ≡ command
  command_so = ap command_of understood_so

  edit_so : IsTrue (changes_rows command) → IsEdit text
  edit_so changes = record { changes = subst (λ r. IsTrue (changes_rows (command_in r))) (sym understood_so) changes; plain = plain_so }

  query_so : IsTrue (selects command) → IsQuery text
  query_so is = record { selects = subst (λ r. IsTrue (selects (command_in r))) (sym understood_so) is; plain = plain_so; unlisted = ap misses_table read }

  whole_so : IsWhole text (length names)
  whole_so = record {
    plain = plain_so;
    whole = subst (λ r. nat_le (length text) (tail_in r) ≡ true) (sym understood_so) (le-leb (length text) (length text) (omega arith));
    width_is = ap width_in understood_so;
  }

abbrev one_name : List (List ℕ)
one_name = codes "?1" ∷ []

abbrev two_names : List (List ℕ)
two_names = codes "?1" ∷ codes "?2" ∷ []

abbrev three_names : List (List ℕ)
three_names = codes "?1" ∷ codes "?2" ∷ codes "?3" ∷ []

-- ---- what each text means

abbrev amount_command : Ledger → Command
amount_command ledger = Select (record { lets = []; body = plain (tree_of ledger) key_terms (col 1 3 ∷ []) }) (amount_name ledger ∷ [])

amount_read : (ledger : Ledger) → IsRead (amount_text ledger) (amount_command ledger) two_names
unfolding everything
amount_read Balance = refl
amount_read Cash = refl
amount_read Total = refl

pub amount_is : (ledger : Ledger) → command_of (understood desk_schema (amount_text ledger)) ≡ Select (record { lets = []; body = plain (tree_of ledger) key_terms (col 1 3 ∷ []) }) (amount_name ledger ∷ [])
amount_is ledger = command_so (amount_text ledger) (amount_command ledger) two_names (amount_read ledger)

pub amount_query : (ledger : Ledger) → IsQuery (amount_text ledger)
amount_query ledger = query_so (amount_text ledger) (amount_command ledger) two_names (amount_read ledger) refl

pub amount_whole : (ledger : Ledger) → IsWhole (amount_text ledger) 2
amount_whole ledger = whole_so (amount_text ledger) (amount_command ledger) two_names (amount_read ledger)

abbrev take_command : Ledger → Command
take_command ledger = Update (place_of ledger) (record { lets = []; body = plain (tree_of ledger) take_terms less_shown })

take_read : (ledger : Ledger) → IsRead (take_text ledger) (take_command ledger) three_names
unfolding everything
take_read Balance = refl
take_read Cash = refl
take_read Total = refl

pub take_is : (ledger : Ledger) → command_of (understood desk_schema (take_text ledger)) ≡ Update (place_of ledger) (record { lets = []; body = plain (tree_of ledger) take_terms less_shown })
take_is ledger = command_so (take_text ledger) (take_command ledger) three_names (take_read ledger)

pub take_edit : (ledger : Ledger) → IsEdit (take_text ledger)
take_edit ledger = edit_so (take_text ledger) (take_command ledger) three_names (take_read ledger) refl

pub take_whole : (ledger : Ledger) → IsWhole (take_text ledger) 3
take_whole ledger = whole_so (take_text ledger) (take_command ledger) three_names (take_read ledger)

abbrev put_command : Ledger → Command
put_command ledger = Update (place_of ledger) (record { lets = []; body = plain (tree_of ledger) key_terms more_shown })

put_read : (ledger : Ledger) → IsRead (put_text ledger) (put_command ledger) three_names
unfolding everything
put_read Balance = refl
put_read Cash = refl
put_read Total = refl

pub put_is : (ledger : Ledger) → command_of (understood desk_schema (put_text ledger)) ≡ Update (place_of ledger) (record { lets = []; body = plain (tree_of ledger) key_terms more_shown })
put_is ledger = command_so (put_text ledger) (put_command ledger) three_names (put_read ledger)

pub put_edit : (ledger : Ledger) → IsEdit (put_text ledger)
put_edit ledger = edit_so (put_text ledger) (put_command ledger) three_names (put_read ledger) refl

pub put_whole : (ledger : Ledger) → IsWhole (put_text ledger) 3
put_whole ledger = whole_so (put_text ledger) (put_command ledger) three_names (put_read ledger)

abbrev first_command : Ledger → Command
first_command ledger = Insert (place_of ledger) (Values first_terms 4)

first_read : (ledger : Ledger) → IsRead (first_text ledger) (first_command ledger) three_names
unfolding everything
first_read Balance = refl
first_read Cash = refl
first_read Total = refl

pub first_is : (ledger : Ledger) → command_of (understood desk_schema (first_text ledger)) ≡ Insert (place_of ledger) (Values first_terms 4)
first_is ledger = command_so (first_text ledger) (first_command ledger) three_names (first_read ledger)

pub first_edit : (ledger : Ledger) → IsEdit (first_text ledger)
first_edit ledger = edit_so (first_text ledger) (first_command ledger) three_names (first_read ledger) refl

pub first_whole : (ledger : Ledger) → IsWhole (first_text ledger) 3
first_whole ledger = whole_so (first_text ledger) (first_command ledger) three_names (first_read ledger)

abbrev next_command : Command
next_command = Select (record { lets = []; body = first_of 0 next_terms (col 1 2 ∷ col 1 3 ∷ []) (col 1 2) rising }) (codes "isin" ∷ codes "quantity" ∷ [])

next_read : IsRead next_text next_command two_names
unfolding everything
next_read = refl

pub next_is : command_of (understood desk_schema next_text) ≡ Select (record { lets = []; body = first_of 0 next_terms (col 1 2 ∷ col 1 3 ∷ []) (col 1 2) rising }) (codes "isin" ∷ codes "quantity" ∷ [])
next_is = command_so next_text next_command two_names next_read

pub next_query : IsQuery next_text
next_query = query_so next_text next_command two_names next_read refl

pub next_whole : IsWhole next_text 2
next_whole = whole_so next_text next_command two_names next_read

abbrev held_command : Command
held_command = Select (record { lets = []; body = plain (tree_of Balance) code_terms (col 1 3 ∷ []) }) (amount_name Balance ∷ [])

held_read : IsRead held_text held_command one_name
unfolding everything
held_read = refl

pub held_is : command_of (understood desk_schema held_text) ≡ Select (record { lets = []; body = plain (tree_of Balance) code_terms (col 1 3 ∷ []) }) (amount_name Balance ∷ [])
held_is = command_so held_text held_command one_name held_read

pub held_query : IsQuery held_text
held_query = query_so held_text held_command one_name held_read refl

pub held_whole : IsWhole held_text 1
held_whole = whole_so held_text held_command one_name held_read

abbrev held_cash_command : Command
held_cash_command = Select (record { lets = []; body = plain (tree_of Cash) code_terms (col 1 3 ∷ []) }) (amount_name Cash ∷ [])

held_cash_read : IsRead held_cash_text held_cash_command one_name
unfolding everything
held_cash_read = refl

pub held_cash_is : command_of (understood desk_schema held_cash_text) ≡ Select (record { lets = []; body = plain (tree_of Cash) code_terms (col 1 3 ∷ []) }) (amount_name Cash ∷ [])
held_cash_is = command_so held_cash_text held_cash_command one_name held_cash_read

pub held_cash_query : IsQuery held_cash_text
held_cash_query = query_so held_cash_text held_cash_command one_name held_cash_read refl

pub held_cash_whole : IsWhole held_cash_text 1
held_cash_whole = whole_so held_cash_text held_cash_command one_name held_cash_read

-- ---- the parameters are of the kinds that are compared and written

pub amount_typed : (ledger : Ledger) (s t : List ℕ) → accepts_program desk_schema [] (plain (tree_of ledger) key_terms (col 1 3 ∷ [])) (Words s ∷ Words t ∷ []) ≡ true
amount_typed Balance s t = refl
amount_typed Cash s t = refl
amount_typed Total s t = refl

pub take_typed : (ledger : Ledger) (s t : List ℕ) (d : ℕ) → accepts_program desk_schema [] (plain (tree_of ledger) take_terms less_shown) (Words s ∷ Words t ∷ Int (pos d) ∷ []) ≡ true
take_typed Balance s t d = refl
take_typed Cash s t d = refl
take_typed Total s t d = refl

pub put_typed : (ledger : Ledger) (s t : List ℕ) (d : ℕ) → accepts_program desk_schema [] (plain (tree_of ledger) key_terms more_shown) (Words s ∷ Words t ∷ Int (pos d) ∷ []) ≡ true
put_typed Balance s t d = refl
put_typed Cash s t d = refl
put_typed Total s t d = refl

pub next_typed : (s t : List ℕ) → accepts_program desk_schema [] (first_of 0 next_terms (col 1 2 ∷ col 1 3 ∷ []) (col 1 2) rising) (Words s ∷ Words t ∷ []) ≡ true
next_typed s t = refl

pub code_typed : (ledger : Ledger) (s : List ℕ) → accepts_program desk_schema [] (plain (tree_of ledger) code_terms (col 1 3 ∷ [])) (Words s ∷ []) ≡ true
code_typed Balance s = refl
code_typed Cash s = refl
code_typed Total s = refl
