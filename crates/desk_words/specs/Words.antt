-- Which words ask for what.
use Rattle.std.specs.Prelude.{◌≡◌, ◌≢◌, ◌⊎◌, ◌<◌, ◌≤◌, ◌^◌, ◌&&◌, ◌||◌, ℕ, Bool, List, [], ◌∷◌, Option, Some, None, Ok, pos, true, false, if◌then◌else◌, codes, decimal, length, slice_index, unwrap_or, All, IsSomeAnd, IsTrue, MatchOption}
use Rattle.std.specs.List.{list_any}
use Rattle.std.specs.Str.{byte, bytes_eq}
use Rattle.std.specs.Str.Parse.{IsNumeral, digits_value, without_leading_plus}
use Rattle.clap.specs.Words.{App, Row, Rule, all_of, first_of, new_app, new_rule, fault_of, one_of, subcommand_of, with_rule, with_subcommand, IsAmong}
use Rattle.clap.specs.declared.error.kind.ErrorKind.{ErrorKind}
use Rattle.clap.specs.declared.error.kind.ErrorKind.TheVariants.{InvalidValue}
use Rattle.clap.specs.declared.builder.action.ArgAction.TheVariants.{Append, SetTrue}
use Rattle.clap.specs.declared.builder.value_parser.ValueParser.TheVariants.{Signed}
use Rattle.desk_codes.specs.Bic.{IsBic, ReadsBic}
use Rattle.desk_msg.specs.MessageType.{digits_of_type, is_instruction, number_of_type}
use Rattle.desk_msg.specs.declared.mt.Mt.{Mt}
use Rattle.desk_report.specs.declared.part.Parts.{Parts}
use Rattle.desk_report.specs.declared.format.Format.{Format}
use Rattle.desk_report.specs.declared.format.Format.TheVariants.{Json, Text}
use Rattle.desk_words.specs.declared.calls.Call.{Call}
use Rattle.desk_words.specs.Topics.{words_quoted}
use Rattle.desk_words.specs.declared.calls.Call.TheVariants.{Isin, Read, Play, PlayOn, TryOn, Check, CheckOn, Explain, Serve, ServeOn, Holdings, Sums, Report, ReportOn, Journal, JournalOn, Folder, Migrate}

-- what is asked for: whether a code is an ISIN, what a message of a type says, a script's answers, those that the desk of a
-- file would give, which stays as it is, what is refused in a script, where such a file stays too, what an answer of
-- these words means, to serve so many connections at a port, what a participant's account holds, the totals, what stands at
-- this moment, the accepted entries from a number on, or all of them, or the answers to the files of a folder; of the desk of
-- a file, or of one in memory where no file is named; or to bring a file of an earlier version over into a new one
pub data CallValue : Type 0 where
  isin : (code : List ℕ) → CallValue
  read : (mt : Mt) → CallValue
  play : (db : Option (List ℕ)) → CallValue
  trial : (db : List ℕ) → CallValue
  check : (db : Option (List ℕ)) (format : Format) → CallValue
  explain : (words : List (List ℕ)) → CallValue
  serve : (db : Option (List ℕ)) (port count : ℕ) → CallValue
  holdings : (db bic account : List ℕ) → CallValue
  sums : (db : List ℕ) → CallValue
  report : (db : Option (List ℕ)) (parts : Parts) (format : Format) → CallValue
  journal : (db : Option (List ℕ)) (from : Option ℕ) (format : Format) → CallValue
  folder : (db from to : List ℕ) → CallValue
  migrate : (old fresh : List ℕ) → CallValue

abbrev pub value_of_call : Call → CallValue
value_of_call (Isin code) = isin code.now
value_of_call (Read mt) = read mt
value_of_call Play = play None
value_of_call (PlayOn db) = play (Some db.now)
value_of_call (TryOn db) = trial db.now
value_of_call (Check format) = check None format
value_of_call (CheckOn db format) = check (Some db.now) format
value_of_call (Explain quoted) = explain (words_quoted quoted)
value_of_call (Serve port count) = serve None port count
value_of_call (ServeOn db port count) = serve (Some db.now) port count
value_of_call (Holdings db owner account) = holdings db.now owner account.now
value_of_call (Sums db) = sums db.now
value_of_call (Report parts format) = report None parts format
value_of_call (ReportOn db parts format) = report (Some db.now) parts format
value_of_call (Journal from format) = journal None from format
value_of_call (JournalOn db from format) = journal (Some db.now) from format
value_of_call (Folder db from to) = folder db.now from.now to.now
value_of_call (Migrate old fresh) = migrate old.now fresh.now

-- a message that is read is an instruction
abbrev pub ReadsOnlyInstructions : Call → Type 0
ReadsOnlyInstructions (Read mt) = is_instruction mt ≡ true
ReadsOnlyInstructions call = Unit {0}

-- the words that name a file, if one is named, and others
abbrev pub words_of_file : Option (List ℕ) → List (List ℕ) → List (List ℕ)
words_of_file None others = others
words_of_file (Some db) others = codes "--db" ∷ db ∷ others

-- the words that name the parts of a report
abbrev pub part_words : List (List ℕ)
part_words = codes "pending" ∷ codes "unmatched" ∷ codes "accounts" ∷ codes "cash" ∷ codes "sums" ∷ []

-- the word names a part
abbrev pub is_part_word : List ℕ → Bool
is_part_word word = list_any (λ part. bytes_eq part word) part_words

-- a part is told where it is named, and where none is
abbrev pub is_told : List ℕ → List (List ℕ) → Bool
is_told part [] = true
is_told part named = list_any (λ word. bytes_eq word part) named

-- the parts that are told where these are named
abbrev pub parts_by : List (List ℕ) → Parts
parts_by named = record {
  pending = is_told (codes "pending") named;
  unmatched = is_told (codes "unmatched") named;
  accounts = is_told (codes "accounts") named;
  cash = is_told (codes "cash") named;
  sums = is_told (codes "sums") named;
}

-- each word names a part
abbrev pub ArePartWords : List (List ℕ) → Type 0
ArePartWords named = All (λ word. is_part_word word ≡ true) named

-- each word names a part, and these are the parts that are told
abbrev pub ArePartsOf : Parts → List (List ℕ) → Type 0
ArePartsOf parts named = ArePartWords named × (parts ≡ parts_by named)

-- the flag is given, by the word that the parser of words has for that, or is not
abbrev pub IsFlagGiven : Bool → Option (List ℕ) → Type 0
IsFlagGiven true flag = flag ≡ Some (codes "true")
IsFlagGiven false flag = flag ≢ Some (codes "true")

-- JSON where the flag is given; text where it is not
abbrev pub IsFormatOf : Format → Option (List ℕ) → Type 0
IsFormatOf Json flag = flag ≡ Some (codes "true")
IsFormatOf Text flag = flag ≢ Some (codes "true")

-- the word of a part that is told, and others
abbrev pub words_of_part : Bool → List ℕ → List (List ℕ) → List (List ℕ)
words_of_part true word others = word ∷ others
words_of_part false word others = others

abbrev pub are_all : Parts → Bool
are_all parts = parts.pending && parts.unmatched && parts.accounts && parts.cash && parts.sums

-- the words of the parts that are told; none, where all are
abbrev pub words_of_parts : Parts → List (List ℕ)
words_of_parts parts =
    if are_all parts then []
    else words_of_part parts.pending (codes "pending") (words_of_part parts.unmatched (codes "unmatched")
    (words_of_part parts.accounts (codes "accounts") (words_of_part parts.cash (codes "cash") (words_of_part parts.sums (codes "sums") []))))

-- the word that asks for JSON, and others
abbrev pub words_of_format : Format → List (List ℕ) → List (List ℕ)
words_of_format Json others = codes "--json" ∷ others
words_of_format Text others = others

-- the words that name the number of an entry, if one is given, and others
abbrev pub words_of_number : Option ℕ → List (List ℕ) → List (List ℕ)
words_of_number None others = others
words_of_number (Some number) others = codes "--from" ∷ decimal number ∷ others

-- the words that ask for a report of the parts that these words name, in any order and each as often as one likes; of
-- options that stand behind them or between them `IsSaid` speaks
abbrev pub report_words : Option (List ℕ) → Format → List (List ℕ) → List (List ℕ)
report_words db format named = codes "report" ∷ words_of_file db (words_of_format format named)

-- the words behind the program's name that ask for it
abbrev pub words_for : CallValue → List (List ℕ)
words_for (isin code) = codes "isin" ∷ code ∷ []
words_for (read mt) = codes "read" ∷ digits_of_type mt ∷ []
words_for (play db) = codes "play" ∷ words_of_file db []
words_for (trial db) = codes "play" ∷ words_of_file (Some db) (codes "--dry-run" ∷ [])
words_for (check db format) = codes "check" ∷ words_of_file db (words_of_format format [])
words_for (explain words) = codes "explain" ∷ words
words_for (serve db port count) = codes "serve" ∷ words_of_file db (codes "--port" ∷ decimal port ∷ codes "--count" ∷ decimal count ∷ [])
words_for (holdings db bic account) = codes "holdings" ∷ words_of_file (Some db) (bic ∷ account ∷ [])
words_for (sums db) = codes "sums" ∷ words_of_file (Some db) []
words_for (report db parts format) = report_words db format (words_of_parts parts)
words_for (journal db from format) = codes "journal" ∷ words_of_file db (words_of_number from (words_of_format format []))
words_for (folder db from to) = codes "drop" ∷ words_of_file (Some db) (codes "--in" ∷ from ∷ codes "--out" ∷ to ∷ [])
words_for (migrate old fresh) = codes "migrate" ∷ old ∷ fresh ∷ []

-- what does not begin as an option, by a hyphen
abbrev pub IsNoOption : List ℕ → Type 0
IsNoOption word = slice_index word 0 ≢ byte "-"

-- of a file that is named
abbrev pub IsNoOptionIn : Option (List ℕ) → Type 0
IsNoOptionIn None = Unit {0}
IsNoOptionIn (Some db) = IsNoOption db

-- some part is told
abbrev pub TellsSome : Parts → Type 0
TellsSome parts = IsTrue (parts.pending || parts.unmatched || parts.accounts || parts.cash || parts.sums)

-- of the number of an entry that is given
abbrev pub IsFromAskable : Option ℕ → Type 0
IsFromAskable None = Unit {0}
IsFromAskable (Some number) = (1 ≤ number) × (number ≤ 999999999)

-- The code, the files, the account, the folders and the words of an answer (three at most) do not begin as an option, the type is one of an instruction, the participant is one in its
-- one spelling, the numbers are those that may be asked for, and of a report some part is told.
abbrev pub IsAskable : CallValue → Type 0
IsAskable (isin code) = IsNoOption code
IsAskable (read mt) = is_instruction mt ≡ true
IsAskable (play db) = IsNoOptionIn db
IsAskable (trial db) = IsNoOption db
IsAskable (check db format) = IsNoOptionIn db
IsAskable (explain words) = (length words ≤ 3) × All IsNoOption words
IsAskable (serve db port count) = IsNoOptionIn db × ((1 ≤ port) × (port ≤ 65535)) × (1 ≤ count) × (count ≤ 1000000)
IsAskable (holdings db bic account) = IsNoOption db × IsBic bic × IsNoOption account
IsAskable (sums db) = IsNoOption db
IsAskable (report db parts format) = IsNoOptionIn db × TellsSome parts
IsAskable (journal db from format) = IsNoOptionIn db × IsFromAskable from
IsAskable (folder db from to) = IsNoOption db × IsNoOption from × IsNoOption to
IsAskable (migrate old fresh) = IsNoOption old × IsNoOption fresh

-- the words that were found for the parts of a report
abbrev pub part_words_in : List Row → List (List ℕ)
part_words_in rows = unwrap_or (all_of (codes "part") rows) []

-- the number of the entry to begin with, by the words that were found for it, spelled out as `words_for` spells it
abbrev pub IsFromSpelledOut : Option ℕ → Option (List ℕ) → Option (List ℕ) → Type 0
IsFromSpelledOut None first one = first ≡ None
IsFromSpelledOut (Some number) first one = (first ≡ Some (decimal number)) × (one ≡ Some (decimal number)) × (number < 2 ^ 32)

-- the words of an answer that were found, up to the first that was not
abbrev pub found_before : Option (List ℕ) → List (List ℕ) → List (List ℕ)
found_before None words = []
found_before (Some word) words = word ∷ words

abbrev pub words_found : Option (List ℕ) → Option (List ℕ) → Option (List ℕ) → List (List ℕ)
words_found first second third = found_before first (found_before second (found_before third []))

abbrev pub answer_words_in : List Row → List (List ℕ)
answer_words_in rows = words_found (first_of (codes "word") rows) (first_of (codes "second") rows) (first_of (codes "third") rows)

-- a play without a file, or on this one, which is not a trial
abbrev pub IsPlayOf : Option (List ℕ) → List Row → Type 0
IsPlayOf None rows = first_of (codes "db") rows ≡ None
IsPlayOf (Some db) rows = (first_of (codes "db") rows ≡ Some db) × IsFlagGiven false (one_of (codes "dry-run") rows)

-- what a subcommand's name and matches ask for, spelled out as `words_for` spells it
abbrev pub IsSpelledOut : CallValue → List ℕ → List Row → Type 0
IsSpelledOut (isin code) name rows = (name ≡ codes "isin") × (first_of (codes "code") rows ≡ Some code)
IsSpelledOut (read mt) name rows = (name ≡ codes "read") × (one_of (codes "mt") rows ≡ Some (digits_of_type mt)) × (is_instruction mt ≡ true)
IsSpelledOut (play db) name rows = (name ≡ codes "play") × IsPlayOf db rows
IsSpelledOut (trial db) name rows = (name ≡ codes "play") × (first_of (codes "db") rows ≡ Some db) × IsFlagGiven true (one_of (codes "dry-run") rows)
IsSpelledOut (check db format) name rows = (name ≡ codes "check") × (first_of (codes "db") rows ≡ db) × IsFormatOf format (one_of (codes "json") rows)
IsSpelledOut (explain words) name rows = (name ≡ codes "explain") × (words ≡ answer_words_in rows)
IsSpelledOut (serve db port count) name rows =
    (name ≡ codes "serve") × (first_of (codes "db") rows ≡ db) × (one_of (codes "port") rows ≡ Some (decimal port)) × (port < 2 ^ 16) × (one_of (codes "count") rows ≡ Some (decimal count)) × (count < 2 ^ 32)
IsSpelledOut (holdings db bic account) name rows =
    (name ≡ codes "holdings") × (first_of (codes "db") rows ≡ Some db) × IsBic bic × (first_of (codes "bic") rows ≡ Some bic) × (first_of (codes "account") rows ≡ Some account)
IsSpelledOut (sums db) name rows = (name ≡ codes "sums") × (first_of (codes "db") rows ≡ Some db)
IsSpelledOut (report db parts format) name rows =
    (name ≡ codes "report") × (first_of (codes "db") rows ≡ db) × ArePartsOf parts (part_words_in rows) × IsFormatOf format (one_of (codes "json") rows)
IsSpelledOut (journal db from format) name rows =
    (name ≡ codes "journal") × (first_of (codes "db") rows ≡ db) × IsFromSpelledOut from (first_of (codes "from") rows) (one_of (codes "from") rows) × IsFormatOf format (one_of (codes "json") rows)
IsSpelledOut (folder db from to) name rows =
    (name ≡ codes "drop") × (first_of (codes "db") rows ≡ Some db) × (first_of (codes "in") rows ≡ Some from) × (first_of (codes "out") rows ≡ Some to)
IsSpelledOut (migrate old fresh) name rows = (name ≡ codes "migrate") × (first_of (codes "old") rows ≡ Some old) × (first_of (codes "new") rows ≡ Some fresh)

-- what the parser of words knows of the program
abbrev pub code_rule : Rule
code_rule = record (new_rule (codes "code")) { value_names = 1; required = true }

abbrev pub type_rule : Rule
type_rule = record (new_rule (codes "mt")) { value_names = 1; required = true; parser = Some (Signed (pos 540) (pos 543)) }

abbrev pub isin_app : App
isin_app = with_rule (new_app (codes "isin")) code_rule

abbrev pub read_app : App
read_app = with_rule (new_app (codes "read")) type_rule

-- a file may be named, or has to be
abbrev pub db_rule : Rule
db_rule = record (new_rule (codes "db")) { long = Some (codes "db"); value_names = 1 }

abbrev pub needed_db_rule : Rule
needed_db_rule = record (new_rule (codes "db")) { long = Some (codes "db"); value_names = 1; required = true }

abbrev pub dry_rule : Rule
dry_rule = record (new_rule (codes "dry-run")) { long = Some (codes "dry-run"); action = Some SetTrue }

abbrev pub play_app : App
play_app = with_rule (with_rule (new_app (codes "play")) db_rule) dry_rule

abbrev pub json_rule : Rule
json_rule = record (new_rule (codes "json")) { long = Some (codes "json"); action = Some SetTrue }

abbrev pub check_app : App
check_app = with_rule (with_rule (new_app (codes "check")) json_rule) db_rule

abbrev pub word_rule : List ℕ → Rule
word_rule name = record (new_rule name) { value_names = 1 }

abbrev pub explain_app : App
explain_app = with_rule (with_rule (with_rule (new_app (codes "explain")) (word_rule (codes "word"))) (word_rule (codes "second"))) (word_rule (codes "third"))

abbrev pub port_rule : Rule
port_rule = record (new_rule (codes "port")) { long = Some (codes "port"); value_names = 1; required = true; parser = Some (Signed (pos 1) (pos 65535)) }

abbrev pub count_rule : Rule
count_rule = record (new_rule (codes "count")) { long = Some (codes "count"); value_names = 1; required = true; parser = Some (Signed (pos 1) (pos 1000000)) }

abbrev pub serve_app : App
serve_app = with_rule (with_rule (with_rule (new_app (codes "serve")) db_rule) port_rule) count_rule

abbrev pub bic_rule : Rule
bic_rule = record (new_rule (codes "bic")) { value_names = 1; required = true }

abbrev pub account_rule : Rule
account_rule = record (new_rule (codes "account")) { value_names = 1; required = true }

abbrev pub holdings_app : App
holdings_app = with_rule (with_rule (with_rule (new_app (codes "holdings")) needed_db_rule) bic_rule) account_rule

abbrev pub sums_app : App
sums_app = with_rule (new_app (codes "sums")) needed_db_rule

abbrev pub part_rule : Rule
part_rule = record (new_rule (codes "part")) { value_names = 1; action = Some Append }

abbrev pub report_app : App
report_app = with_rule (with_rule (with_rule (new_app (codes "report")) part_rule) json_rule) db_rule

abbrev pub from_rule : Rule
from_rule = record (new_rule (codes "from")) { long = Some (codes "from"); value_names = 1; parser = Some (Signed (pos 1) (pos 999999999)) }

abbrev pub journal_app : App
journal_app = with_rule (with_rule (with_rule (new_app (codes "journal")) from_rule) json_rule) db_rule

abbrev pub in_rule : Rule
in_rule = record (new_rule (codes "in")) { long = Some (codes "in"); value_names = 1; required = true }

abbrev pub out_rule : Rule
out_rule = record (new_rule (codes "out")) { long = Some (codes "out"); value_names = 1; required = true }

abbrev pub drop_app : App
drop_app = with_rule (with_rule (with_rule (new_app (codes "drop")) needed_db_rule) in_rule) out_rule

abbrev pub old_rule : Rule
old_rule = record (new_rule (codes "old")) { value_names = 1; required = true }

abbrev pub new_file_rule : Rule
new_file_rule = record (new_rule (codes "new")) { value_names = 1; required = true }

abbrev pub migrate_app : App
migrate_app = with_rule (with_rule (new_app (codes "migrate")) old_rule) new_file_rule

-- the program, which tells its version
abbrev pub bare_app : App
bare_app = record (new_app (codes "desk")) { top = record (new_app (codes "desk")).top { has_version = true } }

abbrev pub desk_app : App
desk_app =
    with_subcommand (with_subcommand (with_subcommand (with_subcommand (with_subcommand (with_subcommand (with_subcommand (with_subcommand (with_subcommand (with_subcommand (with_subcommand (with_subcommand bare_app isin_app.top) read_app.top) play_app.top) check_app.top) explain_app.top) serve_app.top) holdings_app.top)
    sums_app.top) report_app.top) journal_app.top) drop_app.top) migrate_app.top

-- a numeral of a number; a plus and zeros may stand before it
abbrev pub IsNumberText : ℕ → List ℕ → Type 0
IsNumberText number text = IsNumeral 10 (without_leading_plus text) × (digits_value 10 (without_leading_plus text) ≡ number)

-- a text that names a participant
abbrev pub IsBicText : List ℕ → List ℕ → Type 0
IsBicText bic text = ReadsBic text (Ok bic)

-- a numeral of a type's number
abbrev pub IsTypeText : Mt → List ℕ → Type 0
IsTypeText mt text = IsNumberText (number_of_type mt) text

-- the number of the entry to begin with, by the words that were found for it
abbrev pub IsFrom : Option ℕ → Option (List ℕ) → Option (List ℕ) → Type 0
IsFrom None first one = first ≡ None
IsFrom (Some number) first one = IsSomeAnd one (IsNumberText number)

-- what a subcommand's name and matches say, however a type or a number is spelled
abbrev pub IsSaid : CallValue → List ℕ → List Row → Type 0
IsSaid (isin code) name rows = (name ≡ codes "isin") × (first_of (codes "code") rows ≡ Some code)
IsSaid (read mt) name rows = (name ≡ codes "read") × IsSomeAnd (one_of (codes "mt") rows) (IsTypeText mt)
IsSaid (play db) name rows = (name ≡ codes "play") × IsPlayOf db rows
IsSaid (trial db) name rows = (name ≡ codes "play") × (first_of (codes "db") rows ≡ Some db) × IsFlagGiven true (one_of (codes "dry-run") rows)
IsSaid (check db format) name rows = (name ≡ codes "check") × (first_of (codes "db") rows ≡ db) × IsFormatOf format (one_of (codes "json") rows)
IsSaid (explain words) name rows = (name ≡ codes "explain") × (words ≡ answer_words_in rows)
IsSaid (serve db port count) name rows =
    (name ≡ codes "serve") × (first_of (codes "db") rows ≡ db) × IsSomeAnd (one_of (codes "port") rows) (IsNumberText port) × IsSomeAnd (one_of (codes "count") rows) (IsNumberText count)
IsSaid (holdings db bic account) name rows =
    (name ≡ codes "holdings") × (first_of (codes "db") rows ≡ Some db) × IsSomeAnd (first_of (codes "bic") rows) (IsBicText bic) × (first_of (codes "account") rows ≡ Some account)
IsSaid (sums db) name rows = (name ≡ codes "sums") × (first_of (codes "db") rows ≡ Some db)
IsSaid (report db parts format) name rows =
    (name ≡ codes "report") × (first_of (codes "db") rows ≡ db) × ArePartsOf parts (part_words_in rows) × IsFormatOf format (one_of (codes "json") rows)
IsSaid (journal db from format) name rows =
    (name ≡ codes "journal") × (first_of (codes "db") rows ≡ db) × IsFrom from (first_of (codes "from") rows) (one_of (codes "from") rows) × IsFormatOf format (one_of (codes "json") rows)
IsSaid (folder db from to) name rows = (name ≡ codes "drop") × (first_of (codes "db") rows ≡ Some db) × (first_of (codes "in") rows ≡ Some from) × (first_of (codes "out") rows ≡ Some to)
IsSaid (migrate old fresh) name rows = (name ≡ codes "migrate") × (first_of (codes "old") rows ≡ Some old) × (first_of (codes "new") rows ≡ Some fresh)

-- what is said where this subcommand was found; with none, to play on a desk in memory
abbrev pub IsSaidIn : CallValue → Option (List ℕ × List Row) → Type 0
IsSaidIn asked found = MatchOption found (asked ≡ play None) (λ f. IsSaid asked f.0 f.1)

-- the parser finds no fault in the words, and their subcommand says this
abbrev pub IsSaidBy : CallValue → List (List ℕ) → Type 0
IsSaidBy asked words = (fault_of desk_app words ≡ []) × IsSaidIn asked (subcommand_of desk_app words)

-- The words ask for help so, or are wrong so: the parser finds it in them; or it finds nothing, and they fit no subcommand.
abbrev pub IsErrorIn : ErrorKind → List (List ℕ) → Type 0
IsErrorIn kind words = IsAmong kind (fault_of desk_app words) ⊎ ((fault_of desk_app words ≡ []) × (kind ≡ InvalidValue))
