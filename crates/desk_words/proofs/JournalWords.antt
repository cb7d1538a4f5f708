-- What the parser of words makes of those of the journal: a file or none, a number or none, and the form.
use Rattle.std.proofs.Common.{◌≡◌, ◌∙◌, ◌<◌, ◌^◌, sym, ap, ap₂, ℕ, true, false, List, [], ◌∷◌, ◌++◌, Option, Some, None, slice_index, codes, refl, subst, arith}
use Rattle.std.specs.Prelude.{IsSomeAnd, decimal}
use Rattle.clap.specs.Simple.{Shape, built_leaf, names_of, entered, rows_at}
use Rattle.clap.specs.Takes.{level_passes, turn_passes}
use Rattle.clap.specs.Walk.{Row, Walk, finished, idle, nothing_held, walk_from, walked}
use Rattle.clap.specs.Words.{first_of, first_value, one_of, one_text, rows_of, subcommand_of, takes}
use Rattle.clap.specs.declared.builder.value_parser.Reading.TheVariants.{AsWritten, WithoutMinus}
use Rattle.clap.specs.declared.parser.matches.Found.{Found}
use Rattle.clap.proofs.OnLiterals.{clap_on_literals}
use Rattle.clap.proofs.WalkLemmas.{first_value-rows, one_text-rows}
use Rattle.desk_words.proofs.NumberWords.{IsTaken, number_taken, plain_number}
use Rattle.desk_words.proofs.ReportWords.{IsPlainFile, built_desk, is_no_flag, one_form, passes_stopped, plain_file, stops, takes_by}
use Rattle.desk_words.proofs.WalkWords.{Walks, at, behind_option, behind_value, ends_well, found_at, goes, level, passes_value, stands, value_row, walks_value}
use Rattle.desk_words.specs.Words.{CallValue, IsFormatOf, IsFrom, IsFromAskable, IsFromSpelledOut, IsNoOptionIn, IsSaid, IsSpelledOut, check, desk_app, explain, folder, holdings, isin, journal, journal_app, migrate, play, read, report, serve, sums, trial, words_for, words_of_file, words_of_format}
use Rattle.desk_report.specs.declared.format.Format.{Format}
use Rattle.desk_report.specs.declared.format.Format.TheVariants.{Json, Text}

-- what the parser knows of `journal`
journal_shape : Shape
journal_shape = built_leaf journal_app.top

-- the words that give the number by this text, if it is given, and others
abbrev words_of_text : Option (List ℕ) → List (List ℕ) → List (List ℕ)
words_of_text None others = others
words_of_text (Some text) others = codes "--from" ∷ text ∷ others

-- the words behind `journal`
abbrev words_with : Option (List ℕ) → Option (List ℕ) → Format → List (List ℕ)
words_with db number format = words_of_file db (words_of_text number (words_of_format format []))

-- the number is taken, if it is given
IsTakenIn : Option (List ℕ) → Type 0
IsTakenIn None = Unit {0}
IsTakenIn (Some text) = IsTaken 999999999 text

-- the rows of the file, if it is named, and of the number behind it, if it is given
rows_of_text : Option (List ℕ) → List Row
rows_of_text None = []
rows_of_text (Some text) = value_row WithoutMinus (codes "from") text ∷ []

rows_with : Option (List ℕ) → Option (List ℕ) → List Row
rows_with None number = rows_of_text number
rows_with (Some db) number = value_row AsWritten (codes "db") db ∷ rows_of_text number

-- where the walk stands behind the file, behind the number, and behind the form
behind_file : Option (List ℕ) → Walk
behind_file None = walk_from nothing_held
behind_file (Some db) = behind_value [] (codes "db") db 1

behind_number : Option (List ℕ) → Option (List ℕ) → Walk
behind_number db None = behind_file db
behind_number db (Some text) = behind_value (rows_with db None) (codes "from") text 1

behind_form : Option (List ℕ) → Option (List ℕ) → Format → Walk
behind_form db number Text = behind_number db number
behind_form db number Json = at (record { rows = rows_with db number ++ value_row AsWritten (codes "json") (codes "true") ∷ []; pending = None; skip = 0 }) idle 1

walks_file : (db : Option (List ℕ)) (others : List (List ℕ)) (end : Walk) → IsPlainFile db → Walks journal_shape (behind_file db) others end → Walks journal_shape (walk_from nothing_held) (words_of_file db others) end
unfolding clap_on_literals journal_shape IsPlainFile behind_file
walks_file None others end file on = on
walks_file (Some db) others end file on =
    let named : Walk = behind_option [] (codes "db") 1 in
    goes named refl refl
    (goes (behind_value [] (codes "db") db 1) (passes_value journal_shape named.held (codes "db") db 1 file) (walks_value journal_shape.rules named.held (codes "db") db 1 file) on)

walks_text : (db : Option (List ℕ)) (text : List ℕ) (others : List (List ℕ)) (end : Walk) → IsTaken 999999999 text → Walks journal_shape (behind_number db (Some text)) others end
    → Walks journal_shape (behind_file db) (codes "--from" ∷ text ∷ others) end
unfolding clap_on_literals journal_shape behind_file behind_number rows_with rows_of_text
walks_text db text others end is on =
    let asked : Walk = behind_option (rows_with db None) (codes "from") 1 in
    let turn = turn_from db in
    goes asked turn.0 turn.1
    (goes (behind_value (rows_with db None) (codes "from") text 1) (passes_value journal_shape asked.held (codes "from") text 1 (plain_number is)) (walks_value journal_shape.rules asked.held (codes "from") text 1 (plain_number is)) on)
  where
    turn_from : (d : Option (List ℕ)) → (turn_passes journal_shape [] (behind_file d) (codes "--from") ≡ true) × (walked journal_shape.rules [] (behind_file d) (codes "--from") ≡ behind_option (rows_with d None) (codes "from") 1)
    turn_from None = (refl, refl)
    turn_from (Some db) = (refl, refl)

walks_number : (db number : Option (List ℕ)) (others : List (List ℕ)) (end : Walk) → IsTakenIn number → Walks journal_shape (behind_number db number) others end → Walks journal_shape (behind_file db) (words_of_text number others) end
unfolding IsTakenIn behind_number
walks_number db None others end is on = on
walks_number db (Some text) others end is on = walks_text db text others end is on

walks_form : (db number : Option (List ℕ)) (format : Format) → IsTakenIn number → Walks journal_shape (behind_number db number) (words_of_format format []) (behind_form db number format)
unfolding clap_on_literals journal_shape IsTakenIn behind_file behind_number behind_form rows_with rows_of_text
walks_form db number Text is = stands
walks_form None None Json is = goes (behind_form None None Json) refl refl stands
walks_form None (Some text) Json is = goes (behind_form None (Some text) Json) (rw is.fits refl) refl stands
walks_form (Some db) None Json is = goes (behind_form (Some db) None Json) refl refl stands
walks_form (Some db) (Some text) Json is = goes (behind_form (Some db) (Some text) Json) (rw is.fits refl) refl stands

walks_words : (db number : Option (List ℕ)) (format : Format) → IsPlainFile db → IsTakenIn number → Walks journal_shape (walk_from nothing_held) (words_with db number format) (behind_form db number format)
walks_words db number format file is =
    walks_file db (words_of_text number (words_of_format format [])) (behind_form db number format) file
    (walks_number db number (words_of_format format []) (behind_form db number format) is (walks_form db number format is))

-- the words are taken

ends : (db number : Option (List ℕ)) (format : Format) → IsTakenIn number → ends_well journal_shape (behind_form db number format) ≡ true
unfolding clap_on_literals journal_shape IsTakenIn behind_file behind_number behind_form rows_with rows_of_text
ends None None Json is = refl
ends None None Text is = refl
ends None (Some text) Json is = refl
ends None (Some text) Text is = rw is.fits refl
ends (Some db) None Json is = refl
ends (Some db) None Text is = refl
ends (Some db) (Some text) Json is = refl
ends (Some db) (Some text) Text is = rw is.fits refl

passes : (db number : Option (List ℕ)) (format : Format) → IsPlainFile db → IsTakenIn number → level_passes journal_shape [] nothing_held (words_with db number format) false ≡ true
passes db number format file is = level journal_shape (words_with db number format) (behind_form db number format) (walks_words db number format file is) (ends db number format is)

taken_behind : (words : List (List ℕ)) → level_passes journal_shape [] nothing_held words false ≡ true → takes_by true (record (walk_from nothing_held) { stopped = Some (codes "journal", words) }) ≡ true
unfolding clap_on_literals journal_shape built_desk takes_by
taken_behind words passes = rw passes refl

takes_words : (program : List ℕ) (words : List (List ℕ)) → level_passes journal_shape [] nothing_held words false ≡ true → takes desk_app (program ∷ codes "journal" ∷ words) ≡ true
unfolding clap_on_literals journal_shape built_desk takes_by
takes_words program words passes =
    ap₂ takes_by (passes_stopped built_desk.top (names_of built_desk) (walk_from nothing_held) (codes "journal") [] words) (stops built_desk.top.rules (names_of built_desk) (walk_from nothing_held) (codes "journal") [] words)
    ∙ taken_behind words passes

pub takes_journal : (program : List ℕ) (db : Option (List ℕ)) (from : Option ℕ) (format : Format) → IsNoOptionIn db → IsFromAskable from → takes desk_app (program ∷ words_for (journal db from format)) ≡ true
unfolding IsTakenIn
takes_journal program db None format file is = takes_words program (words_with db None format) (passes db None format (plain_file db file) tt)
takes_journal program db (Some number) format file is =
    takes_words program (words_with db (Some (decimal number)) format) (passes db (Some (decimal number)) format (plain_file db file) (number_taken number 999999999 is.0 is.1 (omega arith)))

-- and name what is asked for

-- what is found at the end says the file, the number and the form
record IsFound (db number : Option (List ℕ)) (format : Format) (rows : List Row) : Type 0 where
  file : first_of (codes "db") rows ≡ db
  first : first_of (codes "from") rows ≡ number
  one : one_of (codes "from") rows ≡ number
  form : IsFormatOf format (one_of (codes "json") rows)

found_behind : (db number : Option (List ℕ)) (format : Format) → IsTakenIn number → IsFound db number format (finished journal_shape.rules (behind_form db number format).held)
unfolding clap_on_literals journal_shape IsTakenIn behind_file behind_number behind_form rows_with rows_of_text
found_behind None None Json is = record { file = refl; first = refl; one = refl; form = refl }
found_behind None None Text is = record { file = refl; first = refl; one = refl; form = is_no_flag }
found_behind None (Some text) Json is = record { file = refl; first = refl; one = ap Some is.plain; form = refl }
found_behind None (Some text) Text is = record { file = refl; first = refl; one = ap Some is.plain; form = is_no_flag }
found_behind (Some db) None Json is = record { file = refl; first = refl; one = refl; form = refl }
found_behind (Some db) None Text is = record { file = refl; first = refl; one = refl; form = is_no_flag }
found_behind (Some db) (Some text) Json is = record { file = refl; first = refl; one = ap Some is.plain; form = refl }
found_behind (Some db) (Some text) Text is = record { file = refl; first = refl; one = ap Some is.plain; form = is_no_flag }

finds : (db number : Option (List ℕ)) (format : Format) → IsPlainFile db → IsTakenIn number → IsFound db number format (rows_at journal_shape (words_with db number format)).1
finds db number format file is = found_at journal_shape (IsFound db number format) (walks_words db number format file is) (found_behind db number format is)

enters : (program : List ℕ) (words : List (List ℕ)) → subcommand_of desk_app (program ∷ codes "journal" ∷ words) ≡ Some (rows_at journal_shape words)
unfolding clap_on_literals journal_shape built_desk
enters program words = ap (λ w. entered built_desk w.stopped) (stops built_desk.top.rules (names_of built_desk) (walk_from nothing_held) (codes "journal") [] words)

pub enters_journal : (program : List ℕ) (db : Option (List ℕ)) (from : Option ℕ) (format : Format) → IsNoOptionIn db → IsFromAskable from
    → IsSomeAnd (subcommand_of desk_app (program ∷ words_for (journal db from format))) (λ p. IsSpelledOut (journal db from format) p.0 p.1)
unfolding journal_shape IsTakenIn
enters_journal program db None format file is =
    let is_found = finds db None format (plain_file db file) tt in
    let P : Option (List ℕ × List Row) → Type 0 = λ entered. IsSomeAnd entered (λ p. IsSpelledOut (journal db None format) p.0 p.1) in
    subst P (sym (enters program (words_with db None format))) (refl, is_found.file, is_found.first, is_found.form)
enters_journal program db (Some number) format file is =
    let is_found = finds db (Some (decimal number)) format (plain_file db file) (number_taken number 999999999 is.0 is.1 (omega arith)) in
    let small : number < 2 ^ 32 = omega (arith, is.1) in
    let P : Option (List ℕ × List Row) → Type 0 = λ entered. IsSomeAnd entered (λ p. IsSpelledOut (journal db (Some number) format) p.0 p.1) in
    subst P (sym (enters program (words_with db (Some (decimal number)) format))) (refl, is_found.file, (is_found.first, is_found.one, small), is_found.form)

-- what the getters give

module _ (asked : CallValue) (f : Found) where
  -- the words of `journal`: a file or none, the number and the form
  IsJournalNamed : CallValue → Type 0
  IsJournalNamed a =
      (db : Option (List ℕ)) × (from : Option ℕ) × (format : Format) × (a ≡ journal db from format) × (first_value f (codes "db") ≡ db)
      × IsFromSpelledOut from (first_value f (codes "from")) (one_text f (codes "from")) × IsFormatOf format (one_text f (codes "json"))

  number_named : (from : Option ℕ) → IsFromSpelledOut from (first_of (codes "from") (rows_of f)) (one_of (codes "from") (rows_of f)) → IsFromSpelledOut from (first_value f (codes "from")) (one_text f (codes "from"))
  number_named None is = first_value-rows f (codes "from") ∙ is
  number_named (Some number) is = (first_value-rows f (codes "from") ∙ is.0, one_text-rows f (codes "from") ∙ is.1, is.2)

  named_journal : IsSpelledOut asked (codes "journal") (rows_of f) → IsJournalNamed asked
  unfolding IsJournalNamed
  named_journal named = go asked named
    where
      go : (a : CallValue) → IsSpelledOut a (codes "journal") (rows_of f) → IsJournalNamed a
      go (isin code) h = let bad : 106 ≡ 105 = ap (λ t. slice_index t 0) h.0 in absurd (omega (arith, bad))
      go (read mt) h = let bad : 106 ≡ 114 = ap (λ t. slice_index t 0) h.0 in absurd (omega (arith, bad))
      go (play db) h = let bad : 106 ≡ 112 = ap (λ t. slice_index t 0) h.0 in absurd (omega (arith, bad))
      go (trial db) h = let bad : 106 ≡ 112 = ap (λ t. slice_index t 0) h.0 in absurd (omega (arith, bad))
      go (check db format) h = let bad : 106 ≡ 99 = ap (λ t. slice_index t 0) h.0 in absurd (omega (arith, bad))
      go (explain words) h = let bad : 106 ≡ 101 = ap (λ t. slice_index t 0) h.0 in absurd (omega (arith, bad))
      go (serve db port count) h = let bad : 106 ≡ 115 = ap (λ t. slice_index t 0) h.0 in absurd (omega (arith, bad))
      go (holdings db bic account) h = let bad : 106 ≡ 104 = ap (λ t. slice_index t 0) h.0 in absurd (omega (arith, bad))
      go (sums db) h = let bad : 106 ≡ 115 = ap (λ t. slice_index t 0) h.0 in absurd (omega (arith, bad))
      go (report db parts format) h = let bad : 106 ≡ 114 = ap (λ t. slice_index t 0) h.0 in absurd (omega (arith, bad))
      go (journal db from format) h =
          (db, from, format, refl, first_value-rows f (codes "db") ∙ h.1, number_named from h.2, subst (IsFormatOf format) (sym (one_text-rows f (codes "json"))) h.3)
      go (folder db from to) h = let bad : 106 ≡ 100 = ap (λ t. slice_index t 0) h.0 in absurd (omega (arith, bad))
      go (migrate old fresh) h = let bad : 106 ≡ 109 = ap (λ t. slice_index t 0) h.0 in absurd (omega (arith, bad))

  pub no_journal : ((from : Option ℕ) → IsFromSpelledOut from (first_value f (codes "from")) (one_text f (codes "from")) → ⊥) → IsSpelledOut asked (codes "journal") (rows_of f) → ⊥
  unfolding IsJournalNamed
  no_journal none named = let n = named_journal named in none n.1 n.5

  pub same_journal : (db : Option (List ℕ)) (from : Option ℕ) (format : Format) → db ≡ first_value f (codes "db")
      → ((other : Option ℕ) → IsFromSpelledOut other (first_value f (codes "from")) (one_text f (codes "from")) → from ≡ other) → IsFormatOf format (one_text f (codes "json"))
      → IsSpelledOut asked (codes "journal") (rows_of f) → journal db from format ≡ asked
  unfolding IsJournalNamed
  same_journal db from format file one form named =
      let n = named_journal named in
      let same_file : db ≡ n.0 = file ∙ n.4 in
      let same_number : from ≡ n.1 = one n.1 n.5 in
      let same_form : format ≡ n.2 = one_form _ format n.2 form n.6 in
      rw (same_file, same_number, same_form) (sym n.3)

pub said_journal : (f : Found) (db : Option (List ℕ)) (from : Option ℕ) (format : Format) → db ≡ first_value f (codes "db") → IsFrom from (first_value f (codes "from")) (one_text f (codes "from"))
    → IsFormatOf format (one_text f (codes "json")) → IsSaid (journal db from format) (codes "journal") (rows_of f)
said_journal f db from format file number form =
    let first : IsFrom from (first_of (codes "from") (rows_of f)) (one_text f (codes "from")) = subst (λ t. IsFrom from t (one_text f (codes "from"))) (first_value-rows f (codes "from")) number in
    (refl, sym (first_value-rows f (codes "db")) ∙ sym file, subst (IsFrom from (first_of (codes "from") (rows_of f))) (one_text-rows f (codes "from")) first, subst (IsFormatOf format) (one_text-rows f (codes "json")) form)

-- the number that is asked for is none where none was found, and the one that was

pub none_asked : (from : Option ℕ) (first one : Option (List ℕ)) → None ≡ first → IsFromSpelledOut from first one → None ≡ from
none_asked None first one none spelled = refl
none_asked (Some number) first one none spelled = let bad : None ≡ Some (decimal number) = none ∙ spelled.0 in cc

pub number_asked : (from : Option ℕ) (first one : Option (List ℕ)) (text : List ℕ) (found : ℕ) → Some text ≡ first → ((number : ℕ) → number < 2 ^ 32 → one ≡ Some (decimal number) → found ≡ number)
    → IsFromSpelledOut from first one → Some found ≡ from
number_asked None first one text found some same spelled = let bad : Some text ≡ None = some ∙ spelled in cc
number_asked (Some number) first one text found some same spelled = ap Some (same number spelled.2 spelled.1)

pub not_asked : (from : Option ℕ) (first one : Option (List ℕ)) (text : List ℕ) → Some text ≡ first → ((number : ℕ) → number < 2 ^ 32 → one ≡ Some (decimal number) → ⊥)
    → IsFromSpelledOut from first one → ⊥
not_asked None first one text some none spelled = let bad : Some text ≡ None = some ∙ spelled in cc
not_asked (Some number) first one text some none spelled = none number spelled.2 spelled.1
