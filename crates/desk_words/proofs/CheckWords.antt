-- What the parser of words makes of those of a check: a file or none, and the form.
use Rattle.std.proofs.Common.{◌≡◌, ◌∙◌, sym, ap, ap₂, ℕ, true, false, List, [], ◌∷◌, ◌++◌, Option, Some, None, slice_index, codes, refl, subst, arith}
use Rattle.std.specs.Prelude.{IsSomeAnd}
use Rattle.clap.specs.Simple.{Shape, built_leaf, names_of, entered, rows_at}
use Rattle.clap.specs.Takes.{level_passes}
use Rattle.clap.specs.Walk.{Row, Walk, finished, idle, nothing_held, walk_from}
use Rattle.clap.specs.Words.{first_of, first_value, one_of, one_text, rows_of, subcommand_of, takes}
use Rattle.clap.specs.declared.builder.value_parser.Reading.TheVariants.{AsWritten}
use Rattle.clap.specs.declared.parser.matches.Found.{Found}
use Rattle.clap.proofs.OnLiterals.{clap_on_literals}
use Rattle.clap.proofs.WalkLemmas.{first_value-rows, one_text-rows}
use Rattle.desk_words.proofs.ReportWords.{IsPlainFile, built_desk, is_no_flag, one_form, passes_stopped, plain_file, stops, takes_by}
use Rattle.desk_words.proofs.WalkWords.{Walks, at, behind_option, behind_value, ends_well, found_at, goes, level, passes_value, stands, value_row, walks_value}
use Rattle.desk_words.specs.Words.{CallValue, IsFormatOf, IsNoOptionIn, IsSaid, IsSpelledOut, check, check_app, desk_app, explain, folder, holdings, isin, journal, migrate, play, read, report, serve, sums, trial, words_for, words_of_file, words_of_format}
use Rattle.desk_report.specs.declared.format.Format.{Format}
use Rattle.desk_report.specs.declared.format.Format.TheVariants.{Json, Text}

-- what the parser knows of `check`
check_shape : Shape
check_shape = built_leaf check_app.top

-- the words behind `check`
abbrev words_with : Option (List ℕ) → Format → List (List ℕ)
words_with db format = words_of_file db (words_of_format format [])

-- the rows of the file, if it is named
rows_with : Option (List ℕ) → List Row
rows_with None = []
rows_with (Some db) = value_row AsWritten (codes "db") db ∷ []

-- where the walk stands behind the file, and behind the form
behind_file : Option (List ℕ) → Walk
behind_file None = walk_from nothing_held
behind_file (Some db) = behind_value [] (codes "db") db 1

behind_form : Option (List ℕ) → Format → Walk
behind_form db Text = behind_file db
behind_form db Json = at (record { rows = rows_with db ++ value_row AsWritten (codes "json") (codes "true") ∷ []; pending = None; skip = 0 }) idle 1

walks_file : (db : Option (List ℕ)) (others : List (List ℕ)) (end : Walk) → IsPlainFile db → Walks check_shape (behind_file db) others end → Walks check_shape (walk_from nothing_held) (words_of_file db others) end
unfolding clap_on_literals check_shape IsPlainFile behind_file
walks_file None others end file on = on
walks_file (Some db) others end file on =
    let named : Walk = behind_option [] (codes "db") 1 in
    goes named refl refl
    (goes (behind_value [] (codes "db") db 1) (passes_value check_shape named.held (codes "db") db 1 file) (walks_value check_shape.rules named.held (codes "db") db 1 file) on)

walks_form : (db : Option (List ℕ)) (format : Format) → Walks check_shape (behind_file db) (words_of_format format []) (behind_form db format)
unfolding clap_on_literals check_shape behind_file behind_form rows_with
walks_form db Text = stands
walks_form None Json = goes (behind_form None Json) refl refl stands
walks_form (Some db) Json = goes (behind_form (Some db) Json) refl refl stands

walks_words : (db : Option (List ℕ)) (format : Format) → IsPlainFile db → Walks check_shape (walk_from nothing_held) (words_with db format) (behind_form db format)
walks_words db format file = walks_file db (words_of_format format []) (behind_form db format) file (walks_form db format)

-- the words are taken

ends : (db : Option (List ℕ)) (format : Format) → ends_well check_shape (behind_form db format) ≡ true
unfolding clap_on_literals check_shape behind_file behind_form rows_with
ends None Json = refl
ends None Text = refl
ends (Some db) Json = refl
ends (Some db) Text = refl

passes : (db : Option (List ℕ)) (format : Format) → IsPlainFile db → level_passes check_shape [] nothing_held (words_with db format) false ≡ true
passes db format file = level check_shape (words_with db format) (behind_form db format) (walks_words db format file) (ends db format)

taken_behind : (words : List (List ℕ)) → level_passes check_shape [] nothing_held words false ≡ true → takes_by true (record (walk_from nothing_held) { stopped = Some (codes "check", words) }) ≡ true
unfolding clap_on_literals check_shape built_desk takes_by
taken_behind words passes = rw passes refl

takes_words : (program : List ℕ) (words : List (List ℕ)) → level_passes check_shape [] nothing_held words false ≡ true → takes desk_app (program ∷ codes "check" ∷ words) ≡ true
unfolding clap_on_literals check_shape built_desk takes_by
takes_words program words passes =
    ap₂ takes_by (passes_stopped built_desk.top (names_of built_desk) (walk_from nothing_held) (codes "check") [] words) (stops built_desk.top.rules (names_of built_desk) (walk_from nothing_held) (codes "check") [] words)
    ∙ taken_behind words passes

pub takes_check : (program : List ℕ) (db : Option (List ℕ)) (format : Format) → IsNoOptionIn db → takes desk_app (program ∷ words_for (check db format)) ≡ true
takes_check program db format file = takes_words program (words_with db format) (passes db format (plain_file db file))

-- and name what is asked for

-- what is found at the end says the file and the form
record IsFound (db : Option (List ℕ)) (format : Format) (rows : List Row) : Type 0 where
  file : first_of (codes "db") rows ≡ db
  form : IsFormatOf format (one_of (codes "json") rows)

found_behind : (db : Option (List ℕ)) (format : Format) → IsFound db format (finished check_shape.rules (behind_form db format).held)
unfolding clap_on_literals check_shape behind_file behind_form rows_with
found_behind None Json = record { file = refl; form = refl }
found_behind None Text = record { file = refl; form = is_no_flag }
found_behind (Some db) Json = record { file = refl; form = refl }
found_behind (Some db) Text = record { file = refl; form = is_no_flag }

finds : (db : Option (List ℕ)) (format : Format) → IsPlainFile db → IsFound db format (rows_at check_shape (words_with db format)).1
finds db format file = found_at check_shape (IsFound db format) (walks_words db format file) (found_behind db format)

enters : (program : List ℕ) (words : List (List ℕ)) → subcommand_of desk_app (program ∷ codes "check" ∷ words) ≡ Some (rows_at check_shape words)
unfolding clap_on_literals check_shape built_desk
enters program words = ap (λ w. entered built_desk w.stopped) (stops built_desk.top.rules (names_of built_desk) (walk_from nothing_held) (codes "check") [] words)

pub enters_check : (program : List ℕ) (db : Option (List ℕ)) (format : Format) → IsNoOptionIn db
    → IsSomeAnd (subcommand_of desk_app (program ∷ words_for (check db format))) (λ p. IsSpelledOut (check db format) p.0 p.1)
unfolding check_shape
enters_check program db format file =
    let is_found = finds db format (plain_file db file) in
    let P : Option (List ℕ × List Row) → Type 0 = λ entered. IsSomeAnd entered (λ p. IsSpelledOut (check db format) p.0 p.1) in
    subst P (sym (enters program (words_with db format))) (refl, is_found.file, is_found.form)

-- what the getters give

-- the words of `check`: a file or none, and the form
named_check : (asked : CallValue) (f : Found) → IsSpelledOut asked (codes "check") (rows_of f)
    → (db : Option (List ℕ)) × (format : Format) × (asked ≡ check db format) × (first_value f (codes "db") ≡ db) × IsFormatOf format (one_text f (codes "json"))
named_check (isin code) f h = let bad : 99 ≡ 105 = ap (λ t. slice_index t 0) h.0 in absurd (omega (arith, bad))
named_check (read mt) f h = let bad : 99 ≡ 114 = ap (λ t. slice_index t 0) h.0 in absurd (omega (arith, bad))
named_check (play db) f h = let bad : 99 ≡ 112 = ap (λ t. slice_index t 0) h.0 in absurd (omega (arith, bad))
named_check (trial db) f h = let bad : 99 ≡ 112 = ap (λ t. slice_index t 0) h.0 in absurd (omega (arith, bad))
named_check (check db format) f h = (db, format, refl, first_value-rows f (codes "db") ∙ h.1, subst (IsFormatOf format) (sym (one_text-rows f (codes "json"))) h.2)
named_check (explain words) f h = let bad : 99 ≡ 101 = ap (λ t. slice_index t 0) h.0 in absurd (omega (arith, bad))
named_check (serve db port count) f h = let bad : 99 ≡ 115 = ap (λ t. slice_index t 0) h.0 in absurd (omega (arith, bad))
named_check (holdings db bic account) f h = let bad : 99 ≡ 104 = ap (λ t. slice_index t 0) h.0 in absurd (omega (arith, bad))
named_check (sums db) f h = let bad : 99 ≡ 115 = ap (λ t. slice_index t 0) h.0 in absurd (omega (arith, bad))
named_check (report db parts format) f h = let bad : 99 ≡ 114 = ap (λ t. slice_index t 0) h.0 in absurd (omega (arith, bad))
named_check (journal db from format) f h = let bad : 99 ≡ 106 = ap (λ t. slice_index t 0) h.0 in absurd (omega (arith, bad))
named_check (folder db from to) f h = let bad : 99 ≡ 100 = ap (λ t. slice_index t 0) h.0 in absurd (omega (arith, bad))
named_check (migrate old fresh) f h = let bad : 99 ≡ 109 = ap (λ t. slice_index t 0) h.0 in absurd (omega (arith, bad))

pub same_check : (asked : CallValue) (f : Found) (db : Option (List ℕ)) (format : Format) → db ≡ first_value f (codes "db") → IsFormatOf format (one_text f (codes "json"))
    → IsSpelledOut asked (codes "check") (rows_of f) → check db format ≡ asked
same_check asked f db format file form named =
    let n = named_check asked f named in
    let same_file : db ≡ n.0 = file ∙ n.3 in
    let same_form : format ≡ n.1 = one_form _ format n.1 form n.4 in
    rw (same_file, same_form) (sym n.2)

pub said_check : (f : Found) (db : Option (List ℕ)) (format : Format) → db ≡ first_value f (codes "db") → IsFormatOf format (one_text f (codes "json")) → IsSaid (check db format) (codes "check") (rows_of f)
said_check f db format file form = (refl, sym (first_value-rows f (codes "db")) ∙ sym file, subst (IsFormatOf format) (one_text-rows f (codes "json")) form)
