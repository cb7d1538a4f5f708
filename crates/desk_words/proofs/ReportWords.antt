-- What the parser of words makes of those of a report: its parts are read one word after another, however many there are.
use Rattle.std.proofs.Common.{◌≡◌, ◌≢◌, ◌==◌, ◌&&◌, ◌∙◌, sym, ap, ap₂, ℕ, Bool, true, false, List, [], ◌∷◌, ◌++◌, Option, Some, None, option_map, length, map, codes, refl, subst, arith, slice_index, append_assoc, append-nil}
use Rattle.std.specs.Prelude.{All, IsSomeAnd, fold, if◌then◌else◌, is_some, unwrap_or}
use Rattle.std.specs.Borrow.{Bor}
use Rattle.std.specs.List.{list_all, list_any}
use Rattle.std.specs.Str.{bytes_eq}
use Rattle.std.proofs.lemmas.List.Elements.{All-cons, All-head, All-map, All-nil, All-tail}
use Rattle.clap.specs.Simple.{Shape, built, built_leaf, entered, names_of, rows_at}
use Rattle.clap.specs.Takes.{default_passes, entered_passes, is_valid, level_passes, settle_passes, turn_passes, walk_passes}
use Rattle.clap.specs.Walk.{Names, Row, Rule, Walk, finished, idle, nothing_held, positional, walk_from, walked, with_default, with_values}
use Rattle.clap.specs.Words.{App, all_of, first_of, matched_of, one_of, raw_values, rows_of, subcommand_of, takes}
use Rattle.clap.specs.declared.builder.value_parser.Reading.TheVariants.{AsWritten}
use Rattle.clap.specs.declared.parser.matches.Found.{Found}
use Rattle.clap.specs.declared.parser.matches.ValueSource.TheVariants.{CommandLine}
use Rattle.clap.proofs.OnLiterals.{clap_on_literals}
use Rattle.clap.proofs.WalkLemmas.{list_any-map, raw_values-rows}
use Rattle.desk_words.proofs.PlainWords.{IsPlain, plain_word}
use Rattle.desk_words.specs.Words.{ArePartWords, ArePartsOf, IsFormatOf, IsNoOption, IsNoOptionIn, IsSpelledOut, TellsSome, are_all, desk_app, is_part_word, is_told, part_words_in, parts_by, report, report_app, report_words, words_for, words_of_file, words_of_format, words_of_part, words_of_parts}
use Rattle.desk_report.specs.declared.part.Parts.{Parts}
use Rattle.desk_report.specs.declared.format.Format.{Format}
use Rattle.desk_report.specs.declared.format.Format.TheVariants.{Json, Text}

-- a part is told as the words that name parts have it

pub told_where_named : (named : List (Bor (List ℕ))) (part : List ℕ) → (length named == 0) ≡ false → list_any (λ word. bytes_eq word.now part) named ≡ is_told part (map (λ word. word.now) named)
told_where_named [] part some = cc
told_where_named (word ∷ named) part some = list_any-map (λ text. bytes_eq text part) (λ (w : Bor (List ℕ)). w.now) (word ∷ named)

-- the words that were found are those of the rows, none where nothing was found

pub words_found : (f : Found) (found : Option (Bor (List (Bor (List ℕ))))) (none : Bor (List (Bor (List ℕ)))) → none.now ≡ [] → option_map (λ s. map (λ v. v.now) s.now) found ≡ option_map raw_values (matched_of f (codes "part"))
    → map (λ word. word.now) (unwrap_or found none).now ≡ part_words_in (rows_of f)
words_found f found none empty are = go found (all_of (codes "part") (rows_of f)) (are ∙ raw_values-rows f (codes "part"))
  where
    go : (o : Option (Bor (List (Bor (List ℕ))))) (texts : Option (List (List ℕ))) → option_map (λ s. map (λ v. v.now) s.now) o ≡ texts → map (λ word. word.now) (unwrap_or o none).now ≡ unwrap_or texts []
    go None texts same = rw (← same, empty) refl
    go (Some words) texts same = rw (← same) refl

pub parts_within : (words : List (Bor (List ℕ))) → All (λ word. is_part_word word ≡ true) (map (λ word. word.now) words) → All (λ word. is_part_word word.now ≡ true) words
parts_within words all = go words all
  where
    IsPart : List ℕ → Type 0
    IsPart word = is_part_word word ≡ true

    IsPartAt : Bor (List ℕ) → Type 0
    IsPartAt word = is_part_word word.now ≡ true

    go : (words : List (Bor (List ℕ))) → All IsPart (map (λ word. word.now) words) → All IsPartAt words
    go [] all = All-nil IsPartAt
    go (word ∷ words) all = All-cons IsPartAt word words (All-head IsPart word.now (map (λ w. w.now) words) all) (go words (All-tail IsPart word.now (map (λ w. w.now) words) all))

pub parts_over : (words : List (Bor (List ℕ))) → All (λ word. is_part_word word.now ≡ true) words → All (λ word. is_part_word word ≡ true) (map (λ word. word.now) words)
parts_over words all = All-map (λ word. is_part_word word ≡ true) (λ (word : Bor (List ℕ)). word.now) words all

-- what the parser knows of `report`
report_shape : Shape
report_shape = built_leaf report_app.top

-- where the walk stands behind the word of a part, with these rows before it
abbrev at_part : List Row → List ℕ → Walk
at_part rows last = record {
  held = record { rows = rows; pending = Some (codes "part", last ∷ []); skip = 0 };
  waiting = positional;
  position = 1;
  is_trailing = false;
  stopped = None;
}

-- the rows with the word of one more part
abbrev more : List Row → List ℕ → List Row
more rows word = with_values (codes "part") AsWritten CommandLine (word ∷ []) rows

next_part : (rows : List Row) (last word : List ℕ) → IsPlain word → walked report_shape.rules [] (at_part rows last) word ≡ at_part (more rows last) word
unfolding clap_on_literals report_shape
next_part rows last word is = rw (is.dashes, is.long, is.short) refl

next_passes : (rows : List Row) (last word : List ℕ) → IsPlain word → turn_passes report_shape [] (at_part rows last) word ≡ true
unfolding clap_on_literals report_shape
next_passes rows last word is = rw (is.dashes, is.long, is.short) refl

-- each of the words begins with no hyphen
ArePlain : List (List ℕ) → Type 0
ArePlain [] = Unit {0}
ArePlain (word ∷ words) = IsPlain word × ArePlain words

-- the rows before the last of these words, and that word
rows_before : List Row → List ℕ → List (List ℕ) → List Row
rows_before rows last [] = rows
rows_before rows last (word ∷ words) = rows_before (more rows last) word words

last_of : List ℕ → List (List ℕ) → List ℕ
last_of last [] = last
last_of last (word ∷ words) = last_of word words

walks_parts : (rows : List Row) (last : List ℕ) (words : List (List ℕ)) → ArePlain words
    → fold (walked report_shape.rules []) (at_part rows last) words ≡ at_part (rows_before rows last words) (last_of last words)
unfolding ArePlain rows_before last_of
walks_parts rows last [] plain = refl
walks_parts rows last (word ∷ words) plain = rw (next_part rows last word plain.0) (walks_parts (more rows last) word words plain.1)

passes_parts : (rows : List Row) (last : List ℕ) (words : List (List ℕ)) → ArePlain words → walk_passes report_shape [] (at_part rows last) words ≡ true
unfolding ArePlain walk_passes
passes_parts rows last [] plain = refl
passes_parts rows last (word ∷ words) plain = rw (next_passes rows last word plain.0, next_part rows last word plain.0) (passes_parts (more rows last) word words plain.1)

-- the row of the words of parts
part_row : List (List ℕ) → Row
part_row named = record { id = codes "part"; values = named; count = None; source = Some CommandLine; reading = AsWritten }

-- rows with none of a part, behind which one stands with the words of parts
record IsBase (base : List Row) : Type 0 where
  first : (word : List ℕ) → more base word ≡ base ++ part_row (word ∷ []) ∷ []
  next : (named : List (List ℕ)) (word : List ℕ) → more (base ++ part_row named ∷ []) word ≡ base ++ part_row (named ++ word ∷ []) ∷ []

gathers_more : (base : List Row) → IsBase base → (named : List (List ℕ)) (last : List ℕ) (words : List (List ℕ))
    → more (rows_before (base ++ part_row named ∷ []) last words) (last_of last words) ≡ base ++ part_row (named ++ last ∷ words) ∷ []
unfolding rows_before last_of
gathers_more base is named last [] = is.next named last
gathers_more base is named last (word ∷ words) = rw (is.next named last) (gathers_more base is (named ++ last ∷ []) word words ∙ ap (λ all. base ++ part_row all ∷ []) (append_assoc named (last ∷ []) (word ∷ words)))

gathers : (base : List Row) → IsBase base → (first : List ℕ) (words : List (List ℕ)) → more (rows_before base first words) (last_of first words) ≡ base ++ part_row (first ∷ words) ∷ []
unfolding rows_before last_of
gathers base is first [] = is.first first
gathers base is first (word ∷ words) = rw (is.first first) (gathers_more base is (first ∷ []) word words)

-- the rows before the parts: of the file, where one is named, and of the flag, where it is given
file_row : List ℕ → Row
file_row db = record { id = codes "db"; values = db ∷ []; count = None; source = Some CommandLine; reading = AsWritten }

flag_row : Row
flag_row = record { id = codes "json"; values = codes "true" ∷ []; count = None; source = Some CommandLine; reading = AsWritten }

base_of_file : Option (List ℕ) → List Row → List Row
base_of_file None others = others
base_of_file (Some db) others = file_row db ∷ others

base_of : Option (List ℕ) → Format → List Row
base_of db Json = base_of_file db (flag_row ∷ [])
base_of db Text = base_of_file db []

unfoldable pub IsPlainFile : Option (List ℕ) → Type 0
IsPlainFile None = Unit {0}
IsPlainFile (Some db) = IsPlain db

is_base : (db : Option (List ℕ)) (format : Format) → IsBase (base_of db format)
unfolding base_of base_of_file file_row flag_row part_row
is_base None Json = record { first = λ word. refl; next = λ named word. refl }
is_base None Text = record { first = λ word. refl; next = λ named word. refl }
is_base (Some db) Json = record { first = λ word. refl; next = λ named word. refl }
is_base (Some db) Text = record { first = λ word. refl; next = λ named word. refl }

-- the words behind `report`, with those of its parts at the end
abbrev words_with : Option (List ℕ) → Format → List (List ℕ) → List (List ℕ)
words_with db format parts = words_of_file db (words_of_format format parts)

-- where the walk stands behind a file that is named, and before the words of the parts
at_file : List ℕ → Walk
at_file db = record {
  held = record { rows = []; pending = Some (codes "db", db ∷ []); skip = 0 };
  waiting = idle;
  position = 1;
  is_trailing = false;
  stopped = None;
}

start : Option (List ℕ) → Format → Walk
start None Text = walk_from nothing_held
start None Json = walked report_shape.rules [] (walk_from nothing_held) (codes "--json")
start (Some db) Text = at_file db
start (Some db) Json = walked report_shape.rules [] (at_file db) (codes "--json")

reads_file : (db : List ℕ) → IsPlain db → walked report_shape.rules [] (walked report_shape.rules [] (walk_from nothing_held) (codes "--db")) db ≡ at_file db
unfolding clap_on_literals report_shape at_file
reads_file db is = rw (is.dashes, is.long, is.short) refl

file_passes : (db : List ℕ) → IsPlain db → turn_passes report_shape [] (walked report_shape.rules [] (walk_from nothing_held) (codes "--db")) db ≡ true
unfolding clap_on_literals report_shape
file_passes db is = rw (is.dashes, is.long, is.short) refl

walks_to_parts : (db : Option (List ℕ)) (format : Format) (parts : List (List ℕ)) → IsPlainFile db
    → fold (walked report_shape.rules []) (walk_from nothing_held) (words_with db format parts) ≡ fold (walked report_shape.rules []) (start db format) parts
unfolding IsPlainFile start
walks_to_parts None Json parts file = refl
walks_to_parts None Text parts file = refl
walks_to_parts (Some db) Json parts file = ap (λ w. fold (walked report_shape.rules []) (walked report_shape.rules [] w (codes "--json")) parts) (reads_file db file)
walks_to_parts (Some db) Text parts file = ap (λ w. fold (walked report_shape.rules []) w parts) (reads_file db file)

passes_to_parts : (db : Option (List ℕ)) (format : Format) (parts : List (List ℕ)) → IsPlainFile db
    → walk_passes report_shape [] (walk_from nothing_held) (words_with db format parts) ≡ walk_passes report_shape [] (start db format) parts
unfolding clap_on_literals report_shape IsPlainFile start at_file
passes_to_parts None Json parts file = refl
passes_to_parts None Text parts file = refl
passes_to_parts (Some db) Json parts file =
    ap₂ (λ passes w. passes && (turn_passes report_shape [] w (codes "--json") && walk_passes report_shape [] (walked report_shape.rules [] w (codes "--json")) parts)) (file_passes db file) (reads_file db file)
passes_to_parts (Some db) Text parts file = ap₂ (λ passes w. passes && walk_passes report_shape [] w parts) (file_passes db file) (reads_file db file)

first_part : (db : Option (List ℕ)) (format : Format) (word : List ℕ) → IsPlain word → walked report_shape.rules [] (start db format) word ≡ at_part (base_of db format) word
unfolding clap_on_literals report_shape start at_file base_of base_of_file file_row flag_row
first_part None Json word is = rw (is.dashes, is.long, is.short) refl
first_part None Text word is = rw (is.dashes, is.long, is.short) refl
first_part (Some db) Json word is = rw (is.dashes, is.long, is.short) refl
first_part (Some db) Text word is = rw (is.dashes, is.long, is.short) refl

first_passes : (db : Option (List ℕ)) (format : Format) (word : List ℕ) → IsPlain word → turn_passes report_shape [] (start db format) word ≡ true
unfolding clap_on_literals report_shape start at_file
first_passes None Json word is = rw (is.dashes, is.long, is.short) refl
first_passes None Text word is = rw (is.dashes, is.long, is.short) refl
first_passes (Some db) Json word is = rw (is.dashes, is.long, is.short) refl
first_passes (Some db) Text word is = rw (is.dashes, is.long, is.short) refl

-- where the walk ends behind words that name a part or more
end_of : Option (List ℕ) → Format → List ℕ → List (List ℕ) → Walk
end_of db format first words = at_part (rows_before (base_of db format) first words) (last_of first words)

walks_all : (db : Option (List ℕ)) (format : Format) (first : List ℕ) (words : List (List ℕ)) → IsPlainFile db → IsPlain first → ArePlain words
    → fold (walked report_shape.rules []) (walk_from nothing_held) (words_with db format (first ∷ words)) ≡ end_of db format first words
unfolding end_of
walks_all db format first words file is plain =
    walks_to_parts db format (first ∷ words) file ∙ ap (λ w. fold (walked report_shape.rules []) w words) (first_part db format first is) ∙ walks_parts (base_of db format) first words plain

passes_all : (db : Option (List ℕ)) (format : Format) (first : List ℕ) (words : List (List ℕ)) → IsPlainFile db → IsPlain first → ArePlain words
    → walk_passes report_shape [] (walk_from nothing_held) (words_with db format (first ∷ words)) ≡ true
unfolding walk_passes
passes_all db format first words file is plain =
    passes_to_parts db format (first ∷ words) file
    ∙ ap₂ (λ passes w. passes && walk_passes report_shape [] w words) (first_passes db format first is) (first_part db format first is)
    ∙ passes_parts (base_of db format) first words plain

-- what is found at the end says the file, the parts and the form
record IsFound (db : Option (List ℕ)) (named : List (List ℕ)) (format : Format) (rows : List Row) : Type 0 where
  file : first_of (codes "db") rows ≡ db
  parts : part_words_in rows ≡ named
  form : IsFormatOf format (one_of (codes "json") rows)

pub is_no_flag : Some (codes "false") ≢ Some (codes "true")
is_no_flag e = let bad : 102 ≡ 116 = ap (λ text. slice_index (unwrap_or text []) 0) e in absurd (omega (arith, bad))

found_with : (db : Option (List ℕ)) (format : Format) (named : List (List ℕ)) → IsFound db named format (fold with_default (base_of db format ++ part_row named ∷ []) report_shape.rules)
unfolding clap_on_literals report_shape base_of base_of_file file_row flag_row part_row
found_with None Json named = record { file = refl; parts = refl; form = refl }
found_with None Text named = record { file = refl; parts = refl; form = is_no_flag }
found_with (Some db) Json named = record { file = refl; parts = refl; form = refl }
found_with (Some db) Text named = record { file = refl; parts = refl; form = is_no_flag }

found_alone : (db : Option (List ℕ)) (format : Format) → IsFound db [] format (finished report_shape.rules (start db format).held)
unfolding clap_on_literals report_shape start at_file
found_alone None Json = record { file = refl; parts = refl; form = refl }
found_alone None Text = record { file = refl; parts = refl; form = is_no_flag }
found_alone (Some db) Json = record { file = refl; parts = refl; form = refl }
found_alone (Some db) Text = record { file = refl; parts = refl; form = is_no_flag }

settles : (db : Option (List ℕ)) (format : Format) (first : List ℕ) (words : List (List ℕ))
    → finished report_shape.rules (end_of db format first words).held ≡ fold with_default (base_of db format ++ part_row (first ∷ words) ∷ []) report_shape.rules
unfolding end_of report_shape
settles db format first words = ap (λ rows. fold with_default rows report_shape.rules) (gathers (base_of db format) (is_base db format) first words)

rows_of_all : (db : Option (List ℕ)) (format : Format) (first : List ℕ) (words : List (List ℕ)) → IsPlainFile db → IsPlain first → ArePlain words
    → (rows_at report_shape (words_with db format (first ∷ words))).1 ≡ fold with_default (base_of db format ++ part_row (first ∷ words) ∷ []) report_shape.rules
rows_of_all db format first words file is plain = ap (λ w. finished report_shape.rules w.held) (walks_all db format first words file is plain) ∙ settles db format first words

-- these words are found so, however many parts they name
finds : (db : Option (List ℕ)) (format : Format) (named : List (List ℕ)) → IsPlainFile db → ArePlain named → IsFound db named format (rows_at report_shape (words_with db format named)).1
unfolding ArePlain
finds db format [] file plain = subst (λ w. IsFound db [] format (finished report_shape.rules w.held)) (sym (walks_to_parts db format [] file)) (found_alone db format)
finds db format (first ∷ words) file plain = subst (IsFound db (first ∷ words) format) (sym (rows_of_all db format first words file plain.0 plain.1)) (found_with db format (first ∷ words))

-- and are taken

ends_well : Walk → Bool
ends_well w = settle_passes report_shape.rules report_shape.args_override_self w.held
    && (list_all default_passes report_shape.rules && is_valid report_shape (finished report_shape.rules w.held) false)

well_behind_parts : (db : Option (List ℕ)) (format : Format) (first : List ℕ) (words : List (List ℕ)) → ends_well (end_of db format first words) ≡ true
unfolding clap_on_literals ends_well end_of report_shape
well_behind_parts db format first words = refl

well_alone : (db : Option (List ℕ)) (format : Format) → walk_passes report_shape [] (start db format) [] && ends_well (start db format) ≡ true
unfolding clap_on_literals ends_well start at_file report_shape
well_alone None Json = refl
well_alone None Text = refl
well_alone (Some db) Json = refl
well_alone (Some db) Text = refl

passes : (db : Option (List ℕ)) (format : Format) (named : List (List ℕ)) → IsPlainFile db → ArePlain named → level_passes report_shape [] nothing_held (words_with db format named) false ≡ true
unfolding ArePlain ends_well
passes db format [] file plain = ap₂ (λ passes w. passes && ends_well w) (passes_to_parts db format [] file) (walks_to_parts db format [] file) ∙ well_alone db format
passes db format (first ∷ words) file plain =
    ap₂ (λ passes w. passes && ends_well w) (passes_all db format first words file plain.0 plain.1) (walks_all db format first words file plain.0 plain.1) ∙ well_behind_parts db format first words

-- the program leaves all the words behind the name of a subcommand to that one

pub stops : (rules : List Rule) (names : Names) (w : Walk) (name : List ℕ) (before words : List (List ℕ))
    → fold (walked rules names) (record w { stopped = Some (name, before) }) words ≡ record w { stopped = Some (name, before ++ words) }
unfolding walked
stops rules names w name before [] = ap (λ all. record w { stopped = Some (name, all) }) (sym (append-nil before))
stops rules names w name before (word ∷ words) =
    stops rules names w name (before ++ word ∷ []) words ∙ ap (λ all. record w { stopped = Some (name, all) }) (append_assoc before (word ∷ []) words)

pub passes_stopped : (s : Shape) (names : Names) (w : Walk) (name : List ℕ) (before words : List (List ℕ)) → walk_passes s names (record w { stopped = Some (name, before) }) words ≡ true
unfolding walked walk_passes
passes_stopped s names w name before [] = refl
passes_stopped s names w name before (word ∷ words) = passes_stopped s names w name (before ++ word ∷ []) words

unfoldable pub built_desk : App
built_desk = built desk_app

enters : (program : List ℕ) (words : List (List ℕ)) → subcommand_of desk_app (program ∷ codes "report" ∷ words) ≡ Some (rows_at report_shape words)
unfolding clap_on_literals report_shape built_desk
enters program words = ap (λ w. entered built_desk w.stopped) (stops built_desk.top.rules (names_of built_desk) (walk_from nothing_held) (codes "report") [] words)

-- the program takes the words where its walk passes and ends so
unfoldable pub takes_by : Bool → Walk → Bool
takes_by passes w =
    entered_passes built_desk w.stopped
    && (passes && (settle_passes built_desk.top.rules built_desk.top.args_override_self w.held
    && (list_all default_passes built_desk.top.rules && is_valid built_desk.top (finished built_desk.top.rules w.held) (is_some (entered built_desk w.stopped)))))

taken_behind : (words : List (List ℕ)) → level_passes report_shape [] nothing_held words false ≡ true → takes_by true (record (walk_from nothing_held) { stopped = Some (codes "report", words) }) ≡ true
unfolding clap_on_literals report_shape built_desk takes_by
taken_behind words passes = rw passes refl

takes_words : (program : List ℕ) (words : List (List ℕ)) → level_passes report_shape [] nothing_held words false ≡ true → takes desk_app (program ∷ codes "report" ∷ words) ≡ true
unfolding clap_on_literals report_shape built_desk takes_by
takes_words program words passes =
    ap₂ takes_by (passes_stopped built_desk.top (names_of built_desk) (walk_from nothing_held) (codes "report") [] words) (stops built_desk.top.rules (names_of built_desk) (walk_from nothing_held) (codes "report") [] words)
    ∙ taken_behind words passes

-- the word of a part begins with no hyphen

no_option : (word : List ℕ) → is_part_word word ≡ true → IsNoOption word
no_option [] is = cc
no_option (c ∷ word) is = λ dash. let bad : is_part_word (45 ∷ word) ≡ true = subst (λ d. is_part_word (d ∷ word) ≡ true) dash is in cc

are_plain : (named : List (List ℕ)) → ArePartWords named → ArePlain named
unfolding ArePlain
are_plain [] all = tt
are_plain (word ∷ named) all = (plain_word word (no_option word (All-head (λ w. is_part_word w ≡ true) word named all)), are_plain named (All-tail (λ w. is_part_word w ≡ true) word named all))

pub plain_file : (db : Option (List ℕ)) → IsNoOptionIn db → IsPlainFile db
unfolding IsPlainFile
plain_file None is = tt
plain_file (Some db) is = plain_word db is

pub takes_several : (program : List ℕ) (db : Option (List ℕ)) (format : Format) (named : List (List ℕ)) → IsNoOptionIn db → ArePartWords named → takes desk_app (program ∷ report_words db format named) ≡ true
takes_several program db format named file all = takes_words program (words_with db format named) (passes db format named (plain_file db file) (are_plain named all))

pub enters_several : (program : List ℕ) (db : Option (List ℕ)) (format : Format) (named : List (List ℕ)) → IsNoOptionIn db → ArePartWords named
    → IsSomeAnd (subcommand_of desk_app (program ∷ report_words db format named)) (λ p. IsSpelledOut (report db (parts_by named) format) p.0 p.1)
unfolding report_shape
enters_several program db format named file all =
    let found = finds db format named (plain_file db file) (are_plain named all) in
    let told : ArePartsOf (parts_by named) (part_words_in (rows_at report_shape (words_with db format named)).1) = subst (ArePartsOf (parts_by named)) (sym found.parts) (all, refl) in
    let P : Option (List ℕ × List Row) → Type 0 = λ entered. IsSomeAnd entered (λ p. IsSpelledOut (report db (parts_by named) format) p.0 p.1) in
    subst P (sym (enters program (words_with db format named))) (refl, found.file, told, found.form)

-- the words of the parts that are told are read as these parts

IsPart : List ℕ → Type 0
IsPart word = is_part_word word ≡ true

part_named : (told : Bool) (word : List ℕ) (others : List (List ℕ)) → IsPart word → All IsPart others → All IsPart (words_of_part told word others)
part_named true word others is all = All-cons IsPart word others is all
part_named false word others is all = all

parts_unless : (whole : Bool) (words : List (List ℕ)) → All IsPart words → All IsPart (if whole then [] else words)
parts_unless true words all = All-nil IsPart
parts_unless false words all = all

are_parts : (parts : Parts) → ArePartWords (words_of_parts parts)
unfolding IsPart
are_parts parts = parts_unless (are_all parts) _
    (part_named parts.pending (codes "pending") _ refl (part_named parts.unmatched (codes "unmatched") _ refl
    (part_named parts.accounts (codes "accounts") _ refl (part_named parts.cash (codes "cash") _ refl (part_named parts.sums (codes "sums") [] refl (All-nil IsPart))))))

parts_back : (parts : Parts) → TellsSome parts → parts ≡ parts_by (words_of_parts parts)
parts_back parts some = go parts.pending parts.unmatched parts.accounts parts.cash parts.sums some
  where
    of : Bool → Bool → Bool → Bool → Bool → Parts
    of a b c d e = record { pending = a; unmatched = b; accounts = c; cash = d; sums = e }

    go : (a b c d e : Bool) → TellsSome (of a b c d e) → of a b c d e ≡ parts_by (words_of_parts (of a b c d e))
    go false false false false false some = cc
    go true true true true true some = refl
    go true true true true false some = refl
    go true true true false true some = refl
    go true true true false false some = refl
    go true true false true true some = refl
    go true true false true false some = refl
    go true true false false true some = refl
    go true true false false false some = refl
    go true false true true true some = refl
    go true false true true false some = refl
    go true false true false true some = refl
    go true false true false false some = refl
    go true false false true true some = refl
    go true false false true false some = refl
    go true false false false true some = refl
    go true false false false false some = refl
    go false true true true true some = refl
    go false true true true false some = refl
    go false true true false true some = refl
    go false true true false false some = refl
    go false true false true true some = refl
    go false true false true false some = refl
    go false true false false true some = refl
    go false true false false false some = refl
    go false false true true true some = refl
    go false false true true false some = refl
    go false false true false true some = refl
    go false false true false false some = refl
    go false false false true true some = refl
    go false false false true false some = refl
    go false false false false true some = refl

pub takes_report : (program : List ℕ) (db : Option (List ℕ)) (parts : Parts) (format : Format) → IsNoOptionIn db → takes desk_app (program ∷ words_for (report db parts format)) ≡ true
takes_report program db parts format file = takes_several program db format (words_of_parts parts) file (are_parts parts)

pub enters_report : (program : List ℕ) (db : Option (List ℕ)) (parts : Parts) (format : Format) → IsNoOptionIn db → TellsSome parts
    → IsSomeAnd (subcommand_of desk_app (program ∷ words_for (report db parts format))) (λ p. IsSpelledOut (report db parts format) p.0 p.1)
enters_report program db parts format file some =
    let P : Parts → Type 0 = λ told. IsSomeAnd (subcommand_of desk_app (program ∷ words_for (report db parts format))) (λ p. IsSpelledOut (report db told format) p.0 p.1) in
    subst P (sym (parts_back parts some)) (enters_several program db format (words_of_parts parts) file (are_parts parts))

-- one flag asks for one form
pub one_form : (flag : Option (List ℕ)) (a b : Format) → IsFormatOf a flag → IsFormatOf b flag → a ≡ b
one_form flag Json Json is also = refl
one_form flag Json Text is also = absurd (also is)
one_form flag Text Json is also = absurd (is also)
one_form flag Text Text is also = refl
