-- What the parser of words makes of those that ask for something, and what is taken for a call says it.
use Rattle.std.proofs.Common.{◌≡◌, ◌&&◌, ◌∙◌, ◌⊎◌, ◌<◌, ◌≤◌, ◌^◌, inl, inr, sym, ap, ap₂, ℕ, Bool, true, false, List, [], ◌∷◌, Option, Some, None, option_map, length, slice_index, take, codes, refl, arith, subst}
use Rattle.std.specs.Prelude.{All, IfNone, IfSome, IsSomeAnd, Ok, decimal}
use Rattle.std.specs.Str.Parse.{IsNumeral, digits_value, without_leading_plus}
use Rattle.std.proofs.lemmas.List.Elements.{All-head, All-tail}
use Rattle.std.proofs.lemmas.Fmt.{decimal_is_IsNumeral}
use Rattle.std.specs.Str.{bytes_eq}
use Rattle.clap.specs.Lexer.{long_of, short_of}
use Rattle.std.specs.Box.{box_value}
use Rattle.clap.specs.declared.parser.matches.ArgMatches.{ArgMatches}
use Rattle.clap.specs.declared.parser.matches.ArgMatches.TheViews.{out-ArgMatches, out-SubCommand}
use Rattle.clap.specs.declared.parser.matches.Found.{Found}
use Rattle.clap.proofs.WalkLemmas.{first_value-rows, one_text-rows}
use Rattle.clap.specs.declared.error.kind.ErrorKind.{ErrorKind}
use Rattle.clap.specs.declared.error.kind.ErrorKind.TheVariants.{InvalidValue, OutOfMemory}
use Rattle.clap.specs.Simple.{Shape, built_leaf, rows_at}
use Rattle.clap.specs.Takes.{level_passes}
use Rattle.clap.specs.Walk.{Walk, nothing_held, walk_from}
use Rattle.clap.specs.declared.builder.value_parser.Reading.TheVariants.{AsWritten, WithoutMinus}
use Rattle.clap.specs.Words.{App, HasMatchesOf, IsAmong, Row, Text, fault_of, first_of, first_value, found_of, is_simple, is_simple_and_free, one_of, one_text, rows_of, subcommand_name_of, subcommand_of, subcommand_rows_of, takes}
use Rattle.clap.proofs.OnLiterals.{clap_on_literals}
use Rattle.desk_msg.specs.MessageType.{digits_of_type, is_instruction}
use Rattle.desk_msg.specs.declared.mt.Mt.{Mt}
use Rattle.desk_msg.specs.declared.mt.Mt.TheVariants.{Mt540, Mt541, Mt542, Mt543, Mt544, Mt545, Mt546, Mt547}
use Rattle.desk_codes.specs.Bic.{IsBic, ReadsBic, party_of}
use Rattle.desk_rules.proofs.PartLemmas.{bic_itself}
use Rattle.desk_codes.specs.Characters.{IsCodeChar}
use Rattle.desk_words.proofs.CheckWords.{enters_check, takes_check}
use Rattle.desk_words.proofs.JournalWords.{enters_journal, takes_journal}
use Rattle.desk_words.proofs.MigrateWords.{enters_migrate, takes_migrate}
use Rattle.desk_words.proofs.NumberWords.{IsTaken, no_sign, number_taken, plain_number}
use Rattle.desk_words.proofs.PlainWords.{IsPlain, no_dashes, no_long, no_short, plain_word}
use Rattle.desk_words.proofs.PlayWords.{enters_alone, enters_on_file, takes_alone, takes_on_file}
use Rattle.desk_words.proofs.ReportWords.{enters_report, enters_several, one_form, takes_report, takes_several}
use Rattle.desk_words.proofs.WalkWords.{Walks, behind_option, behind_value, found_at, goes, level, passes_place, passes_value, stands, value_row, walks_place, walks_value}
use Rattle.desk_words.specs.Words.{ArePartWords, ArePartsOf, CallValue, IsAskable, IsBicText, IsErrorIn, IsFormatOf, IsNoOption, IsNoOptionIn, IsSpelledOut, IsSaid, IsSaidBy, IsSaidIn, IsTypeText, value_of_call, desk_app, IsNumberText, answer_words_in, check, explain, holdings, isin, journal, part_words_in, parts_by, play, read, report, report_words, serve, sums, serve_app, trial, words_for, drop_app, explain_app, folder, holdings_app, migrate, words_found}
use Rattle.desk_report.specs.declared.part.Parts.{Parts}
use Rattle.desk_report.specs.declared.format.Format.{Format}
use Rattle.desk_words.specs.declared.calls.Call.{Call}

pub simple : is_simple desk_app ≡ true
unfolding clap_on_literals
simple = refl

-- a number that is written in digits is read as that number
module _ (n : ℕ) (small : n < 2 ^ 64) where
  pub reads_back : (k : ℕ) → n < 2 ^ k → IsNumeral 10 (without_leading_plus (decimal n)) × (digits_value 10 (without_leading_plus (decimal n)) < 2 ^ k)
  reads_back k fits =
      let is = decimal_is_IsNumeral n small in
      rw ((no_sign (decimal n) is.0).3) (is.0, rw is.1 fits)

  pub read_value : digits_value 10 (without_leading_plus (decimal n)) ≡ n
  read_value = let is = decimal_is_IsNumeral n small in rw ((no_sign (decimal n) is.0).3) is.1

no_code_char : IsCodeChar 45 → ⊥
no_code_char (inl digit) = omega (arith, digit.0, digit.1)
no_code_char (inr capital) = omega (arith, capital.0, capital.1)

-- a BIC begins with a letter or a digit
plain_bic : (bic : List ℕ) → IsBic bic → IsPlain bic
plain_bic bic is = plain_word bic (begins bic is)
  where
    begins : (b : List ℕ) → IsBic b → IsNoOption b
    begins [] bad = absurd (elim bad.len [ inl e ↦ omega (arith, e) | inr e ↦ omega (arith, e) ])
    begins (c ∷ rest) good = λ dash. let char : IsCodeChar c = All-head IsCodeChar c (take 3 rest) good.shaped.party in no_code_char (subst IsCodeChar dash char)

-- the words are taken

takes_isin : (program code : List ℕ) → bytes_eq code (45 ∷ 45 ∷ []) ≡ false → long_of code ≡ None → short_of code ≡ None → takes desk_app (program ∷ words_for (isin code)) ≡ true
unfolding clap_on_literals
takes_isin program code dashes long short = rw (dashes, long, short) refl

not_true : false ≡ true → ⊥
not_true is = cc

takes_read : (program : List ℕ) (mt : Mt) → is_instruction mt ≡ true → takes desk_app (program ∷ words_for (read mt)) ≡ true
unfolding clap_on_literals
takes_read program Mt540 is = refl
takes_read program Mt541 is = refl
takes_read program Mt542 is = refl
takes_read program Mt543 is = refl
takes_read program Mt544 is = absurd (not_true is)
takes_read program Mt545 is = absurd (not_true is)
takes_read program Mt546 is = absurd (not_true is)
takes_read program Mt547 is = absurd (not_true is)

takes_sums : (program db : List ℕ) → IsPlain db → takes desk_app (program ∷ words_for (sums db)) ≡ true
unfolding clap_on_literals
takes_sums program db is = rw (is.dashes, is.long, is.short) refl

and_true : (x y : Bool) → x ≡ true → y ≡ true → (x && y) ≡ true
and_true true y is also = also
and_true false y is also = cc

-- what the parser knows of `holdings`
holdings_shape : Shape
holdings_shape = built_leaf holdings_app.top

abbrev words_of_account : List ℕ → List ℕ → List ℕ → List (List ℕ)
words_of_account db bic account = codes "--db" ∷ db ∷ bic ∷ account ∷ []

end_of_account : List ℕ → List ℕ → List ℕ → Walk
end_of_account db bic account = behind_value (value_row AsWritten (codes "db") db ∷ value_row AsWritten (codes "bic") bic ∷ []) (codes "account") account 3

walks_account : (db bic account : List ℕ) → IsPlain db → IsPlain bic → IsPlain account → Walks holdings_shape (walk_from nothing_held) (words_of_account db bic account) (end_of_account db bic account)
unfolding clap_on_literals holdings_shape end_of_account
walks_account db bic account a b c =
    let file : Walk = behind_value [] (codes "db") db 1 in
    let party : Walk = behind_value (value_row AsWritten (codes "db") db ∷ []) (codes "bic") bic 2 in
    goes (behind_option [] (codes "db") 1) refl refl
    (goes file (passes_value holdings_shape (behind_option [] (codes "db") 1).held (codes "db") db 1 a) (walks_value holdings_shape.rules (behind_option [] (codes "db") 1).held (codes "db") db 1 a)
    (goes party (passes_place holdings_shape file.held bic 1 b refl) (walks_place holdings_shape.rules file.held bic 1 b)
    (goes (end_of_account db bic account) (passes_place holdings_shape party.held account 2 c refl) (walks_place holdings_shape.rules party.held account 2 c) stands)))

passes_account : (db bic account : List ℕ) → IsPlain db → IsPlain bic → IsPlain account → level_passes holdings_shape [] nothing_held (words_of_account db bic account) false ≡ true
unfolding clap_on_literals holdings_shape end_of_account
passes_account db bic account a b c = level holdings_shape (words_of_account db bic account) (end_of_account db bic account) (walks_account db bic account a b c) refl

takes_holdings : (program db bic account : List ℕ) → IsPlain db → IsPlain bic → IsPlain account → takes desk_app (program ∷ codes "holdings" ∷ words_of_account db bic account) ≡ true
unfolding clap_on_literals holdings_shape
takes_holdings program db bic account a b c = and_true (level_passes holdings_shape [] nothing_held (words_of_account db bic account) false) _ (passes_account db bic account a b c) refl

-- what the parser knows of `drop`
drop_shape : Shape
drop_shape = built_leaf drop_app.top

abbrev words_of_folder : List ℕ → List ℕ → List ℕ → List (List ℕ)
words_of_folder db from to = codes "--db" ∷ db ∷ codes "--in" ∷ from ∷ codes "--out" ∷ to ∷ []

-- what the parser knows of `explain`, and three words behind it
explain_shape : Shape
explain_shape = built_leaf explain_app.top

abbrev three : List ℕ → List ℕ → List ℕ → List (List ℕ)
three first second third = first ∷ second ∷ third ∷ []

end_of_one : List ℕ → Walk
end_of_one first = behind_value [] (codes "word") first 2

end_of_two : List ℕ → List ℕ → Walk
end_of_two first second = behind_value (value_row AsWritten (codes "word") first ∷ []) (codes "second") second 3

end_of_three : List ℕ → List ℕ → List ℕ → Walk
end_of_three first second third = behind_value (value_row AsWritten (codes "word") first ∷ value_row AsWritten (codes "second") second ∷ []) (codes "third") third 4

walks_one : (first : List ℕ) → IsPlain first → Walks explain_shape (walk_from nothing_held) (first ∷ []) (end_of_one first)
unfolding clap_on_literals explain_shape end_of_one
walks_one first a = goes (end_of_one first) (passes_place explain_shape nothing_held first 1 a refl) (walks_place explain_shape.rules nothing_held first 1 a) stands

walks_two : (first second : List ℕ) → IsPlain first → IsPlain second → Walks explain_shape (walk_from nothing_held) (first ∷ second ∷ []) (end_of_two first second)
unfolding clap_on_literals explain_shape end_of_one end_of_two
walks_two first second a b =
    let one = end_of_one first in
    goes one (passes_place explain_shape nothing_held first 1 a refl) (walks_place explain_shape.rules nothing_held first 1 a)
    (goes (end_of_two first second) (passes_place explain_shape one.held second 2 b refl) (walks_place explain_shape.rules one.held second 2 b) stands)

walks_three : (first second third : List ℕ) → IsPlain first → IsPlain second → IsPlain third → Walks explain_shape (walk_from nothing_held) (three first second third) (end_of_three first second third)
unfolding clap_on_literals explain_shape end_of_one end_of_two end_of_three
walks_three first second third a b c =
    let one = end_of_one first in
    let two = end_of_two first second in
    goes one (passes_place explain_shape nothing_held first 1 a refl) (walks_place explain_shape.rules nothing_held first 1 a)
    (goes two (passes_place explain_shape one.held second 2 b refl) (walks_place explain_shape.rules one.held second 2 b)
    (goes (end_of_three first second third) (passes_place explain_shape two.held third 3 c refl) (walks_place explain_shape.rules two.held third 3 c) stands))

-- the words of an answer are read as they are, up to three
record IsQuoted (words : List (List ℕ)) : Type 0 where
  passes : level_passes explain_shape [] nothing_held words false ≡ true
  found : words ≡ answer_words_in (rows_at explain_shape words).1

quoted : (words : List (List ℕ)) → length words ≤ 3 → All IsNoOption words → IsQuoted words
unfolding clap_on_literals explain_shape end_of_one end_of_two end_of_three
quoted [] short plain = record { passes = refl; found = refl }
quoted (first ∷ []) short plain =
    let a = plain_word first (All-head IsNoOption first [] plain) in
    record {
      passes = level explain_shape (first ∷ []) (end_of_one first) (walks_one first a) refl;
      found = found_at explain_shape (λ rows. first ∷ [] ≡ answer_words_in rows) (walks_one first a) refl;
    }
quoted (first ∷ second ∷ []) short plain =
    let a = plain_word first (All-head IsNoOption first (second ∷ []) plain) in
    let rest = All-tail IsNoOption first (second ∷ []) plain in
    let b = plain_word second (All-head IsNoOption second [] rest) in
    record {
      passes = level explain_shape (first ∷ second ∷ []) (end_of_two first second) (walks_two first second a b) refl;
      found = found_at explain_shape (λ rows. first ∷ second ∷ [] ≡ answer_words_in rows) (walks_two first second a b) refl;
    }
quoted (first ∷ second ∷ third ∷ []) short plain =
    let a = plain_word first (All-head IsNoOption first (second ∷ third ∷ []) plain) in
    let rest = All-tail IsNoOption first (second ∷ third ∷ []) plain in
    let b = plain_word second (All-head IsNoOption second (third ∷ []) rest) in
    let last = All-tail IsNoOption second (third ∷ []) rest in
    let c = plain_word third (All-head IsNoOption third [] last) in
    record {
      passes = level explain_shape (three first second third) (end_of_three first second third) (walks_three first second third a b c) refl;
      found = found_at explain_shape (λ rows. three first second third ≡ answer_words_in rows) (walks_three first second third a b c) refl;
    }
quoted (first ∷ second ∷ third ∷ fourth ∷ more) short plain = absurd (omega (arith, short))

takes_explain : (program : List ℕ) (words : List (List ℕ)) → length words ≤ 3 → All IsNoOption words → takes desk_app (program ∷ codes "explain" ∷ words) ≡ true
unfolding clap_on_literals explain_shape
takes_explain program [] short plain = and_true (level_passes explain_shape [] nothing_held [] false) _ (quoted [] short plain).passes refl
takes_explain program (first ∷ []) short plain = and_true (level_passes explain_shape [] nothing_held (first ∷ []) false) _ (quoted (first ∷ []) short plain).passes refl
takes_explain program (first ∷ second ∷ []) short plain =
    and_true (level_passes explain_shape [] nothing_held (first ∷ second ∷ []) false) _ (quoted (first ∷ second ∷ []) short plain).passes refl
takes_explain program (first ∷ second ∷ third ∷ []) short plain =
    and_true (level_passes explain_shape [] nothing_held (three first second third) false) _ (quoted (three first second third) short plain).passes refl
takes_explain program (first ∷ second ∷ third ∷ fourth ∷ more) short plain = absurd (omega (arith, short))

-- what the parser knows of `serve`, and the words behind it, without a file and with one
serve_shape : Shape
serve_shape = built_leaf serve_app.top

abbrev words_without : List ℕ → List ℕ → List (List ℕ)
words_without port count = codes "--port" ∷ port ∷ codes "--count" ∷ count ∷ []

abbrev words_on : List ℕ → List ℕ → List ℕ → List (List ℕ)
words_on db port count = codes "--db" ∷ db ∷ codes "--port" ∷ port ∷ codes "--count" ∷ count ∷ []

end_of_service : List ℕ → List ℕ → Walk
end_of_service port count = behind_value (value_row WithoutMinus (codes "port") port ∷ []) (codes "count") count 1

walks_service : (port count : List ℕ) → IsTaken 65535 port → IsTaken 1000000 count → Walks serve_shape (walk_from nothing_held) (words_without port count) (end_of_service port count)
unfolding clap_on_literals serve_shape end_of_service
walks_service port count a b =
    let asked : Walk = behind_option [] (codes "port") 1 in
    let counted : Walk = behind_option (value_row WithoutMinus (codes "port") port ∷ []) (codes "count") 1 in
    goes asked refl refl
    (goes (behind_value [] (codes "port") port 1) (passes_value serve_shape asked.held (codes "port") port 1 (plain_number a)) (walks_value serve_shape.rules asked.held (codes "port") port 1 (plain_number a))
    (goes counted (rw a.fits refl) refl
    (goes (end_of_service port count) (passes_value serve_shape counted.held (codes "count") count 1 (plain_number b)) (walks_value serve_shape.rules counted.held (codes "count") count 1 (plain_number b)) stands)))

passes_service : (port count : List ℕ) → IsTaken 65535 port → IsTaken 1000000 count → level_passes serve_shape [] nothing_held (words_without port count) false ≡ true
unfolding clap_on_literals serve_shape end_of_service
passes_service port count a b = level serve_shape (words_without port count) (end_of_service port count) (walks_service port count a b) (rw b.fits refl)

takes_service : (program port count : List ℕ) → IsTaken 65535 port → IsTaken 1000000 count → takes desk_app (program ∷ codes "serve" ∷ words_without port count) ≡ true
unfolding clap_on_literals serve_shape
takes_service program port count a b = and_true (level_passes serve_shape [] nothing_held (words_without port count) false) _ (passes_service port count a b) refl

end_of_service_on : List ℕ → List ℕ → List ℕ → Walk
end_of_service_on db port count = behind_value (value_row AsWritten (codes "db") db ∷ value_row WithoutMinus (codes "port") port ∷ []) (codes "count") count 1

walks_service_on : (db port count : List ℕ) → IsPlain db → IsTaken 65535 port → IsTaken 1000000 count → Walks serve_shape (walk_from nothing_held) (words_on db port count) (end_of_service_on db port count)
unfolding clap_on_literals serve_shape end_of_service_on
walks_service_on db port count f a b =
    let named : Walk = behind_option [] (codes "db") 1 in
    let asked : Walk = behind_option (value_row AsWritten (codes "db") db ∷ []) (codes "port") 1 in
    let counted : Walk = behind_option (value_row AsWritten (codes "db") db ∷ value_row WithoutMinus (codes "port") port ∷ []) (codes "count") 1 in
    goes named refl refl
    (goes (behind_value [] (codes "db") db 1) (passes_value serve_shape named.held (codes "db") db 1 f) (walks_value serve_shape.rules named.held (codes "db") db 1 f)
    (goes asked refl refl
    (goes (behind_value (value_row AsWritten (codes "db") db ∷ []) (codes "port") port 1) (passes_value serve_shape asked.held (codes "port") port 1 (plain_number a)) (walks_value serve_shape.rules asked.held (codes "port") port 1 (plain_number a))
    (goes counted (rw a.fits refl) refl
    (goes (end_of_service_on db port count) (passes_value serve_shape counted.held (codes "count") count 1 (plain_number b)) (walks_value serve_shape.rules counted.held (codes "count") count 1 (plain_number b)) stands)))))

passes_service_on : (db port count : List ℕ) → IsPlain db → IsTaken 65535 port → IsTaken 1000000 count → level_passes serve_shape [] nothing_held (words_on db port count) false ≡ true
unfolding clap_on_literals serve_shape end_of_service_on
passes_service_on db port count f a b = level serve_shape (words_on db port count) (end_of_service_on db port count) (walks_service_on db port count f a b) (rw b.fits refl)

takes_service_on : (program db port count : List ℕ) → IsPlain db → IsTaken 65535 port → IsTaken 1000000 count → takes desk_app (program ∷ codes "serve" ∷ words_on db port count) ≡ true
unfolding clap_on_literals serve_shape
takes_service_on program db port count f a b = and_true (level_passes serve_shape [] nothing_held (words_on db port count) false) _ (passes_service_on db port count f a b) refl

end_of_folder : List ℕ → List ℕ → List ℕ → Walk
end_of_folder db from to = behind_value (value_row AsWritten (codes "db") db ∷ value_row AsWritten (codes "in") from ∷ []) (codes "out") to 1

walks_folder : (db from to : List ℕ) → IsPlain db → IsPlain from → IsPlain to → Walks drop_shape (walk_from nothing_held) (words_of_folder db from to) (end_of_folder db from to)
unfolding clap_on_literals drop_shape end_of_folder
walks_folder db from to f a b =
    let named : Walk = behind_option [] (codes "db") 1 in
    let coming : Walk = behind_option (value_row AsWritten (codes "db") db ∷ []) (codes "in") 1 in
    let going : Walk = behind_option (value_row AsWritten (codes "db") db ∷ value_row AsWritten (codes "in") from ∷ []) (codes "out") 1 in
    goes named refl refl
    (goes (behind_value [] (codes "db") db 1) (passes_value drop_shape named.held (codes "db") db 1 f) (walks_value drop_shape.rules named.held (codes "db") db 1 f)
    (goes coming refl refl
    (goes (behind_value (value_row AsWritten (codes "db") db ∷ []) (codes "in") from 1) (passes_value drop_shape coming.held (codes "in") from 1 a) (walks_value drop_shape.rules coming.held (codes "in") from 1 a)
    (goes going refl refl
    (goes (end_of_folder db from to) (passes_value drop_shape going.held (codes "out") to 1 b) (walks_value drop_shape.rules going.held (codes "out") to 1 b) stands)))))

passes_folder : (db from to : List ℕ) → IsPlain db → IsPlain from → IsPlain to → level_passes drop_shape [] nothing_held (words_of_folder db from to) false ≡ true
unfolding clap_on_literals drop_shape end_of_folder
passes_folder db from to f a b = level drop_shape (words_of_folder db from to) (end_of_folder db from to) (walks_folder db from to f a b) refl

takes_folder : (program db from to : List ℕ) → IsPlain db → IsPlain from → IsPlain to → takes desk_app (program ∷ codes "drop" ∷ words_of_folder db from to) ≡ true
unfolding clap_on_literals drop_shape
takes_folder program db from to f a b = and_true (level_passes drop_shape [] nothing_held (words_of_folder db from to) false) _ (passes_folder db from to f a b) refl

pub takes_asked : (program : List ℕ) (asked : CallValue) → IsAskable asked → takes desk_app (program ∷ words_for asked) ≡ true
takes_asked program (isin code) other = takes_isin program code (no_dashes code other) (no_long code other) (no_short code other)
takes_asked program (read mt) is = takes_read program mt is
takes_asked program (play None) is = takes_alone program
takes_asked program (play (Some db)) is = takes_on_file program db false (plain_word db is)
takes_asked program (trial db) is = takes_on_file program db true (plain_word db is)
takes_asked program (check db format) is = takes_check program db format is
takes_asked program (explain words) is = takes_explain program words is.0 is.1
takes_asked program (serve None port count) is =
    takes_service program (decimal port) (decimal count) (number_taken port 65535 is.1.0 is.1.1 (omega arith)) (number_taken count 1000000 is.2 is.3 (omega arith))
takes_asked program (serve (Some db) port count) is =
    takes_service_on program db (decimal port) (decimal count) (plain_word db is.0) (number_taken port 65535 is.1.0 is.1.1 (omega arith)) (number_taken count 1000000 is.2 is.3 (omega arith))
takes_asked program (holdings db bic account) is = takes_holdings program db bic account (plain_word db is.0) (plain_bic bic is.1) (plain_word account is.2)
takes_asked program (sums db) is = takes_sums program db (plain_word db is)
takes_asked program (report db parts format) is = takes_report program db parts format is.0
takes_asked program (journal db from format) is = takes_journal program db from format is.0 is.1
takes_asked program (folder db from to) is = takes_folder program db from to (plain_word db is.0) (plain_word from is.1) (plain_word to is.2)
takes_asked program (migrate old fresh) is = takes_migrate program old fresh (plain_word old is.0) (plain_word fresh is.1)

pub takes_nothing : (program : List ℕ) → takes desk_app (program ∷ []) ≡ true
unfolding clap_on_literals
takes_nothing program = refl

-- and name what is asked for

enters_isin : (program code : List ℕ) → bytes_eq code (45 ∷ 45 ∷ []) ≡ false → long_of code ≡ None → short_of code ≡ None
    → IsSomeAnd (subcommand_of desk_app (program ∷ words_for (isin code))) (λ p. (p.0 ≡ codes "isin") × (first_of (codes "code") p.1 ≡ Some code))
unfolding clap_on_literals
enters_isin program code dashes long short = (refl, rw (dashes, long, short) refl)

enters_read : (program : List ℕ) (mt : Mt) → is_instruction mt ≡ true
    → IsSomeAnd (subcommand_of desk_app (program ∷ words_for (read mt))) (λ p. (p.0 ≡ codes "read") × (one_of (codes "mt") p.1 ≡ Some (digits_of_type mt)) × (is_instruction mt ≡ true))
unfolding clap_on_literals
enters_read program Mt540 is = (refl, refl, refl)
enters_read program Mt541 is = (refl, refl, refl)
enters_read program Mt542 is = (refl, refl, refl)
enters_read program Mt543 is = (refl, refl, refl)
enters_read program Mt544 is = absurd (not_true is)
enters_read program Mt545 is = absurd (not_true is)
enters_read program Mt546 is = absurd (not_true is)
enters_read program Mt547 is = absurd (not_true is)

rows_of_account : (db bic account : List ℕ) → IsPlain db → IsPlain bic → IsPlain account
    → (first_of (codes "db") (rows_at holdings_shape (words_of_account db bic account)).1 ≡ Some db) × (first_of (codes "bic") (rows_at holdings_shape (words_of_account db bic account)).1 ≡ Some bic)
    × (first_of (codes "account") (rows_at holdings_shape (words_of_account db bic account)).1 ≡ Some account)
unfolding clap_on_literals holdings_shape end_of_account
rows_of_account db bic account a b c =
    let P : List Row → Type 0 = λ rows. (first_of (codes "db") rows ≡ Some db) × (first_of (codes "bic") rows ≡ Some bic) × (first_of (codes "account") rows ≡ Some account) in
    found_at holdings_shape P (walks_account db bic account a b c) (refl, refl, refl)

enters_holdings : (program db bic account : List ℕ) → IsPlain db → IsPlain bic → IsPlain account
    → IsSomeAnd (subcommand_of desk_app (program ∷ codes "holdings" ∷ words_of_account db bic account))
    (λ p. (p.0 ≡ codes "holdings") × (first_of (codes "db") p.1 ≡ Some db) × (first_of (codes "bic") p.1 ≡ Some bic) × (first_of (codes "account") p.1 ≡ Some account))
unfolding clap_on_literals holdings_shape
enters_holdings program db bic account a b c = let rows = rows_of_account db bic account a b c in (refl, rows.0, rows.1, rows.2)

enters_sums : (program db : List ℕ) → IsPlain db → IsSomeAnd (subcommand_of desk_app (program ∷ words_for (sums db))) (λ p. (p.0 ≡ codes "sums") × (first_of (codes "db") p.1 ≡ Some db))
unfolding clap_on_literals
enters_sums program db is = (refl, rw (is.dashes, is.long, is.short) refl)

holdings_entered : (found : Option (List ℕ × List Row)) (db bic account : List ℕ) → IsBic bic
    → IsSomeAnd found (λ p. (p.0 ≡ codes "holdings") × (first_of (codes "db") p.1 ≡ Some db) × (first_of (codes "bic") p.1 ≡ Some bic) × (first_of (codes "account") p.1 ≡ Some account))
    → IsSomeAnd found (λ p. IsSpelledOut (holdings db bic account) p.0 p.1)
holdings_entered None db bic account party is = is
holdings_entered (Some p) db bic account party is = (is.0, is.1, party, is.2, is.3)

enters_explain : (program : List ℕ) (words : List (List ℕ)) → length words ≤ 3 → All IsNoOption words
    → IsSomeAnd (subcommand_of desk_app (program ∷ codes "explain" ∷ words)) (λ p. (p.0 ≡ codes "explain") × (words ≡ answer_words_in p.1))
unfolding clap_on_literals explain_shape
enters_explain program [] short plain = (refl, (quoted [] short plain).found)
enters_explain program (first ∷ []) short plain = (refl, (quoted (first ∷ []) short plain).found)
enters_explain program (first ∷ second ∷ []) short plain = (refl, (quoted (first ∷ second ∷ []) short plain).found)
enters_explain program (first ∷ second ∷ third ∷ []) short plain = (refl, (quoted (three first second third) short plain).found)
enters_explain program (first ∷ second ∷ third ∷ fourth ∷ more) short plain = absurd (omega (arith, short))

rows_without : (port count : List ℕ) → IsTaken 65535 port → IsTaken 1000000 count
    → (first_of (codes "db") (rows_at serve_shape (words_without port count)).1 ≡ None) × (one_of (codes "port") (rows_at serve_shape (words_without port count)).1 ≡ Some port)
    × (one_of (codes "count") (rows_at serve_shape (words_without port count)).1 ≡ Some count)
unfolding clap_on_literals serve_shape end_of_service
rows_without port count a b =
    let P : List Row → Type 0 = λ rows. (first_of (codes "db") rows ≡ None) × (one_of (codes "port") rows ≡ Some port) × (one_of (codes "count") rows ≡ Some count) in
    found_at serve_shape P (walks_service port count a b) (refl, ap Some a.plain, ap Some b.plain)

enters_service : (program port count : List ℕ) → IsTaken 65535 port → IsTaken 1000000 count
    → IsSomeAnd (subcommand_of desk_app (program ∷ codes "serve" ∷ words_without port count))
    (λ p. (p.0 ≡ codes "serve") × (first_of (codes "db") p.1 ≡ None) × (one_of (codes "port") p.1 ≡ Some port) × (one_of (codes "count") p.1 ≡ Some count))
unfolding clap_on_literals serve_shape
enters_service program port count a b = let rows = rows_without port count a b in (refl, rows.0, rows.1, rows.2)

rows_on : (db port count : List ℕ) → IsPlain db → IsTaken 65535 port → IsTaken 1000000 count
    → (first_of (codes "db") (rows_at serve_shape (words_on db port count)).1 ≡ Some db) × (one_of (codes "port") (rows_at serve_shape (words_on db port count)).1 ≡ Some port)
    × (one_of (codes "count") (rows_at serve_shape (words_on db port count)).1 ≡ Some count)
unfolding clap_on_literals serve_shape end_of_service_on
rows_on db port count f a b =
    let P : List Row → Type 0 = λ rows. (first_of (codes "db") rows ≡ Some db) × (one_of (codes "port") rows ≡ Some port) × (one_of (codes "count") rows ≡ Some count) in
    found_at serve_shape P (walks_service_on db port count f a b) (refl, ap Some a.plain, ap Some b.plain)

enters_service_on : (program db port count : List ℕ) → IsPlain db → IsTaken 65535 port → IsTaken 1000000 count
    → IsSomeAnd (subcommand_of desk_app (program ∷ codes "serve" ∷ words_on db port count))
    (λ p. (p.0 ≡ codes "serve") × (first_of (codes "db") p.1 ≡ Some db) × (one_of (codes "port") p.1 ≡ Some port) × (one_of (codes "count") p.1 ≡ Some count))
unfolding clap_on_literals serve_shape
enters_service_on program db port count f a b = let rows = rows_on db port count f a b in (refl, rows.0, rows.1, rows.2)

rows_of_folder : (db from to : List ℕ) → IsPlain db → IsPlain from → IsPlain to
    → (first_of (codes "db") (rows_at drop_shape (words_of_folder db from to)).1 ≡ Some db) × (first_of (codes "in") (rows_at drop_shape (words_of_folder db from to)).1 ≡ Some from)
    × (first_of (codes "out") (rows_at drop_shape (words_of_folder db from to)).1 ≡ Some to)
unfolding clap_on_literals drop_shape end_of_folder
rows_of_folder db from to f a b =
    let P : List Row → Type 0 = λ rows. (first_of (codes "db") rows ≡ Some db) × (first_of (codes "in") rows ≡ Some from) × (first_of (codes "out") rows ≡ Some to) in
    found_at drop_shape P (walks_folder db from to f a b) (refl, refl, refl)

enters_folder : (program db from to : List ℕ) → IsPlain db → IsPlain from → IsPlain to
    → IsSomeAnd (subcommand_of desk_app (program ∷ codes "drop" ∷ words_of_folder db from to))
    (λ p. (p.0 ≡ codes "drop") × (first_of (codes "db") p.1 ≡ Some db) × (first_of (codes "in") p.1 ≡ Some from) × (first_of (codes "out") p.1 ≡ Some to))
unfolding clap_on_literals drop_shape
enters_folder program db from to f a b = let rows = rows_of_folder db from to f a b in (refl, rows.0, rows.1, rows.2)

service_entered : (found : Option (List ℕ × List Row)) (db : Option (List ℕ)) (port count : ℕ) → port < 2 ^ 16 → count < 2 ^ 32
    → IsSomeAnd found (λ p. (p.0 ≡ codes "serve") × (first_of (codes "db") p.1 ≡ db) × (one_of (codes "port") p.1 ≡ Some (decimal port)) × (one_of (codes "count") p.1 ≡ Some (decimal count)))
    → IsSomeAnd found (λ p. IsSpelledOut (serve db port count) p.0 p.1)
service_entered None db port count a b is = is
service_entered (Some p) db port count a b is = (is.0, is.1, is.2, a, is.3, b)

pub enters_asked : (program : List ℕ) (asked : CallValue) → IsAskable asked → IsSomeAnd (subcommand_of desk_app (program ∷ words_for asked)) (λ p. IsSpelledOut asked p.0 p.1)
enters_asked program (isin code) other = enters_isin program code (no_dashes code other) (no_long code other) (no_short code other)
enters_asked program (read mt) is = enters_read program mt is
enters_asked program (play None) is = enters_alone program
enters_asked program (play (Some db)) is = enters_on_file program db false (plain_word db is)
enters_asked program (trial db) is = enters_on_file program db true (plain_word db is)
enters_asked program (check db format) is = enters_check program db format is
enters_asked program (explain words) is = enters_explain program words is.0 is.1
enters_asked program (serve None port count) is =
    let a : port < 2 ^ 16 = omega (arith, is.1.1) in
    let b : count < 2 ^ 32 = omega (arith, is.3) in
    service_entered _ None port count a b
    (enters_service program (decimal port) (decimal count) (number_taken port 65535 is.1.0 is.1.1 (omega arith)) (number_taken count 1000000 is.2 is.3 (omega arith)))
enters_asked program (serve (Some db) port count) is =
    let a : port < 2 ^ 16 = omega (arith, is.1.1) in
    let b : count < 2 ^ 32 = omega (arith, is.3) in
    service_entered _ (Some db) port count a b
    (enters_service_on program db (decimal port) (decimal count) (plain_word db is.0) (number_taken port 65535 is.1.0 is.1.1 (omega arith)) (number_taken count 1000000 is.2 is.3 (omega arith)))
enters_asked program (holdings db bic account) is =
    holdings_entered _ db bic account is.1 (enters_holdings program db bic account (plain_word db is.0) (plain_bic bic is.1) (plain_word account is.2))
enters_asked program (sums db) is = enters_sums program db (plain_word db is)
enters_asked program (report db parts format) is = enters_report program db parts format is.0 is.1
enters_asked program (journal db from format) is = enters_journal program db from format is.0 is.1
enters_asked program (folder db from to) is = enters_folder program db from to (plain_word db is.0) (plain_word from is.1) (plain_word to is.2)
enters_asked program (migrate old fresh) is = enters_migrate program old fresh (plain_word old is.0) (plain_word fresh is.1)

pub enters_nothing : (program : List ℕ) → subcommand_of desk_app (program ∷ []) ≡ None
unfolding clap_on_literals
enters_nothing program = refl

-- what was found of a subcommand is read in two parts, its name and its matches

abbrev pair : {S : Type 0} → (S → List ℕ) → (S → List Row) → S → List ℕ × List Row
pair name_in rows_in s = (name_in s, rows_in s)

pub named_parts : {S : Type 0} (found : Option S) (name_in : S → List ℕ) (rows_in : S → List Row) (asked : CallValue) (name : List ℕ) (rows : List Row)
    → Some name ≡ option_map name_in found → Some rows ≡ option_map (λ p. p.1) (option_map (pair name_in rows_in) found)
    → IsSomeAnd (option_map (pair name_in rows_in) found) (λ p. IsSpelledOut asked p.0 p.1) → IsSpelledOut asked name rows
named_parts None name_in rows_in asked name rows named matched is = absurd is
named_parts (Some s) name_in rows_in asked name rows named matched is =
    let same : name ≡ name_in s = cc in
    let same_rows : rows ≡ rows_in s = cc in
    rw (same, same_rows) is

pub not_found : {S : Type 0} (found : Option S) (name_in : S → List ℕ) (rows_in : S → List Row) → None ≡ option_map name_in found → option_map (pair name_in rows_in) found ≡ None
not_found None name_in rows_in e = refl
not_found (Some s) name_in rows_in e = cc

pub one_found : {S : Type 0} (found : Option S) (name_in : S → List ℕ) (rows_in : S → List Row) (name : List ℕ) → Some name ≡ option_map name_in found → option_map (pair name_in rows_in) found ≡ None → ⊥
one_found None name_in rows_in name e none = cc
one_found (Some s) name_in rows_in name e none = cc

-- what the getters give

module _ (asked : CallValue) (name : List ℕ) (f : Found) where
  named_isin : name ≡ codes "isin" → IsSpelledOut asked name (rows_of f) → (code : List ℕ) × (asked ≡ isin code) × (first_value f (codes "code") ≡ Some code)
  named_isin is named = go asked named
    where
      go : (a : CallValue) → IsSpelledOut a name (rows_of f) → (code : List ℕ) × (a ≡ isin code) × (first_value f (codes "code") ≡ Some code)
      go (isin code) h = (code, refl, first_value-rows f (codes "code") ∙ h.1)
      go (read mt) h = let bad : 114 ≡ 105 = ap (λ t. slice_index t 0) (sym h.0 ∙ is) in absurd (omega (arith, bad))
      go (play db) h = let bad : 112 ≡ 105 = ap (λ t. slice_index t 0) (sym h.0 ∙ is) in absurd (omega (arith, bad))
      go (trial db) h = let bad : 112 ≡ 105 = ap (λ t. slice_index t 0) (sym h.0 ∙ is) in absurd (omega (arith, bad))
      go (check db format) h = let bad : 99 ≡ 105 = ap (λ t. slice_index t 0) (sym h.0 ∙ is) in absurd (omega (arith, bad))
      go (explain words) h = let bad : 101 ≡ 105 = ap (λ t. slice_index t 0) (sym h.0 ∙ is) in absurd (omega (arith, bad))
      go (serve db port count) h = let bad : 115 ≡ 105 = ap (λ t. slice_index t 0) (sym h.0 ∙ is) in absurd (omega (arith, bad))
      go (holdings db bic account) h = let bad : 104 ≡ 105 = ap (λ t. slice_index t 0) (sym h.0 ∙ is) in absurd (omega (arith, bad))
      go (sums db) h = let bad : 115 ≡ 105 = ap (λ t. slice_index t 0) (sym h.0 ∙ is) in absurd (omega (arith, bad))
      go (report db parts format) h = let bad : 114 ≡ 105 = ap (λ t. slice_index t 0) (sym h.0 ∙ is) in absurd (omega (arith, bad))
      go (journal db from format) h = let bad : 106 ≡ 105 = ap (λ t. slice_index t 0) (sym h.0 ∙ is) in absurd (omega (arith, bad))
      go (folder db from to) h = let bad : 100 ≡ 105 = ap (λ t. slice_index t 0) (sym h.0 ∙ is) in absurd (omega (arith, bad))
      go (migrate old fresh) h = let bad : 109 ≡ 105 = ap (λ t. slice_index t 0) (sym h.0 ∙ is) in absurd (omega (arith, bad))

  named_read : name ≡ codes "read" → IsSpelledOut asked name (rows_of f) → (mt : Mt) × (asked ≡ read mt) × (one_text f (codes "mt") ≡ Some (digits_of_type mt)) × (is_instruction mt ≡ true)
  named_read is named = go asked named
    where
      go : (a : CallValue) → IsSpelledOut a name (rows_of f) → (mt : Mt) × (a ≡ read mt) × (one_text f (codes "mt") ≡ Some (digits_of_type mt)) × (is_instruction mt ≡ true)
      go (isin code) h = let bad : 105 ≡ 114 = ap (λ t. slice_index t 0) (sym h.0 ∙ is) in absurd (omega (arith, bad))
      go (read mt) h = (mt, refl, one_text-rows f (codes "mt") ∙ h.1, h.2)
      go (play db) h = let bad : 112 ≡ 114 = ap (λ t. slice_index t 0) (sym h.0 ∙ is) in absurd (omega (arith, bad))
      go (trial db) h = let bad : 112 ≡ 114 = ap (λ t. slice_index t 0) (sym h.0 ∙ is) in absurd (omega (arith, bad))
      go (check db format) h = let bad : 99 ≡ 114 = ap (λ t. slice_index t 0) (sym h.0 ∙ is) in absurd (omega (arith, bad))
      go (explain words) h = let bad : 101 ≡ 114 = ap (λ t. slice_index t 0) (sym h.0 ∙ is) in absurd (omega (arith, bad))
      go (serve db port count) h = let bad : 115 ≡ 114 = ap (λ t. slice_index t 0) (sym h.0 ∙ is) in absurd (omega (arith, bad))
      go (holdings db bic account) h = let bad : 104 ≡ 114 = ap (λ t. slice_index t 0) (sym h.0 ∙ is) in absurd (omega (arith, bad))
      go (sums db) h = let bad : 115 ≡ 114 = ap (λ t. slice_index t 0) (sym h.0 ∙ is) in absurd (omega (arith, bad))
      go (report db parts format) h = let bad : 112 ≡ 97 = ap (λ t. slice_index t 2) (sym h.0 ∙ is) in absurd (omega (arith, bad))
      go (journal db from format) h = let bad : 106 ≡ 114 = ap (λ t. slice_index t 0) (sym h.0 ∙ is) in absurd (omega (arith, bad))
      go (folder db from to) h = let bad : 100 ≡ 114 = ap (λ t. slice_index t 0) (sym h.0 ∙ is) in absurd (omega (arith, bad))
      go (migrate old fresh) h = let bad : 109 ≡ 114 = ap (λ t. slice_index t 0) (sym h.0 ∙ is) in absurd (omega (arith, bad))

  named_explain : name ≡ codes "explain" → IsSpelledOut asked name (rows_of f) → (words : List (List ℕ)) × (asked ≡ explain words) × (words ≡ answer_words_in (rows_of f))
  named_explain is named = go asked named
    where
      go : (a : CallValue) → IsSpelledOut a name (rows_of f) → (words : List (List ℕ)) × (a ≡ explain words) × (words ≡ answer_words_in (rows_of f))
      go (isin code) h = let bad : 105 ≡ 101 = ap (λ t. slice_index t 0) (sym h.0 ∙ is) in absurd (omega (arith, bad))
      go (read mt) h = let bad : 114 ≡ 101 = ap (λ t. slice_index t 0) (sym h.0 ∙ is) in absurd (omega (arith, bad))
      go (play db) h = let bad : 112 ≡ 101 = ap (λ t. slice_index t 0) (sym h.0 ∙ is) in absurd (omega (arith, bad))
      go (trial db) h = let bad : 112 ≡ 101 = ap (λ t. slice_index t 0) (sym h.0 ∙ is) in absurd (omega (arith, bad))
      go (check db format) h = let bad : 99 ≡ 101 = ap (λ t. slice_index t 0) (sym h.0 ∙ is) in absurd (omega (arith, bad))
      go (explain words) h = (words, refl, h.1)
      go (serve db port count) h = let bad : 115 ≡ 101 = ap (λ t. slice_index t 0) (sym h.0 ∙ is) in absurd (omega (arith, bad))
      go (holdings db bic account) h = let bad : 104 ≡ 101 = ap (λ t. slice_index t 0) (sym h.0 ∙ is) in absurd (omega (arith, bad))
      go (sums db) h = let bad : 115 ≡ 101 = ap (λ t. slice_index t 0) (sym h.0 ∙ is) in absurd (omega (arith, bad))
      go (report db parts format) h = let bad : 114 ≡ 101 = ap (λ t. slice_index t 0) (sym h.0 ∙ is) in absurd (omega (arith, bad))
      go (journal db from format) h = let bad : 106 ≡ 101 = ap (λ t. slice_index t 0) (sym h.0 ∙ is) in absurd (omega (arith, bad))
      go (folder db from to) h = let bad : 100 ≡ 101 = ap (λ t. slice_index t 0) (sym h.0 ∙ is) in absurd (omega (arith, bad))
      go (migrate old fresh) h = let bad : 109 ≡ 101 = ap (λ t. slice_index t 0) (sym h.0 ∙ is) in absurd (omega (arith, bad))

  -- the words that the getters give are those of the rows
  given_words : words_found (first_value f (codes "word")) (first_value f (codes "second")) (first_value f (codes "third")) ≡ answer_words_in (rows_of f)
  given_words = rw (first_value-rows f (codes "word"), first_value-rows f (codes "second"), first_value-rows f (codes "third")) refl

  pub same_answer : (words : List (List ℕ)) → name ≡ codes "explain" → words ≡ words_found (first_value f (codes "word")) (first_value f (codes "second")) (first_value f (codes "third"))
      → IsSpelledOut asked name (rows_of f) → explain words ≡ asked
  same_answer words is given named = let n = named_explain is named in ap explain (given ∙ given_words ∙ sym n.2) ∙ sym n.1

  named_serve : name ≡ codes "serve" → IsSpelledOut asked name (rows_of f) → (db : Option (List ℕ)) × (port : ℕ) × (count : ℕ) × (asked ≡ serve db port count) × (first_value f (codes "db") ≡ db) × (one_text f (codes "port") ≡ Some (decimal port)) × (port < 2 ^ 16) × (one_text f (codes "count") ≡ Some (decimal count)) × (count < 2 ^ 32)
  named_serve is named = go asked named
    where
      go : (a : CallValue) → IsSpelledOut a name (rows_of f) → (db : Option (List ℕ)) × (port : ℕ) × (count : ℕ) × (a ≡ serve db port count) × (first_value f (codes "db") ≡ db) × (one_text f (codes "port") ≡ Some (decimal port)) × (port < 2 ^ 16) × (one_text f (codes "count") ≡ Some (decimal count)) × (count < 2 ^ 32)
      go (isin code) h = let bad : 105 ≡ 115 = ap (λ t. slice_index t 0) (sym h.0 ∙ is) in absurd (omega (arith, bad))
      go (read mt) h = let bad : 114 ≡ 115 = ap (λ t. slice_index t 0) (sym h.0 ∙ is) in absurd (omega (arith, bad))
      go (play db) h = let bad : 112 ≡ 115 = ap (λ t. slice_index t 0) (sym h.0 ∙ is) in absurd (omega (arith, bad))
      go (trial db) h = let bad : 112 ≡ 115 = ap (λ t. slice_index t 0) (sym h.0 ∙ is) in absurd (omega (arith, bad))
      go (check db format) h = let bad : 99 ≡ 115 = ap (λ t. slice_index t 0) (sym h.0 ∙ is) in absurd (omega (arith, bad))
      go (explain words) h = let bad : 101 ≡ 115 = ap (λ t. slice_index t 0) (sym h.0 ∙ is) in absurd (omega (arith, bad))
      go (serve db port count) h = (db, port, count, refl, first_value-rows f (codes "db") ∙ h.1, one_text-rows f (codes "port") ∙ h.2, h.3, one_text-rows f (codes "count") ∙ h.4, h.5)
      go (holdings db bic account) h = let bad : 104 ≡ 115 = ap (λ t. slice_index t 0) (sym h.0 ∙ is) in absurd (omega (arith, bad))
      go (sums db) h = let bad : 117 ≡ 101 = ap (λ t. slice_index t 1) (sym h.0 ∙ is) in absurd (omega (arith, bad))
      go (report db parts format) h = let bad : 114 ≡ 115 = ap (λ t. slice_index t 0) (sym h.0 ∙ is) in absurd (omega (arith, bad))
      go (journal db from format) h = let bad : 106 ≡ 115 = ap (λ t. slice_index t 0) (sym h.0 ∙ is) in absurd (omega (arith, bad))
      go (folder db from to) h = let bad : 100 ≡ 115 = ap (λ t. slice_index t 0) (sym h.0 ∙ is) in absurd (omega (arith, bad))
      go (migrate old fresh) h = let bad : 109 ≡ 115 = ap (λ t. slice_index t 0) (sym h.0 ∙ is) in absurd (omega (arith, bad))

  pub no_service : name ≡ codes "serve"
      → ((port count : ℕ) → port < 2 ^ 16 → one_text f (codes "port") ≡ Some (decimal port) → count < 2 ^ 32 → one_text f (codes "count") ≡ Some (decimal count) → ⊥)
      → IsSpelledOut asked name (rows_of f) → ⊥
  no_service is none named = let n = named_serve is named in none n.1 n.2 n.6 n.5 n.8 n.7

  pub same_service : (db : Option (List ℕ)) (port count : ℕ) → name ≡ codes "serve" → db ≡ first_value f (codes "db")
      → ((p n : ℕ) → p < 2 ^ 16 → one_text f (codes "port") ≡ Some (decimal p) → n < 2 ^ 32 → one_text f (codes "count") ≡ Some (decimal n) → (port ≡ p) × (count ≡ n))
      → IsSpelledOut asked name (rows_of f) → serve db port count ≡ asked
  same_service db port count is file one named =
      let n = named_serve is named in
      let same = one n.1 n.2 n.6 n.5 n.8 n.7 in
      let same_file : db ≡ n.0 = file ∙ n.4 in
      rw (same_file, same.0, same.1) (sym n.3)

  named_holdings : name ≡ codes "holdings" → IsSpelledOut asked name (rows_of f) → (db : List ℕ) × (bic : List ℕ) × (account : List ℕ) × (asked ≡ holdings db bic account) × (first_value f (codes "db") ≡ Some db) × IsBic bic × (first_value f (codes "bic") ≡ Some bic) × (first_value f (codes "account") ≡ Some account)
  named_holdings is named = go asked named
    where
      go : (a : CallValue) → IsSpelledOut a name (rows_of f) → (db : List ℕ) × (bic : List ℕ) × (account : List ℕ) × (a ≡ holdings db bic account) × (first_value f (codes "db") ≡ Some db) × IsBic bic × (first_value f (codes "bic") ≡ Some bic) × (first_value f (codes "account") ≡ Some account)
      go (isin code) h = let bad : 105 ≡ 104 = ap (λ t. slice_index t 0) (sym h.0 ∙ is) in absurd (omega (arith, bad))
      go (read mt) h = let bad : 114 ≡ 104 = ap (λ t. slice_index t 0) (sym h.0 ∙ is) in absurd (omega (arith, bad))
      go (play db) h = let bad : 112 ≡ 104 = ap (λ t. slice_index t 0) (sym h.0 ∙ is) in absurd (omega (arith, bad))
      go (trial db) h = let bad : 112 ≡ 104 = ap (λ t. slice_index t 0) (sym h.0 ∙ is) in absurd (omega (arith, bad))
      go (check db format) h = let bad : 99 ≡ 104 = ap (λ t. slice_index t 0) (sym h.0 ∙ is) in absurd (omega (arith, bad))
      go (explain words) h = let bad : 101 ≡ 104 = ap (λ t. slice_index t 0) (sym h.0 ∙ is) in absurd (omega (arith, bad))
      go (serve db port count) h = let bad : 115 ≡ 104 = ap (λ t. slice_index t 0) (sym h.0 ∙ is) in absurd (omega (arith, bad))
      go (holdings db bic account) h = (db, bic, account, refl, first_value-rows f (codes "db") ∙ h.1, h.2, first_value-rows f (codes "bic") ∙ h.3, first_value-rows f (codes "account") ∙ h.4)
      go (sums db) h = let bad : 115 ≡ 104 = ap (λ t. slice_index t 0) (sym h.0 ∙ is) in absurd (omega (arith, bad))
      go (report db parts format) h = let bad : 114 ≡ 104 = ap (λ t. slice_index t 0) (sym h.0 ∙ is) in absurd (omega (arith, bad))
      go (journal db from format) h = let bad : 106 ≡ 104 = ap (λ t. slice_index t 0) (sym h.0 ∙ is) in absurd (omega (arith, bad))
      go (folder db from to) h = let bad : 100 ≡ 104 = ap (λ t. slice_index t 0) (sym h.0 ∙ is) in absurd (omega (arith, bad))
      go (migrate old fresh) h = let bad : 109 ≡ 104 = ap (λ t. slice_index t 0) (sym h.0 ∙ is) in absurd (omega (arith, bad))

  named_sums : name ≡ codes "sums" → IsSpelledOut asked name (rows_of f) → (db : List ℕ) × (asked ≡ sums db) × (first_value f (codes "db") ≡ Some db)
  named_sums is named = go asked named
    where
      go : (a : CallValue) → IsSpelledOut a name (rows_of f) → (db : List ℕ) × (a ≡ sums db) × (first_value f (codes "db") ≡ Some db)
      go (isin code) h = let bad : 105 ≡ 115 = ap (λ t. slice_index t 0) (sym h.0 ∙ is) in absurd (omega (arith, bad))
      go (read mt) h = let bad : 114 ≡ 115 = ap (λ t. slice_index t 0) (sym h.0 ∙ is) in absurd (omega (arith, bad))
      go (play db) h = let bad : 112 ≡ 115 = ap (λ t. slice_index t 0) (sym h.0 ∙ is) in absurd (omega (arith, bad))
      go (trial db) h = let bad : 112 ≡ 115 = ap (λ t. slice_index t 0) (sym h.0 ∙ is) in absurd (omega (arith, bad))
      go (check db format) h = let bad : 99 ≡ 115 = ap (λ t. slice_index t 0) (sym h.0 ∙ is) in absurd (omega (arith, bad))
      go (explain words) h = let bad : 101 ≡ 115 = ap (λ t. slice_index t 0) (sym h.0 ∙ is) in absurd (omega (arith, bad))
      go (serve db port count) h = let bad : 101 ≡ 117 = ap (λ t. slice_index t 1) (sym h.0 ∙ is) in absurd (omega (arith, bad))
      go (holdings db bic account) h = let bad : 104 ≡ 115 = ap (λ t. slice_index t 0) (sym h.0 ∙ is) in absurd (omega (arith, bad))
      go (sums db) h = (db, refl, first_value-rows f (codes "db") ∙ h.1)
      go (report db parts format) h = let bad : 114 ≡ 115 = ap (λ t. slice_index t 0) (sym h.0 ∙ is) in absurd (omega (arith, bad))
      go (journal db from format) h = let bad : 106 ≡ 115 = ap (λ t. slice_index t 0) (sym h.0 ∙ is) in absurd (omega (arith, bad))
      go (folder db from to) h = let bad : 100 ≡ 115 = ap (λ t. slice_index t 0) (sym h.0 ∙ is) in absurd (omega (arith, bad))
      go (migrate old fresh) h = let bad : 109 ≡ 115 = ap (λ t. slice_index t 0) (sym h.0 ∙ is) in absurd (omega (arith, bad))

  named_folder : name ≡ codes "drop" → IsSpelledOut asked name (rows_of f)
      → (db : List ℕ) × (from : List ℕ) × (to : List ℕ) × (asked ≡ folder db from to) × (first_value f (codes "db") ≡ Some db) × (first_value f (codes "in") ≡ Some from) × (first_value f (codes "out") ≡ Some to)
  named_folder is named = go asked named
    where
      go : (a : CallValue) → IsSpelledOut a name (rows_of f)
          → (db : List ℕ) × (from : List ℕ) × (to : List ℕ) × (a ≡ folder db from to) × (first_value f (codes "db") ≡ Some db) × (first_value f (codes "in") ≡ Some from) × (first_value f (codes "out") ≡ Some to)
      go (isin code) h = let bad : 105 ≡ 100 = ap (λ t. slice_index t 0) (sym h.0 ∙ is) in absurd (omega (arith, bad))
      go (read mt) h = let bad : 114 ≡ 100 = ap (λ t. slice_index t 0) (sym h.0 ∙ is) in absurd (omega (arith, bad))
      go (play db) h = let bad : 112 ≡ 100 = ap (λ t. slice_index t 0) (sym h.0 ∙ is) in absurd (omega (arith, bad))
      go (trial db) h = let bad : 112 ≡ 100 = ap (λ t. slice_index t 0) (sym h.0 ∙ is) in absurd (omega (arith, bad))
      go (check db format) h = let bad : 99 ≡ 100 = ap (λ t. slice_index t 0) (sym h.0 ∙ is) in absurd (omega (arith, bad))
      go (explain words) h = let bad : 101 ≡ 100 = ap (λ t. slice_index t 0) (sym h.0 ∙ is) in absurd (omega (arith, bad))
      go (serve db port count) h = let bad : 115 ≡ 100 = ap (λ t. slice_index t 0) (sym h.0 ∙ is) in absurd (omega (arith, bad))
      go (holdings db bic account) h = let bad : 104 ≡ 100 = ap (λ t. slice_index t 0) (sym h.0 ∙ is) in absurd (omega (arith, bad))
      go (sums db) h = let bad : 115 ≡ 100 = ap (λ t. slice_index t 0) (sym h.0 ∙ is) in absurd (omega (arith, bad))
      go (report db parts format) h = let bad : 114 ≡ 100 = ap (λ t. slice_index t 0) (sym h.0 ∙ is) in absurd (omega (arith, bad))
      go (journal db from format) h = let bad : 106 ≡ 100 = ap (λ t. slice_index t 0) (sym h.0 ∙ is) in absurd (omega (arith, bad))
      go (folder db from to) h = (db, from, to, refl, first_value-rows f (codes "db") ∙ h.1, first_value-rows f (codes "in") ∙ h.2, first_value-rows f (codes "out") ∙ h.3)
      go (migrate old fresh) h = let bad : 109 ≡ 100 = ap (λ t. slice_index t 0) (sym h.0 ∙ is) in absurd (omega (arith, bad))

  -- the words of `report`: a file or none, the parts and the form
  IsReportNamed : CallValue → Type 0
  IsReportNamed a =
      (db : Option (List ℕ)) × (parts : Parts) × (format : Format) × (a ≡ report db parts format) × (first_value f (codes "db") ≡ db) × ArePartsOf parts (part_words_in (rows_of f)) × IsFormatOf format (one_text f (codes "json"))

  named_report : name ≡ codes "report" → IsSpelledOut asked name (rows_of f) → IsReportNamed asked
  unfolding IsReportNamed
  named_report is named = go asked named
    where
      go : (a : CallValue) → IsSpelledOut a name (rows_of f) → IsReportNamed a
      go (isin code) h = let bad : 105 ≡ 114 = ap (λ t. slice_index t 0) (sym h.0 ∙ is) in absurd (omega (arith, bad))
      go (read mt) h = let bad : 97 ≡ 112 = ap (λ t. slice_index t 2) (sym h.0 ∙ is) in absurd (omega (arith, bad))
      go (play db) h = let bad : 112 ≡ 114 = ap (λ t. slice_index t 0) (sym h.0 ∙ is) in absurd (omega (arith, bad))
      go (trial db) h = let bad : 112 ≡ 114 = ap (λ t. slice_index t 0) (sym h.0 ∙ is) in absurd (omega (arith, bad))
      go (check db format) h = let bad : 99 ≡ 114 = ap (λ t. slice_index t 0) (sym h.0 ∙ is) in absurd (omega (arith, bad))
      go (explain words) h = let bad : 101 ≡ 114 = ap (λ t. slice_index t 0) (sym h.0 ∙ is) in absurd (omega (arith, bad))
      go (serve db port count) h = let bad : 115 ≡ 114 = ap (λ t. slice_index t 0) (sym h.0 ∙ is) in absurd (omega (arith, bad))
      go (holdings db bic account) h = let bad : 104 ≡ 114 = ap (λ t. slice_index t 0) (sym h.0 ∙ is) in absurd (omega (arith, bad))
      go (sums db) h = let bad : 115 ≡ 114 = ap (λ t. slice_index t 0) (sym h.0 ∙ is) in absurd (omega (arith, bad))
      go (report db parts format) h =
          (db, parts, format, refl, first_value-rows f (codes "db") ∙ h.1, h.2, subst (IsFormatOf format) (sym (one_text-rows f (codes "json"))) h.3)
      go (journal db from format) h = let bad : 106 ≡ 114 = ap (λ t. slice_index t 0) (sym h.0 ∙ is) in absurd (omega (arith, bad))
      go (folder db from to) h = let bad : 100 ≡ 114 = ap (λ t. slice_index t 0) (sym h.0 ∙ is) in absurd (omega (arith, bad))
      go (migrate old fresh) h = let bad : 109 ≡ 114 = ap (λ t. slice_index t 0) (sym h.0 ∙ is) in absurd (omega (arith, bad))

  pub no_report : name ≡ codes "report" → ((parts : Parts) → ArePartsOf parts (part_words_in (rows_of f)) → ⊥) → IsSpelledOut asked name (rows_of f) → ⊥
  unfolding IsReportNamed
  no_report is none named = let n = named_report is named in none n.1 n.5

  pub same_report : (db : Option (List ℕ)) (parts : Parts) (format : Format) → name ≡ codes "report" → db ≡ first_value f (codes "db")
      → ((others : Parts) → ArePartsOf others (part_words_in (rows_of f)) → parts ≡ others) → IsFormatOf format (one_text f (codes "json"))
      → IsSpelledOut asked name (rows_of f) → report db parts format ≡ asked
  unfolding IsReportNamed
  same_report db parts format is file one form named =
      let n = named_report is named in
      let same_file : db ≡ n.0 = file ∙ n.4 in
      let same_parts : parts ≡ n.1 = one n.1 n.5 in
      let same_form : format ≡ n.2 = one_form _ format n.2 form n.6 in
      rw (same_file, same_parts, same_form) (sym n.3)

  pub no_sums : name ≡ codes "sums" → None ≡ first_value f (codes "db") → IsSpelledOut asked name (rows_of f) → ⊥
  no_sums is none named = let n = named_sums is named in let bad : None ≡ Some n.0 = none ∙ n.2 in cc

  pub same_sums : (db : List ℕ) → name ≡ codes "sums" → Some db ≡ first_value f (codes "db") → IsSpelledOut asked name (rows_of f) → sums db ≡ asked
  same_sums db is some named =
      let n = named_sums is named in
      let both : Some db ≡ Some n.0 = some ∙ n.2 in
      let same : db ≡ n.0 = cc in
      ap sums same ∙ sym n.1

  pub no_code : name ≡ codes "isin" → None ≡ first_value f (codes "code") → IsSpelledOut asked name (rows_of f) → ⊥
  no_code is none named = let n = named_isin is named in let bad : None ≡ Some n.0 = none ∙ n.2 in cc

  pub same_code : (code : List ℕ) → name ≡ codes "isin" → Some code ≡ first_value f (codes "code") → IsSpelledOut asked name (rows_of f) → isin code ≡ asked
  same_code code is some named =
      let n = named_isin is named in
      let both : Some code ≡ Some n.0 = some ∙ n.2 in
      let same : code ≡ n.0 = cc in
      ap isin same ∙ sym n.1

  pub no_type : name ≡ codes "read" → ((mt : Mt) → is_instruction mt ≡ true → one_text f (codes "mt") ≡ Some (digits_of_type mt) → ⊥) → IsSpelledOut asked name (rows_of f) → ⊥
  no_type is none named = let n = named_read is named in none n.0 n.3 n.2

  pub same_type : (found : Mt) → name ≡ codes "read" → ((mt : Mt) → is_instruction mt ≡ true → one_text f (codes "mt") ≡ Some (digits_of_type mt) → found ≡ mt)
      → IsSpelledOut asked name (rows_of f) → read found ≡ asked
  same_type found is one named = let n = named_read is named in ap read (one n.0 n.3 n.2) ∙ sym n.1

-- nothing is said where nothing was found
pub none_said : {X : Type 0} (found : Option X) (P : X → Type 0) → found ≡ None → IfSome found P
none_said found P none = rw none tt

-- nothing is asked for by another word
pub no_word : (asked : CallValue) (name : List ℕ) (rows : List Row)
    → (name ≡ codes "isin" → ⊥) → (name ≡ codes "read" → ⊥) → (name ≡ codes "play" → ⊥) → (name ≡ codes "check" → ⊥) → (name ≡ codes "explain" → ⊥) → (name ≡ codes "serve" → ⊥) → (name ≡ codes "holdings" → ⊥) → (name ≡ codes "sums" → ⊥) → (name ≡ codes "report" → ⊥) → (name ≡ codes "journal" → ⊥) → (name ≡ codes "drop" → ⊥) → (name ≡ codes "migrate" → ⊥)
    → IsSpelledOut asked name rows → ⊥
no_word (isin code) name rows other _ _ _ _ _ _ _ _ _ _ _ named = other named.0
no_word (read mt) name rows _ other _ _ _ _ _ _ _ _ _ _ named = other named.0
no_word (play db) name rows _ _ other _ _ _ _ _ _ _ _ _ named = other named.0
no_word (trial db) name rows _ _ other _ _ _ _ _ _ _ _ _ named = other named.0
no_word (check db format) name rows _ _ _ other _ _ _ _ _ _ _ _ named = other named.0
no_word (explain words) name rows _ _ _ _ other _ _ _ _ _ _ _ named = other named.0
no_word (serve db port count) name rows _ _ _ _ _ other _ _ _ _ _ _ named = other named.0
no_word (holdings db bic account) name rows _ _ _ _ _ _ other _ _ _ _ _ named = other named.0
no_word (sums db) name rows _ _ _ _ _ _ _ other _ _ _ _ named = other named.0
no_word (report db parts format) name rows _ _ _ _ _ _ _ _ other _ _ _ named = other named.0
no_word (journal db from format) name rows _ _ _ _ _ _ _ _ _ other _ _ named = other named.0
no_word (folder db from to) name rows _ _ _ _ _ _ _ _ _ _ other _ named = other named.0
no_word (migrate old fresh) name rows _ _ _ _ _ _ _ _ _ _ _ other named = other named.0

-- what the words of `holdings` name
pub held_by : (asked : CallValue) (f : Found) → IsSpelledOut asked (codes "holdings") (rows_of f)
    → (db : List ℕ) × (bic : List ℕ) × (account : List ℕ) × (asked ≡ holdings db bic account) × (first_value f (codes "db") ≡ Some db) × IsBic bic × (first_value f (codes "bic") ≡ Some bic) × (first_value f (codes "account") ≡ Some account)
held_by asked f spelled = named_holdings asked (codes "holdings") f refl spelled

pub no_held_by : {X : Type 0} {found : Option (List ℕ)} {text : List ℕ} → None ≡ found → found ≡ Some text → X
no_held_by {X} {found} {text} none some = let bad : None ≡ Some text = none ∙ some in cc

same_text : {found : Option (List ℕ)} {a b : List ℕ} → Some a ≡ found → found ≡ Some b → a ≡ b
same_text {found} {a} {b} one other = let both : Some a ≡ Some b = one ∙ other in cc

pub held_as : (asked : CallValue) (f : Found) (n : (db : List ℕ) × (bic : List ℕ) × (account : List ℕ) × (asked ≡ holdings db bic account) × (first_value f (codes "db") ≡ Some db) × IsBic bic × (first_value f (codes "bic") ≡ Some bic) × (first_value f (codes "account") ≡ Some account))
    → (db owner account : List ℕ) → Some db ≡ first_value f (codes "db") → owner ≡ n.1 → Some account ≡ first_value f (codes "account") → holdings db owner account ≡ asked
held_as asked f n db owner account file same held =
    let one : db ≡ n.0 = same_text file n.4 in
    let other : account ≡ n.2 = same_text held n.7 in
    rw (one, same, other) (sym n.3)

-- what the words of `drop` name
pub folder_by : (asked : CallValue) (f : Found) → IsSpelledOut asked (codes "drop") (rows_of f)
    → (db : List ℕ) × (from : List ℕ) × (to : List ℕ) × (asked ≡ folder db from to) × (first_value f (codes "db") ≡ Some db) × (first_value f (codes "in") ≡ Some from) × (first_value f (codes "out") ≡ Some to)
folder_by asked f spelled = named_folder asked (codes "drop") f refl spelled

pub folder_as : (asked : CallValue) (f : Found) → IsSpelledOut asked (codes "drop") (rows_of f) → (db from to : List ℕ) → Some db ≡ first_value f (codes "db") → Some from ≡ first_value f (codes "in")
    → Some to ≡ first_value f (codes "out") → folder db from to ≡ asked
folder_as asked f spelled db from to file coming going =
    let n = folder_by asked f spelled in
    let one : db ≡ n.0 = same_text file n.4 in
    let two : from ≡ n.1 = same_text coming n.5 in
    let three : to ≡ n.2 = same_text going n.6 in
    rw (one, two, three) (sym n.3)

-- a BIC in its one spelling names itself
pub known_party : (found : Option (List ℕ)) (bic text : List ℕ) → IsBic bic → text ≡ bic → IfNone found ((party : List ℕ) → ¬ ReadsBic text (Ok party)) → IfSome found (λ party. ReadsBic text (Ok party))
    → IsSomeAnd found (λ owner. owner ≡ bic)
known_party None bic text is same none some = absurd (none bic (subst (λ t. ReadsBic t (Ok bic)) (sym same) (bic_itself bic is)))
known_party (Some party) bic text is same none some = some.0 ∙ ap party_of same ∙ sym (bic_itself bic is).0

-- a parse of the words, by a command that is the desk's

pub taken : (a : App) (words : List Text) (program : List ℕ) (asked : CallValue) → a ≡ desk_app → words ≡ program ∷ words_for asked → IsAskable asked → takes a words ≡ true
taken a words program asked is are right = ap₂ takes is are ∙ takes_asked program asked right

pub taken_alone : (a : App) (words : List Text) (program : List ℕ) → a ≡ desk_app → words ≡ program ∷ [] → takes a words ≡ true
taken_alone a words program is are = ap₂ takes is are ∙ takes_nothing program

pub entered : (a : App) (words : List Text) (m : ArgMatches) (program : List ℕ) (asked : CallValue) → HasMatchesOf a words m → a ≡ desk_app → words ≡ program ∷ words_for asked → IsAskable asked
    → IsSomeAnd (subcommand_rows_of m) (λ p. IsSpelledOut asked p.0 p.1)
entered a words m program asked has is are right =
    let same : subcommand_rows_of m ≡ subcommand_of desk_app (program ∷ words_for asked) = (has (ap is_simple is ∙ simple)).1 ∙ ap₂ subcommand_of is are in
    rw same (enters_asked program asked right)

-- of a report, whichever words name its parts

pub taken_several : (a : App) (words : List Text) (program : List ℕ) (db : Option (List ℕ)) (format : Format) (named : List (List ℕ)) → a ≡ desk_app → words ≡ program ∷ report_words db format named → IsNoOptionIn db → ArePartWords named → takes a words ≡ true
taken_several a words program db format named is are file parts = ap₂ takes is are ∙ takes_several program db format named file parts

pub entered_several : (a : App) (words : List Text) (m : ArgMatches) (program : List ℕ) (db : Option (List ℕ)) (format : Format) (named : List (List ℕ)) → HasMatchesOf a words m → a ≡ desk_app
    → words ≡ program ∷ report_words db format named → IsNoOptionIn db → ArePartWords named → IsSomeAnd (subcommand_rows_of m) (λ p. IsSpelledOut (report db (parts_by named) format) p.0 p.1)
entered_several a words m program db format named has is are file parts =
    let same : subcommand_rows_of m ≡ subcommand_of desk_app (program ∷ report_words db format named) = (has (ap is_simple is ∙ simple)).1 ∙ ap₂ subcommand_of is are in
    rw same (enters_several program db format named file parts)

pub named_in : (m : ArgMatches) (asked : CallValue) (name : List ℕ) (rows : List Row) → Some name ≡ subcommand_name_of m → Some rows ≡ option_map (λ p. p.1) (subcommand_rows_of m)
    → IsSomeAnd (subcommand_rows_of m) (λ p. IsSpelledOut asked p.0 p.1) → IsSpelledOut asked name rows
named_in m = named_parts (out-ArgMatches m).subcommand (λ b. (out-SubCommand (box_value b)).name.now) (λ b. rows_of (found_of (out-SubCommand (box_value b)).matches))

pub none_in : (m : ArgMatches) → None ≡ subcommand_name_of m → subcommand_rows_of m ≡ None
none_in m = not_found (out-ArgMatches m).subcommand (λ b. (out-SubCommand (box_value b)).name.now) (λ b. rows_of (found_of (out-SubCommand (box_value b)).matches))

pub one_in : (m : ArgMatches) (name : List ℕ) → Some name ≡ subcommand_name_of m → subcommand_rows_of m ≡ None → ⊥
one_in m = one_found (out-ArgMatches m).subcommand (λ b. (out-SubCommand (box_value b)).name.now) (λ b. rows_of (found_of (out-SubCommand (box_value b)).matches))

-- and what was found says it

pub said_code : (name : List ℕ) (f : Found) (code : List ℕ) → name ≡ codes "isin" → Some code ≡ first_value f (codes "code") → IsSaid (isin code) name (rows_of f)
said_code name f code is some = (is, sym (first_value-rows f (codes "code")) ∙ sym some)

pub said_type : (name : List ℕ) (f : Found) (mt : Mt) → name ≡ codes "read" → IsSomeAnd (one_text f (codes "mt")) (IsTypeText mt) → IsSaid (read mt) name (rows_of f)
said_type name f mt is text =
    let P : Option (List ℕ) → Type 0 = λ found. IsSomeAnd found (IsTypeText mt) in
    (is, subst P (one_text-rows f (codes "mt")) text)

pub said_answer : (name : List ℕ) (f : Found) (words : List (List ℕ)) → name ≡ codes "explain" → words ≡ words_found (first_value f (codes "word")) (first_value f (codes "second")) (first_value f (codes "third"))
    → IsSaid (explain words) name (rows_of f)
said_answer name f words is given = (is, given ∙ given_words (explain words) name f)

pub said_service : (name : List ℕ) (f : Found) (db : Option (List ℕ)) (port count : ℕ) → name ≡ codes "serve" → db ≡ first_value f (codes "db") → IsSomeAnd (one_text f (codes "port")) (IsNumberText port) → IsSomeAnd (one_text f (codes "count")) (IsNumberText count)
    → IsSaid (serve db port count) name (rows_of f)
said_service name f db port count is file ports counts =
    let P : ℕ → Option (List ℕ) → Type 0 = λ number found. IsSomeAnd found (IsNumberText number) in
    (is, sym (first_value-rows f (codes "db")) ∙ sym file, subst (P port) (one_text-rows f (codes "port")) ports, subst (P count) (one_text-rows f (codes "count")) counts)

pub said_held : (name : List ℕ) (f : Found) (db bic account : List ℕ) → name ≡ codes "holdings" → first_value f (codes "db") ≡ Some db → IsSomeAnd (first_value f (codes "bic")) (IsBicText bic)
    → first_value f (codes "account") ≡ Some account → IsSaid (holdings db bic account) name (rows_of f)
said_held name f db bic account is file party held =
    let P : Option (List ℕ) → Type 0 = λ found. IsSomeAnd found (IsBicText bic) in
    (is, sym (first_value-rows f (codes "db")) ∙ file, subst P (first_value-rows f (codes "bic")) party, sym (first_value-rows f (codes "account")) ∙ held)

pub said_sums : (name : List ℕ) (f : Found) (db : List ℕ) → name ≡ codes "sums" → Some db ≡ first_value f (codes "db") → IsSaid (sums db) name (rows_of f)
said_sums name f db is some = (is, sym (first_value-rows f (codes "db")) ∙ sym some)

pub said_report : (name : List ℕ) (f : Found) (db : Option (List ℕ)) (parts : Parts) (format : Format) → name ≡ codes "report" → db ≡ first_value f (codes "db") → ArePartsOf parts (part_words_in (rows_of f)) → IsFormatOf format (one_text f (codes "json"))
    → IsSaid (report db parts format) name (rows_of f)
said_report name f db parts format is file named form = (is, sym (first_value-rows f (codes "db")) ∙ sym file, named, subst (IsFormatOf format) (one_text-rows f (codes "json")) form)

pub said_folder : (name : List ℕ) (f : Found) (db from to : List ℕ) → name ≡ codes "drop" → Some db ≡ first_value f (codes "db") → Some from ≡ first_value f (codes "in") → Some to ≡ first_value f (codes "out")
    → IsSaid (folder db from to) name (rows_of f)
said_folder name f db from to is file coming going =
    (is, sym (first_value-rows f (codes "db")) ∙ sym file, sym (first_value-rows f (codes "in")) ∙ sym coming, sym (first_value-rows f (codes "out")) ∙ sym going)

said_parts : {S : Type 0} (found : Option S) (name_in : S → List ℕ) (rows_in : S → List Row) (asked : CallValue) (name : List ℕ) (rows : List Row)
    → Some name ≡ option_map name_in found → Some rows ≡ option_map (λ p. p.1) (option_map (pair name_in rows_in) found) → IsSaid asked name rows
    → IsSaidIn asked (option_map (pair name_in rows_in) found)
said_parts None name_in rows_in asked name rows named matched is = cc
said_parts (Some s) name_in rows_in asked name rows named matched is =
    let same : name_in s ≡ name = cc in
    let same_rows : rows_in s ≡ rows = cc in
    rw (same, same_rows) is

pub said_in : (m : ArgMatches) (name : List ℕ) (rows : List Row) (result : Option Call) → Some name ≡ subcommand_name_of m → Some rows ≡ option_map (λ p. p.1) (subcommand_rows_of m)
    → IfSome result (λ call. IsSaid (value_of_call call) name rows) → IfSome result (λ call. IsSaidIn (value_of_call call) (subcommand_rows_of m))
said_in m name rows None named matched is = is
said_in m name rows (Some call) named matched is =
    said_parts (out-ArgMatches m).subcommand (λ b. (out-SubCommand (box_value b)).name.now) (λ b. rows_of (found_of (out-SubCommand (box_value b)).matches)) (value_of_call call) name rows named matched is

pub said_of_none : (m : ArgMatches) → None ≡ subcommand_name_of m → IsSaidIn (play None) (subcommand_rows_of m)
said_of_none m none = rw (none_in m none) refl

free : is_simple_and_free desk_app ≡ true
unfolding clap_on_literals
free = refl

pub said_by : (a : App) (words : List Text) (m : ArgMatches) (asked : CallValue) → HasMatchesOf a words m → (is_simple_and_free a ≡ true → fault_of a words ≡ []) → a ≡ desk_app
    → IsSaidIn asked (subcommand_rows_of m) → IsSaidBy asked words
said_by a words m asked has taken is said =
    let same : subcommand_rows_of m ≡ subcommand_of desk_app words = (has (ap is_simple is ∙ simple)).1 ∙ ap (λ b. subcommand_of b words) is in
    let faultless : fault_of desk_app words ≡ [] = ap (λ b. fault_of b words) (sym is) ∙ taken (ap is_simple_and_free is ∙ free) in
    (faultless, subst (IsSaidIn asked) same said)

-- and an error says what is found in the words

pub found_wrong : (a : App) (words : List Text) (kind : ErrorKind) → (is_simple_and_free a ≡ true → (kind ≡ OutOfMemory) ⊎ IsAmong kind (fault_of a words)) → a ≡ desk_app
    → (kind ≡ OutOfMemory) ⊎ IsErrorIn kind words
found_wrong a words kind found is =
    let P : App → Type 0 = λ b. (kind ≡ OutOfMemory) ⊎ IsAmong kind (fault_of b words) in
    elim (subst P is (found (ap is_simple_and_free is ∙ free))) [ inl none ↦ inl none | inr among ↦ inr (inl among) ]

pub fits_none : (a : App) (words : List Text) (kind : ErrorKind) → (is_simple_and_free a ≡ true → fault_of a words ≡ []) → a ≡ desk_app → kind ≡ InvalidValue
    → (kind ≡ OutOfMemory) ⊎ IsErrorIn kind words
fits_none a words kind taken is invalid = inr (inr (ap (λ b. fault_of b words) (sym is) ∙ taken (ap is_simple_and_free is ∙ free), invalid))
