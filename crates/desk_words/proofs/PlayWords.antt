-- What the parser of words makes of those of a play: no file, or one, and whether it is a trial.
use Rattle.std.proofs.Common.{◌≡◌, ◌∙◌, ◌⊎◌, inl, inr, sym, ap, ap₂, ℕ, Bool, true, false, List, [], ◌∷◌, Option, Some, None, slice_index, codes, refl, subst, arith}
use Rattle.std.specs.Prelude.{IsSomeAnd}
use Rattle.clap.specs.Simple.{Shape, built_leaf, names_of, entered, rows_at}
use Rattle.clap.specs.Takes.{level_passes}
use Rattle.clap.specs.Walk.{Row, Walk, finished, idle, nothing_held, walk_from}
use Rattle.clap.specs.Words.{first_of, first_value, one_of, one_text, rows_of, subcommand_of, takes}
use Rattle.clap.specs.declared.builder.value_parser.Reading.TheVariants.{AsWritten}
use Rattle.clap.specs.declared.parser.matches.Found.{Found}
use Rattle.clap.proofs.OnLiterals.{clap_on_literals}
use Rattle.clap.proofs.WalkLemmas.{first_value-rows, one_text-rows}
use Rattle.desk_words.proofs.PlainWords.{IsPlain}
use Rattle.desk_words.proofs.ReportWords.{built_desk, is_no_flag, passes_stopped, stops, takes_by}
use Rattle.desk_words.proofs.WalkWords.{Walks, at, behind_option, behind_value, ends_well, found_at, goes, level, passes_value, stands, value_row, walks_value}
use Rattle.desk_words.specs.Words.{CallValue, IsFlagGiven, IsSaid, IsSpelledOut, check, desk_app, explain, folder, holdings, isin, journal, migrate, play, play_app, read, report, serve, sums, trial, words_for}

-- what is asked for on a file, whether it is a trial or not
abbrev pub played_on : List ℕ → Bool → CallValue
played_on db true = trial db
played_on db false = play (Some db)

-- without a file

pub takes_alone : (program : List ℕ) → takes desk_app (program ∷ words_for (play None)) ≡ true
unfolding clap_on_literals
takes_alone program = refl

pub enters_alone : (program : List ℕ) → IsSomeAnd (subcommand_of desk_app (program ∷ words_for (play None))) (λ p. IsSpelledOut (play None) p.0 p.1)
unfolding clap_on_literals
enters_alone program = (refl, refl)

-- what the parser knows of `play`
play_shape : Shape
play_shape = built_leaf play_app.top

-- the words behind a file, and behind `play`
abbrev words_of_trial : Bool → List (List ℕ)
words_of_trial true = codes "--dry-run" ∷ []
words_of_trial false = []

abbrev words_with : List ℕ → Bool → List (List ℕ)
words_with db is_dry = codes "--db" ∷ db ∷ words_of_trial is_dry

-- where the walk stands behind the file, and behind the flag
behind_file : List ℕ → Walk
behind_file db = behind_value [] (codes "db") db 1

behind_flag : List ℕ → Bool → Walk
behind_flag db false = behind_file db
behind_flag db true = at (record { rows = value_row AsWritten (codes "db") db ∷ value_row AsWritten (codes "dry-run") (codes "true") ∷ []; pending = None; skip = 0 }) idle 1

walks_flag : (db : List ℕ) (is_dry : Bool) → Walks play_shape (behind_file db) (words_of_trial is_dry) (behind_flag db is_dry)
unfolding clap_on_literals play_shape behind_file behind_flag
walks_flag db false = stands
walks_flag db true = goes (behind_flag db true) refl refl stands

walks_words : (db : List ℕ) (is_dry : Bool) → IsPlain db → Walks play_shape (walk_from nothing_held) (words_with db is_dry) (behind_flag db is_dry)
unfolding clap_on_literals play_shape behind_file
walks_words db is_dry plain =
    let named : Walk = behind_option [] (codes "db") 1 in
    goes named refl refl
    (goes (behind_file db) (passes_value play_shape named.held (codes "db") db 1 plain) (walks_value play_shape.rules named.held (codes "db") db 1 plain) (walks_flag db is_dry))

-- the words are taken

ends : (db : List ℕ) (is_dry : Bool) → ends_well play_shape (behind_flag db is_dry) ≡ true
unfolding clap_on_literals play_shape behind_file behind_flag
ends db true = refl
ends db false = refl

passes : (db : List ℕ) (is_dry : Bool) → IsPlain db → level_passes play_shape [] nothing_held (words_with db is_dry) false ≡ true
passes db is_dry plain = level play_shape (words_with db is_dry) (behind_flag db is_dry) (walks_words db is_dry plain) (ends db is_dry)

taken_behind : (words : List (List ℕ)) → level_passes play_shape [] nothing_held words false ≡ true → takes_by true (record (walk_from nothing_held) { stopped = Some (codes "play", words) }) ≡ true
unfolding clap_on_literals play_shape built_desk takes_by
taken_behind words passes = rw passes refl

takes_words : (program : List ℕ) (words : List (List ℕ)) → level_passes play_shape [] nothing_held words false ≡ true → takes desk_app (program ∷ codes "play" ∷ words) ≡ true
unfolding clap_on_literals play_shape built_desk takes_by
takes_words program words passes =
    ap₂ takes_by (passes_stopped built_desk.top (names_of built_desk) (walk_from nothing_held) (codes "play") [] words) (stops built_desk.top.rules (names_of built_desk) (walk_from nothing_held) (codes "play") [] words)
    ∙ taken_behind words passes

pub takes_on_file : (program db : List ℕ) (is_dry : Bool) → IsPlain db → takes desk_app (program ∷ words_for (played_on db is_dry)) ≡ true
takes_on_file program db true plain = takes_words program (words_with db true) (passes db true plain)
takes_on_file program db false plain = takes_words program (words_with db false) (passes db false plain)

-- and name what is asked for

-- what is found at the end says the file, and whether the flag is given
record IsFound (db : List ℕ) (is_dry : Bool) (rows : List Row) : Type 0 where
  file : first_of (codes "db") rows ≡ Some db
  flag : IsFlagGiven is_dry (one_of (codes "dry-run") rows)

found_behind : (db : List ℕ) (is_dry : Bool) → IsFound db is_dry (finished play_shape.rules (behind_flag db is_dry).held)
unfolding clap_on_literals play_shape behind_file behind_flag
found_behind db true = record { file = refl; flag = refl }
found_behind db false = record { file = refl; flag = is_no_flag }

finds : (db : List ℕ) (is_dry : Bool) → IsPlain db → IsFound db is_dry (rows_at play_shape (words_with db is_dry)).1
finds db is_dry plain = found_at play_shape (IsFound db is_dry) (walks_words db is_dry plain) (found_behind db is_dry)

enters : (program : List ℕ) (words : List (List ℕ)) → subcommand_of desk_app (program ∷ codes "play" ∷ words) ≡ Some (rows_at play_shape words)
unfolding clap_on_literals play_shape built_desk
enters program words = ap (λ w. entered built_desk w.stopped) (stops built_desk.top.rules (names_of built_desk) (walk_from nothing_held) (codes "play") [] words)

pub enters_on_file : (program db : List ℕ) (is_dry : Bool) → IsPlain db
    → IsSomeAnd (subcommand_of desk_app (program ∷ words_for (played_on db is_dry))) (λ p. IsSpelledOut (played_on db is_dry) p.0 p.1)
unfolding play_shape
enters_on_file program db true plain =
    let is_found = finds db true plain in
    let P : Option (List ℕ × List Row) → Type 0 = λ entered. IsSomeAnd entered (λ p. IsSpelledOut (trial db) p.0 p.1) in
    subst P (sym (enters program (words_with db true))) (refl, is_found.file, is_found.flag)
enters_on_file program db false plain =
    let is_found = finds db false plain in
    let P : Option (List ℕ × List Row) → Type 0 = λ entered. IsSomeAnd entered (λ p. IsSpelledOut (play (Some db)) p.0 p.1) in
    subst P (sym (enters program (words_with db false))) (refl, (is_found.file, is_found.flag))

-- what the getters give

-- a flag is given, or is not
one_flag : (flag : Option (List ℕ)) (a b : Bool) → IsFlagGiven a flag → IsFlagGiven b flag → a ≡ b
one_flag flag true true is also = refl
one_flag flag true false is also = absurd (also is)
one_flag flag false true is also = absurd (is also)
one_flag flag false false is also = refl

-- there is a file, and one alone

no_file : {X : Type 0} {found : Option (List ℕ)} {db : List ℕ} → None ≡ found → found ≡ Some db → X
no_file {X} {found} {db} none some = let bad : None ≡ Some db = none ∙ some in cc

same_file : {found : Option (List ℕ)} {a b : List ℕ} → Some a ≡ found → found ≡ Some b → a ≡ b
same_file {found} {a} {b} one other = let both : Some a ≡ Some b = one ∙ other in cc

module _ (f : Found) where
  flag_of : (is_dry : Bool) → IsFlagGiven is_dry (one_of (codes "dry-run") (rows_of f)) → IsFlagGiven is_dry (one_text f (codes "dry-run"))
  flag_of is_dry = subst (IsFlagGiven is_dry) (sym (one_text-rows f (codes "dry-run")))

  -- the words of `play`: no file, or a file, and whether the flag is given
  IsPlayNamed : CallValue → Type 0
  IsPlayNamed asked = ((asked ≡ play None) × (first_value f (codes "db") ≡ None))
      ⊎ ((db : List ℕ) × (is_dry : Bool) × (asked ≡ played_on db is_dry) × (first_value f (codes "db") ≡ Some db) × IsFlagGiven is_dry (one_text f (codes "dry-run")))

  named_play : (asked : CallValue) → IsSpelledOut asked (codes "play") (rows_of f) → IsPlayNamed asked
  unfolding IsPlayNamed
  named_play (isin code) h = let bad : 112 ≡ 105 = ap (λ t. slice_index t 0) h.0 in absurd (omega (arith, bad))
  named_play (read mt) h = let bad : 112 ≡ 114 = ap (λ t. slice_index t 0) h.0 in absurd (omega (arith, bad))
  named_play (play None) h = inl (refl, first_value-rows f (codes "db") ∙ h.1)
  named_play (play (Some db)) h = inr (db, false, refl, first_value-rows f (codes "db") ∙ h.1.0, flag_of false h.1.1)
  named_play (trial db) h = inr (db, true, refl, first_value-rows f (codes "db") ∙ h.1, flag_of true h.2)
  named_play (check db format) h = let bad : 112 ≡ 99 = ap (λ t. slice_index t 0) h.0 in absurd (omega (arith, bad))
  named_play (explain words) h = let bad : 112 ≡ 101 = ap (λ t. slice_index t 0) h.0 in absurd (omega (arith, bad))
  named_play (serve db port count) h = let bad : 112 ≡ 115 = ap (λ t. slice_index t 0) h.0 in absurd (omega (arith, bad))
  named_play (holdings db bic account) h = let bad : 112 ≡ 104 = ap (λ t. slice_index t 0) h.0 in absurd (omega (arith, bad))
  named_play (sums db) h = let bad : 112 ≡ 115 = ap (λ t. slice_index t 0) h.0 in absurd (omega (arith, bad))
  named_play (report db parts format) h = let bad : 112 ≡ 114 = ap (λ t. slice_index t 0) h.0 in absurd (omega (arith, bad))
  named_play (journal db from format) h = let bad : 112 ≡ 106 = ap (λ t. slice_index t 0) h.0 in absurd (omega (arith, bad))
  named_play (folder db from to) h = let bad : 112 ≡ 100 = ap (λ t. slice_index t 0) h.0 in absurd (omega (arith, bad))
  named_play (migrate old fresh) h = let bad : 112 ≡ 109 = ap (λ t. slice_index t 0) h.0 in absurd (omega (arith, bad))

  pub same_alone : (asked : CallValue) → None ≡ first_value f (codes "db") → IsSpelledOut asked (codes "play") (rows_of f) → play None ≡ asked
  unfolding IsPlayNamed
  same_alone asked none named = elim (named_play asked named) [ inl alone ↦ sym alone.0 | inr on_file ↦ no_file none on_file.3 ]

  pub same_on_file : (asked : CallValue) (db : List ℕ) (is_dry : Bool) → Some db ≡ first_value f (codes "db") → IsFlagGiven is_dry (one_text f (codes "dry-run"))
      → IsSpelledOut asked (codes "play") (rows_of f) → played_on db is_dry ≡ asked
  unfolding IsPlayNamed
  same_on_file asked db is_dry file flag named =
      elim (named_play asked named) [ inl alone ↦ no_file (sym alone.1) (sym file) | inr on_file ↦ (let same = same_file file on_file.3 in let also = one_flag _ is_dry on_file.1 flag on_file.4 in rw (same, also) (sym on_file.2)) ]

  pub said_alone : None ≡ first_value f (codes "db") → IsSaid (play None) (codes "play") (rows_of f)
  said_alone none = (refl, sym (first_value-rows f (codes "db")) ∙ sym none)

  pub said_on_file : (db : List ℕ) (is_dry : Bool) → Some db ≡ first_value f (codes "db") → IsFlagGiven is_dry (one_text f (codes "dry-run")) → IsSaid (played_on db is_dry) (codes "play") (rows_of f)
  said_on_file db true file flag = (refl, sym (first_value-rows f (codes "db")) ∙ sym file, subst (IsFlagGiven true) (one_text-rows f (codes "dry-run")) flag)
  said_on_file db false file flag = (refl, (sym (first_value-rows f (codes "db")) ∙ sym file, subst (IsFlagGiven false) (one_text-rows f (codes "dry-run")) flag))
