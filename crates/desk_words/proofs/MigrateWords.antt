-- What the parser of words makes of those of a migration: two files.
use Rattle.std.proofs.Common.{◌≡◌, ◌∙◌, sym, ap, ap₂, ℕ, true, false, List, [], ◌∷◌, Option, Some, slice_index, codes, refl, subst, arith}
use Rattle.std.specs.Prelude.{IsSomeAnd}
use Rattle.clap.specs.Simple.{Shape, built_leaf, names_of, entered, rows_at}
use Rattle.clap.specs.Takes.{level_passes}
use Rattle.clap.specs.Walk.{Row, Walk, nothing_held, walk_from}
use Rattle.clap.specs.Words.{first_of, first_value, rows_of, subcommand_of, takes}
use Rattle.clap.specs.declared.builder.value_parser.Reading.TheVariants.{AsWritten}
use Rattle.clap.specs.declared.parser.matches.Found.{Found}
use Rattle.clap.proofs.OnLiterals.{clap_on_literals}
use Rattle.clap.proofs.WalkLemmas.{first_value-rows}
use Rattle.desk_words.proofs.PlainWords.{IsPlain}
use Rattle.desk_words.proofs.ReportWords.{built_desk, passes_stopped, stops, takes_by}
use Rattle.desk_words.proofs.WalkWords.{Walks, behind_value, found_at, goes, level, passes_place, stands, value_row, walks_place}
use Rattle.desk_words.specs.Words.{CallValue, IsSaid, IsSpelledOut, check, desk_app, explain, folder, holdings, isin, journal, migrate, migrate_app, play, read, report, serve, sums, trial, words_for}

-- what the parser knows of `migrate`
migrate_shape : Shape
migrate_shape = built_leaf migrate_app.top

-- the words behind `migrate`
abbrev words_of_files : List ℕ → List ℕ → List (List ℕ)
words_of_files old fresh = old ∷ fresh ∷ []

-- where the walk stands behind the first file, and behind the second
behind_old : List ℕ → Walk
behind_old old = behind_value [] (codes "old") old 2

behind_files : List ℕ → List ℕ → Walk
behind_files old fresh = behind_value (value_row AsWritten (codes "old") old ∷ []) (codes "new") fresh 3

walks_files : (old fresh : List ℕ) → IsPlain old → IsPlain fresh → Walks migrate_shape (walk_from nothing_held) (words_of_files old fresh) (behind_files old fresh)
unfolding clap_on_literals migrate_shape behind_old behind_files
walks_files old fresh a b =
    goes (behind_old old) (passes_place migrate_shape nothing_held old 1 a refl) (walks_place migrate_shape.rules nothing_held old 1 a)
    (goes (behind_files old fresh) (passes_place migrate_shape (behind_old old).held fresh 2 b refl) (walks_place migrate_shape.rules (behind_old old).held fresh 2 b) stands)

passes_files : (old fresh : List ℕ) → IsPlain old → IsPlain fresh → level_passes migrate_shape [] nothing_held (words_of_files old fresh) false ≡ true
unfolding clap_on_literals migrate_shape behind_files
passes_files old fresh a b = level migrate_shape (words_of_files old fresh) (behind_files old fresh) (walks_files old fresh a b) refl

-- the words are taken

taken_behind : (words : List (List ℕ)) → level_passes migrate_shape [] nothing_held words false ≡ true → takes_by true (record (walk_from nothing_held) { stopped = Some (codes "migrate", words) }) ≡ true
unfolding clap_on_literals migrate_shape built_desk takes_by
taken_behind words passes = rw passes refl

pub takes_migrate : (program old fresh : List ℕ) → IsPlain old → IsPlain fresh → takes desk_app (program ∷ words_for (migrate old fresh)) ≡ true
unfolding clap_on_literals migrate_shape built_desk takes_by
takes_migrate program old fresh a b =
    let words : List (List ℕ) = words_of_files old fresh in
    ap₂ takes_by (passes_stopped built_desk.top (names_of built_desk) (walk_from nothing_held) (codes "migrate") [] words) (stops built_desk.top.rules (names_of built_desk) (walk_from nothing_held) (codes "migrate") [] words)
    ∙ taken_behind words (passes_files old fresh a b)

-- and name what is asked for

rows_of_files : (old fresh : List ℕ) → IsPlain old → IsPlain fresh
    → (first_of (codes "old") (rows_at migrate_shape (words_of_files old fresh)).1 ≡ Some old) × (first_of (codes "new") (rows_at migrate_shape (words_of_files old fresh)).1 ≡ Some fresh)
unfolding clap_on_literals migrate_shape behind_files
rows_of_files old fresh a b =
    let P : List Row → Type 0 = λ rows. (first_of (codes "old") rows ≡ Some old) × (first_of (codes "new") rows ≡ Some fresh) in
    found_at migrate_shape P (walks_files old fresh a b) (refl, refl)

enters : (program : List ℕ) (words : List (List ℕ)) → subcommand_of desk_app (program ∷ codes "migrate" ∷ words) ≡ Some (rows_at migrate_shape words)
unfolding clap_on_literals migrate_shape built_desk
enters program words = ap (λ w. entered built_desk w.stopped) (stops built_desk.top.rules (names_of built_desk) (walk_from nothing_held) (codes "migrate") [] words)

pub enters_migrate : (program old fresh : List ℕ) → IsPlain old → IsPlain fresh → IsSomeAnd (subcommand_of desk_app (program ∷ words_for (migrate old fresh))) (λ p. IsSpelledOut (migrate old fresh) p.0 p.1)
unfolding migrate_shape
enters_migrate program old fresh a b =
    let rows = rows_of_files old fresh a b in
    let P : Option (List ℕ × List Row) → Type 0 = λ found. IsSomeAnd found (λ p. IsSpelledOut (migrate old fresh) p.0 p.1) in
    subst P (sym (enters program (words_of_files old fresh))) (refl, rows.0, rows.1)

-- what the getters give

-- what the words of `migrate` name
pub files_by : (asked : CallValue) (f : Found) → IsSpelledOut asked (codes "migrate") (rows_of f)
    → (old : List ℕ) × (fresh : List ℕ) × (asked ≡ migrate old fresh) × (first_value f (codes "old") ≡ Some old) × (first_value f (codes "new") ≡ Some fresh)
files_by (isin code) f h = let bad : 109 ≡ 105 = ap (λ t. slice_index t 0) h.0 in absurd (omega (arith, bad))
files_by (read mt) f h = let bad : 109 ≡ 114 = ap (λ t. slice_index t 0) h.0 in absurd (omega (arith, bad))
files_by (play db) f h = let bad : 109 ≡ 112 = ap (λ t. slice_index t 0) h.0 in absurd (omega (arith, bad))
files_by (trial db) f h = let bad : 109 ≡ 112 = ap (λ t. slice_index t 0) h.0 in absurd (omega (arith, bad))
files_by (check db format) f h = let bad : 109 ≡ 99 = ap (λ t. slice_index t 0) h.0 in absurd (omega (arith, bad))
files_by (explain words) f h = let bad : 109 ≡ 101 = ap (λ t. slice_index t 0) h.0 in absurd (omega (arith, bad))
files_by (serve db port count) f h = let bad : 109 ≡ 115 = ap (λ t. slice_index t 0) h.0 in absurd (omega (arith, bad))
files_by (holdings db bic account) f h = let bad : 109 ≡ 104 = ap (λ t. slice_index t 0) h.0 in absurd (omega (arith, bad))
files_by (sums db) f h = let bad : 109 ≡ 115 = ap (λ t. slice_index t 0) h.0 in absurd (omega (arith, bad))
files_by (report db parts format) f h = let bad : 109 ≡ 114 = ap (λ t. slice_index t 0) h.0 in absurd (omega (arith, bad))
files_by (journal db from format) f h = let bad : 109 ≡ 106 = ap (λ t. slice_index t 0) h.0 in absurd (omega (arith, bad))
files_by (folder db from to) f h = let bad : 109 ≡ 100 = ap (λ t. slice_index t 0) h.0 in absurd (omega (arith, bad))
files_by (migrate old fresh) f h = (old, fresh, refl, first_value-rows f (codes "old") ∙ h.1, first_value-rows f (codes "new") ∙ h.2)

same_text : {found : Option (List ℕ)} {a b : List ℕ} → Some a ≡ found → found ≡ Some b → a ≡ b
same_text {found} {a} {b} one other = let both : Some a ≡ Some b = one ∙ other in cc

pub files_as : (asked : CallValue) (f : Found) → IsSpelledOut asked (codes "migrate") (rows_of f) → (old fresh : List ℕ) → Some old ≡ first_value f (codes "old") → Some fresh ≡ first_value f (codes "new") → migrate old fresh ≡ asked
files_as asked f spelled old fresh one other =
    let n = files_by asked f spelled in
    let a : old ≡ n.0 = same_text one n.3 in
    let b : fresh ≡ n.1 = same_text other n.4 in
    rw (a, b) (sym n.2)

pub said_files : (f : Found) (old fresh : List ℕ) → Some old ≡ first_value f (codes "old") → Some fresh ≡ first_value f (codes "new") → IsSaid (migrate old fresh) (codes "migrate") (rows_of f)
said_files f old fresh one other = (refl, sym (first_value-rows f (codes "old")) ∙ sym one, sym (first_value-rows f (codes "new")) ∙ sym other)
