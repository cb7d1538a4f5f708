-- What the rows that are found say of the history.
use Rattle.std.proofs.Common.{◌≡◌, inl, inr, ℕ, ◌+◌, pos, List, [], ◌∷◌, map, filter, Bool, true, false, ◌&&◌, nat_eq, Option, None, Some, option_map, refl, ap, subst, ◌∙◌}
use Rattle.std.specs.Str.{bytes_eq}
use Rattle.std.proofs.lemmas.Bool.{cases_Bool}
use Rattle.sqlite.specs.Order.{Row}
use Rattle.sqlite.specs.declared.types.Value.TheVariants.{Null, Int, Text as Words}
use Rattle.sqlite.specs.Term.{Term, col, eval_all}
use Rattle.sqlite.specs.State.{State, Shown}
use Rattle.sqlite.specs.Program.{overlay}
use Rattle.sqlite.proofs.Callers.{reads_as}
use Rattle.std.specs.Prelude.{if◌then◌else◌}
use Rattle.std.proofs.lemmas.Slice.Eq.{bytes_eq-Decides}
use Rattle.desk_codes.specs.Number.{number_of}
use Rattle.desk_msg.specs.Profile.{code_of_kind}
use Rattle.desk_rules.specs.declared.history.entry.Entry.{Entry}
use Rattle.desk_rules.specs.declared.history.entry.Entry.TheVariants.{Participant, Account, Security, Issue, Redeem, PayIn, PayOut, Instruct, Cancel, Run}
use Rattle.desk_rules.specs.declared.history.entry.Sender.{Sender}
use Rattle.desk_rules.specs.declared.answers.reply.Kept.{Kept}
use Rattle.desk_rules.specs.History.{has_key, number_from, run_day}
use Rattle.desk_rules.specs.Facts.{adds_participant, is_participant, owner_by, kind_by, or_else, first_said, last_said, last_run}
use Rattle.sqlite_value.specs.declared.keys.Key.{Key}
use Rattle.sql_tables.specs.Schema.{desk_schema}
use Rattle.sql_tables.specs.Queries.{passes_all, rising, falling, IsFirst}
use Rattle.sql_tables.proofs.QueryLemmas.{first_row}
use Rattle.sql_entries.specs.Columns.{kind_number, about_of, columns_of}
use Rattle.sql_entries.specs.Entries.{AreEntries, entries_in, row_of, rows_from}
use Rattle.sql_tables.specs.Rows.{number_rows, text_rows}
use Rattle.sql_entries.proofs.NumberedLemmas.{Numbered, numbered, found, row_at, show_first, show_last, filter_numbered, found_rise, first_shown, last_shown}
use Rattle.sql_entries.proofs.FindingTexts.{Finds}

abbrev pub row_with : ℕ → Kept → Row
row_with number kept = row_of number kept.entry kept.reply

rows_are : (n : ℕ) (register : List Kept) → rows_from n register ≡ numbered row_with n register
rows_are n [] = refl
rows_are n (kept ∷ more) = ap (λ rows. row_with (n + 1) kept ∷ rows) (rows_are (n + 1) more)

-- ---- the rows that a text shows

module _ (old new : State) (has : old.now.schema ≡ desk_schema) (register : List Kept) (are : AreEntries old.now register) (text : List ℕ) (params : Row) (rows : List Row) (h : Shown text params old new rows)
    (terms shown : List Term) (passes : Kept → Bool) (same : (number : ℕ) (kept : Kept) → passes_all terms params (row_with number kept) ≡ passes kept) where
  here : filter (passes_all terms params) (old.now.trees 6) ≡ map (row_at row_with) (found passes 0 register)
  here = ap (filter (passes_all terms params)) (are.rows ∙ rows_are 0 register) ∙ filter_numbered row_with (passes_all terms params) passes same 0 register

  pub first_found : (by : Term) (key : Key) → Finds text by key terms shown → IsFirst (map (row_at row_with) (found passes 0 register)) params shown by key rows
  first_found by key finds =
      let answers = reads_as text params old new desk_schema has _ finds.is finds.query.plain finds.query.unlisted rows h in
      subst (λ mine. IsFirst mine params shown by key rows) here (first_row 6 terms shown by key (overlay old.now.trees []) params rows (answers.answer Null))

  module _ (shows : Numbered Kept → Row) (shows_is : (it : Numbered Kept) → eval_all shown (params ∷ row_at row_with it ∷ []) ≡ shows it) where
    pub shows_first : Finds text (col 1 0) rising terms shown → rows ≡ show_first shows (found passes 0 register)
    shows_first finds = first_shown row_with params shown (col 1 0) shows (λ it. refl) shows_is rows (found passes 0 register) (found_rise passes 0 register) (first_found (col 1 0) rising finds)

    pub shows_last : Finds text (col 1 0) falling terms shown → rows ≡ show_last shows (found passes 0 register)
    shows_last finds = last_shown row_with params shown (col 1 0) shows (λ it. refl) shows_is rows (found passes 0 register) (found_rise passes 0 register) (first_found (col 1 0) falling finds)

-- ---- numbers

abbrev pub number_in : Numbered Kept → Row
number_in it = Int (pos it.0) ∷ []

pub numbers_shown : (sender : Sender) (reference : List ℕ) (n : ℕ) (register : List Kept)
    → show_first number_in (found (λ kept. has_key sender reference kept.entry) n register) ≡ number_rows (number_from (n + 1) sender reference (entries_in register))
numbers_shown sender reference n [] = refl
numbers_shown sender reference n (kept ∷ more) = elim (cases_Bool (has_key sender reference kept.entry)) [
  | inl here ↦ rw here refl
  | inr apart ↦ rw apart (numbers_shown sender reference (n + 1) more)
]

-- ---- what the first entry says, and the last

-- an entry that says nothing is not found, and of one that says something this is shown
abbrev pub Tells : {Y : Type 0} → (Y → List ℕ) → Option Y → Bool → Row → Type 0
Tells text None found row = found ≡ false
Tells text (Some y) found row = (found ≡ true) × (row ≡ Words (text y) ∷ [])

or_rows : List Row → List Row → List Row
or_rows [] others = others
or_rows (row ∷ rows) others = row ∷ rows

module _ {Y : Type 0} (says : Entry → Option Y) (text : Y → List ℕ) (shows : Numbered Kept → Row) (passes : Kept → Bool) (tells : (it : Numbered Kept) → Tells text (says it.1.entry) (passes it.1) (shows it)) where
  pub first_told : (n : ℕ) (register : List Kept) → show_first shows (found passes n register) ≡ text_rows (option_map text (first_said says (entries_in register)))
  first_told n [] = refl
  first_told n (kept ∷ more) = go (first_told (n + 1) more) (says kept.entry) refl (tells (n + 1, kept))
    where
      go : (show_first shows (found passes (n + 1) more) ≡ text_rows (option_map text (first_said says (entries_in more)))) → (said : Option Y) → says kept.entry ≡ said → Tells text said (passes kept) (shows (n + 1, kept))
          → show_first shows (found passes n (kept ∷ more)) ≡ text_rows (option_map text (or_else (says kept.entry) (first_said says (entries_in more))))
      go rest None is apart = rw (is, apart) rest
      go rest (Some y) is here = rw (is, here.0) (ap (λ row. row ∷ []) here.1)

  some_last : (it : Numbered Kept) (more : List (Numbered Kept)) → (row : Row) × (show_last shows (it ∷ more) ≡ row ∷ [])
  some_last it [] = (shows it, refl)
  some_last it (next ∷ more) = some_last next more

  last_more : (it : Numbered Kept) (more : List (Numbered Kept)) → show_last shows (it ∷ more) ≡ or_rows (show_last shows more) (shows it ∷ [])
  unfolding or_rows
  last_more it [] = refl
  last_more it (next ∷ more) = let one = some_last next more in rw one.1

  rows_else : (rest : Option Y) (y : Y) → or_rows (text_rows (option_map text rest)) ((Words (text y) ∷ []) ∷ []) ≡ text_rows (option_map text (or_else rest (Some y)))
  unfolding or_rows
  rows_else None y = refl
  rows_else (Some x) y = refl

  none_else : (rest : Option Y) → text_rows (option_map text rest) ≡ text_rows (option_map text (or_else rest None))
  none_else None = refl
  none_else (Some x) = refl

  pub last_told : (n : ℕ) (register : List Kept) → show_last shows (found passes n register) ≡ text_rows (option_map text (last_said says (entries_in register)))
  last_told n [] = refl
  last_told n (kept ∷ more) = go (last_told (n + 1) more) (says kept.entry) refl (tells (n + 1, kept))
    where
      go : (show_last shows (found passes (n + 1) more) ≡ text_rows (option_map text (last_said says (entries_in more)))) → (said : Option Y) → says kept.entry ≡ said → Tells text said (passes kept) (shows (n + 1, kept))
          → show_last shows (found passes n (kept ∷ more)) ≡ text_rows (option_map text (or_else (last_said says (entries_in more)) (says kept.entry)))
      go rest None is apart = rw (is, apart) (rest ∙ none_else (last_said says (entries_in more)))
      go rest (Some y) is here =
          rw (is, here.0)
          (last_more (n + 1, kept) (found passes (n + 1) more) ∙ ap (λ rows. or_rows rows (shows (n + 1, kept) ∷ [])) rest
          ∙ ap (λ row. or_rows (text_rows (option_map text (last_said says (entries_in more)))) (row ∷ [])) here.1 ∙ rows_else (last_said says (entries_in more)) y)

told_by : {Y : Type 0} (text : Y → List ℕ) (b : Bool) (y : Y) → Tells text (if b then Some y else None) b (Words (text y) ∷ [])
told_by text true y = (refl, refl)
told_by text false y = refl

-- ---- whether a BIC is a participant's

abbrev pub bic_in : Numbered Kept → Row
bic_in it = Words (columns_of it.1.entry).bic ∷ []

pub participants_found : (bic : List ℕ) (entry : Entry) → (nat_eq (kind_number entry) 1 && bytes_eq (about_of entry) bic) ≡ adds_participant bic entry
participants_found bic (Participant reference b) = refl
participants_found bic (Account reference b account) = refl
participants_found bic (Security reference isin kind) = refl
participants_found bic (Issue movement) = refl
participants_found bic (Redeem movement) = refl
participants_found bic (PayIn payment) = refl
participants_found bic (PayOut payment) = refl
participants_found bic (Instruct sender instruction) = refl
participants_found bic (Cancel sender order) = refl
participants_found bic (Run reference day rule) = refl

its_bic : (bic : List ℕ) (entry : Entry) → adds_participant bic entry ≡ true → (columns_of entry).bic ≡ bic
its_bic bic (Participant reference b) h = (bytes_eq-Decides b bic).0 h
its_bic bic (Account reference b account) h = absurd (cc)
its_bic bic (Security reference isin kind) h = absurd (cc)
its_bic bic (Issue movement) h = absurd (cc)
its_bic bic (Redeem movement) h = absurd (cc)
its_bic bic (PayIn payment) h = absurd (cc)
its_bic bic (PayOut payment) h = absurd (cc)
its_bic bic (Instruct sender instruction) h = absurd (cc)
its_bic bic (Cancel sender order) h = absurd (cc)
its_bic bic (Run reference day rule) h = absurd (cc)

pub participants_shown : (bic : List ℕ) (n : ℕ) (register : List Kept)
    → show_first bic_in (found (λ kept. adds_participant bic kept.entry) n register) ≡ text_rows (if is_participant (entries_in register) bic then Some bic else None)
participants_shown bic n [] = refl
participants_shown bic n (kept ∷ more) = elim (cases_Bool (adds_participant bic kept.entry)) [
  | inl here ↦ rw here (ap (λ b. (Words b ∷ []) ∷ []) (its_bic bic kept.entry here))
  | inr apart ↦ rw apart (participants_shown bic (n + 1) more)
]

-- ---- whose an account is

pub owners_told : (account : List ℕ) (it : Numbered Kept) → Tells (λ bic. bic) (owner_by account it.1.entry) (nat_eq (kind_number it.1.entry) 2 && bytes_eq (about_of it.1.entry) account) (bic_in it)
owners_told account it = go it.1.entry
  where
    go : (entry : Entry) → Tells (λ bic. bic) (owner_by account entry) (nat_eq (kind_number entry) 2 && bytes_eq (about_of entry) account) (Words (columns_of entry).bic ∷ [])
    go (Participant reference b) = refl
    go (Account reference b a) = told_by (λ bic. bic) (bytes_eq a account) b
    go (Security reference isin kind) = refl
    go (Issue movement) = refl
    go (Redeem movement) = refl
    go (PayIn payment) = refl
    go (PayOut payment) = refl
    go (Instruct sender instruction) = refl
    go (Cancel sender order) = refl
    go (Run reference day rule) = refl

-- ---- how a security is counted

abbrev pub unit_in : Numbered Kept → Row
unit_in it = Words (columns_of it.1.entry).unit ∷ []

pub kinds_told : (isin : List ℕ) (it : Numbered Kept) → Tells code_of_kind (kind_by isin it.1.entry) (nat_eq (kind_number it.1.entry) 3 && bytes_eq (about_of it.1.entry) isin) (unit_in it)
kinds_told isin it = go it.1.entry
  where
    go : (entry : Entry) → Tells code_of_kind (kind_by isin entry) (nat_eq (kind_number entry) 3 && bytes_eq (about_of entry) isin) (Words (columns_of entry).unit ∷ [])
    go (Participant reference b) = refl
    go (Account reference b account) = refl
    go (Security reference i kind) = told_by code_of_kind (bytes_eq i isin) kind
    go (Issue movement) = refl
    go (Redeem movement) = refl
    go (PayIn payment) = refl
    go (PayOut payment) = refl
    go (Instruct sender instruction) = refl
    go (Cancel sender order) = refl
    go (Run reference day rule) = refl

-- ---- the day of the last run

abbrev pub day_in : Numbered Kept → Row
day_in it = Words (columns_of it.1.entry).day ∷ []

abbrev pub day_text : Entry → Option (List ℕ)
day_text (Run reference day rule) = Some day
day_text entry = None

pub days_told : (it : Numbered Kept) → Tells (λ day. day) (day_text it.1.entry) (nat_eq (kind_number it.1.entry) 10 && bytes_eq (about_of it.1.entry) []) (day_in it)
days_told it = go it.1.entry
  where
    go : (entry : Entry) → Tells (λ day. day) (day_text entry) (nat_eq (kind_number entry) 10 && bytes_eq (about_of entry) []) (Words (columns_of entry).day ∷ [])
    go (Participant reference b) = refl
    go (Account reference b account) = refl
    go (Security reference isin kind) = refl
    go (Issue movement) = refl
    go (Redeem movement) = refl
    go (PayIn payment) = refl
    go (PayOut payment) = refl
    go (Instruct sender instruction) = refl
    go (Cancel sender order) = refl
    go (Run reference day rule) = (refl, refl)

day_number : (entry : Entry) → option_map number_of (day_text entry) ≡ run_day entry
day_number (Participant reference b) = refl
day_number (Account reference b account) = refl
day_number (Security reference isin kind) = refl
day_number (Issue movement) = refl
day_number (Redeem movement) = refl
day_number (PayIn payment) = refl
day_number (PayOut payment) = refl
day_number (Instruct sender instruction) = refl
day_number (Cancel sender order) = refl
day_number (Run reference day rule) = refl

map_else : (a b : Option (List ℕ)) → option_map number_of (or_else a b) ≡ or_else (option_map number_of a) (option_map number_of b)
map_else None b = refl
map_else (Some day) b = refl

pub last_day : (history : List Entry) → option_map number_of (last_said day_text history) ≡ last_run history
last_day [] = refl
last_day (entry ∷ entries) = map_else (last_said day_text entries) (day_text entry) ∙ ap (λ rest. or_else rest (option_map number_of (day_text entry))) (last_day entries) ∙ ap (or_else (last_run entries)) (day_number entry)
