-- What each text shows of the register.
use Rattle.std.proofs.Common.{◌≡◌, ◌≢◌, inl, inr, ℕ, List, [], ◌∷◌, Bool, ◌&&◌, nat_eq, option_map, Option, None, Some, Ok, Err, Result, IfOk, IfSome, Vec, refl, ap, ◌∙◌, arith, length}
use Rattle.std.specs.declared.alloc.Global.{Global}
use Rattle.sqlite.specs.Order.{Row}
use Rattle.sqlite.specs.declared.error.Error.{Error}
use Rattle.sqlite.specs.declared.types.Value.TheVariants.{Text as Words}
use Rattle.sqlite.specs.State.{State, Shown}
use Rattle.std.specs.Prelude.{if◌then◌else◌}
use Rattle.std.specs.Str.{bytes_eq}
use Rattle.std.proofs.lemmas.Iterator.Adapters.{option_map_id}
use Rattle.desk_codes.specs.Bic.{IsBic}
use Rattle.desk_codes.specs.Day.{IsDay}
use Rattle.desk_codes.specs.Number.{number_of}
use Rattle.desk_msg.specs.Profile.{code_of_kind}
use Rattle.desk_rules.specs.declared.history.entry.Sender.TheVariants.{Operator, Participant as FromParticipant}
use Rattle.desk_rules.specs.declared.answers.reply.Kept.{Kept}
use Rattle.desk_rules.specs.History.{has_key, number_of_key}
use Rattle.desk_rules.specs.Facts.{adds_participant, is_participant, owner_by, owner_of, kind_by, kind_of, last_said, last_run}
use Rattle.desk_rules.specs.WellFormed.{AreWellFormed}
use Rattle.sql_tables.specs.Schema.{desk_schema}
use Rattle.sql_entries.specs.Columns.{kind_number, about_of}
use Rattle.sql_entries.specs.Entries.{AreEntries, entries_in}
use Rattle.sql_tables.specs.Rows.{number_rows, text_rows}
use Rattle.sql_entries.proofs.FindingTexts.{entry_of_participant_text, finds_entry_of_participant, entry_of_operator_text, finds_entry_of_operator, participant_text, finds_participant, owner_text, finds_owner, security_text, finds_security, last_run_text, finds_last_run}
use Rattle.sql_entries.proofs.FormedLemmas.{are_spelt, day_is_day}
use Rattle.sql_entries.proofs.RowLemmas.{participants_test, operators_test, about_test, plain_test}
use Rattle.sql_entries.proofs.EntryLemmas.{shows_first, shows_last, number_in, numbers_shown, bic_in, participants_found, participants_shown, first_told, last_told, owners_told, unit_in, kinds_told, day_in, day_text, days_told, last_day}

pub bic_is_some : (bic : List ℕ) → IsBic bic → bic ≢ []
bic_is_some bic is none = elim is.len [
  | inl eight ↦ absurd (let e : length bic ≡ 0 = ap length none in omega (arith, e, eight))
  | inr eleven ↦ absurd (let e : length bic ≡ 0 = ap length none in omega (arith, e, eleven))
]

module _ (old new : State) (has : old.now.schema ≡ desk_schema) (register : List Kept) (are : AreEntries old.now register) where
  pub participants_number : (bic reference : List ℕ) → IsBic bic → (r : Result (Vec Row Global) Error) → IfOk r (λ rows. Shown entry_of_participant_text (Words bic ∷ Words reference ∷ []) old new rows.items)
      → IfOk r (λ rows. rows.items ≡ number_rows (number_of_key (entries_in register) (FromParticipant bic) reference))
  participants_number bic reference is (Ok rows) h =
      shows_first old new has register are _ _ rows.items h _ _ (λ kept. has_key (FromParticipant bic) reference kept.entry)
      (λ number kept. participants_test number kept.entry kept.reply bic reference (bic_is_some bic is)) number_in (λ it. refl) finds_entry_of_participant
      ∙ numbers_shown (FromParticipant bic) reference 0 register
  participants_number bic reference is (Err e) h = tt

  pub operators_number : (reference : List ℕ) → (r : Result (Vec Row Global) Error) → IfOk r (λ rows. Shown entry_of_operator_text (Words reference ∷ []) old new rows.items)
      → IfOk r (λ rows. rows.items ≡ number_rows (number_of_key (entries_in register) Operator reference))
  operators_number reference (Ok rows) h =
      shows_first old new has register are _ _ rows.items h _ _ (λ kept. has_key Operator reference kept.entry)
      (λ number kept. operators_test number kept.entry kept.reply reference) number_in (λ it. refl) finds_entry_of_operator
      ∙ numbers_shown Operator reference 0 register
  operators_number reference (Err e) h = tt

  pub participant_shown : (bic : List ℕ) → (r : Result (Vec Row Global) Error) → IfOk r (λ rows. Shown participant_text (Words bic ∷ []) old new rows.items)
      → IfOk r (λ rows. rows.items ≡ text_rows (if is_participant (entries_in register) bic then Some bic else None))
  participant_shown bic (Ok rows) h =
      shows_first old new has register are _ _ rows.items h _ _ (λ kept. adds_participant bic kept.entry)
      (λ number kept. about_test number kept.entry kept.reply 1 bic ∙ participants_found bic kept.entry) bic_in (λ it. refl) finds_participant
      ∙ participants_shown bic 0 register
  participant_shown bic (Err e) h = tt

  pub owner_shown : (account : List ℕ) → (r : Result (Vec Row Global) Error) → IfOk r (λ rows. Shown owner_text (Words account ∷ []) old new rows.items)
      → IfOk r (λ rows. rows.items ≡ text_rows (owner_of (entries_in register) account))
  owner_shown account (Ok rows) h =
      let passes : Kept → Bool = λ kept. nat_eq (kind_number kept.entry) 2 && bytes_eq (about_of kept.entry) account in
      shows_first old new has register are _ _ rows.items h _ _ passes
      (λ number kept. about_test number kept.entry kept.reply 2 account) bic_in (λ it. refl) finds_owner
      ∙ first_told (owner_by account) (λ bic. bic) bic_in passes (owners_told account) 0 register
      ∙ ap text_rows (option_map_id (owner_of (entries_in register) account))
  owner_shown account (Err e) h = tt

  pub security_shown : (isin : List ℕ) → (r : Result (Vec Row Global) Error) → IfOk r (λ rows. Shown security_text (Words isin ∷ []) old new rows.items)
      → IfOk r (λ rows. rows.items ≡ text_rows (option_map code_of_kind (kind_of (entries_in register) isin)))
  security_shown isin (Ok rows) h =
      let passes : Kept → Bool = λ kept. nat_eq (kind_number kept.entry) 3 && bytes_eq (about_of kept.entry) isin in
      shows_first old new has register are _ _ rows.items h _ _ passes
      (λ number kept. about_test number kept.entry kept.reply 3 isin) unit_in (λ it. refl) finds_security
      ∙ first_told (kind_by isin) code_of_kind unit_in passes (kinds_told isin) 0 register
  security_shown isin (Err e) h = tt

  last_run_rows : (rows : List Row) → Shown last_run_text [] old new rows → rows ≡ text_rows (last_said day_text (entries_in register))
  last_run_rows rows h =
      let passes : Kept → Bool = λ kept. nat_eq (kind_number kept.entry) 10 && bytes_eq (about_of kept.entry) [] in
      shows_last old new has register are _ _ rows h _ _ passes
      (λ number kept. plain_test number kept.entry kept.reply 10) day_in (λ it. refl) finds_last_run
      ∙ last_told day_text (λ day. day) day_in passes days_told 0 register
      ∙ ap text_rows (option_map_id (last_said day_text (entries_in register)))

  pub last_run_shown : (r : Result (Vec Row Global) Error) → IfOk r (λ rows. Shown last_run_text [] old new rows.items)
      → IfOk r (λ rows. (found : Option (List ℕ)) × (rows.items ≡ text_rows found) × (option_map number_of found ≡ last_run (entries_in register)))
  last_run_shown (Ok rows) h = (last_said day_text (entries_in register), last_run_rows rows.items h, last_day (entries_in register))
  last_run_shown (Err e) h = tt

  pub last_run_days : AreWellFormed (entries_in register) → (r : Result (Vec Row Global) Error) → IfOk r (λ rows. Shown last_run_text [] old new rows.items)
      → IfOk r (λ rows. (found : Option (List ℕ)) × (rows.items ≡ text_rows found) × IfSome found IsDay)
  last_run_days formed (Ok rows) h = (last_said day_text (entries_in register), last_run_rows rows.items h, day_is_day (entries_in register) (are_spelt (entries_in register) formed))
  last_run_days formed (Err e) h = tt
