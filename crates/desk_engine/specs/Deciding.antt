-- What a verdict is put together from. Only private contracts speak of it.
use Rattle.std.specs.Prelude.{◌≡◌, ℕ, List, Option, Some, None}
use Rattle.desk_rules.specs.declared.history.entry.Entry.{Entry}
use Rattle.desk_rules.specs.declared.answers.verdict.Verdict.{Verdict}
use Rattle.desk_rules.specs.History.{number_of_key, sender_of, reference_of}
use Rattle.desk_rules.specs.Verdict.{IsVerdictAt}
use Rattle.desk_register.specs.Checked.{with_history}

-- the verdict on an entry whose key an earlier entry has
pub record IsVerdictOnKey (history : List Entry) (entry : Entry) (verdict : Verdict) : Type 0 where
  pub number : ℕ
  pub is_number : number_of_key history (sender_of entry) (reference_of entry) ≡ Some number
  pub is_verdict : IsVerdictAt 0 (with_history history) entry (Some number) verdict

-- there is none where the key is new
abbrev pub IsVerdictIfKnown : List Entry → Entry → Option Verdict → Type 0
IsVerdictIfKnown history entry None = number_of_key history (sender_of entry) (reference_of entry) ≡ None
IsVerdictIfKnown history entry (Some verdict) = IsVerdictOnKey history entry verdict
