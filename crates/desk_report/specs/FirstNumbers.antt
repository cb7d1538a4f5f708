-- The least number of an unmatched instruction with each key. Only private contracts and proofs speak of it.
use Rattle.std.specs.Prelude.{◌≡◌, ℕ, Bool, false, Option, None, Some}
use Rattle.std.specs.Bool.{then_some}
use Rattle.std.specs.Option.{option_or}
use Rattle.std.specs.List.{find, range_with_len}
use Rattle.std.specs.BTreeMap.{BTreeMap, get}
use Rattle.std.specs.Ordering.{is_eq}
use Rattle.desk_rules.specs.declared.history.entry.Instructed.{Instructed}
use Rattle.desk_rules.specs.Content.{Content}
use Rattle.desk_report.specs.declared.unmatched.near.NearKey.{NearKey}
use Rattle.desk_report.specs.NearKeys.{key_of, near_cmp}
use Rattle.desk_rules.specs.Unmatched.{unmatched_in}

-- there is an instruction, and it has a key
abbrev pub has_key : NearKey → Option Instructed → Bool
has_key key None = false
has_key key (Some one) = is_eq (near_cmp (key_of one) key)

-- the least number, up to one, of an unmatched instruction with a key
abbrev pub first_with : Content → ℕ → NearKey → Option ℕ
first_with content upto key = find (λ n. has_key key (unmatched_in content n)) (range_with_len 1 upto)

-- the numbers are those, for each key
pub record AreFirst (numbers : BTreeMap NearKey ℕ) (content : Content) (upto : ℕ) : Type 0 where
  pub each : (key : NearKey) → get near_cmp numbers key ≡ first_with content upto key

-- a number was put at its instruction's key, where there was none; that of no unmatched instruction was not
pub record IsNoted (content : Content) (number : ℕ) (old new : BTreeMap NearKey ℕ) : Type 0 where
  pub each : (key : NearKey) → get near_cmp new key ≡ option_or (get near_cmp old key) (then_some (has_key key (unmatched_in content number)) number)
