-- What is found by walking the tables, number by number.
use Rattle.std.specs.Prelude.{◌≡◌, ℕ, Bool, true, false, if◌then◌else◌, Option, Some, None}
use Rattle.sqlite.specs.Effect.{Database}
use Rattle.desk_rules.specs.Content.{Content, history_of}
use Rattle.desk_rules.specs.Settlement.{is_before}
use Rattle.desk_rules.specs.declared.history.entry.Instructed.{Instructed}
use Rattle.desk_rules.specs.declared.history.pair.Place.{Place}
use Rattle.desk_rules.specs.declared.history.standing.State.{State}
use Rattle.desk_rules.specs.declared.history.standing.State.TheVariants.{Unmatched}
use Rattle.desk_register.specs.Looked.{IsDue}
use Rattle.sql_entries.specs.Opposites.{IsNextOpposite}
use Rattle.sql_rows.specs.Standings.{IsNextMatched}
use Rattle.sql_register.specs.Content.{content_in}

abbrev pub is_unmatched : State → Bool
is_unmatched Unmatched = true
is_unmatched state = false

-- the least number above one of an opposite instruction, and whether it is unmatched; or there is none
abbrev pub IsCandidateAbove : Content → Instructed → ℕ → Option (ℕ × Bool) → Type 0
IsCandidateAbove content i after None = IsNextOpposite (history_of content) i after None
IsCandidateAbove content i after (Some found) = IsNextOpposite (history_of content) i after (Some found.0) × (found.1 ≡ is_unmatched (content.standing found.0).state)

-- the place of a number's matched pair, due by a day and past a place; or it is not so due
abbrev pub IsDueAt : Content → ℕ → Option Place → ℕ → Option Place → Type 0
IsDueAt content day place n None = (p : Place) → p.number ≡ n → IsDue content day place p → ⊥
IsDueAt content day place n (Some p) = (p.number ≡ n) × IsDue content day place p

-- the least number above one whose instruction is matched, and its pair's place where it is so due; or there is none
abbrev pub IsPairAbove : Database → ℕ → Option Place → ℕ → Option (ℕ × Option Place) → Type 0
IsPairAbove db day place after None = IsNextMatched db after None
IsPairAbove db day place after (Some found) = IsNextMatched db after (Some found.0) × IsDueAt (content_in db) day place found.0 found.1

-- the sooner of two places; where there is only one, that
abbrev pub sooner : Option Place → Option Place → Option Place
sooner None found = found
sooner (Some first) None = Some first
sooner (Some first) (Some found) = if is_before found first then Some found else Some first
