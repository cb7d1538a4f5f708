-- Which pairs the runs of a history settle. A run goes over the due pairs in passes: once under the rule of one
-- pass, else again as long as a pass settles some pair.
use Rattle.std.specs.Prelude.{◌≡◌, ◌≢◌, ℕ, ◌↔◌, ◌+◌, nat_lt, nat_le, ◌==◌, Bool, true, false, not, ◌&&◌, ◌||◌, if◌then◌else◌, List, [], ◌∷◌, count_by, Contains, AllPairs, filter, Option, Some, None, option_and_then}
use Rattle.std.specs.List.{list_any}
use Rattle.desk_codes.specs.Number.{number_of}
use Rattle.desk_rules.specs.declared.history.entry.Entry.{Entry}
use Rattle.desk_rules.specs.declared.history.entry.RunRule.{RunRule}
use Rattle.desk_rules.specs.declared.history.entry.RunRule.TheVariants.{OnePass, Passes}
use Rattle.desk_rules.specs.declared.history.pair.Pair.{Pair}
use Rattle.desk_rules.specs.declared.history.pair.Settled.{Settled}
use Rattle.desk_rules.specs.declared.history.pair.Place.{Place}
use Rattle.desk_rules.specs.History.{Instructed, before, entry_at, instruction_at, run_day, run_rule}
use Rattle.desk_rules.specs.Cancelled.{is_cancelled_pair}
use Rattle.desk_rules.specs.Covered.{is_covered}

abbrev pub instructed_day : Option Instructed → ℕ
instructed_day None = 0
instructed_day (Some i) = number_of i.instruction.day

-- the settlement day of a pair, as the number YYYYMMDD
abbrev pub day_of : List Entry → Pair → ℕ
day_of history p = instructed_day (instruction_at history p.later)

-- the place of a pair
abbrev pub place_of : List Entry → Pair → Place
place_of history p = record { day = day_of history p; number = p.later }

-- the order in which a pass takes pairs: by settlement day, then by number
abbrev pub is_before : Place → Place → Bool
is_before a b = nat_lt a.day b.day || (a.day == b.day && nat_lt a.number b.number)

abbrev pub is_sooner : List Entry → Pair → Pair → Bool
is_sooner history p q = is_before (place_of history p) (place_of history q)

-- the order of settlement: by run, then by pass, then in the order of the pass
abbrev pub is_passed_sooner : List Entry → Settled → Settled → Bool
is_passed_sooner history s t = nat_lt s.pass t.pass || (s.pass == t.pass && is_sooner history s.pair t.pair)

abbrev pub precedes : List Entry → Settled → Settled → Bool
precedes history s t = nat_lt s.run t.run || (s.run == t.run && is_passed_sooner history s t)

-- what is settled before s
abbrev pub settled_before : List Entry → Settled → List Settled → List Settled
settled_before history s settled = filter (λ t. precedes history t s) settled

abbrev pub is_by : Option ℕ → ℕ → Bool
is_by None day = false
is_by (Some run) day = nat_le day run

abbrev pub is_not_cancelled : List Entry → Pair → Bool
is_not_cancelled history p = not (is_cancelled_pair history p)

-- a pair is due in a run: it is numbered below the run and due by its day, and was not cancelled before the run
abbrev pub is_due : List Entry → ℕ → Pair → Bool
is_due history run p =
    is_by (option_and_then run_day (entry_at history run)) (day_of history p) && nat_lt p.later run && is_not_cancelled (before run history) p

-- a pair is in none of these settlements
abbrev pub IsUnsettled : List Settled → Pair → Type 0
IsUnsettled settled p = (s : Settled) → Contains settled s → s.pair ≢ p

-- a run has the rule that lets it make further passes
abbrev pub allows_more : Option RunRule → Bool
allows_more None = false
allows_more (Some OnePass) = false
allows_more (Some Passes) = true

abbrev pub is_in_passes : List Entry → ℕ → Bool
is_in_passes history run = allows_more (option_and_then run_rule (entry_at history run))

-- After these settlements a pass of a run begins: it is the first, or the run's rule lets it make further passes
-- and the pass before it settled some pair.
abbrev pub pass_begins : List Entry → List Settled → ℕ → ℕ → Bool
pass_begins history settled run pass = pass == 1 || (is_in_passes history run && list_any (λ t. t.run == run && t.pass + 1 == pass) settled)

-- After these settlements a pass of a run settles a pair: the pass begins, and the pair is due, not yet settled, and
-- covered by the entries before the run and by what is settled before it.
pub record Settles (history : List Entry) (pairs : List Pair) (settled : List Settled) (s : Settled) : Type 0 where
  pub paired : Contains pairs s.pair
  pub due : is_due history s.run s.pair ≡ true
  pub begun : pass_begins history settled s.run s.pass ≡ true
  pub unsettled : IsUnsettled settled s.pair
  pub covered : is_covered (before s.run history) settled s.pair ≡ true

-- The one list of settlements, in their order, in which one stands exactly when what stands before it lets the
-- pass of the run settle the pair.
pub record IsSettlement (history : List Entry) (pairs : List Pair) (settled : List Settled) : Type 0 where
  pub exact : (s : Settled) → Contains settled s ↔ Settles history pairs (settled_before history s settled) s
  pub in_order : AllPairs (λ s t. precedes history s t ≡ true) settled

-- a place is past another one, or past none
abbrev pub is_past : Option Place → Place → Bool
is_past None place = true
is_past (Some last) place = is_before last place

-- the number of a run's last pass that settled some pair; 0 where none did
abbrev pub last_pass : List Settled → ℕ → ℕ
last_pass [] run = 0
last_pass (s ∷ settled) run = if s.run == run && nat_lt (last_pass settled run) s.pass then s.pass else last_pass settled run

-- how many passes a run made: one under the rule of one pass, else those that settled some pair and the one after them
-- (of an entry that is no run nothing is meant)
abbrev pub passes_of : List Entry → List Settled → ℕ → ℕ
passes_of history settled run = if is_in_passes history run then last_pass settled run + 1 else 1

-- how many pairs a run settled
abbrev pub settled_count : List Settled → ℕ → ℕ
settled_count settled run = count_by (λ s. s.run == run) settled
