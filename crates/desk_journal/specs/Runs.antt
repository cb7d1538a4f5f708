-- What the runs of a history did: which of them settled an instruction, and how many pairs one left.
use Rattle.std.specs.Prelude.{ℕ, nat_le, not, ◌&&◌, List, count_by, filter, Option, Some, None, option_and_then, option_map}
use Rattle.std.specs.List.{find}
use Rattle.desk_rules.specs.declared.history.entry.Entry.{Entry}
use Rattle.desk_rules.specs.declared.history.entry.Entry.TheVariants.{Run}
use Rattle.desk_rules.specs.declared.history.pair.Settled.{Settled}
use Rattle.desk_rules.specs.Books.{Books}
use Rattle.desk_rules.specs.History.{entry_at}
use Rattle.desk_rules.specs.Pairing.{has_side}
use Rattle.desk_rules.specs.Reply.{is_settled_pair}
use Rattle.desk_rules.specs.Settlement.{is_due}

-- the run that settled an instruction
abbrev pub settled_in : Books → ℕ → Option ℕ
settled_in books n = option_map (λ (s : Settled). s.run) (find (λ (s : Settled). has_side n s.pair) books.settled)

-- the day of an entry that is a run
abbrev pub day_of_run : Entry → Option (List ℕ)
day_of_run (Run reference day rule) = Some day
day_of_run entry = None

abbrev pub day_of_number : Books → ℕ → Option (List ℕ)
day_of_number books run = option_and_then day_of_run (entry_at books.history run)

-- what the runs up to a number settled
abbrev pub settled_upto : ℕ → List Settled → List Settled
settled_upto n settled = filter (λ (s : Settled). nat_le s.run n) settled

-- how many pairs that were due in a run were not settled when it ended
abbrev pub left_waiting : Books → ℕ → ℕ
left_waiting books n = count_by (λ p. is_due books.history n p && not (is_settled_pair (settled_upto n books.settled) p)) books.pairs
