-- Look-ups in the list of accepted entries.
use Rattle.std.proofs.Common.{◌≡◌, ℕ, zero, suc, ◌-◌, ◌<◌, ◌≤◌, List, [], ◌∷◌, length, map, get_or, Some, refl, arith}
use Rattle.desk_rules.specs.declared.answers.reply.Kept.{Kept}
use Rattle.std.specs.Prelude.{slice_get}
use Rattle.std.proofs.lemmas.List.{length-map}
use Rattle.desk_rules.specs.declared.history.entry.Instructed.{Instructed}
use Rattle.desk_rules.specs.History.{entry_at, instruction_at}
use Rattle.desk_rules.proofs.HistoryLemmas.{instruction_at-known}

-- the entry at an index
pub entry_in : (kept : List Kept) (i : ℕ) (d : Kept) → i < length kept → slice_get (map (λ k. k.entry) kept) i ≡ Some (get_or kept i d).entry
entry_in [] i d lt = absurd (omega arith)
entry_in (one ∷ kept) zero d lt = refl
entry_in (one ∷ kept) (suc i) d lt = entry_in kept i d (omega arith)

-- the entry of a number
pub entry_of : (kept : List Kept) (n : ℕ) (d : Kept) → 0 < n → n ≤ length kept → entry_at (map (λ k. k.entry) kept) n ≡ Some (get_or kept (n - 1) d).entry
entry_of kept zero d some within = absurd (omega arith)
entry_of kept (suc n) d some within = let i : suc n - 1 ≡ n = omega arith in rw i (entry_in kept n d (omega arith))

-- an instruction's number is one of the list
pub instruction_within : (kept : List Kept) (n : ℕ) (i : Instructed) → instruction_at (map (λ k. k.entry) kept) n ≡ Some i → (0 < n) × (n ≤ length kept)
instruction_within kept n i is =
    let known = instruction_at-known (map (λ k. k.entry) kept) n i is in
    let same : length (map (λ (k : Kept). k.entry) kept) ≡ length kept = length-map kept (λ (k : Kept). k.entry) in
    (known.0, let within = known.1 in omega (arith, within, same))
