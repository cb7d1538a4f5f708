-- Both instructions of a pair stand otherwise.
use Rattle.std.proofs.Common.{◌≡◌, ◌≢◌, inl, inr, refl, sym, ap, ◌∙◌, ℕ, ◌<◌, ◌==◌, cond, false, Some, Result, Ok, Err, OnOk, arith, eq-eqb, eqb-true}
use Rattle.std.proofs.lemmas.Bool.{cases_Bool}
use Rattle.sqlite.specs.Effect.{Database}
use Rattle.sqlite.specs.declared.error.Error.{Error}
use Rattle.desk_register.specs.Changes.{standing_at, standing_both}
use Rattle.desk_rules.specs.Content.{history_of}
use Rattle.desk_rules.specs.declared.history.entry.Instructed.{Instructed}
use Rattle.desk_rules.specs.declared.history.standing.Standing.{Standing}
use Rattle.desk_rules.specs.declared.history.standing.State.{State}
use Rattle.desk_rules.specs.declared.history.standing.State.TheVariants.{NoInstruction}
use Rattle.desk_rules.specs.History.{instruction_at}
use Rattle.sql_rows.specs.Standings.{StandingsChanged, standing_in}
use Rattle.sql_tables.specs.Schema.{desk_schema}
use Rattle.sql_register.specs.Content.{content_in}
use Rattle.sql_register.specs.Holds.{Becomes, IsDesk}
use Rattle.sql_register.specs.Pairs.{StandBoth}
use Rattle.sql_register.proofs.StandingContent.{standing_so, standings_alone}

pub apart_false : (m n : ℕ) → (m ≡ n → ⊥) → (m == n) ≡ false
apart_false m n apart = elim (cases_Bool (m == n)) [ inl same ↦ absurd (apart (eqb-true m n same)) | inr out ↦ out ]

-- ---- where the two stand, and any other

module _ (s : ℕ → Standing) (m n : ℕ) (two : m < n) (state : State) where
  later_stands : standing_both s m n state n ≡ record (s n) { mate = Some m; state = state }
  later_stands = ap (λ b. cond b (record (s n) { mate = Some m; state = state }) (standing_at s m (record (s m) { mate = Some n; state = state }) n)) (eq-eqb n n refl)

  earlier_stands : standing_both s m n state m ≡ record (s m) { mate = Some n; state = state }
  earlier_stands =
      ap (λ b. cond b (record (s n) { mate = Some m; state = state }) (standing_at s m (record (s m) { mate = Some n; state = state }) m)) (apart_false m n (λ e. omega (arith, e)))
      ∙ ap (λ b. cond b (record (s m) { mate = Some n; state = state }) (s m)) (eq-eqb m m refl)

  other_stands : (k : ℕ) → (k ≡ m → ⊥) → (k ≡ n → ⊥) → standing_both s m n state k ≡ s k
  other_stands k not_m not_n =
      ap (λ b. cond b (record (s n) { mate = Some m; state = state }) (standing_at s m (record (s m) { mate = Some n; state = state }) k)) (apart_false k n not_n)
      ∙ ap (λ b. cond b (record (s m) { mate = Some n; state = state }) (s k)) (apart_false k m not_m)

-- the later one as the first change leaves it, is as it was
both_in_turn : (s : ℕ → Standing) (m n : ℕ) → m < n → (state : State)
    → standing_at (standing_at s m (record (s m) { mate = Some n; state = state })) n (record (standing_at s m (record (s m) { mate = Some n; state = state }) n) { mate = Some m; state = state }) ≡ standing_both s m n state
both_in_turn s m n two state =
    ap (λ (t : Standing). standing_at (standing_at s m (record (s m) { mate = Some n; state = state })) n (record t { mate = Some m; state = state }))
    (ap (λ b. cond b (record (s m) { mate = Some n; state = state }) (s n)) (apart_false n m (λ e. omega (arith, e))))

-- any number is the one, or the other, or another
which : {G : Type 0} (k m n : ℕ) → (k ≡ m → G) → (k ≡ n → G) → ((k ≡ m → ⊥) → (k ≡ n → ⊥) → G) → G
which k m n first second other = elim (cases_Bool (k == m)) [
  | inl here ↦ first (eqb-true k m here)
  | inr not_m ↦ elim (cases_Bool (k == n)) [
    | inl here ↦ second (eqb-true k n here)
    | inr not_n ↦ other (λ e. let t = sym not_m ∙ eq-eqb k m e in cc) (λ e. let t = sym not_n ∙ eq-eqb k n e in cc)
  ]
]

both_stand : (s : ℕ → Standing) (m n : ℕ) → m < n → (state : State) → state ≢ NoInstruction → (k : ℕ) → (s k).state ≢ NoInstruction → (standing_both s m n state k).state ≢ NoInstruction
both_stand s m n two state some k stood none = which k m n
    (λ e. some (sym (ap (λ (t : Standing). t.state) (ap (standing_both s m n state) e ∙ earlier_stands s m n two state)) ∙ none))
    (λ e. some (sym (ap (λ (t : Standing). t.state) (ap (standing_both s m n state) e ∙ later_stands s m n two state)) ∙ none))
    (λ not_m not_n. stood (sym (ap (λ (t : Standing). t.state) (other_stands s m n two state k not_m not_n)) ∙ none))

pub stands_both : (old mid new : Database) (m n : ℕ) (state : State) (r : Result (Unit {0}) Error) → m < n
    → StandingsChanged old mid (standing_at (standing_in old) m (record (standing_in old m) { mate = Some n; state = state }))
    → OnOk r (StandingsChanged mid new (standing_at (standing_in mid) n (record (standing_in mid n) { mate = Some m; state = state }))) → OnOk r (StandBoth old new m n state)
stands_both old mid new m n state (Ok tt) two first second = record {
  kept = second.kept;
  standings_are = second.standings_are ∙ ap (λ (f : ℕ → Standing). standing_at f n (record (f n) { mate = Some m; state = state })) first.standings_are ∙ both_in_turn (standing_in old) m n two state;
  others = λ tree out none. second.others tree out none ∙ first.others tree out none;
}
stands_both old mid new m n state (Err e) two first second = tt

-- ---- the tables in which both stand so say that, and nothing else

module _ (old new : Database) (m n : ℕ) (earlier later : Instructed) (desk : IsDesk old) (two : m < n) (is_earlier : instruction_at (history_of (content_in old)) m ≡ Some earlier) (is_later : instruction_at (history_of (content_in old)) n ≡ Some later) where
  pub stands_pair : (state : State) → state ≢ NoInstruction → new.schema ≡ desk_schema → StandBoth old new m n state → Becomes new (standing_so (content_in old) (standing_both (content_in old).standing m n state))
  stands_pair state some schema stood =
      let s = (content_in old).standing in
      standings_alone old new (standing_both s m n state) desk stood schema
      (λ k none.
      other_stands s m n two state k (λ e. let t = sym is_earlier ∙ ap (instruction_at (history_of (content_in old))) (sym e) ∙ none in cc)
      (λ e. let t = sym is_later ∙ ap (instruction_at (history_of (content_in old))) (sym e) ∙ none in cc)
      ∙ desk.instructions k none)
      (λ k i is. both_stand s m n two state some k (desk.stands k i is))
