-- What calls on pairs ask of the tables holds, so that they fail for want of memory or size, or where the device failed.
use Rattle.std.proofs.Common.{◌≡◌, ◌≢◌, sym, ap, ◌∙◌, ℕ, ◌<◌, Some, arith}
use Rattle.sqlite.specs.Effect.{Database}
use Rattle.desk_register.specs.Changes.{CanCancelPair, CanPair, standing_at}
use Rattle.desk_register.specs.declared.outcome.Outcome.{Outcome}
use Rattle.desk_rules.specs.Content.{Content}
use Rattle.desk_rules.specs.declared.history.entry.Instructed.{Instructed}
use Rattle.desk_rules.specs.declared.history.standing.Standing.{Standing}
use Rattle.desk_rules.specs.declared.history.standing.State.{State}
use Rattle.desk_rules.specs.declared.history.standing.State.TheVariants.{Matched, NoInstruction, Unmatched}
use Rattle.sql_rows.specs.Standings.{StandingsChanged, standing_in}
use Rattle.sql_register.specs.Content.{content_in}
use Rattle.sql_register.specs.Holds.{Becomes, IsDesk}
use Rattle.sql_register.specs.Pairs.{StandAlready}
use Rattle.sql_register.proofs.BothContent.{apart_false}
use Rattle.sql_register.proofs.TrialLemmas.{IsMatchedAt}
use Rattle.sql_register.proofs.StandingContent.{at_other}
use Rattle.sql_register.proofs.TriedContent.{balances_so}
use Rattle.sql_register.specs.Settling.{cash_then, positions_then}

pub is_some : (s t : State) → s ≡ t → t ≢ NoInstruction → s ≢ NoInstruction
is_some s t same some none = some (sym same ∙ none)

-- where the earlier one stands otherwise, the later one stands as before
pub later_still : (old mid : Database) (m n : ℕ) (state : State) → m < n → StandingsChanged old mid (standing_at (standing_in old) m (record (standing_in old m) { mate = Some n; state = state }))
    → (standing_in old n).state ≢ NoInstruction → (standing_in mid n).state ≢ NoInstruction
later_still old mid m n state two first stood =
    is_some (standing_in mid n).state (standing_in old n).state
    (ap (λ (f : ℕ → Standing). (f n).state) first.standings_are
    ∙ ap (λ (s : Standing). s.state) (at_other (standing_in old) m (record (standing_in old m) { mate = Some n; state = state }) n (apart_false n m (λ e. omega (arith, e, two))))) stood

module _ (db : Database) (desk : IsDesk db) (m n : ℕ) where
  pub pair_stands : CanPair (content_in db) m n → StandAlready db m n
  pair_stands can = record {
    standings = desk.standings;
    earlier = is_some _ Unmatched can.earlier_unmatched (λ e. cc);
    later = is_some _ Unmatched can.later_unmatched (λ e. cc);
  }

  pub cancel_stands : CanCancelPair (content_in db) m n → StandAlready db m n
  cancel_stands can = record {
    standings = desk.standings;
    earlier = is_some _ (Matched can.earlier_reason) can.earlier_matched (λ e. cc);
    later = is_some _ (Matched can.later_reason) can.later_matched (λ e. cc);
  }

-- a matched pair stands matched once its legs have moved
pub moved_stands : (old mid : Database) (m n : ℕ) (earlier later : Instructed) (outcome : Outcome) → IsMatchedAt (content_in old) m n earlier later
    → Becomes mid (balances_so (content_in old) (positions_then (content_in old) earlier later outcome) (cash_then (content_in old) earlier later outcome)) → StandAlready mid m n
moved_stands old mid m n earlier later outcome can moved = record {
  standings = moved.desk.standings;
  earlier = is_some _ (Matched can.earlier_reason) (ap (λ (c : Content). (c.standing m).state) moved.content_is ∙ can.earlier_matched) (λ e. cc);
  later = is_some _ (Matched can.later_reason) (ap (λ (c : Content). (c.standing n).state) moved.content_is ∙ can.later_matched) (λ e. cc);
}
