-- A pair is tried: from what the steps have made of the tables, what the register's law says.
use Rattle.std.proofs.Common.{◌≡◌, ◌≢◌, sym, ap, subst, ◌∙◌, ℕ, ◌<◌, Some}
use Rattle.sqlite.specs.Effect.{Database}
use Rattle.desk_msg.specs.declared.writing.status.Reason.{Reason}
use Rattle.desk_register.specs.Changes.{CanSettle, IsPairAt, SidesFit, TriesPair, TriesSides, standing_both}
use Rattle.desk_register.specs.declared.outcome.Outcome.{Outcome}
use Rattle.desk_register.specs.declared.outcome.Outcome.TheVariants.{Lacks, Settled}
use Rattle.desk_rules.specs.Content.{Content, history_of}
use Rattle.desk_rules.specs.declared.history.entry.Instructed.{Instructed}
use Rattle.desk_rules.specs.declared.history.pair.Lack.TheVariants.{Money, Securities}
use Rattle.desk_rules.specs.declared.history.standing.State.TheVariants.{Matched, NoInstruction}
use Rattle.desk_rules.specs.History.{instruction_at}
use Rattle.sql_tables.specs.Schema.{desk_schema}
use Rattle.sql_register.specs.Content.{content_in}
use Rattle.sql_register.specs.Holds.{Becomes, IsDesk}
use Rattle.sql_register.specs.Settling.{Fares, MovesBoth, cash_then, positions_then, state_then, tried_so}
use Rattle.sql_register.specs.Pairs.{StandBoth}
use Rattle.sql_register.proofs.BothContent.{stands_pair}
use Rattle.sql_register.proofs.StandingContent.{standing_so}
use Rattle.sql_register.proofs.TriedContent.{balances_alone, balances_so, sums_stay}

-- a matched pair, by the numbers of its two instructions; each is the other's mate
pub record IsMatchedAt (content : Content) (m n : ℕ) (earlier later : Instructed) : Type 0 where
  pub two : m < n
  pub pair : IsPairAt content n m earlier later
  pub back : (content.standing m).mate ≡ Some n
  pub earlier_reason : Reason
  pub earlier_matched : (content.standing m).state ≡ Matched earlier_reason
  pub later_reason : Reason
  pub later_matched : (content.standing n).state ≡ Matched later_reason

-- what a pair can be tried on, said of the pair that was looked up
module _ (content : Content) (m n day : ℕ) (earlier later : Instructed) (can : CanSettle content n day) (pair : IsPairAt content n m earlier later) where
  mate_is : can.mate ≡ m
  mate_is = (let e : Some can.mate ≡ Some m = sym can.pair.has_mate ∙ pair.has_mate in cc)

  later_is : can.later ≡ later
  later_is = (let e : Some can.later ≡ Some later = sym can.pair.is_later ∙ pair.is_later in cc)

  earlier_is : can.earlier ≡ earlier
  earlier_is = (let e : Some can.earlier ≡ Some earlier = sym can.pair.is_earlier ∙ ap (instruction_at (history_of content)) mate_is ∙ pair.is_earlier in cc)

  pub triable : IsMatchedAt content m n earlier later
  triable = record {
    two = subst (λ k. k < n) mate_is can.two;
    pair = pair;
    back = ap (λ k. (content.standing k).mate) (sym mate_is) ∙ can.back;
    earlier_reason = can.earlier_reason;
    earlier_matched = ap (λ k. (content.standing k).state) (sym mate_is) ∙ can.earlier_matched;
    later_reason = can.later_reason;
    later_matched = can.later_matched;
  }

  pub sides_fit : SidesFit content earlier later
  sides_fit = subst (λ i. SidesFit content i later) earlier_is (subst (λ i. SidesFit content can.earlier i) later_is can.fits)

-- a pair that was tried stands somewhere
stands_then : (o : Outcome) → state_then o ≢ NoInstruction
stands_then Settled e = cc
stands_then (Lacks Securities) e = cc
stands_then (Lacks Money) e = cc

tries_sides : (old new : Content) (m n : ℕ) (earlier later : Instructed) (outcome : Outcome) → Fares old earlier later outcome → new ≡ tried_so old earlier later m n outcome → TriesSides old n m earlier later outcome new
tries_sides old new m n earlier later Settled fares is = (fares.0, fares.1, is)
tries_sides old new m n earlier later (Lacks Securities) fares is = (fares, is)
tries_sides old new m n earlier later (Lacks Money) fares is = (fares.0, fares.1, is)

module _ (old mid : Database) (m n : ℕ) (earlier later : Instructed) (outcome : Outcome) (desk : IsDesk old) (can : IsMatchedAt (content_in old) m n earlier later) (moves : MovesBoth old mid earlier later outcome)
    (has : mid.schema ≡ desk_schema) where
  abbrev content : Content
  content = content_in old

  -- the tables once the legs have moved, or have not
  pub moved_desk : Becomes mid (balances_so (content_in old) (positions_then (content_in old) earlier later outcome) (cash_then (content_in old) earlier later outcome))
  moved_desk = balances_alone old mid (positions_then content earlier later outcome) (cash_then content earlier later outcome) desk moves.amounts has
      (sums_stay content desk.registered desk.totals.no_stranger desk.totals.no_stranger_pays desk.named earlier later outcome (desk.registered.instructions m earlier can.pair.is_earlier)
      (desk.registered.instructions n later can.pair.is_later) moves.fares)

  pub tried : (new : Database) → new.schema ≡ desk_schema → StandBoth mid new m n (state_then outcome) → IsDesk new × TriesPair (content_in old) n outcome (content_in new)
  tried new schema stood =
      let known : (k : ℕ) (i : Instructed) → instruction_at (history_of content) k ≡ Some i → instruction_at (history_of (content_in mid)) k ≡ Some i = (λ k i is. ap (λ (c : Content). instruction_at (history_of c) k) moved_desk.content_is ∙ is) in
      let closed = stands_pair mid new m n earlier later moved_desk.desk can.two (known m earlier can.pair.is_earlier) (known n later can.pair.is_later) (state_then outcome) (stands_then outcome) schema stood in
      let becomes : Becomes new (tried_so content earlier later m n outcome) = subst (Becomes new) (ap (λ (c : Content). standing_so c (standing_both c.standing m n (state_then outcome))) moved_desk.content_is) closed in
      (becomes.desk, record { mate = m; earlier = earlier; later = later; pair = can.pair; ends = tries_sides content (content_in new) m n earlier later outcome moves.fares becomes.content_is })
