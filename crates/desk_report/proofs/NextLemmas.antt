-- The row of an account's next holding, as it was read: the holding, and how its security is counted.
use Rattle.std.proofs.Common.{◌≡◌, ◌≢◌, ℕ, Bool, true, false, List, Option, Some, None, is_some, sym, ◌∙◌, subst}
use Rattle.std.specs.Prelude.{Ok, IsTrue, ◌↔◌}
use Rattle.desk_msg.specs.declared.instruction.Kind.{Kind}
use Rattle.desk_rules.specs.Content.{Content, history_of}
use Rattle.desk_rules.specs.Facts.{kind_of}
use Rattle.desk_register.specs.declared.holding.Holding.{Holding}
use Rattle.desk_register.specs.declared.register.Stage.TheVariants.{Failed}
use Rattle.desk_register.specs.Looked.{IsAboveText, IsHoldingAfter}
use Rattle.desk_register.specs.View.{IsRead, View}
use Rattle.desk_register.proofs.ReadLemmas.{held_so, read_one}
use Rattle.desk_holdings.specs.Holdings.{HoldsRegistered}
use Rattle.desk_holdings.specs.Walking.{IsNextRow}

module _ (v0 v1 : View) (account : List ℕ) (last : Option (List ℕ)) (found : Option Holding) (first : IsRead {X = Option Holding} (Ok found) v0 v1) (idle : v0.stage ≢ Failed)
    (after : v1.is_honest → v0.is_sure → v0.stage ≢ Failed → IsHoldingAfter v0.content account last found) where
  -- there is none
  pub no_row : found ≡ None → v1.is_honest → v0.is_sure → IsNextRow v0.content account last None
  no_row none honest sure = subst (IsHoldingAfter v0.content account last) none (after honest sure idle)

  module _ (holding : Holding) (is : found ≡ Some holding) where
    is_after : v1.is_honest → v0.is_sure → IsHoldingAfter v0.content account last (Some holding)
    is_after honest sure = subst (IsHoldingAfter v0.content account last) is (after honest sure idle)

    -- a holding is above the last one
    pub never_below : (above : Bool) → IsTrue above ↔ IsAboveText last holding.isin → above ≡ false → v1.is_honest → v0.is_sure → ⊥
    never_below above tells not honest sure = no_both above (tells.1 (is_after honest sure).0.1) not
      where
        no_both : (b : Bool) → b ≡ true → b ≡ false → ⊥
        no_both b is other = absurd (cc)

    module _ (v2 : View) (kind : Option Kind) (second : IsRead {X = Option Kind} (Ok kind) v1 v2) (counted : v2.is_honest → v1.is_sure → v1.stage ≢ Failed → kind ≡ kind_of (history_of v1.content) holding.isin) (still : v1.stage ≢ Failed) where
      kind_is : v2.is_honest → v0.is_sure → kind ≡ kind_of (history_of v0.content) holding.isin
      kind_is honest sure =
          let honest1 = second.later.honest honest in
          let read = read_one found v0 v1 first in
          held_so v0 v1 read (λ (c : Content). kind ≡ kind_of (history_of c) holding.isin) honest1 sure (counted honest (read.ok.sure honest1 sure) still)

      -- its security is registered
      pub never_unknown : (v0.is_honest → v0.is_sure → HoldsRegistered v0.content account) → kind ≡ None → v2.is_honest → v0.is_sure → ⊥
      never_unknown registered none honest sure =
          let honest1 = second.later.honest honest in
          let there = (registered (first.later.honest honest1) sure).each holding.isin (is_after honest1 sure).0.0 in
          not_there (kind_of (history_of v0.content) holding.isin) there (sym (kind_is honest sure) ∙ none)
        where
          not_there : (o : Option Kind) → is_some o ≡ true → o ≡ None → ⊥
          not_there None there none = absurd (cc)
          not_there (Some k) there none = absurd (cc)

      pub row_is : (how : Kind) → kind ≡ Some how → v2.is_honest → v0.is_sure → IsNextRow v0.content account last (Some (record { isin = holding.isin; kind = how; quantity = holding.quantity }))
      row_is how some honest sure = (is_after (second.later.honest honest) sure, sym (kind_is honest sure) ∙ some)
