-- Rows that come of walks over the balances.
use Rattle.std.proofs.Common.{◌≡◌, ◌≢◌, ℕ, ◌+◌, ◌<◌, true, List, Option, Some, None, refl, ap, sym, ◌∙◌, subst, arith, length, get_or, below_more}
use Rattle.std.specs.Prelude.{IfSome, is_some, option_map, unwrap_or}
use Rattle.std.proofs.Math.ListN.{set}
use Rattle.std.proofs.lemmas.List.{get_or-set_other}
use Rattle.std.proofs.lemmas.Grind.{get_or-set_at}
use Rattle.desk_rules.specs.Balances.{issued, redeemed}
use Rattle.desk_rules.specs.Content.{history_of}
use Rattle.desk_register.specs.declared.holding.Holding.{Holding}
use Rattle.memory_rows.specs.Balanced.{IsSound}
use Rattle.memory_rows.specs.declared.balance_key.BalanceKey.{BalanceKey}
use Rattle.memory_rows.specs.declared.balance_key.BalanceKey.TheVariants.{Outstanding}
use Rattle.memory_rows.specs.Lists.{Listed, balance_in, content_in}
use Rattle.memory_rows.specs.Walk.{AreOutstanding, AreTotals, IsTotal, Walks}
use Rattle.memory_rows.proofs.SoundLemmas.{total_held}

-- a walk that goes on behind what was found
pub walks_from : (l : Listed) (account : List ℕ) (found : Option Holding) (last : Option (List ℕ)) (es : List (BalanceKey × ℕ)) → last ≡ option_map (λ holding. holding.isin) found → is_some last ≡ true
    → IfSome found (λ holding. Walks l account (Some holding.isin) es) → Walks l account last es
walks_from l account None last es is some walks = let bad = ap is_some (sym is) ∙ some in absurd (cc)
walks_from l account (Some holding) last es is some walks = subst (λ o. Walks l account o es) (sym is) walks

-- Rows of what is outstanding.

-- what is recorded is outstanding
pub recorded_outstanding : (l : Listed) (key : BalanceKey) (amount : ℕ) (isin : List ℕ) → key ≡ Outstanding isin → l.balances key ≡ Some amount → amount ≡ balance_in l (Outstanding isin)
recorded_outstanding l key amount isin at recorded = ap (λ o. unwrap_or o 0) (sym recorded ∙ ap l.balances at)

-- with one more
pub one_more_outstanding : (l : Listed) (rows : List (Option Holding)) (count : ℕ) (total : Holding) → count < length rows → total.quantity ≡ balance_in l (Outstanding total.isin)
    → AreOutstanding l rows count → AreOutstanding l (set rows count (Some total)) (count + 1)
one_more_outstanding l rows count total within is are =
    let says : Option Holding → Type 0 = λ o. IfSome o (λ t. t.quantity ≡ balance_in l (Outstanding t.isin)) in
    record {
      each = below_more (λ k. says (get_or (set rows count (Some total)) k None)) count
          (λ k below. let differs : k ≢ count = omega arith in subst says (sym (get_or-set_other rows count k (Some total) None differs)) (are.each k below))
          (subst says (sym (get_or-set_at rows count count (Some total) None refl within)) is);
    }

module _ (l : Listed) (sound : IsSound l) where
  total_or_none : (o : Option Holding) → IfSome o (λ t. t.quantity ≡ balance_in l (Outstanding t.isin)) → IfSome o (IsTotal (content_in l))
  total_or_none None is = tt
  total_or_none (Some total) is = record {
    held = is ∙ total_held l sound total.isin;
    outstanding = subst (λ n. redeemed (history_of (content_in l)) total.isin + n ≡ issued (history_of (content_in l)) total.isin) (sym is) (sound.totals.securities total.isin);
  }

  pub are_totals : (rows : List (Option Holding)) (count : ℕ) → AreOutstanding l rows count → AreTotals (content_in l) rows count
  are_totals rows count are = record { each = λ k below. total_or_none (get_or rows k None) (are.each k below) }
