-- What an account holds next is what is looked up.
use Rattle.std.proofs.Common.{◌≡◌, refl, ap, ◌∙◌, ℕ, List, [], ◌∷◌, unwrap_or, Option, None, Some, arith}
use Rattle.sqlite.specs.Effect.{Database}
use Rattle.sql_rows.specs.Holdings.{IsNextHolding, IsHeldAbove}
use Rattle.desk_register.specs.declared.holding.Holding.{Holding}
use Rattle.desk_register.specs.Looked.{HoldsAbove, IsAboveText, IsHoldingAfter, IsLess}
use Rattle.sql_register.specs.Content.{content_in}
use Rattle.sql_register.specs.Holds.{IsDesk, holding_found}

above_some : (above : Option (List ℕ)) (isin : List ℕ) → (isin ≡ [] → ⊥) → IsAboveText above isin → IsLess (unwrap_or above []) isin
above_some None [] named any = absurd (named refl)
above_some None (x ∷ xs) named any = refl
above_some (Some text) isin named less = less

some_above : (above : Option (List ℕ)) (isin : List ℕ) → IsLess (unwrap_or above []) isin → IsAboveText above isin
some_above None isin less = tt
some_above (Some text) isin less = less

module _ (db : Database) (desk : IsDesk db) (account : List ℕ) (above : Option (List ℕ)) where
  held_from : (isin : List ℕ) → HoldsAbove (content_in db) account above isin → IsHeldAbove db account (unwrap_or above []) isin
  held_from isin holds =
      let named : isin ≡ [] → ⊥ = λ empty. let none : (content_in db).position account isin ≡ 0 = ap ((content_in db).position account) empty ∙ desk.named account in omega (arith, holds.0, none) in
      (holds.0, above_some above isin named holds.1)

  holds_from : (isin : List ℕ) → IsHeldAbove db account (unwrap_or above []) isin → HoldsAbove (content_in db) account above isin
  holds_from isin held = (held.0, some_above above isin held.1)

  pub none_held : IsNextHolding db account above None → IsHoldingAfter (content_in db) account above None
  none_held none = λ isin holds. none isin (held_from isin holds)

  pub next_held : (holding : Holding) → IsNextHolding db account above (Some (holding.isin, holding.quantity)) → IsHoldingAfter (content_in db) account above (Some holding)
  next_held holding first = (holds_from holding.isin first.is_held, first.worth, λ other holds less. first.is_first other (held_from other holds) less)

pub found_holding : (db : Database) → IsDesk db → (account : List ℕ) (above : Option (List ℕ)) (found : Option (List ℕ × ℕ)) → IsNextHolding db account above found → IsHoldingAfter (content_in db) account above (holding_found found)
found_holding db desk account above None none = none_held db desk account above none
found_holding db desk account above (Some found) first = next_held db desk account above (record { isin = found.0; quantity = found.1 }) first
