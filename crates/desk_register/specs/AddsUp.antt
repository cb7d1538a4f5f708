-- What is held adds up to what was issued and paid in.
use Rattle.std.specs.Prelude.{◌≡◌, ℕ, ◌+◌, false, List}
use Rattle.desk_codes.specs.declared.currency.Ccy.{Ccy}
use Rattle.desk_rules.specs.Balances.{issued, paid_in, paid_out, redeemed}
use Rattle.desk_rules.specs.Content.{Content, history_of}
use Rattle.desk_rules.specs.Facts.{is_participant}
use Rattle.desk_register.specs.Looked.{held_cash_of, held_of}
use Rattle.desk_register.specs.RegisteredOnce.{AreRegisteredOnce, is_account}

-- The registered accounts hold what is outstanding of each security, and the participants have what is paid in less what is
-- paid out of each currency; nobody else has anything.
pub record AddsUp (content : Content) : Type 0 where
  pub registered : AreRegisteredOnce (history_of content)
  pub securities : (isin : List ℕ) → redeemed (history_of content) isin + held_of content isin ≡ issued (history_of content) isin
  pub currencies : (ccy : Ccy) → paid_out (history_of content) ccy + held_cash_of content ccy ≡ paid_in (history_of content) ccy
  pub no_other_account : (account isin : List ℕ) → is_account (history_of content) account ≡ false → content.position account isin ≡ 0
  pub no_other_participant : (bic : List ℕ) (ccy : Ccy) → is_participant (history_of content) bic ≡ false → content.cash bic ccy ≡ 0
