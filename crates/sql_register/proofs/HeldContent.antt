-- What all accounts hold of a security, and all participants have of a currency, is what the rows of their tables add up to.
use Rattle.std.proofs.Common.{◌≡◌, refl, ◌<◌, ◌^◌, false, List, ℕ, None, Some, Option, codes, arith}
use Rattle.std.specs.Prelude.{is_some}
use Rattle.sqlite.specs.Effect.{Database}
use Rattle.desk_codes.specs.Currency.{letters_of}
use Rattle.desk_codes.specs.declared.currency.Ccy.{Ccy}
use Rattle.desk_register.specs.Looked.{held_cash_of, held_of}
use Rattle.desk_register.specs.RegisteredOnce.{is_account}
use Rattle.desk_rules.specs.Content.{history_of}
use Rattle.desk_rules.specs.Facts.{accounts_of, is_participant, participants_of}
use Rattle.desk_rules.specs.declared.history.entry.Entry.{Entry}
use Rattle.sql_rows.specs.Held.{total_cash, total_held}
use Rattle.sql_rows.specs.declared.amounts.key.Ledger.TheVariants.{Total}
use Rattle.sql_rows.proofs.HeldLemmas.{cash_listed, held_listed, small_amount}
use Rattle.sql_register.specs.Content.{content_in}
use Rattle.sql_register.specs.Holds.{IsDesk}

none_of : {X : Type 0} (o : Option X) → is_some o ≡ false → o ≡ None
none_of None none = refl
none_of (Some x) none = absurd (cc)

module _ (db : Database) (desk : IsDesk db) where
  abbrev h : List Entry
  h = history_of (content_in db)

  pub held_is : (isin : List ℕ) → held_of (content_in db) isin ≡ total_held db isin
  held_is isin = held_listed db desk.amounts isin (accounts_of h) (is_account h) desk.registered.accounts (λ account none. desk.totals.no_stranger account isin (none_of _ none))

  pub cash_is : (ccy : Ccy) → held_cash_of (content_in db) ccy ≡ total_cash db ccy
  cash_is ccy = cash_listed db desk.amounts ccy (participants_of h) (is_participant h) desk.registered.participants (λ bic none. desk.totals.no_stranger_pays bic ccy none)

  pub held_fits : (isin : List ℕ) → total_held db isin < 2 ^ 64
  held_fits isin =
      let sum = held_is isin in
      let held = desk.totals.held isin in
      let small = small_amount db desk.amounts Total (codes "security") isin in
      omega (arith, sum, held, small)

  pub cash_fits : (ccy : Ccy) → total_cash db ccy < 2 ^ 64
  cash_fits ccy =
      let sum = cash_is ccy in
      let had = desk.totals.held_cash ccy in
      let small = small_amount db desk.amounts Total (codes "currency") (letters_of ccy) in
      omega (arith, sum, had, small)
