-- What participants have in cash, currency by currency.
use Rattle.std.proofs.Common.{◌≡◌, ℕ, ◌<◌, ◌≤◌, Bool, List, [], ◌∷◌, ◌++◌, length, get_or, Option, Some, refl, ap, sym, ◌∙◌, subst}
use Rattle.std.proofs.lemmas.List.Elements.{filter_map-append}
use Rattle.std.proofs.lemmas.Option.{slice_get-get_or}
use Rattle.std.specs.Prelude.{Result, filter_map, flat_map, slice_get}
use Rattle.desk_codes.specs.declared.currency.Ccy.{Ccy}
use Rattle.desk_codes.specs.declared.currency.TheConstants.{CURRENCIES}
use Rattle.desk_rules.specs.declared.history.entry.Entry.{Entry}
use Rattle.desk_rules.specs.declared.history.entry.Entry.TheVariants.{Participant, Account, Security, Issue, Redeem, PayIn, PayOut, Instruct, Cancel, Run}
use Rattle.desk_rules.specs.Content.{Content}
use Rattle.desk_register.specs.declared.fault.WalkFault.{WalkFault}
use Rattle.desk_report.specs.declared.rows.balances.CashRow.{CashRow}
use Rattle.desk_report.specs.RowData.{cash_data}
use Rattle.desk_report.specs.Cash.{balance_row, balance_rows, cash_rows, currencies}
use Rattle.desk_report.specs.RowsWriting.{WritesRows, rows_if}

-- The loops: nothing else has to be known.
abbrev pub NoneGiven : Content → Unit {0} → Type 0
NoneGiven content x = Unit {0}

-- over the entries
abbrev pub rows_by_entry : Content → Unit {0} → Entry → List CashRow
rows_by_entry content x entry = cash_rows content entry

-- over the currencies of a participant
abbrev pub all_currencies : Content → List Ccy
all_currencies content = currencies

abbrev pub rows_by_currency : List ℕ → Content → Unit {0} → Ccy → List CashRow
rows_by_currency bic content x ccy = balance_rows content bic (ccy ∷ [])

pub currency_at : (k : ℕ) (d : Ccy) → k < length CURRENCIES → slice_get currencies k ≡ Some (get_or CURRENCIES k d)
unfolding currencies
currency_at k d lt = slice_get-get_or CURRENCIES k d lt

pub all_told : (k : ℕ) → length CURRENCIES ≤ k → length currencies ≤ k
unfolding currencies
all_told k all = all

-- what is made of each alone is made of all
singles : {X Y : Type 0} (h : X → Option Y) (xs : List X) → flat_map (λ x. filter_map h (x ∷ [])) xs ≡ filter_map h xs
singles h [] = refl
singles {X} {Y} h (x ∷ xs) = ap (λ (l : List Y). filter_map h (x ∷ []) ++ l) (singles h xs) ∙ sym (filter_map-append h (x ∷ []) xs)

pub all_balances : (content : Content) (bic : List ℕ) → flat_map (rows_by_currency bic content tt) currencies ≡ balance_rows content bic currencies
all_balances content bic = singles (λ ccy. balance_row bic ccy (content.cash bic ccy)) currencies

-- a turn of the loop over them
pub balance_turn : (bic : List ℕ) (content : Content) (k : ℕ) (d : Ccy) (is_later : Bool) (result : Result Bool WalkFault) (before now : Option (List ℕ)) → k < length CURRENCIES
    → WritesRows cash_data (balance_rows content bic (get_or CURRENCIES k d ∷ [])) is_later result before now
    → WritesRows cash_data (rows_if (rows_by_currency bic content tt) (slice_get currencies k)) is_later result before now
balance_turn bic content k d is_later result before now lt w =
    let P : Option Ccy → Type 0 = λ z. WritesRows cash_data (rows_if (rows_by_currency bic content tt) z) is_later result before now in
    subst P (sym (currency_at k d lt)) w

-- what is no participant has no rows
pub no_participant : (content : Content) (entry : Entry) → ((reference bic : List ℕ) → entry ≡ Participant reference bic → ⊥) → cash_rows content entry ≡ []
no_participant content (Participant reference bic) other = absurd (other reference bic refl)
no_participant content (Account reference bic account) other = refl
no_participant content (Security reference isin kind) other = refl
no_participant content (Issue movement) other = refl
no_participant content (Redeem movement) other = refl
no_participant content (PayIn payment) other = refl
no_participant content (PayOut payment) other = refl
no_participant content (Instruct sender instruction) other = refl
no_participant content (Cancel sender order) other = refl
no_participant content (Run reference day rule) other = refl
