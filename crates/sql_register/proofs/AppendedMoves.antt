-- Movements and payments: the row, and two amounts.
use Rattle.std.proofs.Common.{◌≡◌, inr, refl, sym, ap, ◌∙◌, ℕ, ◌+◌, ◌-◌, ◌<◌, ◌≤◌, ◌^◌, Bool, true, false, cond, length, Some, unwrap_or, arith, lit<}
use Rattle.std.specs.Prelude.{bytes_eq}
use Rattle.sqlite.specs.Effect.{Database}
use Rattle.sql_rows.specs.Amounts.{AreAmounts}
use Rattle.sql_rows.specs.Changes.{SetsAmount, had}
use Rattle.sql_rows.specs.declared.amounts.key.AmountKey.TheVariants.{Currency, Security as SecurityTotal}
use Rattle.sql_rows.specs.declared.amounts.key.AmountKey.TheVariants as keys
use Rattle.sql_rows.specs.declared.amounts.key.Ledger.TheVariants.{Balance, Cash}
use Rattle.sql_rows.proofs.AmountLemmas.{same_amounts, same_recorded}
use Rattle.desk_codes.specs.Currency.{letters_of}
use Rattle.sql_entries.specs.Entries.{with_entry}
use Rattle.sql_register.specs.Appending.{RowAdded}
use Rattle.sql_entries.proofs.SameLemmas.{same_entries}
use Rattle.desk_register.specs.Changes.{CanAppend, appended, cash_at, moved_to}
use Rattle.desk_rules.specs.declared.history.entry.Entry.TheVariants.{Issue, Redeem, PayIn, PayOut}
use Rattle.desk_rules.specs.declared.history.entry.Movement.{Movement}
use Rattle.desk_rules.specs.declared.history.entry.Payment.{Payment}
use Rattle.desk_rules.specs.declared.limits.TheConstants.{MOST_PAID, MOST_QUANTITY}
use Rattle.desk_rules.specs.declared.answers.reply.Reply.{Reply}
use Rattle.desk_rules.specs.Balances.{quantity_if, same_ccy}
use Rattle.sql_tables.specs.Ends.{SparesOthers}
use Rattle.sql_tables.specs.Schema.{desk_schema}
use Rattle.sql_register.specs.Content.{content_in}
use Rattle.sql_register.specs.Holds.{Becomes, IsDesk, outstanding_in, paid_in_table}
use Rattle.sql_register.proofs.AppendedAmounts.{cash_still, moves_cash, moves_securities, named_isin, no_cash, no_securities, outstanding_before, outstanding_still, paid_before, paid_still, positions_still}
use Rattle.sql_register.proofs.AppendedRow.{OnlyMoves, row_amounts, row_becomes, row_moves}
use Rattle.sql_register.proofs.FrameLemmas.{register_spared, sent_spared, state_spared, version_spared}

nothing_if : (b : Bool) → quantity_if b 0 ≡ 0
nothing_if true = refl
nothing_if false = refl

-- the other tables, after two amounts
module _ (d1 d2 new : Database) (first : SparesOthers 0 6 d1 d2) (second : SparesOthers 0 6 d2 new) where
  entries_still : new.trees 6 ≡ d1.trees 6
  entries_still = register_spared d2 new 0 6 second (inr (omega arith)) ∙ register_spared d1 d2 0 6 first (inr (omega arith))

  moves_still : (old : Database) → OnlyMoves old d1 → OnlyMoves old new
  moves_still old moves = record {
    standings = state_spared d2 new 0 6 second (inr (omega arith)) ∙ state_spared d1 d2 0 6 first (inr (omega arith)) ∙ moves.standings;
    messages = sent_spared d2 new 0 6 second (inr (omega arith)) ∙ sent_spared d1 d2 0 6 first (inr (omega arith)) ∙ moves.messages;
    version = version_spared d2 new 0 6 second (inr (omega arith)) ∙ version_spared d1 d2 0 6 first (inr (omega arith)) ∙ moves.version;
  }

module _ (old d1 : Database) (m : Movement) (reply : Reply) (room : ℕ) (desk : IsDesk old) where
  module _ (can : CanAppend room (Issue m) reply (content_in old)) (added : RowAdded old d1 (content_in old).register (Issue m) reply) where
    pub issue_amounts : AreAmounts d1
    issue_amounts = same_amounts old d1 (row_amounts old d1 (Issue m) reply added) desk.amounts

    held_is : had d1 (keys.Balance m.account m.isin) ≡ (content_in old).position m.account m.isin
    held_is = ap (λ o. unwrap_or o 0) (same_recorded old d1 (row_amounts old d1 (Issue m) reply added) Balance m.account m.isin)

    pub issue_fits : had d1 (keys.Balance m.account m.isin) + m.quantity < 2 ^ 63
    issue_fits = let room = can.balances.0 in omega (arith, held_is)

    module _ (d2 : Database) (a : SetsAmount d1 d2 (keys.Balance m.account m.isin) (had d1 (keys.Balance m.account m.isin) + m.quantity)) where
      total_is : had d2 (SecurityTotal m.isin) ≡ outstanding_in old m.isin
      total_is = outstanding_before old d1 d2 d2 (row_amounts old d1 (Issue m) reply added) m.account m.isin _ 0 a

      pub issue_fits_total : had d2 (SecurityTotal m.isin) + m.quantity < 2 ^ 63
      issue_fits_total =
          let whole = desk.totals.outstanding m.isin in
          let within = can.balances.1 in
          let most : MOST_QUANTITY < 2 ^ 63 = lit< tt in
          omega (arith, total_is)

      pub issue_becomes : (new : Database) → SetsAmount d2 new (SecurityTotal m.isin) (had d2 (SecurityTotal m.isin) + m.quantity) → new.schema ≡ desk_schema → length m.isin ≡ 12 → Becomes new (appended (Issue m) reply (content_in old))
      issue_becomes new b schema len =
          let same = row_amounts old d1 (Issue m) reply added in
          row_becomes old new (Issue m) reply room desk (record { nothing = refl; request = λ h. refl }) can schema
          (same_entries d1 new (with_entry (content_in old).register (Issue m) reply) (entries_still d1 d2 new a.spares b.spares) added.entries) b.kept
          (moves_securities old d1 d2 new same m.account m.isin _ _ a b (Issue m) m.quantity 0 (ap (λ z. moved_to (content_in old).position m.account m.isin (z + m.quantity)) (sym held_is))
          (λ i. refl) (λ i. sym (nothing_if (bytes_eq m.isin i))) (omega (arith, total_is)) (named_isin m.isin len) desk.named)
          (no_cash old new (Issue m) (record { cash = λ c. refl; paid = λ f c. refl }) (cash_still old d1 d2 new same m.account m.isin _ _ a b) (paid_still old d1 d2 new same m.account m.isin _ _ a b))
          (moves_still d1 d2 new a.spares b.spares old (row_moves old d1 (Issue m) reply added)) added.within added.formed added.short

  module _ (can : CanAppend room (Redeem m) reply (content_in old)) (added : RowAdded old d1 (content_in old).register (Redeem m) reply) where
    pub redeem_amounts : AreAmounts d1
    redeem_amounts = same_amounts old d1 (row_amounts old d1 (Redeem m) reply added) desk.amounts

    redeem_held : had d1 (keys.Balance m.account m.isin) ≡ (content_in old).position m.account m.isin
    redeem_held = ap (λ o. unwrap_or o 0) (same_recorded old d1 (row_amounts old d1 (Redeem m) reply added) Balance m.account m.isin)

    pub redeem_enough : m.quantity ≤ had d1 (keys.Balance m.account m.isin)
    redeem_enough = let enough = can.balances.0 in omega (arith, enough, redeem_held)

    module _ (d2 : Database) (a : SetsAmount d1 d2 (keys.Balance m.account m.isin) (had d1 (keys.Balance m.account m.isin) - m.quantity)) where
      redeem_total : had d2 (SecurityTotal m.isin) ≡ outstanding_in old m.isin
      redeem_total = outstanding_before old d1 d2 d2 (row_amounts old d1 (Redeem m) reply added) m.account m.isin _ 0 a

      pub redeem_enough_total : m.quantity ≤ had d2 (SecurityTotal m.isin)
      redeem_enough_total =
          let whole = desk.totals.outstanding m.isin in
          let within = can.balances.1 in
          omega (arith, redeem_total, whole, within)

      pub redeem_becomes : (new : Database) → SetsAmount d2 new (SecurityTotal m.isin) (had d2 (SecurityTotal m.isin) - m.quantity) → m.quantity ≤ had d2 (SecurityTotal m.isin) → new.schema ≡ desk_schema → length m.isin ≡ 12 → Becomes new (appended (Redeem m) reply (content_in old))
      redeem_becomes new b enough schema len =
          let same = row_amounts old d1 (Redeem m) reply added in
          row_becomes old new (Redeem m) reply room desk (record { nothing = refl; request = λ h. refl }) can schema
          (same_entries d1 new (with_entry (content_in old).register (Redeem m) reply) (entries_still d1 d2 new a.spares b.spares) added.entries) b.kept
          (moves_securities old d1 d2 new same m.account m.isin _ _ a b (Redeem m) 0 m.quantity (ap (λ z. moved_to (content_in old).position m.account m.isin (z - m.quantity)) (sym redeem_held))
          (λ i. sym (nothing_if (bytes_eq m.isin i))) (λ i. refl) (omega (arith, redeem_total, enough)) (named_isin m.isin len) desk.named)
          (no_cash old new (Redeem m) (record { cash = λ c. refl; paid = λ f c. refl }) (cash_still old d1 d2 new same m.account m.isin _ _ a b) (paid_still old d1 d2 new same m.account m.isin _ _ a b))
          (moves_still d1 d2 new a.spares b.spares old (row_moves old d1 (Redeem m) reply added)) added.within added.formed added.short

module _ (old d1 : Database) (p : Payment) (reply : Reply) (room : ℕ) (desk : IsDesk old) where
  module _ (can : CanAppend room (PayIn p) reply (content_in old)) (added : RowAdded old d1 (content_in old).register (PayIn p) reply) where
    pub pay_in_amounts : AreAmounts d1
    pay_in_amounts = same_amounts old d1 (row_amounts old d1 (PayIn p) reply added) desk.amounts

    had_is : had d1 (keys.Cash p.bic p.ccy) ≡ (content_in old).cash p.bic p.ccy
    had_is = ap (λ o. unwrap_or o 0) (same_recorded old d1 (row_amounts old d1 (PayIn p) reply added) Cash p.bic (letters_of p.ccy))

    pub pay_in_fits : had d1 (keys.Cash p.bic p.ccy) + p.amount < 2 ^ 63
    pay_in_fits = let room = can.balances.0 in omega (arith, had_is)

    module _ (d2 : Database) (a : SetsAmount d1 d2 (keys.Cash p.bic p.ccy) (had d1 (keys.Cash p.bic p.ccy) + p.amount)) where
      paid_is : had d2 (Currency p.ccy) ≡ unwrap_or (paid_in_table old p.ccy) 0
      paid_is = paid_before old d1 d2 d2 (row_amounts old d1 (PayIn p) reply added) p.bic p.ccy _ 0 a

      pub pay_in_fits_total : had d2 (Currency p.ccy) + p.amount < 2 ^ 63
      pay_in_fits_total =
          let whole = desk.totals.paid_sum p.ccy in
          let within = can.balances.1 in
          let most : MOST_PAID < 2 ^ 63 = lit< tt in
          omega (arith, paid_is)

      pub pay_in_becomes : (new : Database) → SetsAmount d2 new (Currency p.ccy) (had d2 (Currency p.ccy) + p.amount) → new.schema ≡ desk_schema → Becomes new (appended (PayIn p) reply (content_in old))
      pay_in_becomes new b schema =
          let same = row_amounts old d1 (PayIn p) reply added in
          row_becomes old new (PayIn p) reply room desk (record { nothing = refl; request = λ h. refl }) can schema
          (same_entries d1 new (with_entry (content_in old).register (PayIn p) reply) (entries_still d1 d2 new a.spares b.spares) added.entries) b.kept
          (no_securities old new (PayIn p) (record { positions = λ c. refl; issued = λ i. refl; redeemed = λ i. refl }) (positions_still old d1 d2 new same p.bic p.ccy _ _ a b) (outstanding_still old d1 d2 new same p.bic p.ccy _ _ a b) desk.named)
          (moves_cash old d1 d2 new same p.bic p.ccy _ _ a b (PayIn p) (ap (λ z. cash_at (content_in old).cash p.bic p.ccy (z + p.amount)) (sym had_is)) (λ c. ap (λ z. cond (same_ccy p.ccy c) (Some (z + p.amount)) (paid_in_table old c)) (sym paid_is)))
          (moves_still d1 d2 new a.spares b.spares old (row_moves old d1 (PayIn p) reply added)) added.within added.formed added.short

  module _ (can : CanAppend room (PayOut p) reply (content_in old)) (added : RowAdded old d1 (content_in old).register (PayOut p) reply) where
    pub pay_out_amounts : AreAmounts d1
    pay_out_amounts = same_amounts old d1 (row_amounts old d1 (PayOut p) reply added) desk.amounts

    pay_out_had : had d1 (keys.Cash p.bic p.ccy) ≡ (content_in old).cash p.bic p.ccy
    pay_out_had = ap (λ o. unwrap_or o 0) (same_recorded old d1 (row_amounts old d1 (PayOut p) reply added) Cash p.bic (letters_of p.ccy))

    pub pay_out_enough : p.amount ≤ had d1 (keys.Cash p.bic p.ccy)
    pay_out_enough = let enough = can.balances.0 in omega (arith, enough, pay_out_had)

    module _ (d2 : Database) (a : SetsAmount d1 d2 (keys.Cash p.bic p.ccy) (had d1 (keys.Cash p.bic p.ccy) - p.amount)) where
      pay_out_paid : had d2 (Currency p.ccy) ≡ unwrap_or (paid_in_table old p.ccy) 0
      pay_out_paid = paid_before old d1 d2 d2 (row_amounts old d1 (PayOut p) reply added) p.bic p.ccy _ 0 a

      pub pay_out_enough_total : p.amount ≤ had d2 (Currency p.ccy)
      pay_out_enough_total =
          let whole = desk.totals.paid_sum p.ccy in
          let within = can.balances.1 in
          omega (arith, pay_out_paid, whole, within)

      pub pay_out_becomes : (new : Database) → SetsAmount d2 new (Currency p.ccy) (had d2 (Currency p.ccy) - p.amount) → new.schema ≡ desk_schema → Becomes new (appended (PayOut p) reply (content_in old))
      pay_out_becomes new b schema =
          let same = row_amounts old d1 (PayOut p) reply added in
          row_becomes old new (PayOut p) reply room desk (record { nothing = refl; request = λ h. refl }) can schema
          (same_entries d1 new (with_entry (content_in old).register (PayOut p) reply) (entries_still d1 d2 new a.spares b.spares) added.entries) b.kept
          (no_securities old new (PayOut p) (record { positions = λ c. refl; issued = λ i. refl; redeemed = λ i. refl }) (positions_still old d1 d2 new same p.bic p.ccy _ _ a b) (outstanding_still old d1 d2 new same p.bic p.ccy _ _ a b) desk.named)
          (moves_cash old d1 d2 new same p.bic p.ccy _ _ a b (PayOut p) (ap (λ z. cash_at (content_in old).cash p.bic p.ccy (z - p.amount)) (sym pay_out_had)) (λ c. ap (λ z. cond (same_ccy p.ccy c) (Some (z - p.amount)) (paid_in_table old c)) (sym pay_out_paid)))
          (moves_still d1 d2 new a.spares b.spares old (row_moves old d1 (PayOut p) reply added)) added.within added.formed added.short
