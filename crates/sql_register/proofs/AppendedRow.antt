-- An entry that stands nowhere and requests nothing: its row, and what it moves.
use Rattle.std.proofs.Common.{◌≡◌, inl, inr, refl, sym, ap, ◌∙◌, ℕ, ◌+◌, ◌<◌, List, length, None, arith}
use Rattle.sqlite.specs.Effect.{Database}
use Rattle.sql_rows.specs.Amounts.{AreAmounts}
use Rattle.sql_rows.proofs.AmountLemmas.{SameAmounts, same_amounts}
use Rattle.sql_entries.specs.Entries.{AreEntries, EntryAdded, with_entry}
use Rattle.sql_entries.specs.Shown.{HasShortNumbers}
use Rattle.desk_rules.specs.WellFormed.{IsWellFormed}
use Rattle.desk_register.specs.Changes.{CanAppend, appended, requested_by, with_request}
use Rattle.desk_rules.specs.declared.history.entry.Entry.{Entry}
use Rattle.desk_rules.specs.declared.history.entry.Entry.TheVariants.{Participant, Account, Security, Issue, Redeem, PayIn, PayOut, Instruct, Cancel, Run}
use Rattle.desk_rules.specs.declared.answers.reply.Kept.{Kept}
use Rattle.desk_rules.specs.declared.answers.reply.Reply.{Reply}
use Rattle.desk_rules.specs.Content.{history_of}
use Rattle.desk_rules.specs.History.{instructed}
use Rattle.sql_rows.proofs.StandingLemmas.{same_standings, same_standing_in}
use Rattle.sql_tables.specs.Schema.{desk_schema}
use Rattle.sql_register.specs.Appending.{RowAdded}
use Rattle.sql_register.specs.Content.{content_in}
use Rattle.sql_register.specs.Holds.{Becomes, IsDesk}
use Rattle.sql_register.proofs.AppendedAmounts.{CashMoves, IsAlone, SecuritiesMove, alone_no_cash, alone_no_securities, cash_same, securities_same, totals_of}
use Rattle.sql_register.proofs.AppendedContent.{takes_entry}
use Rattle.sql_register.proofs.AppendedHistory.{stands_same}
use Rattle.sql_register.proofs.ContentLemmas.{same_totals}
use Rattle.sql_register.proofs.FrameLemmas.{balance_spared, cash_spared, total_spared, state_spared, sent_spared, version_spared}

-- it instructs nothing, and asks to cancel nothing
pub record StandsNowhere (e : Entry) : Type 0 where
  pub nothing : instructed e ≡ None
  pub request : (h : List Entry) → requested_by h e ≡ None

pub alone_nowhere : (e : Entry) → IsAlone e → StandsNowhere e
alone_nowhere (Participant reference bic) is = record { nothing = refl; request = λ h. refl }
alone_nowhere (Account reference bic account) is = record { nothing = refl; request = λ h. refl }
alone_nowhere (Security reference isin kind) is = record { nothing = refl; request = λ h. refl }
alone_nowhere (Issue movement) is = absurd is
alone_nowhere (Redeem movement) is = absurd is
alone_nowhere (PayIn payment) is = absurd is
alone_nowhere (PayOut payment) is = absurd is
alone_nowhere (Instruct sender instruction) is = absurd is
alone_nowhere (Cancel sender order) is = absurd is
alone_nowhere (Run reference day rule) is = record { nothing = refl; request = λ h. refl }

-- What is the same in tables that took such an entry.
pub record OnlyMoves (old new : Database) : Type 0 where
  pub standings : new.trees 8 ≡ old.trees 8
  pub messages : new.trees 9 ≡ old.trees 9
  pub version : new.trees 10 ≡ old.trees 10

pub row_becomes : (old new : Database) (e : Entry) (reply : Reply) (room : ℕ) → IsDesk old → StandsNowhere e → CanAppend room e reply (content_in old) → new.schema ≡ desk_schema
    → AreEntries new (with_entry (content_in old).register e reply) → AreAmounts new → SecuritiesMove old new e → CashMoves old new e → OnlyMoves old new → length (content_in old).register + 1 < 1_000_000_000 → IsWellFormed e → HasShortNumbers reply → Becomes new (appended e reply (content_in old))
row_becomes old new e reply room desk nowhere can schema entries amounts securities cash same within formed short =
    let before = content_in old in
    let noted : (n : ℕ) → before.standing n ≡ with_request (requested_by (history_of before) e) before.standing n = (λ n. ap (λ o. with_request o before.standing n) (sym (nowhere.request (history_of before)))) in
    takes_entry old new e reply room desk can (record {
      schema = schema;
      entries = entries;
      amounts = amounts;
      positions = securities.positions;
      cash = cash.cash;
      totals = totals_of old new e securities cash;
      named = securities.named;
      standings = same_standings old new (sym same.standings) desk.standings;
      standing_is = same_standing_in new old same.standings ∙ (λ k n. (noted n ∙ stands_same before e reply desk.instructions nowhere.nothing n) k);
      messages = same.messages;
      version = same.version;
      within = within;
      formed = formed;
      short = short;
    })

-- a row that was put in where there was room
pub row_added : (old new : Database) (register : List Kept) (e : Entry) (reply : Reply) (n : ℕ) → (n ≡ length register + 1) × EntryAdded old new register e reply → n < 1_000_000_000 → IsWellFormed e → HasShortNumbers reply → RowAdded old new register e reply
row_added old new register e reply n both small formed short = (let is = both.0 in record { entries = both.1.entries; spares = both.1.spares; within = omega (arith, is, small); formed = formed; short = short })

-- the row alone
module _ (old new : Database) (e : Entry) (reply : Reply) (added : RowAdded old new (content_in old).register e reply) where
  pub row_amounts : SameAmounts old new
  row_amounts = same_totals old new (balance_spared old new 6 8 added.spares (inl (omega arith))) (cash_spared old new 6 8 added.spares (inl (omega arith))) (total_spared old new 6 8 added.spares (inl (omega arith)))

  pub row_moves : OnlyMoves old new
  row_moves = record {
    standings = state_spared old new 6 8 added.spares (inr (omega arith));
    messages = sent_spared old new 6 8 added.spares (inr (omega arith));
    version = version_spared old new 6 8 added.spares (inr (omega arith));
  }

  pub alone_becomes : (room : ℕ) → IsDesk old → IsAlone e → CanAppend room e reply (content_in old) → new.schema ≡ desk_schema → Becomes new (appended e reply (content_in old))
  alone_becomes room desk is can schema =
      row_becomes old new e reply room desk (alone_nowhere e is) can schema added.entries (same_amounts old new row_amounts desk.amounts)
      (securities_same old new e (alone_no_securities e is) row_amounts desk.named) (cash_same old new e (alone_no_cash e is) row_amounts) row_moves added.within added.formed added.short
