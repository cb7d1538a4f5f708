-- What the tables have become says the content with one entry more.
use Rattle.std.proofs.Common.{◌≡◌, sym, ap, subst, ◌∙◌, ℕ, ◌+◌, ◌<◌, List, [], ◌∷◌, length, length-append, map, arith}
use Rattle.sqlite.specs.Effect.{Database}
use Rattle.sql_rows.specs.Amounts.{AreAmounts}
use Rattle.desk_codes.specs.declared.currency.Ccy.{Ccy}
use Rattle.sql_entries.specs.Entries.{AreEntries, with_entry}
use Rattle.sql_entries.specs.Shown.{HasShortNumbers}
use Rattle.desk_register.specs.Changes.{CanAppend, appended, cash_after, positions_after}
use Rattle.desk_rules.specs.declared.history.entry.Entry.{Entry}
use Rattle.desk_rules.specs.declared.answers.reply.Reply.{Reply}
use Rattle.desk_rules.specs.Content.{history_of}
use Rattle.desk_rules.specs.WellFormed.{AreWellFormed, IsWellFormed}
use Rattle.desk_rules.proofs.WellFormedLemmas.{formed_push}
use Rattle.sql_rows.proofs.SentRowLemmas.{all_more}
use Rattle.sql_rows.proofs.SentTableLemmas.{same_sent}
use Rattle.sql_rows.specs.Standings.{AreStandings, standing_in}
use Rattle.sql_tables.specs.Schema.{desk_schema}
use Rattle.sql_register.specs.Content.{content_in}
use Rattle.sql_register.specs.Holds.{Becomes, IsDesk, Keeps}
use Rattle.sql_register.specs.RowsSaid.{kept_in, sent_in}
use Rattle.sql_register.proofs.AppendedHistory.{instructions_more, stands_more}
use Rattle.sql_register.proofs.AppendedTotals.{TotalsMore, registered_more, totals_more}
use Rattle.sql_register.proofs.ContentLemmas.{by_parts}
use Rattle.sql_register.proofs.FrameLemmas.{same_version}
use Rattle.desk_register.proofs.AddsUpLemmas.{longer}
use Rattle.desk_register.proofs.RegisteredLemmas.{IsFounded, founded}
use Rattle.sql_register.proofs.SaidLemmas.{register_again}

-- What the tables have become that took an entry: its row, what it moves, where it stands.
pub record TakesEntry (old new : Database) (entry : Entry) (reply : Reply) : Type 0 where
  pub schema : new.schema ≡ desk_schema
  pub entries : AreEntries new (with_entry (content_in old).register entry reply)
  pub amounts : AreAmounts new
  pub positions : (account isin : List ℕ) → (content_in new).position account isin ≡ positions_after entry (content_in old).position account isin
  pub cash : (bic : List ℕ) (ccy : Ccy) → (content_in new).cash bic ccy ≡ cash_after entry (content_in old).cash bic ccy
  pub totals : TotalsMore old new entry
  pub named : (account : List ℕ) → positions_after entry (content_in old).position account [] ≡ 0
  pub standings : AreStandings new
  pub standing_is : standing_in new ≡ (appended entry reply (content_in old)).standing
  pub messages : new.trees 9 ≡ old.trees 9
  pub version : new.trees 10 ≡ old.trees 10
  pub within : length (content_in old).register + 1 < 1_000_000_000
  pub formed : IsWellFormed entry
  pub short : HasShortNumbers reply

pub takes_entry : (old new : Database) (entry : Entry) (reply : Reply) (room : ℕ) → IsDesk old → CanAppend room entry reply (content_in old) → TakesEntry old new entry reply → Becomes new (appended entry reply (content_in old))
takes_entry old new entry reply room desk can takes =
    let before = content_in old in
    let more = appended entry reply before in
    let well : IsFounded (history_of before) entry = founded before entry can.known_sender can.not_refused in
    let content : content_in new ≡ more =
    by_parts _ _ _ _ _ _ _ _ _ _ (ap (map kept_in) takes.entries.rows ∙ register_again 0 (with_entry before.register entry reply)) takes.standing_is takes.positions takes.cash (ap (map sent_in) takes.messages) in
    let keeps : Keeps new more = record {
      schema = takes.schema;
      version = same_version old new takes.version desk.version;
      amounts = takes.amounts;
      entries = takes.entries;
      standings = takes.standings;
      instructions = instructions_more before entry reply desk.instructions;
      sent = same_sent old new takes.messages before.sent desk.sent;
      totals = totals_more old new before desk.totals desk.registered entry reply well can.balances takes.totals;
      registered = registered_more old new before desk.totals desk.registered entry reply well can.balances takes.totals;
      stands = stands_more before entry reply desk.stands;
      within = (let grows = length-append before.register (record { entry = entry; reply = reply } ∷ []) in omega (arith, grows, takes.within));
      formed = subst AreWellFormed (sym (longer before entry reply)) (formed_push (history_of before) entry desk.formed takes.formed);
      short = all_more (λ kept. HasShortNumbers kept.reply) before.register (record { entry = entry; reply = reply }) desk.short takes.short;
      sendable = desk.sendable;
      named = takes.named;
    } in
    record { desk = subst (Keeps new) (sym content) keeps; content_is = content }
