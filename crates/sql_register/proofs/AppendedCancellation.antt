-- A cancellation more: its row, and the request at the instruction that it names.
use Rattle.std.proofs.Common.{◌≡◌, ◌≢◌, inl, inr, refl, sym, ap, ◌∙◌, ℕ, ◌<◌, ◌==◌, List, Option, None, Some, true, false, arith}
use Rattle.std.specs.Prelude.{is_none, option_and_then}
use Rattle.sqlite.specs.Effect.{Database}
use Rattle.sql_rows.proofs.AmountLemmas.{SameAmounts, same_amounts}
use Rattle.sql_entries.specs.Entries.{with_entry}
use Rattle.sql_register.specs.Appending.{RowAdded}
use Rattle.sql_entries.proofs.SameLemmas.{same_entries}
use Rattle.desk_msg.specs.declared.instruction.CancelOrder.{CancelOrder}
use Rattle.desk_msg.specs.MessageType.{number_of_type}
use Rattle.desk_register.specs.Changes.{CanAppend, appended, requested_by, standing_at, with_request}
use Rattle.desk_register.proofs.CaseLemmas.{by_bool}
use Rattle.desk_rules.specs.declared.history.entry.Entry.{Entry}
use Rattle.desk_rules.specs.declared.history.entry.Entry.TheVariants.{Cancel}
use Rattle.desk_rules.specs.declared.history.entry.Instructed.{Instructed}
use Rattle.desk_rules.specs.declared.history.entry.Sender.TheVariants.{Participant as FromParticipant}
use Rattle.desk_rules.specs.declared.answers.reply.Reply.{Reply}
use Rattle.desk_rules.specs.declared.history.standing.Standing.{Standing}
use Rattle.desk_rules.specs.declared.history.standing.State.TheVariants.{NoInstruction}
use Rattle.desk_rules.specs.Content.{Content, history_of}
use Rattle.desk_rules.specs.History.{instruction_at, number_of_key}
use Rattle.desk_rules.specs.Verdict.{if_of_type, named_by}
use Rattle.sql_rows.proofs.StandingLemmas.{same_standings, same_standing_in}
use Rattle.sql_rows.specs.Standings.{AreStandings, StandingsChanged, standing_in}
use Rattle.sql_tables.specs.Schema.{desk_schema}
use Rattle.sql_register.specs.Content.{content_in}
use Rattle.sql_register.specs.Holds.{Becomes, IsDesk}
use Rattle.sql_register.proofs.AppendedAmounts.{cash_same, securities_same, totals_of}
use Rattle.sql_register.proofs.AppendedContent.{takes_entry}
use Rattle.sql_register.proofs.AppendedHistory.{requested_known, stands_same}
use Rattle.sql_register.proofs.AppendedRow.{row_moves}
use Rattle.sql_register.proofs.CauseLemmas.{above, below}
use Rattle.sql_register.proofs.ContentLemmas.{same_totals}
use Rattle.sql_register.proofs.FrameLemmas.{balance_spared, cash_spared, register_spared, sent_spared, total_spared, version_spared}
use Rattle.desk_register.proofs.RegisteredLemmas.{names_one}

of_type_some : (mt k : ℕ) (o : Option Instructed) → is_none (if_of_type mt k o) ≡ false → if_of_type mt k o ≡ Some k
of_type_some mt k None some = absurd (cc)
of_type_some mt k (Some i) some = by_bool (number_of_type i.instruction.mt == mt) (λ t. rw t refl) (λ f. absurd (let bad = rw f at some in cc))

-- the instruction that is named has the number of the sender's reference
named_number : (h : List Entry) (sender : List ℕ) (order : CancelOrder) (k : ℕ) → number_of_key h (FromParticipant sender) order.previous ≡ Some k → is_none (named_by h sender order) ≡ false → requested_by h (Cancel sender order) ≡ Some k
named_number h sender order k is some =
    let f : ℕ → Option ℕ = λ x. if_of_type (number_of_type order.mt) x (instruction_at h x) in
    let same : named_by h sender order ≡ f k = ap (λ o. option_and_then f o) is in
    same ∙ of_type_some (number_of_type order.mt) k (instruction_at h k) (ap is_none (sym same) ∙ some)

-- a cancellation that can be added names an instruction, which stands somewhere
module _ (old : Database) (sender : List ℕ) (order : CancelOrder) (reply : Reply) (room : ℕ) (desk : IsDesk old) (can : CanAppend room (Cancel sender order) reply (content_in old)) where
  pub names_known : number_of_key (history_of (content_in old)) (FromParticipant sender) order.previous ≡ None → ⊥
  names_known none =
      let f : ℕ → Option ℕ = λ x. if_of_type (number_of_type order.mt) x (instruction_at (history_of (content_in old)) x) in
      let named : named_by (history_of (content_in old)) sender order ≡ None = ap (λ o. option_and_then f o) none in
      let some = names_one (content_in old) sender order can.not_refused in
      let t : true ≡ false = sym (ap is_none named) ∙ some in
      cc

  module _ (k : ℕ) (is : number_of_key (history_of (content_in old)) (FromParticipant sender) order.previous ≡ Some k) where
    named_one : (i : Instructed) × (instruction_at (history_of (content_in old)) k ≡ Some i)
    named_one = requested_known (history_of (content_in old)) (Cancel sender order) k (named_number (history_of (content_in old)) sender order k is (names_one (content_in old) sender order can.not_refused))

    pub named_above : 0 < k
    named_above = above old desk k named_one.0 named_one.1

    pub named_below : k < 1_000_000_000
    named_below = below old desk k named_one.0 named_one.1

    pub named_stands : (standing_in old k).state ≢ NoInstruction
    named_stands = desk.stands k named_one.0 named_one.1

module _ (old d1 : Database) (sender : List ℕ) (order : CancelOrder) (reply : Reply) (room : ℕ) (desk : IsDesk old) where
  abbrev entry : Entry
  entry = Cancel sender order

  abbrev before : Content
  before = content_in old

  module _ (can : CanAppend room entry reply before) (added : RowAdded old d1 before.register entry reply) where
    pub cancel_standings : AreStandings d1
    cancel_standings = same_standings old d1 (sym (row_moves old d1 entry reply added).standings) desk.standings

    pub asked_stands : (k : ℕ) → number_of_key (history_of before) (FromParticipant sender) order.previous ≡ Some k → (standing_in d1 k).state ≢ NoInstruction
    asked_stands k is none =
        named_stands old sender order reply room desk can k is (sym (ap (λ (f : ℕ → Standing). (f k).state) (same_standing_in d1 old (row_moves old d1 entry reply added).standings)) ∙ none)

    pub cancel_becomes : (new : Database) (k : ℕ) → number_of_key (history_of before) (FromParticipant sender) order.previous ≡ Some k
        → StandingsChanged d1 new (standing_at (standing_in d1) k (record (standing_in d1 k) { cancel_requested = true })) → new.schema ≡ desk_schema → Becomes new (appended entry reply before)
    cancel_becomes new k is stood schema =
        let row = row_moves old d1 entry reply added in
        let asked : requested_by (history_of before) entry ≡ Some k = named_number (history_of before) sender order k is (names_one before sender order can.not_refused) in
        let same : SameAmounts old new = same_totals old new
        (balance_spared d1 new 8 9 stood.others (inl (omega arith)) ∙ balance_spared old d1 6 8 added.spares (inl (omega arith)))
        (cash_spared d1 new 8 9 stood.others (inl (omega arith)) ∙ cash_spared old d1 6 8 added.spares (inl (omega arith)))
        (total_spared d1 new 8 9 stood.others (inl (omega arith)) ∙ total_spared old d1 6 8 added.spares (inl (omega arith))) in
        let securities = securities_same old new entry (record { positions = λ p. refl; issued = λ i. refl; redeemed = λ i. refl }) same desk.named in
        let cash = cash_same old new entry (record { cash = λ c. refl; paid = λ f c. refl }) same in
        takes_entry old new entry reply room desk can (record {
          schema = schema;
          entries = same_entries d1 new (with_entry before.register entry reply) (register_spared d1 new 8 9 stood.others (inl (omega arith))) added.entries;
          amounts = same_amounts old new same desk.amounts;
          positions = securities.positions;
          cash = cash.cash;
          totals = totals_of old new entry securities cash;
          named = securities.named;
          standings = stood.kept;
          standing_is =
              stood.standings_are
              ∙ ap (λ s. with_request (Some k) s) (same_standing_in d1 old row.standings)
              ∙ ap (λ o. with_request o before.standing) (sym asked)
              ∙ (λ j n. stands_same before entry reply desk.instructions refl n j);
          messages = sent_spared d1 new 8 9 stood.others (inr (omega arith)) ∙ row.messages;
          version = version_spared d1 new 8 9 stood.others (inr (omega arith)) ∙ row.version;
          within = added.within;
          formed = added.formed;
          short = added.short;
        })
