-- An instruction more: its row, and that it stands unmatched.
use Rattle.std.proofs.Common.{◌≡◌, inl, inr, refl, sym, ap, subst, ◌∙◌, ℕ, ◌+◌, length, arith}
use Rattle.sqlite.specs.Effect.{Database}
use Rattle.sql_rows.proofs.AmountLemmas.{SameAmounts, same_amounts}
use Rattle.sql_entries.specs.Entries.{with_entry}
use Rattle.sql_register.specs.Appending.{RowAdded}
use Rattle.sql_entries.proofs.SameLemmas.{same_entries}
use Rattle.desk_register.specs.Changes.{CanAppend, appended, standing_at}
use Rattle.desk_rules.specs.declared.history.entry.Entry.{Entry}
use Rattle.desk_rules.specs.declared.history.entry.Entry.TheVariants.{Instruct}
use Rattle.desk_rules.specs.declared.history.entry.Instructed.{Instructed}
use Rattle.desk_rules.specs.declared.answers.reply.Reply.{Reply}
use Rattle.desk_rules.specs.Content.{Content}
use Rattle.desk_rules.specs.declared.history.standing.Standing.{Standing}
use Rattle.desk_rules.specs.declared.history.standing.State.TheVariants.{NoInstruction}
use Rattle.sql_rows.proofs.StandingLemmas.{same_standings, same_standing_in}
use Rattle.sql_rows.specs.Standings.{AreStandings, StandingsChanged, fresh_standing, standing_in}
use Rattle.sql_tables.specs.Schema.{desk_schema}
use Rattle.sql_register.specs.Content.{content_in}
use Rattle.sql_register.specs.Holds.{Becomes, IsDesk}
use Rattle.sql_register.proofs.AppendedAmounts.{cash_same, securities_same, totals_of}
use Rattle.sql_register.proofs.AppendedContent.{takes_entry}
use Rattle.sql_register.proofs.AppendedHistory.{none_last}
use Rattle.sql_register.proofs.AppendedRow.{row_moves}
use Rattle.sql_register.proofs.ContentLemmas.{same_totals}
use Rattle.sql_register.proofs.FrameLemmas.{balance_spared, cash_spared, register_spared, sent_spared, total_spared, version_spared}

module _ (old d1 : Database) (i : Instructed) (reply : Reply) (room : ℕ) (desk : IsDesk old) where
  abbrev entry : Entry
  entry = Instruct i.sender i.instruction

  abbrev before : Content
  before = content_in old

  abbrev last : ℕ
  last = length before.register + 1

  module _ (can : CanAppend room entry reply before) (added : RowAdded old d1 before.register entry reply) where
    pub row_standings : AreStandings d1
    row_standings = same_standings old d1 (sym (row_moves old d1 entry reply added).standings) desk.standings

    -- its number stands nowhere yet
    pub none_yet : (standing_in d1 last).state ≡ NoInstruction
    none_yet =
        ap (λ (f : ℕ → Standing). (f last).state) (same_standing_in d1 old (row_moves old d1 entry reply added).standings) ∙ ap (λ (s : Standing). s.state) (desk.instructions last (none_last before entry reply))

    pub instruct_becomes : (new : Database) → StandingsChanged d1 new (standing_at (standing_in d1) last fresh_standing) → new.schema ≡ desk_schema → Becomes new (appended entry reply before)
    instruct_becomes new stood schema =
        let row = row_moves old d1 entry reply added in
        let same : SameAmounts old new = same_totals old new
        (balance_spared d1 new 8 9 stood.others (inl (omega arith)) ∙ balance_spared old d1 6 8 added.spares (inl (omega arith)))
        (cash_spared d1 new 8 9 stood.others (inl (omega arith)) ∙ cash_spared old d1 6 8 added.spares (inl (omega arith)))
        (total_spared d1 new 8 9 stood.others (inl (omega arith)) ∙ total_spared old d1 6 8 added.spares (inl (omega arith))) in
        let securities = securities_same old new entry (record { positions = λ p. refl; issued = λ i. refl; redeemed = λ i. refl }) same desk.named in
        let cash = cash_same old new entry (record { cash = λ c. refl; paid = λ f c. refl }) same in
        takes_entry old new entry reply room desk can (record {
          schema = schema;
          entries = same_entries d1 new (with_entry before.register entry reply) (register_spared d1 new 8 9 stood.others (inl (omega arith))) added.entries;
          amounts = same_amounts old new same desk.amounts;
          positions = securities.positions;
          cash = cash.cash;
          totals = totals_of old new entry securities cash;
          named = securities.named;
          standings = stood.kept;
          standing_is = stood.standings_are ∙ ap (λ s. standing_at s last fresh_standing) (same_standing_in d1 old row.standings);
          messages = sent_spared d1 new 8 9 stood.others (inr (omega arith)) ∙ row.messages;
          version = version_spared d1 new 8 9 stood.others (inr (omega arith)) ∙ row.version;
          within = added.within;
          formed = added.formed;
          short = added.short;
        })

-- the same of an entry that is such an instruction
module _ (old d1 : Database) (e : Entry) (i : Instructed) (reply : Reply) (room : ℕ) (desk : IsDesk old) (is : e ≡ Instruct i.sender i.instruction) (can : CanAppend room e reply (content_in old)) (added : RowAdded old d1 (content_in old).register e reply) where
  able : CanAppend room (Instruct i.sender i.instruction) reply (content_in old)
  able = subst (λ x. CanAppend room x reply (content_in old)) is can

  row : RowAdded old d1 (content_in old).register (Instruct i.sender i.instruction) reply
  row = subst (λ x. RowAdded old d1 (content_in old).register x reply) is added

  pub instructed_standings : AreStandings d1
  instructed_standings = row_standings old d1 i reply room desk able row

  module _ (n : ℕ) (at : n ≡ length (content_in old).register + 1) where
    pub instructed_none : (standing_in d1 n).state ≡ NoInstruction
    instructed_none = subst (λ k. (standing_in d1 k).state ≡ NoInstruction) (sym at) (none_yet old d1 i reply room desk able row)

    pub instructed_becomes : (new : Database) → StandingsChanged d1 new (standing_at (standing_in d1) n fresh_standing) → new.schema ≡ desk_schema → Becomes new (appended e reply (content_in old))
    instructed_becomes new stood schema = subst (λ x. Becomes new (appended x reply (content_in old))) (sym is)
        (instruct_becomes old d1 i reply room desk able row new (subst (λ k. StandingsChanged d1 new (standing_at (standing_in d1) k fresh_standing)) at stood) schema)
