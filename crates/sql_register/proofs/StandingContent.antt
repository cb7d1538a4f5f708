-- Where instructions stand changes alone: the other parts of the content stay.
use Rattle.std.proofs.Common.{◌≡◌, ◌≢◌, inl, inr, refl, sym, ap, subst, ◌∙◌, ℕ, ◌==◌, cond, false, map, None, Some, arith, eqb-true}
use Rattle.std.proofs.lemmas.Bool.{cases_Bool}
use Rattle.sqlite.specs.Effect.{Database}
use Rattle.sql_rows.proofs.AmountLemmas.{same_amounts}
use Rattle.desk_register.specs.Changes.{CanCancel, cancelled, standing_at}
use Rattle.desk_rules.specs.Content.{Content, history_of}
use Rattle.desk_rules.specs.declared.history.entry.Instructed.{Instructed}
use Rattle.desk_rules.specs.declared.history.standing.Standing.{Standing}
use Rattle.desk_rules.specs.declared.history.standing.State.TheVariants.{Cancelled, NoInstruction}
use Rattle.desk_rules.specs.History.{instruction_at}
use Rattle.desk_rules.specs.Standing.{no_standing}
use Rattle.sql_entries.proofs.SameLemmas.{same_entries}
use Rattle.sql_rows.proofs.SentTableLemmas.{same_sent}
use Rattle.sql_rows.specs.Standings.{StandingsChanged, standing_in}
use Rattle.sql_tables.specs.Schema.{desk_schema}
use Rattle.sql_register.specs.Content.{content_in}
use Rattle.sql_register.specs.Holds.{Becomes, IsDesk, Keeps}
use Rattle.sql_register.specs.RowsSaid.{kept_in, sent_in}
use Rattle.sql_register.proofs.FrameLemmas.{balance_spared, cash_spared, register_spared, same_version, sent_spared, total_spared, version_spared}
use Rattle.sql_register.proofs.ContentLemmas.{by_parts, same_cash, same_positions, same_sums, same_total_parts, same_totals}

-- the content in which instructions stand so
abbrev pub standing_so : Content → (ℕ → Standing) → Content
standing_so content standing = record content { standing = standing }

pub standings_alone : (old new : Database) (standing : ℕ → Standing) → IsDesk old → StandingsChanged old new standing → new.schema ≡ desk_schema → ((n : ℕ) → instruction_at (history_of (content_in old)) n ≡ None → standing n ≡ no_standing)
    → ((n : ℕ) (i : Instructed) → instruction_at (history_of (content_in old)) n ≡ Some i → (standing n).state ≢ NoInstruction) → Becomes new (standing_so (content_in old) standing)
standings_alone old new standing desk stood schema instructions stands =
    let amounts = same_totals old new (balance_spared old new 8 9 stood.others (inl (omega arith))) (cash_spared old new 8 9 stood.others (inl (omega arith))) (total_spared old new 8 9 stood.others (inl (omega arith))) in
    let register = register_spared old new 8 9 stood.others (inl (omega arith)) in
    let messages = sent_spared old new 8 9 stood.others (inr (omega arith)) in
    let content : content_in new ≡ standing_so (content_in old) standing =
    by_parts _ _ _ _ _ _ _ _ _ _ (ap (map kept_in) register) stood.standings_are (same_positions old new amounts) (same_cash old new amounts) (ap (map sent_in) messages) in
    let keeps : Keeps new (standing_so (content_in old) standing) = record {
      schema = schema;
      version = same_version old new (version_spared old new 8 9 stood.others (inr (omega arith))) desk.version;
      amounts = same_amounts old new amounts desk.amounts;
      entries = same_entries old new (content_in old).register register desk.entries;
      standings = stood.kept;
      instructions = instructions;
      sent = same_sent old new messages (content_in old).sent desk.sent;
      totals = same_sums new (content_in old) (standing_so (content_in old) standing) refl refl refl (same_total_parts old new amounts (content_in old) desk.totals);
      registered = desk.registered;
      stands = stands;
      within = desk.within;
      formed = desk.formed;
      short = desk.short;
      sendable = desk.sendable;
      named = desk.named;
    } in
    record { desk = subst (Keeps new) (sym content) keeps; content_is = content }

-- ---- one entry stands otherwise

pub at_other : (standing : ℕ → Standing) (n : ℕ) (s : Standing) (k : ℕ) → (k == n) ≡ false → standing_at standing n s k ≡ standing k
at_other standing n s k apart = ap (λ b. cond b s (standing k)) apart

-- ---- an unmatched instruction is cancelled

module _ (content : Content) (n : ℕ) (can : CanCancel content n) where
  abbrev gone : Standing
  gone = record (content.standing n) { state = Cancelled }

  abbrev after : ℕ → Standing
  after = standing_at content.standing n gone

  instructions_still : ((k : ℕ) → instruction_at (history_of content) k ≡ None → content.standing k ≡ no_standing) → (k : ℕ) → instruction_at (history_of content) k ≡ None → after k ≡ no_standing
  instructions_still all k none = elim (cases_Bool (k == n)) [
    | inl here ↦ absurd (let e = sym can.is_instruction ∙ ap (instruction_at (history_of content)) (sym (eqb-true k n here)) ∙ none in cc)
    | inr apart ↦ at_other content.standing n gone k apart ∙ all k none
  ]

  stands_still : ((k : ℕ) (i : Instructed) → instruction_at (history_of content) k ≡ Some i → (content.standing k).state ≢ NoInstruction) → (k : ℕ) (i : Instructed) → instruction_at (history_of content) k ≡ Some i → (after k).state ≢ NoInstruction
  stands_still all k i is none = elim (cases_Bool (k == n)) [
    | inl here ↦ (let e = sym (ap (λ b. (cond b gone (content.standing k)).state) here) ∙ none in cc)
    | inr apart ↦ all k i is (sym (ap (λ (s : Standing). s.state) (at_other content.standing n gone k apart)) ∙ none)
  ]

pub cancels : (old new : Database) (n : ℕ) → IsDesk old → CanCancel (content_in old) n → new.schema ≡ desk_schema → StandingsChanged old new (standing_at (standing_in old) n (record (standing_in old n) { state = Cancelled })) → Becomes new (cancelled n (content_in old))
cancels old new n desk can schema stood =
    let content = content_in old in
    standings_alone old new (after content n can) desk stood schema (instructions_still content n can desk.instructions) (stands_still content n can desk.stands)
