-- One message more: the other tables say what they said.
use Rattle.std.proofs.Common.{◌≡◌, inl, inr, refl, sym, ap, subst, ◌∙◌, ℕ, ◌+◌, ◌<◌, ◌^◌, List, [], ◌∷◌, length, map, Ok, Err, Result, OnOk, arith, lit<}
use Rattle.std.specs.Int.{w64, cast_signed, cast_unsigned}
use Rattle.std.specs.List.{AllByRecursion}
use Rattle.std.proofs.lemmas.Int.{of_z-to_z}
use Rattle.sqlite.specs.declared.error.Error.{Error}
use Rattle.sqlite.specs.Effect.{Database}
use Rattle.sqlite.specs.State.{State}
use Rattle.sql_rows.proofs.AmountLemmas.{SameAmounts, same_amounts}
use Rattle.desk_register.specs.Changes.{with_sent}
use Rattle.sql_tables.specs.Ends.{Stays}
use Rattle.sql_tables.specs.Schema.{desk_schema}
use Rattle.desk_rules.specs.declared.answers.reply.Sent.{Sent}
use Rattle.desk_rules.specs.declared.limits.TheConstants.{MOST_SENT}
use Rattle.sql_entries.proofs.SameLemmas.{same_entries}
use Rattle.sql_rows.specs.Messages.{AreSent, Adds, IsSendable, rows_from, stored}
use Rattle.sql_rows.proofs.SentRowLemmas.{all_more}
use Rattle.sql_rows.proofs.StandingLemmas.{same_standings, same_standing_in}
use Rattle.sql_register.specs.Content.{content_in}
use Rattle.sql_register.specs.Holds.{Becomes, IsDesk, Keeps}
use Rattle.sql_register.specs.RowsSaid.{kept_in, sent_in}
use Rattle.sql_register.proofs.FrameLemmas.{balance_spared, cash_spared, register_spared, same_version, state_spared, total_spared, version_spared}
use Rattle.sql_register.proofs.ContentLemmas.{by_parts, same_cash, same_positions, same_sums, same_total_parts, same_totals}

about_again : (about : ℕ) → about < 2 ^ 64 → cast_unsigned w64 (cast_signed w64 about) ≡ about
about_again about small = of_z-to_z w64 about small

message_again : (n : ℕ) (message : Sent) → message.about < 2 ^ 64 → sent_in (stored n message) ≡ message
message_again n message small = ap (λ about. record { bic = message.bic; mt = message.mt; about = about; text = message.text }) (about_again message.about small)

-- the rows of messages say them
messages_again : (n : ℕ) (messages : List Sent) → AllByRecursion (λ message. message.about < 2 ^ 64) messages → map sent_in (rows_from n messages) ≡ messages
messages_again n [] all = refl
messages_again n (message ∷ more) all = ap (λ m. m ∷ map sent_in (rows_from (n + 1) more)) (message_again n message all.0) ∙ ap (λ ms. message ∷ ms) (messages_again (n + 1) more all.1)

pub sent_is : (db : Database) (messages : List Sent) → AreSent db messages → (content_in db).sent ≡ messages
sent_is db messages are = ap (map sent_in) are.rows ∙ messages_again 1 messages are.fit

module _ (old new : Database) (message : Sent) (desk : IsDesk old) (adds : Adds old new (content_in old).sent message) (sendable : IsSendable message) where
  amounts : SameAmounts old new
  amounts = same_totals old new (balance_spared old new 9 10 adds.others (inl (omega arith))) (cash_spared old new 9 10 adds.others (inl (omega arith))) (total_spared old new 9 10 adds.others (inl (omega arith)))

  register_kept : new.trees 6 ≡ old.trees 6
  register_kept = register_spared old new 9 10 adds.others (inl (omega arith))

  state_kept : new.trees 8 ≡ old.trees 8
  state_kept = state_spared old new 9 10 adds.others (inl (omega arith))

  content : content_in new ≡ with_sent message (content_in old)
  content = by_parts _ _ _ _ _ _ _ _ _ _ (ap (map kept_in) register_kept) (same_standing_in new old state_kept) (same_positions old new amounts) (same_cash old new amounts) (sent_is new _ adds.sent)

  keeps : (schema : new.schema ≡ desk_schema) → Keeps new (with_sent message (content_in old))
  keeps schema = record {
    schema = schema;
    version = same_version old new (version_spared old new 9 10 adds.others (inr (omega arith))) desk.version;
    amounts = same_amounts old new amounts desk.amounts;
    entries = same_entries old new (content_in old).register register_kept desk.entries;
    standings = same_standings old new (sym state_kept) desk.standings;
    instructions = desk.instructions;
    sent = adds.sent;
    totals = same_sums new (content_in old) (with_sent message (content_in old)) refl refl refl (same_total_parts old new amounts (content_in old) desk.totals);
    registered = desk.registered;
    stands = desk.stands;
    within = desk.within;
    formed = desk.formed;
    short = desk.short;
    sendable = all_more IsSendable (content_in old).sent message desk.sendable sendable;
    named = desk.named;
  }

  pub message_more : new.schema ≡ desk_schema → Becomes new (with_sent message (content_in old))
  message_more schema = record { desk = subst (Keeps new) (sym content) (keeps schema); content_is = content }

-- a message that was added, where it could be
pub message_sent : (old new : State) (message : Sent) (r : Result (Unit {0}) Error) → IsDesk old.now → IsSendable message → OnOk r (Stays old new) → OnOk r (Adds old.now new.now (content_in old.now).sent message) → OnOk r (Becomes new.now (with_sent message (content_in old.now)))
message_sent old new message (Ok tt) desk sendable stays adds = message_more old.now new.now message desk adds sendable stays.schema
message_sent old new message (Err e) desk sendable stays adds = tt

-- there are fewer than the table can number
pub sent_fits : (sent : List Sent) → length sent < MOST_SENT → length sent + 1 < 2 ^ 63
sent_fits sent few = let most : MOST_SENT + 1 < 2 ^ 63 = lit< tt in omega (arith, few, most)
