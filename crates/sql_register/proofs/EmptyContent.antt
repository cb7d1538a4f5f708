-- Tables with no row say the empty content.
use Rattle.std.proofs.Common.{◌≡◌, lit<, inl, inr, refl, sym, ap, subst, ◌∙◌, ℕ, zero, suc, List, [], map, false, codes, unwrap_or, None, Some, Result, Ok, Err, OnOk, IfErr, IsTrue, arith}
use Rattle.std.proofs.lemmas.Bool.{both_ways}
use Rattle.sqlite.specs.Effect.{Database}
use Rattle.sqlite.specs.declared.error.Error.{Error}
use Rattle.sqlite.specs.Command.TheVariants.{Begin}
use Rattle.sqlite.specs.Listing.{understood}
use Rattle.sqlite.specs.State.{State, Executes, IsMisplaced}
use Rattle.sqlite.proofs.Callers.{IsPlain, command_of, runs_as}
use Rattle.sqlite_tied.specs.Compute.{everything}
use Rattle.sql_rows.specs.declared.amounts.key.Ledger.{Ledger}
use Rattle.sql_rows.specs.declared.amounts.key.Ledger.TheVariants.{Balance, Cash, Total}
use Rattle.sql_rows.specs.Keys.{tree_of}
use Rattle.sql_rows.proofs.AmountLemmas.{empty_amounts, empty_recorded}
use Rattle.desk_codes.specs.Currency.{letters_of}
use Rattle.desk_codes.specs.declared.currency.Ccy.{Ccy}
use Rattle.sql_entries.proofs.SameLemmas.{no_entries}
use Rattle.desk_register.specs.Changes.{empty_content}
use Rattle.desk_register.specs.Looked.{IsPaid}
use Rattle.desk_rules.specs.declared.history.entry.Instructed.{Instructed}
use Rattle.desk_rules.specs.History.{instruction_at}
use Rattle.sql_tables.specs.Version.{HasVersion, SetsVersion}
use Rattle.sql_tables.specs.declared.version.TheConstants.{VERSION}
use Rattle.sql_rows.proofs.SentTableLemmas.{none_sent}
use Rattle.sql_rows.proofs.StandingLemmas.{no_standings}
use Rattle.sql_tables.specs.Control.{Begins, begin_text}
use Rattle.sql_tables.specs.Ends.{ForCause}
use Rattle.sql_tables.specs.Making.{IsEmpty}
use Rattle.sql_tables.proofs.BlameLemmas.{IsWholeIn, control_caused_in}
use Rattle.sql_tables.specs.Schema.{desk_schema, no_schema}
use Rattle.sql_register.specs.Content.{content_in}
use Rattle.sql_register.specs.Holds.{Becomes, Keeps, outstanding_in, paid_in_table}
use Rattle.sql_register.specs.RowsSaid.{kept_in, sent_in}
use Rattle.desk_rules.proofs.WellFormedLemmas.{formed_none}
use Rattle.sql_register.proofs.ContentLemmas.{by_parts}
use Rattle.sql_register.proofs.FrameLemmas.{balance_spared, cash_spared, total_spared, register_spared, state_spared, sent_spared}

-- ---- the transaction in which tables are made

begin_is : command_of (understood no_schema begin_text) ≡ Begin
unfolding understood everything
begin_is = refl

begin_plain : IsPlain (understood no_schema begin_text)
unfolding understood everything
begin_plain = (refl, refl)

pub begun_making : (old new : State) → old.now.schema ≡ no_schema → (r : Result ℕ Error) → Executes begin_text [] old new r → OnOk r (Begins old new)
begun_making old new has (Ok count) h =
    let r = runs_as begin_text [] old new no_schema has Begin begin_is begin_plain count h in
    record { is_open = r.1.is_open; now = r.1.now_is; committed = r.1.committed_is; mode = r.1.mode; marks = r.4 }
begun_making old new has (Err e) h = tt

-- it begins where none was open
pub begun_outside : (old new : State) → old.now.schema ≡ no_schema → (r : Result ℕ Error) → Executes begin_text [] old new r → OnOk r (old.in_transaction ≡ false)
begun_outside old new has (Ok count) h = (runs_as begin_text [] old new no_schema has Begin begin_is begin_plain count h).0
begun_outside old new has (Err e) h = tt

begin_whole : IsWholeIn no_schema begin_text 0
unfolding understood everything
begin_whole = record { plain = (refl, refl); whole = refl; width_is = refl }

begin_placed : (s : State) → s.in_transaction ≡ false → (e : Error) → ¬ IsMisplaced s Begin e
begin_placed s outside e (inl (error, inl within)) = both_ways _ outside within.1
begin_placed s outside e (inl (error, inr (inl commits, out))) = absurd (let x = commits in cc)
begin_placed s outside e (inl (error, inr (inr rolls, out))) = absurd (let x = rolls in cc)
begin_placed s outside e (inr (error, name, inl releases, unnamed)) = absurd (let x = releases in cc)
begin_placed s outside e (inr (error, name, inr back, unnamed)) = absurd (let x = back in cc)

-- and so it fails for its cause alone
pub begin_caused : (old new : State) → old.now.schema ≡ no_schema → IsTrue old.is_open → old.in_transaction ≡ false → (r : Result ℕ Error) → Executes begin_text [] old new r → IfErr r (ForCause old new)
begin_caused old new has open' outside r h = control_caused_in no_schema old new has open' begin_text [] begin_whole Begin refl (λ none. none) begin_is (begin_placed old outside) r h

-- ---- no row, no content

-- each table is empty
pub record AreEmpty (db : Database) : Type 0 where
  pub schema : db.schema ≡ desk_schema
  pub balances : db.trees 0 ≡ []
  pub cash : db.trees 2 ≡ []
  pub totals : db.trees 4 ≡ []
  pub register : db.trees 6 ≡ []
  pub states : db.trees 8 ≡ []
  pub messages : db.trees 9 ≡ []

no_such : (n : ℕ) (i : Instructed) → instruction_at [] n ≡ Some i → ⊥
no_such zero i is = cc
no_such (suc n) i is = cc

module _ (db : Database) (empty : AreEmpty db) where
  no_amounts : (ledger : Ledger) → db.trees (tree_of ledger) ≡ []
  no_amounts Balance = empty.balances
  no_amounts Cash = empty.cash
  no_amounts Total = empty.totals

  content : content_in db ≡ empty_content
  content = by_parts _ _ _ _ _ _ _ _ _ _ (ap (map kept_in) empty.register) (no_standings db empty.states).1 (λ account isin. ap (λ a. unwrap_or a 0) (empty_recorded db no_amounts Balance account isin))
      (λ bic ccy. ap (λ a. unwrap_or a 0) (empty_recorded db no_amounts Cash bic (letters_of ccy))) (ap (map sent_in) empty.messages)

  nothing_outstanding : (isin : List ℕ) → outstanding_in db isin ≡ 0
  nothing_outstanding isin = ap (λ a. unwrap_or a 0) (empty_recorded db no_amounts Total (codes "security") isin)

  nothing_paid : (ccy : Ccy) → paid_in_table db ccy ≡ None
  nothing_paid ccy = empty_recorded db no_amounts Total (codes "currency") (letters_of ccy)

  keeps : HasVersion db (Some VERSION) → Keeps db empty_content
  keeps version = record {
    schema = empty.schema;
    version = version;
    amounts = empty_amounts db no_amounts;
    entries = no_entries db empty.register;
    standings = (no_standings db empty.states).0;
    instructions = λ n none. refl;
    sent = none_sent db empty.messages;
    totals = record {
      outstanding = λ isin. omega (arith, nothing_outstanding isin);
      paid = λ ccy. subst (IsPaid [] ccy) (sym (nothing_paid ccy)) refl;
      paid_sum = λ ccy. let none : unwrap_or (paid_in_table db ccy) 0 ≡ 0 = ap (λ a. unwrap_or a 0) (nothing_paid ccy) in omega (arith, none);
      held = λ isin. sym (nothing_outstanding isin);
      held_cash = λ ccy. sym (ap (λ a. unwrap_or a 0) (nothing_paid ccy));
      no_stranger = λ account isin none. refl;
      no_stranger_pays = λ bic ccy none. refl;
    };
    registered = record { accounts = λ account. refl; participants = λ bic. refl; instructions = λ n i is. absurd (no_such n i is) };
    stands = λ n i is. absurd (no_such n i is);
    within = lit< tt;
    formed = formed_none;
    short = tt;
    sendable = tt;
    named = λ account. refl;
  }

  pub empty_becomes : HasVersion db (Some VERSION) → Becomes db empty_content
  empty_becomes version = record { desk = subst (Keeps db) (sym content) (keeps version); content_is = content }

-- what was made, with its version, is empty
pub version_empty : (made new : Database) → IsEmpty desk_schema made → new.schema ≡ desk_schema → SetsVersion made new 3 → AreEmpty new
version_empty made new are schema sets = record {
  schema = schema;
  balances = balance_spared made new 10 11 sets.others (inl (omega arith)) ∙ are.empty.0;
  cash = cash_spared made new 10 11 sets.others (inl (omega arith)) ∙ are.empty.1.0;
  totals = total_spared made new 10 11 sets.others (inl (omega arith)) ∙ are.empty.1.1.0;
  register = register_spared made new 10 11 sets.others (inl (omega arith)) ∙ are.empty.1.1.1.0;
  states = state_spared made new 10 11 sets.others (inl (omega arith)) ∙ are.empty.1.1.1.1.0;
  messages = sent_spared made new 10 11 sets.others (inl (omega arith)) ∙ are.empty.1.1.1.1.1.0;
}

-- a database with no table has no row
pub blank_empty : (db : Database) → db.schema ≡ no_schema → IsEmpty no_schema db
blank_empty db schema = record { schema_is = schema; empty = tt }
