-- A pair that is tried: what the tables keep once balances have changed, and once both instructions stand otherwise.
use Rattle.std.proofs.Common.{◌≡◌, inr, refl, sym, ap, subst, ◌∙◌, ℕ, ◌+◌, ◌-◌, ◌<◌, ◌≤◌, Bool, true, false, List, [], map, codes, unwrap_or, Option, None, Some, arith}
use Rattle.std.specs.Prelude.{bytes_eq, sum_by}
use Rattle.sqlite.specs.Effect.{Database}
use Rattle.desk_codes.specs.Currency.{letters_of}
use Rattle.desk_codes.specs.declared.currency.Ccy.{Ccy}
use Rattle.desk_msg.specs.declared.instruction.Cash.{Cash as Amount}
use Rattle.desk_msg.specs.MessageType.{is_delivery}
use Rattle.desk_register.specs.Looked.{held_cash_of, held_of}
use Rattle.desk_register.specs.Changes.{HasCash, cash_at, delivered, delivering_side, moved_to, paid_over, receiving_side}
use Rattle.desk_register.specs.declared.outcome.Outcome.{Outcome}
use Rattle.desk_register.specs.declared.outcome.Outcome.TheVariants.{Lacks, Settled}
use Rattle.desk_register.proofs.CaseLemmas.{by_bool, same_bytes}
use Rattle.desk_rules.specs.Balances.{delivering, quantity_if, receiving, same_ccy}
use Rattle.desk_rules.specs.Content.{CashBalances, Content, Positions, history_of}
use Rattle.desk_rules.specs.declared.history.entry.Entry.{Entry}
use Rattle.desk_rules.specs.declared.history.entry.Instructed.{Instructed}
use Rattle.desk_rules.specs.Facts.{accounts_of, is_participant, owner_of, participants_of}
use Rattle.sql_entries.proofs.SameLemmas.{same_entries}
use Rattle.sql_rows.proofs.SentTableLemmas.{same_sent}
use Rattle.sql_rows.proofs.StandingLemmas.{same_standings, same_standing_in}
use Rattle.sql_tables.specs.Schema.{desk_schema}
use Rattle.sql_register.specs.Content.{content_in}
use Rattle.sql_register.specs.Holds.{AreTotals, Becomes, IsDesk, Keeps, outstanding_in, paid_in_table}
use Rattle.desk_register.specs.RegisteredOnce.{AreRegisteredOnce, IsOfRegistered, is_account}
use Rattle.sql_register.specs.RowsSaid.{kept_in, sent_in}
use Rattle.sql_register.specs.Settling.{AmountsSo, Fares, cash_then, positions_then}
use Rattle.desk_register.proofs.AddsUpLemmas.{apart, cash_elsewhere, elsewhere, one_of, pay_less, pay_more, put_less, put_more}
use Rattle.sql_register.proofs.FrameLemmas.{register_spared, same_version, sent_spared, state_spared, version_spared}
use Rattle.sql_register.proofs.ContentLemmas.{by_parts}
use Rattle.desk_register.proofs.OnceLemmas.{sum_with_less, sum_with_more}

-- what stands of another security stays
no_other : (account a isin i : List ℕ) (position : Positions) (new : ℕ) → bytes_eq isin i ≡ false → moved_to position account isin new a i ≡ position a i
no_other account a isin i position new f = by_bool (bytes_eq account a) (λ t. rw (t, f) refl) (λ g. rw g refl)

-- ---- what all hold is as it was

-- the balances of a content, where others have changed in its place
pub record SumsStay (content : Content) (position : Positions) (cash : CashBalances) : Type 0 where
  pub held : (isin : List ℕ) → sum_by (λ account. position account isin) (accounts_of (history_of content)) ≡ held_of content isin
  pub held_cash : (ccy : Ccy) → sum_by (λ bic. cash bic ccy) (participants_of (history_of content)) ≡ held_cash_of content ccy
  pub no_stranger : (account isin : List ℕ) → owner_of (history_of content) account ≡ None → position account isin ≡ 0
  pub no_stranger_pays : (bic : List ℕ) (ccy : Ccy) → is_participant (history_of content) bic ≡ false → cash bic ccy ≡ 0
  pub named : (account : List ℕ) → position account [] ≡ 0

module _ (content : Content) (registered : AreRegisteredOnce (history_of content)) (no_stranger : (account isin : List ℕ) → owner_of (history_of content) account ≡ None → content.position account isin ≡ 0)
    (no_payer : (bic : List ℕ) (ccy : Ccy) → is_participant (history_of content) bic ≡ false → content.cash bic ccy ≡ 0) (named : (account : List ℕ) → content.position account [] ≡ 0) where
  abbrev h : List Entry
  h = history_of content

  not_account : (account : List ℕ) → owner_of h account ≡ None → is_account h account ≡ false
  not_account account none = rw none refl

  module _ (from to isin : List ℕ) (q : ℕ) (is_from : is_account h from ≡ true) (is_to : is_account h to ≡ true) (some : 0 < q) (there : q ≤ content.position from isin) where
    abbrev taken : Positions
    taken = moved_to content.position from isin (content.position from isin - q)

    delivered_sum : (i : List ℕ) → sum_by (λ a. delivered content.position from to isin q a i) (accounts_of h) ≡ sum_by (λ a. content.position a i) (accounts_of h)
    delivered_sum i =
        let once = one_of (is_account h) (accounts_of h) registered.accounts in
        let part = quantity_if (bytes_eq isin i) q in
        let less = sum_with_less (accounts_of h) from part (λ a. content.position a i) (λ a. taken a i) (once from is_from) (λ a. put_less content.position from isin a i q there) in
        let more = sum_with_more (accounts_of h) to part (λ a. taken a i) (λ a. delivered content.position from to isin q a i) (once to is_to) (λ a. put_more taken to isin a i q) in
        omega arith

    delivered_other : (a i : List ℕ) → owner_of h a ≡ None → delivered content.position from to isin q a i ≡ 0
    delivered_other a i none =
        elsewhere to a isin i taken (taken to isin + q) (apart (is_account h) to a is_to (not_account a none))
        ∙ elsewhere from a isin i content.position (content.position from isin - q) (apart (is_account h) from a is_from (not_account a none))
        ∙ no_stranger a i none

    -- a security without a name is not moved, since none is there
    delivered_named : (a : List ℕ) → delivered content.position from to isin q a [] ≡ 0
    delivered_named a = by_bool (bytes_eq isin [])
        (λ t. absurd (let none : content.position from isin ≡ 0 = ap (content.position from) (same_bytes isin [] t) ∙ named from in omega arith))
        (λ f. no_other to a isin [] taken (taken to isin + q) f ∙ no_other from a isin [] content.position (content.position from isin - q) f ∙ named a)

  module _ (from to : List ℕ) (is_from : is_participant h from ≡ true) (is_to : is_participant h to ≡ true) where
    paid_sum : (asked : Option Amount) → HasCash content.cash from asked → (c : Ccy) → sum_by (λ b. paid_over content.cash from to asked b c) (participants_of h) ≡ sum_by (λ b. content.cash b c) (participants_of h)
    paid_sum None has c = refl
    paid_sum (Some asked) has c =
        let once = one_of (is_participant h) (participants_of h) registered.participants in
        let taken : CashBalances = cash_at content.cash from asked.ccy (content.cash from asked.ccy - asked.amount) in
        let part = quantity_if (same_ccy asked.ccy c) asked.amount in
        let less = sum_with_less (participants_of h) from part (λ b. content.cash b c) (λ b. taken b c) (once from is_from) (λ b. pay_less content.cash from asked.ccy b c asked.amount has) in
        let more = sum_with_more (participants_of h) to part (λ b. taken b c) (λ b. paid_over content.cash from to (Some asked) b c) (once to is_to) (λ b. pay_more taken to asked.ccy b c asked.amount) in
        omega arith

    paid_other : (asked : Option Amount) (b : List ℕ) (c : Ccy) → is_participant h b ≡ false → paid_over content.cash from to asked b c ≡ 0
    paid_other None b c none = no_payer b c none
    paid_other (Some asked) b c none =
        let taken : CashBalances = cash_at content.cash from asked.ccy (content.cash from asked.ccy - asked.amount) in
        cash_elsewhere to b asked.ccy c taken (taken to asked.ccy + asked.amount) (apart (is_participant h) to b is_to none)
        ∙ cash_elsewhere from b asked.ccy c content.cash (content.cash from asked.ccy - asked.amount) (apart (is_participant h) from b is_from none)
        ∙ no_payer b c none

  side : (P : Instructed → Type 0) (b : Bool) (earlier later : Instructed) → P earlier → P later → P (delivering b earlier later) × P (receiving b earlier later)
  side P true earlier later p q = (p, q)
  side P false earlier later p q = (q, p)

  pub sums_stay : (earlier later : Instructed) (outcome : Outcome) → IsOfRegistered h earlier → IsOfRegistered h later → Fares content earlier later outcome → SumsStay content (positions_then content earlier later outcome) (cash_then content earlier later outcome)
  sums_stay earlier later Settled first second fares =
      let sides = side (IsOfRegistered h) (is_delivery earlier.instruction.mt) earlier later first second in
      let from = delivering_side earlier later in
      let to = receiving_side earlier later in
      let gives : IsOfRegistered h from = sides.0 in
      let takes : IsOfRegistered h to = sides.1 in
      let isin = later.instruction.isin in
      let q = later.instruction.quantity in
      let cash = later.instruction.cash in
      record {
        held = delivered_sum from.instruction.account to.instruction.account isin q gives.account takes.account later.instruction.some fares.0;
        held_cash = paid_sum to.sender from.sender takes.sender gives.sender cash fares.1;
        no_stranger = delivered_other from.instruction.account to.instruction.account isin q gives.account takes.account later.instruction.some fares.0;
        no_stranger_pays = paid_other to.sender from.sender takes.sender gives.sender cash;
        named = delivered_named from.instruction.account to.instruction.account isin q gives.account takes.account later.instruction.some fares.0;
      }
  sums_stay earlier later (Lacks lack) first second fares = record { held = λ isin. refl; held_cash = λ ccy. refl; no_stranger = no_stranger; no_stranger_pays = no_payer; named = named }

-- ---- the tables after balances have changed alone

-- the content in which the balances are these
abbrev pub balances_so : Content → Positions → CashBalances → Content
balances_so content position cash = record content { position = position; cash = cash }

module _ (old new : Database) (position : Positions) (cash : CashBalances) (desk : IsDesk old) (so : AmountsSo old new position cash) where
  register_kept : new.trees 6 ≡ old.trees 6
  register_kept = register_spared old new 0 6 so.others (inr (omega arith))

  state_kept : new.trees 8 ≡ old.trees 8
  state_kept = state_spared old new 0 6 so.others (inr (omega arith))

  sent_kept : new.trees 9 ≡ old.trees 9
  sent_kept = sent_spared old new 0 6 so.others (inr (omega arith))

  content : content_in new ≡ balances_so (content_in old) position cash
  content = by_parts _ _ _ _ _ _ _ _ _ _ (ap (map kept_in) register_kept) (same_standing_in new old state_kept) (λ account isin. ap (λ (p : Positions). p account isin) so.position_is) (λ bic ccy. ap (λ (x : CashBalances). x bic ccy) so.cash_is) (ap (map sent_in) sent_kept)

  same_outstanding : (isin : List ℕ) → outstanding_in new isin ≡ outstanding_in old isin
  same_outstanding isin = ap (λ a. unwrap_or a 0) (so.totals (codes "security") isin)

  same_paid : (ccy : Ccy) → paid_in_table new ccy ≡ paid_in_table old ccy
  same_paid ccy = so.totals (codes "currency") (letters_of ccy)

  totals : SumsStay (content_in old) position cash → AreTotals new (balances_so (content_in old) position cash)
  totals stay = record {
    outstanding = λ isin. rw (same_outstanding isin) (desk.totals.outstanding isin);
    paid = λ ccy. rw (same_paid ccy) (desk.totals.paid ccy);
    paid_sum = λ ccy. rw (same_paid ccy) (desk.totals.paid_sum ccy);
    held = λ isin. stay.held isin ∙ desk.totals.held isin ∙ sym (same_outstanding isin);
    held_cash = λ ccy. stay.held_cash ccy ∙ desk.totals.held_cash ccy ∙ ap (λ a. unwrap_or a 0) (sym (same_paid ccy));
    no_stranger = stay.no_stranger;
    no_stranger_pays = stay.no_stranger_pays;
  }

  keeps : new.schema ≡ desk_schema → SumsStay (content_in old) position cash → Keeps new (balances_so (content_in old) position cash)
  keeps schema stay = record {
    schema = schema;
    version = same_version old new (version_spared old new 0 6 so.others (inr (omega arith))) desk.version;
    amounts = so.kept;
    entries = same_entries old new (content_in old).register register_kept desk.entries;
    standings = same_standings old new (sym state_kept) desk.standings;
    instructions = desk.instructions;
    sent = same_sent old new sent_kept (content_in old).sent desk.sent;
    totals = totals stay;
    registered = desk.registered;
    stands = desk.stands;
    within = desk.within;
    formed = desk.formed;
    short = desk.short;
    sendable = desk.sendable;
    named = stay.named;
  }

  pub balances_alone : new.schema ≡ desk_schema → SumsStay (content_in old) position cash → Becomes new (balances_so (content_in old) position cash)
  balances_alone schema stay = record { desk = subst (Keeps new) (sym content) (keeps schema stay); content_is = content }
