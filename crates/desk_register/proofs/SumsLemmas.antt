-- What a register holds adds up after each change.
use Rattle.std.proofs.Common.{◌≡◌, ℕ, ◌+◌, ◌-◌, ◌≤◌, Bool, true, false, List, Option, Some, None, refl, sym, ◌∙◌, ap, subst, arith}
use Rattle.std.specs.Prelude.{bytes_eq, sum_by}
use Rattle.desk_codes.specs.declared.currency.Ccy.{Ccy}
use Rattle.desk_msg.specs.declared.instruction.Cash.{Cash as Amount}
use Rattle.desk_msg.specs.MessageType.{is_delivery}
use Rattle.desk_rules.specs.declared.history.entry.Entry.{Entry}
use Rattle.desk_rules.specs.declared.history.entry.Instructed.{Instructed}
use Rattle.desk_rules.specs.declared.history.pair.Lack.TheVariants.{Securities, Money}
use Rattle.desk_rules.specs.declared.history.standing.Standing.{Standing}
use Rattle.desk_rules.specs.declared.answers.reply.Reply.{Reply}
use Rattle.desk_rules.specs.Balances.{delivering, quantity_if, receiving, same_ccy}
use Rattle.desk_rules.specs.Content.{CashBalances, Content, Positions, history_of}
use Rattle.desk_rules.specs.Facts.{accounts_of, is_participant, participants_of}
use Rattle.desk_register.specs.declared.outcome.Outcome.{Outcome}
use Rattle.desk_register.specs.declared.outcome.Outcome.TheVariants.{Lacks, Settled}
use Rattle.desk_register.specs.AddsUp.{AddsUp}
use Rattle.desk_register.specs.Changes.{CanAppend, HasCash, TriesPair, TriesSides, appended, cash_at, delivered, delivering_side, moved_to, paid_over, receiving_side}
use Rattle.desk_register.specs.RegisteredOnce.{IsOfRegistered, is_account}
use Rattle.desk_register.proofs.AddsUpLemmas.{adds_up_more, apart, cash_elsewhere, elsewhere, one_of, pay_less, pay_more, put_less, put_more}
use Rattle.desk_register.proofs.OnceLemmas.{sum_with_less, sum_with_more}
use Rattle.desk_register.proofs.RegisteredLemmas.{founded}

module _ (content : Content) (sums : AddsUp content) where
  abbrev h : List Entry
  h = history_of content

  pub adds_up_appended : (room : ℕ) (e : Entry) (reply : Reply) → CanAppend room e reply content → AddsUp (appended e reply content)
  adds_up_appended room e reply can = adds_up_more content sums e reply (founded content e can.known_sender can.not_refused) can.balances

  -- nothing but where entries stand has changed
  adds_up_stand : (standing : ℕ → Standing) → AddsUp (record content { standing = standing })
  adds_up_stand standing = record {
    registered = sums.registered;
    securities = sums.securities;
    currencies = sums.currencies;
    no_other_account = sums.no_other_account;
    no_other_participant = sums.no_other_participant;
  }

  -- A pair that is settled.

  module _ (from to isin : List ℕ) (q : ℕ) (is_from : is_account h from ≡ true) (is_to : is_account h to ≡ true) (there : q ≤ content.position from isin) where
    abbrev taken : Positions
    taken = moved_to content.position from isin (content.position from isin - q)

    delivered_sum : (i : List ℕ) → sum_by (λ a. delivered content.position from to isin q a i) (accounts_of h) ≡ sum_by (λ a. content.position a i) (accounts_of h)
    delivered_sum i =
        let once = one_of (is_account h) (accounts_of h) sums.registered.accounts in
        let part = quantity_if (bytes_eq isin i) q in
        let less = sum_with_less (accounts_of h) from part (λ a. content.position a i) (λ a. taken a i) (once from is_from) (λ a. put_less content.position from isin a i q there) in
        let more = sum_with_more (accounts_of h) to part (λ a. taken a i) (λ a. delivered content.position from to isin q a i) (once to is_to) (λ a. put_more taken to isin a i q) in
        omega arith

    delivered_other : (a i : List ℕ) → is_account h a ≡ false → delivered content.position from to isin q a i ≡ 0
    delivered_other a i none =
        elsewhere to a isin i taken (taken to isin + q) (apart (is_account h) to a is_to none)
        ∙ elsewhere from a isin i content.position (content.position from isin - q) (apart (is_account h) from a is_from none)
        ∙ sums.no_other_account a i none

  module _ (from to : List ℕ) (is_from : is_participant h from ≡ true) (is_to : is_participant h to ≡ true) where
    paid_sum : (asked : Option Amount) → HasCash content.cash from asked → (c : Ccy) → sum_by (λ b. paid_over content.cash from to asked b c) (participants_of h) ≡ sum_by (λ b. content.cash b c) (participants_of h)
    paid_sum None has c = refl
    paid_sum (Some asked) has c =
        let once = one_of (is_participant h) (participants_of h) sums.registered.participants in
        let taken : CashBalances = cash_at content.cash from asked.ccy (content.cash from asked.ccy - asked.amount) in
        let part = quantity_if (same_ccy asked.ccy c) asked.amount in
        let less = sum_with_less (participants_of h) from part (λ b. content.cash b c) (λ b. taken b c) (once from is_from) (λ b. pay_less content.cash from asked.ccy b c asked.amount has) in
        let more = sum_with_more (participants_of h) to part (λ b. taken b c) (λ b. paid_over content.cash from to (Some asked) b c) (once to is_to) (λ b. pay_more taken to asked.ccy b c asked.amount) in
        omega arith

    paid_other : (asked : Option Amount) (b : List ℕ) (c : Ccy) → is_participant h b ≡ false → paid_over content.cash from to asked b c ≡ 0
    paid_other None b c none = sums.no_other_participant b c none
    paid_other (Some asked) b c none =
        let taken : CashBalances = cash_at content.cash from asked.ccy (content.cash from asked.ccy - asked.amount) in
        cash_elsewhere to b asked.ccy c taken (taken to asked.ccy + asked.amount) (apart (is_participant h) to b is_to none)
        ∙ cash_elsewhere from b asked.ccy c content.cash (content.cash from asked.ccy - asked.amount) (apart (is_participant h) from b is_from none)
        ∙ sums.no_other_participant b c none

  side : (P : Instructed → Type 0) (b : Bool) (earlier later : Instructed) → P earlier → P later → P (delivering b earlier later) × P (receiving b earlier later)
  side P true earlier later p q = (p, q)
  side P false earlier later p q = (q, p)

  tried : (n m : ℕ) (earlier later : Instructed) (outcome : Outcome) (new : Content) → IsOfRegistered h earlier → IsOfRegistered h later
      → TriesSides content n m earlier later outcome new → AddsUp new
  tried n m earlier later Settled new first second ends =
      let sides = side (IsOfRegistered h) (is_delivery earlier.instruction.mt) earlier later first second in
      let from = delivering_side earlier later in
      let to = receiving_side earlier later in
      let gives : IsOfRegistered h from = sides.0 in
      let takes : IsOfRegistered h to = sides.1 in
      let isin = later.instruction.isin in
      let q = later.instruction.quantity in
      let cash = later.instruction.cash in
      subst AddsUp (sym ends.2) (record {
        registered = sums.registered;
        securities = λ i. (let same = delivered_sum from.instruction.account to.instruction.account isin q gives.account takes.account ends.0 i in let whole = sums.securities i in omega arith);
        currencies = λ c. (let same = paid_sum to.sender from.sender takes.sender gives.sender cash ends.1 c in let whole = sums.currencies c in omega arith);
        no_other_account = delivered_other from.instruction.account to.instruction.account isin q gives.account takes.account ends.0;
        no_other_participant = paid_other to.sender from.sender takes.sender gives.sender cash;
      })
  tried n m earlier later (Lacks Securities) new first second ends = subst AddsUp (sym ends.1) (adds_up_stand _)
  tried n m earlier later (Lacks Money) new first second ends = subst AddsUp (sym ends.2) (adds_up_stand _)

  pub adds_up_tried : (n : ℕ) (outcome : Outcome) (new : Content) → TriesPair content n outcome new → AddsUp new
  adds_up_tried n outcome new tries =
      tried n tries.mate tries.earlier tries.later outcome new
      (sums.registered.instructions tries.mate tries.earlier tries.pair.is_earlier) (sums.registered.instructions n tries.later tries.pair.is_later) tries.ends

-- to try a pair changes no entry
pub tried_history : (content : Content) (n : ℕ) (outcome : Outcome) (new : Content) → TriesPair content n outcome new → history_of new ≡ history_of content
tried_history content n Settled new tries = ap history_of tries.ends.2
tried_history content n (Lacks Securities) new tries = ap history_of tries.ends.1
tried_history content n (Lacks Money) new tries = ap history_of tries.ends.2
