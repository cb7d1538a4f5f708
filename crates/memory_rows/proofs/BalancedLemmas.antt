-- What a register holds adds up after each call.
use Rattle.std.proofs.Common.{ℕ, ◌+◌, ◌≤◌, List, sym, subst, arith}
use Rattle.std.specs.Prelude.{bytes_eq}
use Rattle.std.proofs.lemmas.List.Sums.{sum_by_push}
use Rattle.desk_codes.specs.declared.currency.Ccy.{Ccy}
use Rattle.desk_rules.specs.declared.history.entry.Entry.{Entry}
use Rattle.desk_rules.specs.declared.history.entry.Entry.TheVariants.{Participant, Account, Security, Issue, Redeem, PayIn, PayOut, Instruct, Cancel, Run}
use Rattle.desk_rules.specs.declared.limits.TheConstants.{MOST_PAID, MOST_QUANTITY}
use Rattle.desk_rules.specs.declared.answers.reply.Reply.{Reply}
use Rattle.desk_rules.specs.declared.answers.reply.Sent.{Sent}
use Rattle.desk_rules.specs.declared.history.standing.Standing.{Standing}
use Rattle.desk_rules.specs.Balances.{issued, issued_by, movement_of, paid_in, paid_in_by, paid_out, paid_out_by, payment_in, redeemed, redeemed_by, same_ccy}
use Rattle.desk_rules.specs.Content.{Content, history_of}
use Rattle.desk_rules.proofs.Deciding.{same_ccy-true}
use Rattle.desk_register.specs.declared.outcome.Outcome.{Outcome}
use Rattle.desk_register.specs.Changes.{BalancesAllow, CanAppend, TriesPair, appended, with_sent}
use Rattle.desk_register.proofs.AddsUpLemmas.{adds_up_more, longer}
use Rattle.desk_register.proofs.CaseLemmas.{by_bool, same_bytes}
use Rattle.desk_register.proofs.SumsLemmas.{adds_up_tried, tried_history}
use Rattle.memory_rows.specs.Balanced.{IsBalanced, IsWithinLimits}
use Rattle.desk_register.proofs.RegisteredLemmas.{founded}

module _ (content : Content) (balanced : IsBalanced content) where
  abbrev h : List Entry
  h = history_of content

  issued_within : (e : Entry) → BalancesAllow e content → (i : List ℕ) → issued h i + issued_by (movement_of i) e ≤ redeemed h i + redeemed_by (movement_of i) e + MOST_QUANTITY
  issued_within (Participant reference bic) fits i = let whole = balanced.within.securities i in omega arith
  issued_within (Account reference bic account) fits i = let whole = balanced.within.securities i in omega arith
  issued_within (Security reference isin kind) fits i = let whole = balanced.within.securities i in omega arith
  issued_within (Issue m) fits i =
      let whole = balanced.within.securities i in
      by_bool (bytes_eq m.isin i)
      (λ t.
      let P : List ℕ → Type 0 = λ z. issued h z + m.quantity ≤ redeemed h z + MOST_QUANTITY in
      let room : issued h i + m.quantity ≤ redeemed h i + MOST_QUANTITY = subst P (same_bytes m.isin i t) fits.1 in
      rw t (omega arith))
      (λ f. rw f (omega arith))
  issued_within (Redeem m) fits i = let whole = balanced.within.securities i in omega arith
  issued_within (PayIn payment) fits i = let whole = balanced.within.securities i in omega arith
  issued_within (PayOut payment) fits i = let whole = balanced.within.securities i in omega arith
  issued_within (Instruct sender instruction) fits i = let whole = balanced.within.securities i in omega arith
  issued_within (Cancel sender order) fits i = let whole = balanced.within.securities i in omega arith
  issued_within (Run reference day rule) fits i = let whole = balanced.within.securities i in omega arith

  paid_within : (e : Entry) → BalancesAllow e content → (c : Ccy) → paid_in h c + paid_in_by (payment_in c) e ≤ paid_out h c + paid_out_by (payment_in c) e + MOST_PAID
  paid_within (Participant reference bic) fits c = let whole = balanced.within.currencies c in omega arith
  paid_within (Account reference bic account) fits c = let whole = balanced.within.currencies c in omega arith
  paid_within (Security reference isin kind) fits c = let whole = balanced.within.currencies c in omega arith
  paid_within (Issue movement) fits c = let whole = balanced.within.currencies c in omega arith
  paid_within (Redeem movement) fits c = let whole = balanced.within.currencies c in omega arith
  paid_within (PayIn p) fits c =
      let whole = balanced.within.currencies c in
      by_bool (same_ccy p.ccy c)
      (λ t.
      let P : Ccy → Type 0 = λ z. paid_in h z + p.amount ≤ paid_out h z + MOST_PAID in
      let room : paid_in h c + p.amount ≤ paid_out h c + MOST_PAID = subst P (same_ccy-true p.ccy c t) fits.1 in
      rw t (omega arith))
      (λ f. rw f (omega arith))
  paid_within (PayOut p) fits c = let whole = balanced.within.currencies c in omega arith
  paid_within (Instruct sender instruction) fits c = let whole = balanced.within.currencies c in omega arith
  paid_within (Cancel sender order) fits c = let whole = balanced.within.currencies c in omega arith
  paid_within (Run reference day rule) fits c = let whole = balanced.within.currencies c in omega arith

  module _ (room : ℕ) (e : Entry) (reply : Reply) (can : CanAppend room e reply content) where
    pub balanced_append : IsBalanced (appended e reply content)
    balanced_append = record {
      sums = adds_up_more content balanced.sums e reply (founded content e can.known_sender can.not_refused) can.balances;
      within = record {
        securities = λ i.
            let more = sum_by_push (issued_by (movement_of i)) h e in
            let less = sum_by_push (redeemed_by (movement_of i)) h e in
            let step = issued_within e can.balances i in
            subst (λ z. issued z i ≤ redeemed z i + MOST_QUANTITY) (sym (longer content e reply)) (omega arith);
        currencies = λ c.
            let more = sum_by_push (paid_in_by (payment_in c)) h e in
            let less = sum_by_push (paid_out_by (payment_in c)) h e in
            let step = paid_within e can.balances c in
            subst (λ z. paid_in z c ≤ paid_out z c + MOST_PAID) (sym (longer content e reply)) (omega arith);
      };
    }

  -- nothing but where entries stand has changed, or what was sent

  pub balanced_stand : (standing : ℕ → Standing) → IsBalanced (record content { standing = standing })
  balanced_stand standing = record {
    sums = record {
      registered = balanced.sums.registered;
      securities = balanced.sums.securities;
      currencies = balanced.sums.currencies;
      no_other_account = balanced.sums.no_other_account;
      no_other_participant = balanced.sums.no_other_participant;
    };
    within = balanced.within;
  }

  pub balanced_send : (message : Sent) → IsBalanced (with_sent message content)
  balanced_send message = record {
    sums = record {
      registered = balanced.sums.registered;
      securities = balanced.sums.securities;
      currencies = balanced.sums.currencies;
      no_other_account = balanced.sums.no_other_account;
      no_other_participant = balanced.sums.no_other_participant;
    };
    within = balanced.within;
  }

  -- A pair that is tried.

  pub balanced_tried : (n : ℕ) (outcome : Outcome) (new : Content) → TriesPair content n outcome new → IsBalanced new
  balanced_tried n outcome new tries = record {
    sums = adds_up_tried content balanced.sums n outcome new tries;
    within = subst IsWithinLimits (sym (tried_history content n outcome new tries)) balanced.within;
  }
