-- A pair, settled in the lists.
use Rattle.std.proofs.Common.{◌≡◌, ℕ, ◌+◌, ◌<◌, ◌^◌, List, Option, Some, None, refl, ap, sym, subst, ◌∙◌, arith}
use Rattle.desk_codes.specs.declared.currency.Ccy.{Ccy}
use Rattle.desk_msg.specs.declared.instruction.Cash.{Cash as Amount}
use Rattle.desk_rules.specs.declared.answers.reply.Kept.{Kept}
use Rattle.desk_rules.specs.declared.answers.reply.Sent.{Sent}
use Rattle.desk_rules.specs.declared.history.pair.Lack.{Lack}
use Rattle.desk_rules.specs.declared.history.pair.Lack.TheVariants.{Money, Securities}
use Rattle.desk_rules.specs.declared.history.standing.Standing.{Standing}
use Rattle.desk_rules.specs.declared.history.standing.State.TheVariants.{Matched}
use Rattle.desk_rules.specs.Standing.{reason_of_lack}
use Rattle.desk_rules.specs.declared.history.entry.Instructed.{Instructed}
use Rattle.desk_rules.specs.History.{instruction_at}
use Rattle.desk_rules.specs.Content.{CashBalances, Content, history_of}
use Rattle.desk_register.specs.declared.outcome.Outcome.{Outcome}
use Rattle.desk_register.specs.declared.outcome.Outcome.TheVariants.{Lacks}
use Rattle.desk_register.specs.declared.told.KnownPair.{KnownPair}
use Rattle.desk_register.specs.Changes.{CanSettle, IsPairAt, SidesFit, TriesPair, TriesSides, delivered, paid_over, standing_both}
use Rattle.desk_register.specs.Told.{IsKnownAt}
use Rattle.memory_rows.specs.declared.balance_key.BalanceKey.{BalanceKey}
use Rattle.memory_rows.specs.declared.balance_key.BalanceKey.TheVariants.{Cash, Outstanding, Paid, Position}
use Rattle.memory_rows.specs.Lacks.{IsLackOf}
use Rattle.memory_rows.specs.Lists.{Listed, TotalsAreKept, balance_in, content_in, standing_in}
use Rattle.memory_rows.specs.BalanceKeys.{is_key}
use Rattle.memory_rows.specs.Moves.{SameBooks, SameEntries, SameTotals, with_less, moved_between, paid_between}
use Rattle.memory_rows.specs.Transfers.{Transfer}
use Rattle.memory_rows.proofs.AppendLemmas.{content_by_parts, same_balances}
use Rattle.memory_rows.proofs.BalanceLemmas.{key_true}
use Rattle.desk_register.proofs.CaseLemmas.{by_bool}

-- what was taken off one balance leaves room on the other
pub taken_fits : (balance : BalanceKey → ℕ) (from to : BalanceKey) (q : ℕ) → balance to + q < 2 ^ 63 → with_less balance from q to + q < 2 ^ 64
taken_fits balance from to q fits =
    by_bool (is_key from to)
    (λ t. let one = ap balance (key_true from to t) in rw t (omega arith))
    (λ f. rw f (omega arith))

-- The balances of a settled pair, as the content has them.

abbrev pub after_pair : (BalanceKey → ℕ) → List ℕ → List ℕ → List ℕ → ℕ → List ℕ → List ℕ → Option Amount → BalanceKey → ℕ
after_pair balance from to isin q payer payee cash = paid_between (moved_between balance (Position from isin) (Position to isin) q) payer payee cash

settled_parts : (r : List Kept) (s : ℕ → Standing) (m : List Sent) (b : BalanceKey → ℕ) (from to isin : List ℕ) (q : ℕ) (payer payee : List ℕ) (cash : Option Amount)
    → ◌≡◌ {A = Content} (record { register = r; standing = s; position = λ a i. after_pair b from to isin q payer payee cash (Position a i); cash = λ p c. after_pair b from to isin q payer payee cash (Cash p c); sent = m })
    (record { register = r; standing = s; position = delivered (λ a i. b (Position a i)) from to isin q; cash = paid_over (λ p c. b (Cash p c)) payer payee cash; sent = m })
settled_parts r s m b from to isin q payer payee None = refl
settled_parts r s m b from to isin q payer payee (Some asked) = refl

total_stays : (b : BalanceKey → ℕ) (from to isin : List ℕ) (q : ℕ) (payer payee : List ℕ) (cash : Option Amount) (i : List ℕ) → after_pair b from to isin q payer payee cash (Outstanding i) ≡ b (Outstanding i)
total_stays b from to isin q payer payee None i = refl
total_stays b from to isin q payer payee (Some asked) i = refl

paid_stays : (b : BalanceKey → ℕ) (from to isin : List ℕ) (q : ℕ) (payer payee : List ℕ) (cash : Option Amount) (c : Ccy) → after_pair b from to isin q payer payee cash (Paid c) ≡ b (Paid c)
paid_stays b from to isin q payer payee None c = refl
paid_stays b from to isin q payer payee (Some asked) c = refl

-- what the participants have is as before, where only positions have changed
pub same_cash : (old stood moved : Listed) (from to isin : List ℕ) (q : ℕ) → SameBooks old stood → balance_in moved ≡ moved_between (balance_in stood) (Position from isin) (Position to isin) q
    → ◌≡◌ {A = CashBalances} (λ p c. balance_in moved (Cash p c)) (λ p c. balance_in old (Cash p c))
same_cash old stood moved from to isin q books first = (λ k p c. first k (Cash p c)) ∙ (λ k p c. same_balances old stood books k (Cash p c))

-- Where two entries stand has changed, then positions, and then cash.

module _ (old stood moved new : Listed) (t : Transfer) (books : SameBooks old stood) (moves : SameEntries stood moved) (pays : SameEntries moved new)
    (first : balance_in moved ≡ moved_between (balance_in stood) (Position t.given t.isin) (Position t.taken t.isin) t.quantity)
    (second : balance_in new ≡ paid_between (balance_in moved) t.receiver t.deliverer t.cash) where
  pair_balances : balance_in new ≡ after_pair (balance_in old) t.given t.taken t.isin t.quantity t.receiver t.deliverer t.cash
  pair_balances =
      second ∙ ap (λ b. paid_between b t.receiver t.deliverer t.cash) first
      ∙ ap (λ b. after_pair b t.given t.taken t.isin t.quantity t.receiver t.deliverer t.cash) (same_balances old stood books)

  pub settled_content : (standing : ℕ → Standing) → standing_in stood.standings ≡ standing
      → content_in new ≡ record (content_in old) {
        standing = standing;
        position = delivered (λ a i. balance_in old (Position a i)) t.given t.taken t.isin t.quantity;
        cash = paid_over (λ p c. balance_in old (Cash p c)) t.receiver t.deliverer t.cash;
      }
  settled_content standing stands =
      content_by_parts _ _ _ _ _ _ _ _ (pays.kept ∙ moves.kept ∙ books.kept) (ap standing_in (pays.standings ∙ moves.standings) ∙ stands) pair_balances (pays.sent ∙ moves.sent ∙ books.sent)
      ∙ settled_parts old.kept standing old.sent (balance_in old) t.given t.taken t.isin t.quantity t.receiver t.deliverer t.cash

  pub settled_totals : SameTotals old new
  settled_totals = record {
    kept = pays.kept ∙ moves.kept ∙ books.kept;
    outstanding = λ i. ap (λ b. b (Outstanding i)) pair_balances ∙ total_stays (balance_in old) t.given t.taken t.isin t.quantity t.receiver t.deliverer t.cash i;
    paid = λ c. ap (λ b. b (Paid c)) pair_balances ∙ paid_stays (balance_in old) t.given t.taken t.isin t.quantity t.receiver t.deliverer t.cash c;
  }

-- The pair of a number that can settle, whose mate was found.

module _ (content : Content) (n day m : ℕ) (can : CanSettle content n day) (has_mate : (content.standing n).mate ≡ Some m) where
  pub found_pair : IsPairAt content n m can.earlier can.later
  found_pair = let same : can.mate ≡ m = let both = sym can.pair.has_mate ∙ has_mate in cc in subst (λ k. IsPairAt content n k can.earlier can.later) same can.pair

  pub two_numbers : m < n
  two_numbers = let same : can.mate ≡ m = let both = sym can.pair.has_mate ∙ has_mate in cc in subst (λ k. k < n) same can.two

  -- what it lacks, it waits for
  pub lacks_pair : (lack : Lack) (new : Content) → IsLackOf content can.earlier can.later (Some lack) → new ≡ record content { standing = standing_both content.standing m n (Matched (reason_of_lack (Some lack))) } → TriesPair content n (Lacks lack) new
  lacks_pair Securities new lacks is = record { mate = m; earlier = can.earlier; later = can.later; pair = found_pair; ends = (lacks, is) }
  lacks_pair Money new lacks is = record { mate = m; earlier = can.earlier; later = can.later; pair = found_pair; ends = (lacks.0, lacks.1, is) }

  pub known_pair : (first second : Instructed) × (instruction_at (history_of content) m ≡ Some first) × (instruction_at (history_of content) n ≡ Some second)
  known_pair = (can.earlier, can.later, found_pair.is_earlier, found_pair.is_later)

  module _ (pair : KnownPair) (is : (first second : Instructed) → instruction_at (history_of content) m ≡ Some first → instruction_at (history_of content) n ≡ Some second → pair ≡ record { mate = m; number = n; earlier = first; later = second }) where
    same_pair : pair ≡ record { mate = m; number = n; earlier = can.earlier; later = can.later }
    same_pair = is can.earlier can.later found_pair.is_earlier found_pair.is_later

    pub pair_two : pair.mate < pair.number
    pair_two =
        let mates : Some can.mate ≡ Some m = sym can.pair.has_mate ∙ has_mate in
        let same : can.mate ≡ m = cc in
        rw same_pair (subst (λ k. k < n) same can.two)

    pub pair_fits : SidesFit content pair.earlier pair.later
    pair_fits = rw same_pair can.fits

    pub pair_covered : IsLackOf content can.earlier can.later None → IsLackOf content pair.earlier pair.later None
    pair_covered covered = rw same_pair covered

    pub pair_known : IsKnownAt content n pair
    pair_known = rw same_pair (record { number = refl; is_pair = found_pair })

    pub tries_pair : (outcome : Outcome) (new : Content) → TriesSides content pair.number pair.mate pair.earlier pair.later outcome new → TriesPair content n outcome new
    tries_pair outcome new tries = record {
      mate = m;
      earlier = can.earlier;
      later = can.later;
      pair = found_pair;
      ends = subst (λ (p : KnownPair). TriesSides content p.number p.mate p.earlier p.later outcome new) same_pair tries;
    }

-- nothing but where entries stand has changed
pub stood_totals : (old new : Listed) → SameBooks old new → SameTotals old new
stood_totals old new books = record {
  kept = books.kept;
  outstanding = λ i. ap (λ b. b (Outstanding i)) (same_balances old new books);
  paid = λ c. ap (λ b. b (Paid c)) (same_balances old new books);
}

-- nothing but what was sent has changed
pub sent_totals : (old new : Listed) (sent : List Sent) → new ≡ record old { sent = sent } → SameTotals old new
sent_totals old new sent is = record {
  kept = ap (λ l. l.kept) is;
  outstanding = λ i. ap (λ l. balance_in l (Outstanding i)) is;
  paid = λ c. ap (λ l. balance_in l (Paid c)) is;
}

pub totals_of_same : (old new : Listed) → SameTotals old new → TotalsAreKept old → TotalsAreKept new
totals_of_same old new same totals = record {
  securities = λ i. rw (same.kept, same.outstanding i) (totals.securities i);
  currencies = λ c. rw (same.kept, same.paid c) (totals.currencies c);
}
