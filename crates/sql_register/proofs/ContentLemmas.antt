-- Parts of a content, by the trees that they depend on.
use Rattle.std.proofs.Common.{◌≡◌, sym, ap, subst, ◌∙◌, ℕ, ◌+◌, List, map, unwrap_or, codes, sum_by, false, None}
use Rattle.sqlite.specs.Effect.{Database}
use Rattle.sql_rows.specs.declared.amounts.key.Ledger.TheVariants.{Balance, Cash, Total}
use Rattle.sql_rows.proofs.AmountLemmas.{SameAmounts, same_recorded}
use Rattle.desk_codes.specs.Currency.{letters_of}
use Rattle.desk_codes.specs.declared.currency.Ccy.{Ccy}
use Rattle.desk_rules.specs.Balances.{issued, paid_in, paid_out, redeemed}
use Rattle.desk_rules.specs.Content.{CashBalances, Content, Positions, history_of}
use Rattle.desk_rules.specs.declared.answers.reply.Kept.{Kept}
use Rattle.desk_rules.specs.declared.history.standing.Standing.{Standing}
use Rattle.desk_rules.specs.Facts.{accounts_of, is_participant, owner_of, participants_of}
use Rattle.desk_register.specs.Looked.{IsPaid, held_cash_of, held_of}
use Rattle.desk_rules.specs.declared.answers.reply.Sent.{Sent}
use Rattle.sql_register.specs.Content.{content_in}
use Rattle.sql_register.specs.Holds.{AreTotals, outstanding_in, paid_in_table}

-- ---- parts of a content by the trees that they depend on

pub same_totals : (old new : Database) → new.trees 0 ≡ old.trees 0 → new.trees 2 ≡ old.trees 2 → new.trees 4 ≡ old.trees 4 → SameAmounts old new
same_totals old new e0 e2 e4 = record { balance = sym e0; cash = sym e2; total = sym e4 }

pub same_outstanding : (old new : Database) → SameAmounts old new → (isin : List ℕ) → outstanding_in new isin ≡ outstanding_in old isin
same_outstanding old new same isin = ap (λ a. unwrap_or a 0) (same_recorded old new same Total (codes "security") isin)

pub same_paid : (old new : Database) → SameAmounts old new → (ccy : Ccy) → paid_in_table new ccy ≡ paid_in_table old ccy
same_paid old new same ccy = same_recorded old new same Total (codes "currency") (letters_of ccy)

-- the totals of a content are kept by tables of the same amounts
pub same_total_parts : (old new : Database) → SameAmounts old new → (content : Content) → AreTotals old content → AreTotals new content
same_total_parts old new same content totals = record {
  outstanding = λ isin. ap (λ n. redeemed (history_of content) isin + n) (same_outstanding old new same isin) ∙ totals.outstanding isin;
  paid = λ ccy. subst (IsPaid (history_of content) ccy) (sym (same_paid old new same ccy)) (totals.paid ccy);
  paid_sum = λ ccy. ap (λ a. paid_out (history_of content) ccy + unwrap_or a 0) (same_paid old new same ccy) ∙ totals.paid_sum ccy;
  held = λ isin. totals.held isin ∙ sym (same_outstanding old new same isin);
  held_cash = λ ccy. totals.held_cash ccy ∙ ap (λ a. unwrap_or a 0) (sym (same_paid old new same ccy));
  no_stranger = totals.no_stranger;
  no_stranger_pays = totals.no_stranger_pays;
}

-- the totals are of the entries and the balances
pub same_sums : (db : Database) (a b : Content) → a.register ≡ b.register → a.position ≡ b.position → a.cash ≡ b.cash → AreTotals db a → AreTotals db b
same_sums db a b register position cash totals = record {
  outstanding = λ isin. subst (λ (r : List Kept). redeemed (map (λ kept. kept.entry) r) isin + outstanding_in db isin ≡ issued (map (λ kept. kept.entry) r) isin) register (totals.outstanding isin);
  paid = λ ccy. subst (λ (r : List Kept). IsPaid (map (λ kept. kept.entry) r) ccy (paid_in_table db ccy)) register (totals.paid ccy);
  paid_sum = λ ccy. subst (λ (r : List Kept). paid_out (map (λ kept. kept.entry) r) ccy + unwrap_or (paid_in_table db ccy) 0 ≡ paid_in (map (λ kept. kept.entry) r) ccy) register (totals.paid_sum ccy);
  held = λ isin. held register position isin;
  held_cash = λ ccy. had register cash ccy;
  no_stranger = λ account isin none. stranger register position account isin none;
  no_stranger_pays = λ bic ccy none. payer register cash bic ccy none;
}
  where
    held : a.register ≡ b.register → a.position ≡ b.position → (isin : List ℕ) → held_of b isin ≡ outstanding_in db isin
    held r p isin = sym (ap (λ (x : List Kept). sum_by (λ account. a.position account isin) (accounts_of (map (λ kept. kept.entry) x))) r ∙ ap (λ (q : Positions). sum_by (λ account. q account isin) (accounts_of (history_of b))) p) ∙ totals.held isin

    had : a.register ≡ b.register → a.cash ≡ b.cash → (ccy : Ccy) → held_cash_of b ccy ≡ unwrap_or (paid_in_table db ccy) 0
    had r c ccy = sym (ap (λ (x : List Kept). sum_by (λ bic. a.cash bic ccy) (participants_of (map (λ kept. kept.entry) x))) r ∙ ap (λ (q : CashBalances). sum_by (λ bic. q bic ccy) (participants_of (history_of b))) c) ∙ totals.held_cash ccy

    stranger : a.register ≡ b.register → a.position ≡ b.position → (account isin : List ℕ) → owner_of (history_of b) account ≡ None → b.position account isin ≡ 0
    stranger r p account isin none = ap (λ (q : Positions). q account isin) (sym p) ∙ totals.no_stranger account isin (ap (λ (x : List Kept). owner_of (map (λ kept. kept.entry) x) account) r ∙ none)

    payer : a.register ≡ b.register → a.cash ≡ b.cash → (bic : List ℕ) (ccy : Ccy) → is_participant (history_of b) bic ≡ false → b.cash bic ccy ≡ 0
    payer r c bic ccy none = ap (λ (q : CashBalances). q bic ccy) (sym c) ∙ totals.no_stranger_pays bic ccy (ap (λ (x : List Kept). is_participant (map (λ kept. kept.entry) x) bic) r ∙ none)

-- contents are the same by their parts
pub by_parts : (r r' : List Kept) (s s' : ℕ → Standing) (p p' : Positions) (c c' : CashBalances) (m m' : List Sent) → r ≡ r' → s ≡ s' → ((account isin : List ℕ) → p account isin ≡ p' account isin)
    → ((bic : List ℕ) (ccy : Ccy) → c bic ccy ≡ c' bic ccy) → m ≡ m'
    → ◌≡◌ {A = Content} (record { register = r; standing = s; position = p; cash = c; sent = m }) (record { register = r'; standing = s'; position = p'; cash = c'; sent = m' })
by_parts r r' s s' p p' c c' m m' x y z w v = λ k. record { register = x k; standing = y k; position = λ account isin. z account isin k; cash = λ bic ccy. w bic ccy k; sent = v k }

pub same_positions : (old new : Database) → SameAmounts old new → (account isin : List ℕ) → (content_in new).position account isin ≡ (content_in old).position account isin
same_positions old new same account isin = ap (λ a. unwrap_or a 0) (same_recorded old new same Balance account isin)

pub same_cash : (old new : Database) → SameAmounts old new → (bic : List ℕ) (ccy : Ccy) → (content_in new).cash bic ccy ≡ (content_in old).cash bic ccy
same_cash old new same bic ccy = ap (λ a. unwrap_or a 0) (same_recorded old new same Cash bic (letters_of ccy))
