-- One entry more in the lists.
use Rattle.std.proofs.Common.{◌≡◌, ℕ, zero, suc, ◌+◌, ◌-◌, ◌<◌, ◌≤◌, Bool, true, false, eqb, List, [], ◌∷◌, ◌++◌, length, map, refl, ap, ◌∙◌, arith}
use Rattle.std.specs.Prelude.{Some, slice_get, slice_set, unwrap_or, ◌==◌, if◌then◌else◌, Result, Ok, Err, OnOk, bytes_eq, sum_by}
use Rattle.std.proofs.lemmas.Bool.Decides.{nat_tests}
use Rattle.std.proofs.lemmas.List.Sums.{sum_by-append}
use Rattle.std.proofs.lemmas.List.{map-append}
use Rattle.desk_rules.specs.declared.history.entry.Entry.{Entry}
use Rattle.desk_rules.specs.declared.history.entry.Entry.TheVariants.{Participant, Account, Security, Issue, Redeem, PayIn, PayOut, Instruct, Cancel, Run}
use Rattle.desk_rules.specs.declared.answers.reply.Kept.{Kept}
use Rattle.desk_rules.specs.declared.answers.reply.Reply.{Reply}
use Rattle.desk_rules.specs.declared.answers.reply.Sent.{Sent}
use Rattle.desk_rules.specs.declared.history.standing.Standing.{Standing}
use Rattle.desk_rules.specs.declared.history.standing.State.{State}
use Rattle.desk_codes.specs.declared.currency.Ccy.{Ccy}
use Rattle.desk_rules.specs.Balances.{issued, redeemed, issued_by, redeemed_by, movement_of, paid_in, paid_out, paid_in_by, paid_out_by, payment_in, same_ccy}
use Rattle.desk_rules.proofs.Deciding.{same_ccy-true}
use Rattle.memory_rows.specs.declared.balance_key.BalanceKey.{BalanceKey}
use Rattle.memory_rows.specs.declared.balance_key.BalanceKey.TheVariants.{Cash, Outstanding, Paid, Position}
use Rattle.desk_rules.specs.Content.{Content, history_of}
use Rattle.desk_register.specs.Changes.{BalancesAllow, appended, cash_after, positions_after, requests_noted, standing_at, standing_both, first_standing}
use Rattle.desk_rules.specs.Standing.{no_standing}
use Rattle.memory_rows.specs.Lists.{TotalsAreKept, Listed, balance_in, content_in, standing_in}
use Rattle.memory_rows.specs.Moves.{SameBooks, balances_after}
use Rattle.desk_register.proofs.CaseLemmas.{by_bool, same_bytes}

-- where entries stand, with one more at the end
standing_end : (standings : List Standing) (s : Standing) (n : ℕ)
    → unwrap_or (slice_get (standings ++ s ∷ []) n) no_standing ≡ (if n == length standings then s else unwrap_or (slice_get standings n) no_standing)
standing_end [] s zero = refl
standing_end [] s (suc n) = let other : eqb (suc n) 0 ≡ false = grind (arith, nat_tests) in rw other refl
standing_end (x ∷ standings) s zero = let other : eqb 0 (suc (length standings)) ≡ false = grind (arith, nat_tests) in rw other refl
standing_end (x ∷ standings) s (suc n) =
    by_bool (eqb n (length standings))
    (λ t. let same : eqb (suc n) (suc (length standings)) ≡ true = grind (arith, nat_tests) in rw same (rw t at (standing_end standings s n)))
    (λ f. let other : eqb (suc n) (suc (length standings)) ≡ false = grind (arith, nat_tests) in rw other (rw f at (standing_end standings s n)))

standing_more : (standings : List Standing) (s : Standing) (m n : ℕ) → m ≡ length standings + 1 → standing_in (standings ++ s ∷ []) n ≡ standing_at (standing_in standings) m s n
standing_more standings s m zero e = let other : eqb 0 m ≡ false = grind (arith, nat_tests) in rw other refl
standing_more standings s m (suc n) e =
    by_bool (eqb n (length standings))
    (λ t. let same : eqb (suc n) m ≡ true = grind (arith, nat_tests) in rw same (rw t at (standing_end standings s n)))
    (λ f. let other : eqb (suc n) m ≡ false = grind (arith, nat_tests) in rw other (rw f at (standing_end standings s n)))

pub content_by_parts : (r r' : List Kept) (s s' : ℕ → Standing) (b b' : BalanceKey → ℕ) (m m' : List Sent) → r ≡ r' → s ≡ s' → b ≡ b' → m ≡ m'
    → ◌≡◌ {A = Content} (record { register = r; standing = s; position = λ account isin. b (Position account isin); cash = λ bic ccy. b (Cash bic ccy); sent = m })
    (record { register = r'; standing = s'; position = λ account isin. b' (Position account isin); cash = λ bic ccy. b' (Cash bic ccy); sent = m' })
content_by_parts r r' s s' b b' m m' x y z w = λ k. record { register = x k; standing = y k; position = λ account isin. z k (Position account isin); cash = λ bic ccy. z k (Cash bic ccy); sent = w k }

-- what an entry moves, as the content has it
moved_content : (entry : Entry) (r : List Kept) (s : ℕ → Standing) (b : BalanceKey → ℕ) (m : List Sent)
    → ◌≡◌ {A = Content} (record { register = r; standing = s; position = λ account isin. balances_after entry b (Position account isin); cash = λ bic ccy. balances_after entry b (Cash bic ccy); sent = m })
    (record { register = r; standing = s; position = positions_after entry (λ account isin. b (Position account isin)); cash = cash_after entry (λ bic ccy. b (Cash bic ccy)); sent = m })
moved_content (Participant reference bic) r s b m = refl
moved_content (Account reference bic account) r s b m = refl
moved_content (Security reference isin kind) r s b m = refl
moved_content (Issue movement) r s b m = refl
moved_content (Redeem movement) r s b m = refl
moved_content (PayIn payment) r s b m = refl
moved_content (PayOut payment) r s b m = refl
moved_content (Instruct sender instruction) r s b m = refl
moved_content (Cancel sender order) r s b m = refl
moved_content (Run reference day rule) r s b m = refl

-- The content with one entry more, once its balances have moved and what it requests is noted.
pub appended_well : {T E : Type 0} (r : Result T E) (old noted new : Listed) (entry : Entry) (reply : Reply) → length noted.standings ≡ length noted.kept → noted.kept ≡ old.kept → noted.sent ≡ old.sent
    → standing_in noted.standings ≡ requests_noted (map (λ k. k.entry) old.kept) entry (standing_in old.standings) → balance_in noted ≡ balances_after entry (balance_in old)
    → OnOk r (new ≡ record noted { kept = noted.kept ++ record { entry = entry; reply = reply } ∷ []; standings = noted.standings ++ first_standing entry ∷ [] })
    → OnOk r (content_in new ≡ appended entry reply (content_in old))
appended_well (Err f) old noted new entry reply len kept sent stands moved is = is
appended_well (Ok x) old noted new entry reply len kept sent stands moved is =
    let size = ap length kept in
    ap content_in is
    ∙ content_by_parts _ _ _ _ _ _ _ _
    (ap (λ z. z ++ record { entry = entry; reply = reply } ∷ []) kept)
    ((λ k n. standing_more noted.standings (first_standing entry) (length old.kept + 1) n (omega arith) k) ∙ ap (λ st. standing_at st (length old.kept + 1) (first_standing entry)) stands)
    moved
    sent
    ∙ moved_content entry _ _ (balance_in old) old.sent

-- The totals stay those of the entries.

module _ {K : Type 0} (total : K → ℕ) (same : K → K → Bool) (decides : (a b : K) → same a b ≡ true → a ≡ b) (key k : K) (q r n : ℕ) (is : r + total k ≡ n) where
  total_more : (r + 0) + (if same key k then total key + q else total k) ≡ n + (if same key k then q else 0)
  total_more =
      by_bool (same key k)
      (λ t. let one = ap total (decides key k t) in rw t (omega arith))
      (λ f. rw f (omega arith))

  total_less : q ≤ total key → (r + (if same key k then q else 0)) + (if same key k then total key - q else total k) ≡ n + 0
  total_less le =
      by_bool (same key k)
      (λ t. let one = ap total (decides key k t) in rw t (omega arith))
      (λ f. rw f (omega arith))

module _ (content : Content) (balance : BalanceKey → ℕ) where
  outstanding_more : (entry : Entry) → BalancesAllow entry content → ((i : List ℕ) → redeemed (history_of content) i + balance (Outstanding i) ≡ issued (history_of content) i)
      → (i : List ℕ) → (redeemed (history_of content) i + redeemed_by (movement_of i) entry) + balances_after entry balance (Outstanding i) ≡ issued (history_of content) i + issued_by (movement_of i) entry
  outstanding_more (Participant reference bic) fits each i = omega (arith, each i)
  outstanding_more (Account reference bic account) fits each i = omega (arith, each i)
  outstanding_more (Security reference isin kind) fits each i = omega (arith, each i)
  outstanding_more (Issue movement) fits each i = total_more (λ z. balance (Outstanding z)) bytes_eq same_bytes movement.isin i movement.quantity _ _ (each i)
  outstanding_more (Redeem movement) fits each i =
      let room = fits.1 in
      let whole = each movement.isin in
      total_less (λ z. balance (Outstanding z)) bytes_eq same_bytes movement.isin i movement.quantity _ _ (each i) (omega arith)
  outstanding_more (PayIn payment) fits each i = omega (arith, each i)
  outstanding_more (PayOut payment) fits each i = omega (arith, each i)
  outstanding_more (Instruct sender instruction) fits each i = omega (arith, each i)
  outstanding_more (Cancel sender order) fits each i = omega (arith, each i)
  outstanding_more (Run reference day rule) fits each i = omega (arith, each i)

  paid_more : (entry : Entry) → BalancesAllow entry content → ((c : Ccy) → paid_out (history_of content) c + balance (Paid c) ≡ paid_in (history_of content) c)
      → (c : Ccy) → (paid_out (history_of content) c + paid_out_by (payment_in c) entry) + balances_after entry balance (Paid c) ≡ paid_in (history_of content) c + paid_in_by (payment_in c) entry
  paid_more (Participant reference bic) fits each c = omega (arith, each c)
  paid_more (Account reference bic account) fits each c = omega (arith, each c)
  paid_more (Security reference isin kind) fits each c = omega (arith, each c)
  paid_more (Issue movement) fits each c = omega (arith, each c)
  paid_more (Redeem movement) fits each c = omega (arith, each c)
  paid_more (PayIn payment) fits each c = total_more (λ z. balance (Paid z)) same_ccy same_ccy-true payment.ccy c payment.amount _ _ (each c)
  paid_more (PayOut payment) fits each c =
      let room = fits.1 in
      let whole = each payment.ccy in
      total_less (λ z. balance (Paid z)) same_ccy same_ccy-true payment.ccy c payment.amount _ _ (each c) (omega arith)
  paid_more (Instruct sender instruction) fits each c = omega (arith, each c)
  paid_more (Cancel sender order) fits each c = omega (arith, each c)
  paid_more (Run reference day rule) fits each c = omega (arith, each c)

sum_push : (f : Entry → ℕ) (kept : List Kept) (k : Kept) → sum_by f (map (λ k. k.entry) (kept ++ k ∷ [])) ≡ sum_by f (map (λ k. k.entry) kept) + f k.entry
sum_push f kept k = ap (sum_by f) (map-append (λ k. k.entry) kept (k ∷ [])) ∙ sum_by-append f (map (λ k. k.entry) kept) (k.entry ∷ []) ∙ omega arith

pub totals_well : {T E : Type 0} (r : Result T E) (old noted new : Listed) (entry : Entry) (reply : Reply) → TotalsAreKept old → BalancesAllow entry (content_in old)
    → noted.kept ≡ old.kept → balance_in noted ≡ balances_after entry (balance_in old)
    → OnOk r (new ≡ record noted { kept = noted.kept ++ record { entry = entry; reply = reply } ∷ []; standings = noted.standings ++ first_standing entry ∷ [] })
    → OnOk r (TotalsAreKept new)
totals_well (Err f) old noted new entry reply totals fits same moved is = is
totals_well (Ok x) old noted new entry reply totals fits same moved is =
    let one : Kept = record { entry = entry; reply = reply } in
    let kept : new.kept ≡ old.kept ++ one ∷ [] = ap (λ l. l.kept) is ∙ ap (λ z. z ++ one ∷ []) same in
    let balances : balance_in new ≡ balances_after entry (balance_in old) = ap balance_in is ∙ moved in
    record {
      securities = λ i.
          let whole : balance_in new (Outstanding i) ≡ balances_after entry (balance_in old) (Outstanding i) = ap (λ b. b (Outstanding i)) balances in
          rw (kept, whole, sum_push (redeemed_by (movement_of i)) old.kept one, sum_push (issued_by (movement_of i)) old.kept one) (outstanding_more (content_in old) (balance_in old) entry fits totals.securities i);
      currencies = λ c.
          let whole : balance_in new (Paid c) ≡ balances_after entry (balance_in old) (Paid c) = ap (λ b. b (Paid c)) balances in
          rw (kept, whole, sum_push (paid_out_by (payment_in c)) old.kept one, sum_push (paid_in_by (payment_in c)) old.kept one) (paid_more (content_in old) (balance_in old) entry fits totals.currencies c);
    }

-- Where entries stand, one of them changed.

standing_put_at : (standings : List Standing) (s : Standing) (i n : ℕ) → i < length standings
    → unwrap_or (slice_get (slice_set standings i s) n) no_standing ≡ (if n == i then s else unwrap_or (slice_get standings n) no_standing)
standing_put_at [] s i n lt = absurd (omega arith)
standing_put_at (x ∷ standings) s zero zero lt = refl
standing_put_at (x ∷ standings) s zero (suc n) lt = let other : eqb (suc n) 0 ≡ false = grind (arith, nat_tests) in rw other refl
standing_put_at (x ∷ standings) s (suc i) zero lt = let other : eqb 0 (suc i) ≡ false = grind (arith, nat_tests) in rw other refl
standing_put_at (x ∷ standings) s (suc i) (suc n) lt =
    by_bool (eqb n i)
    (λ t. let same : eqb (suc n) (suc i) ≡ true = grind (arith, nat_tests) in rw same (rw t at (standing_put_at standings s i n (omega arith))))
    (λ f. let other : eqb (suc n) (suc i) ≡ false = grind (arith, nat_tests) in rw other (rw f at (standing_put_at standings s i n (omega arith))))

standing_put : (standings : List Standing) (s : Standing) (m n : ℕ) → 0 < m → m ≤ length standings → standing_in (slice_set standings (m - 1) s) n ≡ standing_at (standing_in standings) m s n
standing_put standings s m zero some within = let other : eqb 0 m ≡ false = grind (arith, nat_tests) in rw other refl
standing_put standings s m (suc n) some within =
    by_bool (eqb n (m - 1))
    (λ t. let same : eqb (suc n) m ≡ true = grind (arith, nat_tests) in rw same (rw t at (standing_put_at standings s (m - 1) n (omega arith))))
    (λ f. let other : eqb (suc n) m ≡ false = grind (arith, nat_tests) in rw other (rw f at (standing_put_at standings s (m - 1) n (omega arith))))

pub stands_well : {T E : Type 0} (r : Result T E) (old new : Listed) (m : ℕ) (s : Standing) → 0 < m → m ≤ length old.standings
    → OnOk r (new ≡ record old { standings = slice_set old.standings (m - 1) s }) → OnOk r (standing_in new.standings ≡ standing_at (standing_in old.standings) m s)
stands_well (Err f) old new m s some within is = is
stands_well (Ok x) old new m s some within is = ap (λ l. standing_in l.standings) is ∙ (λ k n. standing_put old.standings s m n some within k)

-- only where entries stand has changed
pub same_balances : (old new : Listed) → SameBooks old new → balance_in new ≡ balance_in old
same_balances old new rest = λ k key. unwrap_or (rest.balances k key) 0

pub stood_content : (old new : Listed) (standing : ℕ → Standing) → SameBooks old new → standing_in new.standings ≡ standing → content_in new ≡ record (content_in old) { standing = standing }
stood_content old new standing rest is = content_by_parts _ _ _ _ _ _ _ _ rest.kept is (same_balances old new rest) rest.sent

pub stood_well : {T E : Type 0} (r : Result T E) (old new : Listed) (standing : ℕ → Standing) → SameBooks old new
    → OnOk r (standing_in new.standings ≡ standing) → OnOk r (content_in new ≡ record (content_in old) { standing = standing })
stood_well (Err f) old new standing rest is = is
stood_well (Ok x) old new standing rest is = stood_content old new standing rest is

-- where two entries stand, each changed from how it stood
pub both_well : {T E : Type 0} (r : Result T E) (s s1 s2 : ℕ → Standing) (m n : ℕ) (state : State) (a b : Standing) → a ≡ s m → b ≡ s n
    → s1 ≡ standing_at s m (record a { mate = Some n; state = state }) → OnOk r (s2 ≡ standing_at s1 n (record b { mate = Some m; state = state })) → OnOk r (s2 ≡ standing_both s m n state)
both_well (Err f) s s1 s2 m n state a b first second one two = two
both_well (Ok x) s s1 s2 m n state a b first second one two =
    two
    ∙ ap (λ z. standing_at z n (record b { mate = Some m; state = state })) one
    ∙ ap (λ (z : Standing). standing_at (standing_at s m (record z { mate = Some n; state = state })) n (record b { mate = Some m; state = state })) first
    ∙ ap (λ (z : Standing). standing_at (standing_at s m (record (s m) { mate = Some n; state = state })) n (record z { mate = Some m; state = state })) second
