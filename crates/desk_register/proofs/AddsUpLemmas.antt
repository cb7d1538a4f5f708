-- What is held, and what participants have, adds up with one entry more.
use Rattle.std.proofs.Common.{◌≡◌, ℕ, ◌+◌, ◌-◌, ◌≤◌, Bool, true, false, List, [], ◌∷◌, ◌++◌, refl, ap, sym, ◌∙◌, subst, arith, append-nil}
use Rattle.std.specs.Prelude.{bytes_eq, sum_by}
use Rattle.std.proofs.lemmas.Bool.{both_ways}
use Rattle.std.proofs.lemmas.List.{map-append}
use Rattle.std.proofs.lemmas.List.Sums.{sum_by_push}
use Rattle.desk_codes.specs.declared.currency.Ccy.{Ccy}
use Rattle.desk_rules.specs.declared.history.entry.Entry.{Entry}
use Rattle.desk_rules.specs.declared.history.entry.Entry.TheVariants.{Participant, Account, Security, Issue, Redeem, PayIn, PayOut, Instruct, Cancel, Run}
use Rattle.desk_rules.specs.declared.answers.reply.Kept.{Kept}
use Rattle.desk_rules.specs.declared.answers.reply.Reply.{Reply}
use Rattle.desk_rules.specs.Balances.{issued, issued_by, movement_of, paid_in, paid_in_by, paid_out, paid_out_by, payment_in, quantity_if, redeemed, redeemed_by, same_ccy}
use Rattle.desk_rules.specs.Content.{CashBalances, Content, Positions, history_of}
use Rattle.desk_rules.specs.Facts.{accounts_of, is_participant, participants_of}
use Rattle.desk_rules.proofs.Deciding.{same_ccy-true}
use Rattle.desk_register.specs.AddsUp.{AddsUp}
use Rattle.desk_register.specs.Changes.{BalancesAllow, appended, cash_after, cash_at, moved_to, positions_after}
use Rattle.desk_register.proofs.CaseLemmas.{by_bool, same_bytes}
use Rattle.desk_register.specs.RegisteredOnce.{AreRegisteredOnce, is_account, times_in}
use Rattle.desk_register.proofs.OnceLemmas.{less_at, more_at, sum_with_less, sum_with_more}
use Rattle.desk_register.proofs.RegisteredLemmas.{IsFounded, account_push, accounts_push, not_before, once_more, participant_push, participants_push}

-- One balance changed, at each account and at each participant.

module _ (position : Positions) (account isin a i : List ℕ) (q : ℕ) where
  pub put_more : moved_to position account isin (position account isin + q) a i ≡ position a i + quantity_if (bytes_eq account a) (quantity_if (bytes_eq isin i) q)
  put_more = more_at (position a i) (position account isin + q) q (bytes_eq account a) (bytes_eq isin i)
      (λ x y. let same : position account isin ≡ position a i = (λ k. position (same_bytes account a x k) (same_bytes isin i y k)) in omega arith)

  pub put_less : q ≤ position account isin → moved_to position account isin (position account isin - q) a i + quantity_if (bytes_eq account a) (quantity_if (bytes_eq isin i) q) ≡ position a i
  put_less le = less_at (position a i) (position account isin - q) q (bytes_eq account a) (bytes_eq isin i)
      (λ x y. let same : position account isin ≡ position a i = (λ k. position (same_bytes account a x k) (same_bytes isin i y k)) in omega arith)

module _ (cash : CashBalances) (bic : List ℕ) (ccy : Ccy) (b : List ℕ) (c : Ccy) (q : ℕ) where
  pub pay_more : cash_at cash bic ccy (cash bic ccy + q) b c ≡ cash b c + quantity_if (bytes_eq bic b) (quantity_if (same_ccy ccy c) q)
  pay_more = more_at (cash b c) (cash bic ccy + q) q (bytes_eq bic b) (same_ccy ccy c)
      (λ x y. let same : cash bic ccy ≡ cash b c = (λ k. cash (same_bytes bic b x k) (same_ccy-true ccy c y k)) in omega arith)

  pub pay_less : q ≤ cash bic ccy → cash_at cash bic ccy (cash bic ccy - q) b c + quantity_if (bytes_eq bic b) (quantity_if (same_ccy ccy c) q) ≡ cash b c
  pay_less le = less_at (cash b c) (cash bic ccy - q) q (bytes_eq bic b) (same_ccy ccy c)
      (λ x y. let same : cash bic ccy ≡ cash b c = (λ k. cash (same_bytes bic b x k) (same_ccy-true ccy c y k)) in omega arith)

-- what stands elsewhere stays
pub elsewhere : (account a isin i : List ℕ) (position : Positions) (new : ℕ) → bytes_eq account a ≡ false → moved_to position account isin new a i ≡ position a i
elsewhere account a isin i position new f = rw f refl

pub cash_elsewhere : (bic b : List ℕ) (ccy c : Ccy) (cash : CashBalances) (new : ℕ) → bytes_eq bic b ≡ false → cash_at cash bic ccy new b c ≡ cash b c
cash_elsewhere bic b ccy c cash new f = rw f refl

-- one that is registered is no other that is not
pub apart : (is : List ℕ → Bool) (x y : List ℕ) → is x ≡ true → is y ≡ false → bytes_eq x y ≡ false
apart is x y there none = by_bool (bytes_eq x y) (λ t. absurd (both_ways (is x) (ap is (same_bytes x y t) ∙ none) there)) (λ f. f)

-- what stands once, where it is registered
pub one_of : (is : List ℕ → Bool) (xs : List (List ℕ)) → ((x : List ℕ) → times_in xs x ≡ quantity_if (is x) 1) → (x : List ℕ) → is x ≡ true → times_in xs x ≡ 1
one_of is xs each x there = each x ∙ rw there refl

-- One entry more.

pub longer : (content : Content) (e : Entry) (reply : Reply) → history_of (appended e reply content) ≡ history_of content ++ e ∷ []
longer content e reply = map-append (λ (k : Kept). k.entry) content.register (record { entry = e; reply = reply } ∷ [])

module _ (content : Content) (sums : AddsUp content) where
  abbrev h : List Entry
  h = history_of content

  no_account_more : (e : Entry) → IsFounded h e → (a i : List ℕ) → is_account (h ++ e ∷ []) a ≡ false → positions_after e content.position a i ≡ 0
  no_account_more e new a i none = still e new (not_before (is_account h a) _ (sym (account_push h e a) ∙ none))
    where
      still : (e : Entry) → IsFounded h e → is_account h a ≡ false → positions_after e content.position a i ≡ 0
      still (Participant reference bic) new f = sums.no_other_account a i f
      still (Account reference bic account) new f = sums.no_other_account a i f
      still (Security reference isin kind) new f = sums.no_other_account a i f
      still (Issue m) new f = elsewhere m.account a m.isin i content.position _ (apart (is_account h) m.account a new f) ∙ sums.no_other_account a i f
      still (Redeem m) new f = elsewhere m.account a m.isin i content.position _ (apart (is_account h) m.account a new f) ∙ sums.no_other_account a i f
      still (PayIn payment) new f = sums.no_other_account a i f
      still (PayOut payment) new f = sums.no_other_account a i f
      still (Instruct sender instruction) new f = sums.no_other_account a i f
      still (Cancel sender order) new f = sums.no_other_account a i f
      still (Run reference day rule) new f = sums.no_other_account a i f

  no_participant_more : (e : Entry) → IsFounded h e → (b : List ℕ) (c : Ccy) → is_participant (h ++ e ∷ []) b ≡ false → cash_after e content.cash b c ≡ 0
  no_participant_more e new b c none = still e new (not_before (is_participant h b) _ (sym (participant_push h e b) ∙ none))
    where
      still : (e : Entry) → IsFounded h e → is_participant h b ≡ false → cash_after e content.cash b c ≡ 0
      still (Participant reference bic) new f = sums.no_other_participant b c f
      still (Account reference bic account) new f = sums.no_other_participant b c f
      still (Security reference isin kind) new f = sums.no_other_participant b c f
      still (Issue movement) new f = sums.no_other_participant b c f
      still (Redeem movement) new f = sums.no_other_participant b c f
      still (PayIn p) new f = cash_elsewhere p.bic b p.ccy c content.cash _ (apart (is_participant h) p.bic b new f) ∙ sums.no_other_participant b c f
      still (PayOut p) new f = cash_elsewhere p.bic b p.ccy c content.cash _ (apart (is_participant h) p.bic b new f) ∙ sums.no_other_participant b c f
      still (Instruct sender instruction) new f = sums.no_other_participant b c f
      still (Cancel sender order) new f = sums.no_other_participant b c f
      still (Run reference day rule) new f = sums.no_other_participant b c f

  -- the sum over the accounts, where none is new
  same_accounts : (e : Entry) (f : List ℕ → ℕ) → accounts_of (e ∷ []) ≡ [] → sum_by f (accounts_of (h ++ e ∷ [])) ≡ sum_by f (accounts_of h)
  same_accounts e f none = ap (sum_by f) (accounts_push h e ∙ ap (λ z. accounts_of h ++ z) none ∙ append-nil (accounts_of h))

  same_participants : (e : Entry) (f : List ℕ → ℕ) → participants_of (e ∷ []) ≡ [] → sum_by f (participants_of (h ++ e ∷ [])) ≡ sum_by f (participants_of h)
  same_participants e f none = ap (sum_by f) (participants_push h e ∙ ap (λ z. participants_of h ++ z) none ∙ append-nil (participants_of h))

  -- nothing is held but what was held
  held_same : (e : Entry) (i : List ℕ) → accounts_of (e ∷ []) ≡ []
      → (redeemed h i + 0) + sum_by (λ a. content.position a i) (accounts_of (h ++ e ∷ [])) ≡ issued h i + 0
  held_same e i none = let same = same_accounts e (λ a. content.position a i) none in let whole = sums.securities i in omega arith

  held_more : (e : Entry) → IsFounded h e → BalancesAllow e content → (i : List ℕ)
      → (redeemed h i + redeemed_by (movement_of i) e) + sum_by (λ a. positions_after e content.position a i) (accounts_of (h ++ e ∷ [])) ≡ issued h i + issued_by (movement_of i) e
  held_more (Participant reference bic) new fits i = held_same (Participant reference bic) i refl
  held_more (Account reference bic account) new fits i =
      let f : List ℕ → ℕ = λ a. content.position a i in
      let listed : sum_by f (accounts_of (h ++ Account reference bic account ∷ [])) ≡ sum_by f (accounts_of h ++ account ∷ []) = ap (sum_by f) (accounts_push h (Account reference bic account)) in
      let push = sum_by_push f (accounts_of h) account in
      let nothing : f account ≡ 0 = sums.no_other_account account i new in
      let whole = sums.securities i in
      omega arith
  held_more (Security reference isin kind) new fits i = held_same (Security reference isin kind) i refl
  held_more (Issue m) new fits i =
      let f : List ℕ → ℕ = λ a. content.position a i in
      let g : List ℕ → ℕ = λ a. moved_to content.position m.account m.isin (content.position m.account m.isin + m.quantity) a i in
      let same = same_accounts (Issue m) g refl in
      let more = sum_with_more (accounts_of h) m.account (movement_of i m) f g (one_of (is_account h) (accounts_of h) sums.registered.accounts m.account new) (λ a. put_more content.position m.account m.isin a i m.quantity) in
      let whole = sums.securities i in
      omega arith
  held_more (Redeem m) new fits i =
      let f : List ℕ → ℕ = λ a. content.position a i in
      let g : List ℕ → ℕ = λ a. moved_to content.position m.account m.isin (content.position m.account m.isin - m.quantity) a i in
      let same = same_accounts (Redeem m) g refl in
      let less = sum_with_less (accounts_of h) m.account (movement_of i m) f g (one_of (is_account h) (accounts_of h) sums.registered.accounts m.account new) (λ a. put_less content.position m.account m.isin a i m.quantity fits.0) in
      let whole = sums.securities i in
      omega arith
  held_more (PayIn payment) new fits i = held_same (PayIn payment) i refl
  held_more (PayOut payment) new fits i = held_same (PayOut payment) i refl
  held_more (Instruct sender instruction) new fits i = held_same (Instruct sender instruction) i refl
  held_more (Cancel sender order) new fits i = held_same (Cancel sender order) i refl
  held_more (Run reference day rule) new fits i = held_same (Run reference day rule) i refl

  had_same : (e : Entry) (c : Ccy) → participants_of (e ∷ []) ≡ []
      → (paid_out h c + 0) + sum_by (λ b. content.cash b c) (participants_of (h ++ e ∷ [])) ≡ paid_in h c + 0
  had_same e c none = let same = same_participants e (λ b. content.cash b c) none in let whole = sums.currencies c in omega arith

  had_more : (e : Entry) → IsFounded h e → BalancesAllow e content → (c : Ccy)
      → (paid_out h c + paid_out_by (payment_in c) e) + sum_by (λ b. cash_after e content.cash b c) (participants_of (h ++ e ∷ [])) ≡ paid_in h c + paid_in_by (payment_in c) e
  had_more (Participant reference bic) new fits c =
      let f : List ℕ → ℕ = λ b. content.cash b c in
      let listed : sum_by f (participants_of (h ++ Participant reference bic ∷ [])) ≡ sum_by f (participants_of h ++ bic ∷ []) = ap (sum_by f) (participants_push h (Participant reference bic)) in
      let push = sum_by_push f (participants_of h) bic in
      let nothing : f bic ≡ 0 = sums.no_other_participant bic c new in
      let whole = sums.currencies c in
      omega arith
  had_more (Account reference bic account) new fits c = had_same (Account reference bic account) c refl
  had_more (Security reference isin kind) new fits c = had_same (Security reference isin kind) c refl
  had_more (Issue movement) new fits c = had_same (Issue movement) c refl
  had_more (Redeem movement) new fits c = had_same (Redeem movement) c refl
  had_more (PayIn p) new fits c =
      let f : List ℕ → ℕ = λ b. content.cash b c in
      let g : List ℕ → ℕ = λ b. cash_at content.cash p.bic p.ccy (content.cash p.bic p.ccy + p.amount) b c in
      let same = same_participants (PayIn p) g refl in
      let more = sum_with_more (participants_of h) p.bic (payment_in c p) f g (one_of (is_participant h) (participants_of h) sums.registered.participants p.bic new) (λ b. pay_more content.cash p.bic p.ccy b c p.amount) in
      let whole = sums.currencies c in
      omega arith
  had_more (PayOut p) new fits c =
      let f : List ℕ → ℕ = λ b. content.cash b c in
      let g : List ℕ → ℕ = λ b. cash_at content.cash p.bic p.ccy (content.cash p.bic p.ccy - p.amount) b c in
      let same = same_participants (PayOut p) g refl in
      let less = sum_with_less (participants_of h) p.bic (payment_in c p) f g (one_of (is_participant h) (participants_of h) sums.registered.participants p.bic new) (λ b. pay_less content.cash p.bic p.ccy b c p.amount fits.0) in
      let whole = sums.currencies c in
      omega arith
  had_more (Instruct sender instruction) new fits c = had_same (Instruct sender instruction) c refl
  had_more (Cancel sender order) new fits c = had_same (Cancel sender order) c refl
  had_more (Run reference day rule) new fits c = had_same (Run reference day rule) c refl

  module _ (e : Entry) (reply : Reply) (new : IsFounded h e) (fits : BalancesAllow e content) where
    pub adds_up_more : AddsUp (appended e reply content)
    adds_up_more = record {
      registered = subst AreRegisteredOnce (sym (longer content e reply)) (once_more h e new sums.registered);
      securities = λ i.
          let more = sum_by_push (issued_by (movement_of i)) h e in
          let less = sum_by_push (redeemed_by (movement_of i)) h e in
          let step = held_more e new fits i in
          subst (λ z. redeemed z i + sum_by (λ a. positions_after e content.position a i) (accounts_of z) ≡ issued z i) (sym (longer content e reply)) (omega arith);
      currencies = λ c.
          let more = sum_by_push (paid_in_by (payment_in c)) h e in
          let less = sum_by_push (paid_out_by (payment_in c)) h e in
          let step = had_more e new fits c in
          subst (λ z. paid_out z c + sum_by (λ b. cash_after e content.cash b c) (participants_of z) ≡ paid_in z c) (sym (longer content e reply)) (omega arith);
      no_other_account = λ a i. subst (λ z. is_account z a ≡ false → positions_after e content.position a i ≡ 0) (sym (longer content e reply)) (no_account_more e new a i);
      no_other_participant = λ b c. subst (λ z. is_participant z b ≡ false → cash_after e content.cash b c ≡ 0) (sym (longer content e reply)) (no_participant_more e new b c);
    }
