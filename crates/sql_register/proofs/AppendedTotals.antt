-- The table of totals says what is held, and what participants have, with one entry more.
use Rattle.std.proofs.Common.{◌≡◌, ℕ, ◌+◌, ◌-◌, ◌<◌, ◌≤◌, Bool, true, false, cond, List, [], ◌∷◌, ◌++◌, Option, Some, None, unwrap_or, refl, ap, sym, ◌∙◌, subst, arith}
use Rattle.std.specs.Prelude.{◌||◌, is_some, if◌then◌else◌}
use Rattle.std.specs.List.{list_any}
use Rattle.std.proofs.lemmas.List.Folds.{list_any-append}
use Rattle.std.proofs.lemmas.List.Sums.{sum_by_push}
use Rattle.sqlite.specs.Effect.{Database}
use Rattle.desk_codes.specs.declared.currency.Ccy.{Ccy}
use Rattle.desk_rules.specs.declared.history.entry.Entry.{Entry}
use Rattle.desk_rules.specs.declared.history.entry.Entry.TheVariants.{Participant, Account, Security, Issue, Redeem, PayIn, PayOut, Instruct, Cancel, Run}
use Rattle.desk_rules.specs.declared.answers.reply.Reply.{Reply}
use Rattle.desk_rules.specs.Balances.{issued, issued_by, movement_of, paid_in, paid_in_by, paid_out, paid_out_by, payment_in, quantity_if, redeemed, redeemed_by, same_ccy}
use Rattle.desk_rules.specs.Content.{Content, history_of}
use Rattle.desk_rules.specs.Facts.{owner_of}
use Rattle.desk_rules.proofs.Conservation.{if_false, if_true}
use Rattle.desk_rules.proofs.Deciding.{same_ccy-true}
use Rattle.desk_register.specs.Changes.{BalancesAllow, appended}
use Rattle.desk_register.specs.Looked.{pays_in, IsPaid}
use Rattle.desk_register.specs.AddsUp.{AddsUp}
use Rattle.desk_register.proofs.AddsUpLemmas.{adds_up_more, longer}
use Rattle.desk_register.proofs.CaseLemmas.{by_bool}
use Rattle.sql_register.specs.Holds.{AreTotals, outstanding_in, paid_in_table}
use Rattle.desk_register.specs.RegisteredOnce.{AreRegisteredOnce}
use Rattle.desk_register.proofs.RegisteredLemmas.{IsFounded}

-- ---- the tables of totals

no_owner : {X : Type 0} (o : Option X) → is_some o ≡ false → o ≡ None
no_owner None e = refl
no_owner (Some x) e = absurd (cc)

pub adds_up : (db : Database) (content : Content) → AreTotals db content → AreRegisteredOnce (history_of content) → AddsUp content
adds_up db content totals registered = record {
  registered = registered;
  securities = λ isin. (let whole = totals.outstanding isin in let held = totals.held isin in omega arith);
  currencies = λ ccy. (let whole = totals.paid_sum ccy in let had = totals.held_cash ccy in omega arith);
  no_other_account = λ account isin none. totals.no_stranger account isin (no_owner (owner_of (history_of content) account) none);
  no_other_participant = totals.no_stranger_pays;
}

-- what is paid of a currency after an entry
abbrev pub paid_after : Entry → (Ccy → Option ℕ) → Ccy → Option ℕ
paid_after (PayIn p) paid c = if same_ccy p.ccy c then Some (unwrap_or (paid p.ccy) 0 + p.amount) else paid c
paid_after (PayOut p) paid c = if same_ccy p.ccy c then Some (unwrap_or (paid p.ccy) 0 - p.amount) else paid c
paid_after e paid c = paid c

-- The totals of these tables are those of others with an entry more.
pub record TotalsMore (old new : Database) (e : Entry) : Type 0 where
  pub outstanding : (isin : List ℕ) → outstanding_in new isin + redeemed_by (movement_of isin) e ≡ outstanding_in old isin + issued_by (movement_of isin) e
  pub paid : (ccy : Ccy) → paid_in_table new ccy ≡ paid_after e (paid_in_table old) ccy

some_paid : (h : List Entry) (c : Ccy) (o : Option ℕ) (amount : ℕ) → 0 < amount → amount ≤ unwrap_or o 0 → IsPaid h c o → list_any (pays_in c) h ≡ true
some_paid h c None amount some le is = absurd (omega arith)
some_paid h c (Some had) amount some le is = is.0

any_end : (b : Bool) → (b || false) ≡ b
any_end true = refl
any_end false = refl

pays_push : (h : List Entry) (e : Entry) (c : Ccy) → list_any (pays_in c) (h ++ e ∷ []) ≡ (list_any (pays_in c) h || pays_in c e)
pays_push h e c = list_any-append (pays_in c) h (e ∷ []) ∙ ap (λ z. list_any (pays_in c) h || z) (by_bool (pays_in c e) (λ t. rw t refl) (λ f. rw f refl))

or_true : (a b : Bool) → b ≡ true → (a || b) ≡ true
or_true true b e = refl
or_true false b e = e

still_true : (a b : Bool) → a ≡ true → (a || b) ≡ true
still_true a b e = rw e refl

-- what is paid out has been paid in
abbrev PaidAllows : Entry → (Ccy → Option ℕ) → Type 0
PaidAllows (PayOut p) paid = p.amount ≤ unwrap_or (paid p.ccy) 0
PaidAllows e paid = Unit {0}

module _ (h : List Entry) (c : Ccy) where
  -- what is paid is as before, where the entry pays nothing
  paid_same : (e : Entry) (o : Option ℕ) → pays_in c e ≡ false → paid_in_by (payment_in c) e ≡ 0 → paid_out_by (payment_in c) e ≡ 0 → IsPaid h c o → IsPaid (h ++ e ∷ []) c o
  paid_same e None pays more less is = pays_push h e c ∙ ap (λ b. list_any (pays_in c) h || b) pays ∙ any_end (list_any (pays_in c) h) ∙ is
  paid_same e (Some paid) pays more less is =
      let up = sum_by_push (paid_in_by (payment_in c)) h e in
      let down = sum_by_push (paid_out_by (payment_in c)) h e in
      let whole = is.1 in
      (pays_push h e c ∙ still_true _ _ is.0, omega arith)

  module _ (paid : Ccy → Option ℕ) (is : IsPaid h c (paid c)) (sum : paid_out h c + unwrap_or (paid c) 0 ≡ paid_in h c) where
    sum_same : (e : Entry) → paid_in_by (payment_in c) e ≡ 0 → paid_out_by (payment_in c) e ≡ 0 → paid_out (h ++ e ∷ []) c + unwrap_or (paid c) 0 ≡ paid_in (h ++ e ∷ []) c
    sum_same e more less =
        let up = sum_by_push (paid_in_by (payment_in c)) h e in
        let down = sum_by_push (paid_out_by (payment_in c)) h e in
        omega arith

    -- with what it pays, of this currency or of another
    abbrev ends : Entry → Option ℕ → Type 0
    ends e o = IsPaid (h ++ e ∷ []) c o × (paid_out (h ++ e ∷ []) c + unwrap_or o 0 ≡ paid_in (h ++ e ∷ []) c)

    pub paid_more : (e : Entry) → PaidAllows e paid → ends e (paid_after e paid c)
    paid_more (Participant reference bic) fits = (paid_same (Participant reference bic) (paid c) refl refl refl is, sum_same (Participant reference bic) refl refl)
    paid_more (Account reference bic account) fits = (paid_same (Account reference bic account) (paid c) refl refl refl is, sum_same (Account reference bic account) refl refl)
    paid_more (Security reference isin kind) fits = (paid_same (Security reference isin kind) (paid c) refl refl refl is, sum_same (Security reference isin kind) refl refl)
    paid_more (Issue movement) fits = (paid_same (Issue movement) (paid c) refl refl refl is, sum_same (Issue movement) refl refl)
    paid_more (Redeem movement) fits = (paid_same (Redeem movement) (paid c) refl refl refl is, sum_same (Redeem movement) refl refl)
    paid_more (PayIn p) fits = by_bool (same_ccy p.ccy c)
        (λ t.
        let had : unwrap_or (paid p.ccy) 0 ≡ unwrap_or (paid c) 0 = ap (λ z. unwrap_or (paid z) 0) (same_ccy-true p.ccy c t) in
        let up = sum_by_push (paid_in_by (payment_in c)) h (PayIn p) in
        let down = sum_by_push (paid_out_by (payment_in c)) h (PayIn p) in
        let share : quantity_if (same_ccy p.ccy c) p.amount ≡ p.amount = if_true (same_ccy p.ccy c) p.amount t in
        let whole : paid_out (h ++ PayIn p ∷ []) c + (unwrap_or (paid p.ccy) 0 + p.amount) ≡ paid_in (h ++ PayIn p ∷ []) c = omega arith in
        subst (ends (PayIn p)) (sym (ap (λ b. cond b (Some (unwrap_or (paid p.ccy) 0 + p.amount)) (paid c)) t)) ((pays_push h (PayIn p) c ∙ or_true _ _ t, whole), whole))
        (λ f.
        let nothing : quantity_if (same_ccy p.ccy c) p.amount ≡ 0 = if_false (same_ccy p.ccy c) p.amount f in
        subst (ends (PayIn p)) (sym (ap (λ b. cond b (Some (unwrap_or (paid p.ccy) 0 + p.amount)) (paid c)) f)) (paid_same (PayIn p) (paid c) f nothing refl is, sum_same (PayIn p) nothing refl))
    paid_more (PayOut p) fits = by_bool (same_ccy p.ccy c)
        (λ t.
        let had : unwrap_or (paid p.ccy) 0 ≡ unwrap_or (paid c) 0 = ap (λ z. unwrap_or (paid z) 0) (same_ccy-true p.ccy c t) in
        let up = sum_by_push (paid_in_by (payment_in c)) h (PayOut p) in
        let down = sum_by_push (paid_out_by (payment_in c)) h (PayOut p) in
        let share : quantity_if (same_ccy p.ccy c) p.amount ≡ p.amount = if_true (same_ccy p.ccy c) p.amount t in
        let whole : paid_out (h ++ PayOut p ∷ []) c + (unwrap_or (paid p.ccy) 0 - p.amount) ≡ paid_in (h ++ PayOut p ∷ []) c = omega (arith, fits) in
        let was : list_any (pays_in c) h ≡ true = some_paid h c (paid c) p.amount p.some (omega (arith, fits)) is in
        subst (ends (PayOut p)) (sym (ap (λ b. cond b (Some (unwrap_or (paid p.ccy) 0 - p.amount)) (paid c)) t)) ((pays_push h (PayOut p) c ∙ still_true _ _ was, whole), whole))
        (λ f.
        let nothing : quantity_if (same_ccy p.ccy c) p.amount ≡ 0 = if_false (same_ccy p.ccy c) p.amount f in
        subst (ends (PayOut p)) (sym (ap (λ b. cond b (Some (unwrap_or (paid p.ccy) 0 - p.amount)) (paid c)) f)) (paid_same (PayOut p) (paid c) refl refl nothing is, sum_same (PayOut p) refl nothing))
    paid_more (Instruct sender instruction) fits = (paid_same (Instruct sender instruction) (paid c) refl refl refl is, sum_same (Instruct sender instruction) refl refl)
    paid_more (Cancel sender order) fits = (paid_same (Cancel sender order) (paid c) refl refl refl is, sum_same (Cancel sender order) refl refl)
    paid_more (Run reference day rule) fits = (paid_same (Run reference day rule) (paid c) refl refl refl is, sum_same (Run reference day rule) refl refl)

paid_allows : (e : Entry) (content : Content) (paid : Ccy → Option ℕ) → BalancesAllow e content → ((c : Ccy) → paid_out (history_of content) c + unwrap_or (paid c) 0 ≡ paid_in (history_of content) c) → PaidAllows e paid
paid_allows (Participant reference bic) content paid fits sum = tt
paid_allows (Account reference bic account) content paid fits sum = tt
paid_allows (Security reference isin kind) content paid fits sum = tt
paid_allows (Issue movement) content paid fits sum = tt
paid_allows (Redeem movement) content paid fits sum = tt
paid_allows (PayIn payment) content paid fits sum = tt
paid_allows (PayOut p) content paid fits sum = let whole = sum p.ccy in let room = fits.1 in omega arith
paid_allows (Instruct sender instruction) content paid fits sum = tt
paid_allows (Cancel sender order) content paid fits sum = tt
paid_allows (Run reference day rule) content paid fits sum = tt

module _ (old new : Database) (content : Content) (totals : AreTotals old content) (registered : AreRegisteredOnce (history_of content)) (e : Entry) (reply : Reply) (founded : IsFounded (history_of content) e) (fits : BalancesAllow e content)
    (more : TotalsMore old new e)
  where
    abbrev now : Content
    now = appended e reply content

    up : AddsUp now
    up = adds_up_more content (adds_up old content totals registered) e reply founded fits

    outstanding : (isin : List ℕ) → redeemed (history_of now) isin + outstanding_in new isin ≡ issued (history_of now) isin
    outstanding isin =
        let longer_in = sum_by_push (issued_by (movement_of isin)) (history_of content) e in
        let longer_out = sum_by_push (redeemed_by (movement_of isin)) (history_of content) e in
        let was = totals.outstanding isin in
        let step = more.outstanding isin in
        subst (λ z. redeemed z isin + outstanding_in new isin ≡ issued z isin) (sym (longer content e reply)) (omega arith)

    paid : (c : Ccy) → IsPaid (history_of now) c (paid_in_table new c) × (paid_out (history_of now) c + unwrap_or (paid_in_table new c) 0 ≡ paid_in (history_of now) c)
    paid c =
        let ends = paid_more (history_of content) c (paid_in_table old) (totals.paid c) (totals.paid_sum c) e (paid_allows e content (paid_in_table old) fits totals.paid_sum) in
        subst (λ z. IsPaid z c (paid_in_table new c) × (paid_out z c + unwrap_or (paid_in_table new c) 0 ≡ paid_in z c)) (sym (longer content e reply))
        (subst (λ o. IsPaid (history_of content ++ e ∷ []) c o × (paid_out (history_of content ++ e ∷ []) c + unwrap_or o 0 ≡ paid_in (history_of content ++ e ∷ []) c)) (sym (more.paid c)) ends)

    pub registered_more : AreRegisteredOnce (history_of now)
    registered_more = up.registered

    pub totals_more : AreTotals new now
    totals_more = record {
      outstanding = outstanding;
      paid = λ c. (paid c).0;
      paid_sum = λ c. (paid c).1;
      held = λ isin. (let a = up.securities isin in let b = outstanding isin in omega arith);
      held_cash = λ c. (let a = up.currencies c in let b = (paid c).1 in omega arith);
      no_stranger = λ account isin none. up.no_other_account account isin (ap is_some none);
      no_stranger_pays = up.no_other_participant;
    }
