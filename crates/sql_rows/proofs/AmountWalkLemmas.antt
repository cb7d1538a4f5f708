-- One step after another: what was found of the tables and of the register at a later step is so of the first.
use Rattle.std.proofs.Common.{◌≡◌, ◌⊎◌, inl, inr, ℕ, suc, ◌+◌, ◌<◌, ◌≤◌, List, [], ◌∷◌, get_or, length, All, Bool, Option, Some, None, is_some, true, false, not, IfSome, IfOk, IfErr, IsTrue, Result, Ok, Err, refl, sym, ap, subst, ◌∙◌, arith}
use Rattle.std.specs.List.{AllByRecursion}
use Rattle.std.specs.Prelude.{slice_get}
use Rattle.std.specs.Result.{IsErrAnd}
use Rattle.std.specs.Ordering.{nat_cmp, ordering_reverse, is_eq}
use Rattle.std.specs.Cmp.Lexicographic.{slice_cmp}
use Rattle.std.specs.declared.cmp.Ordering.{Ordering}
use Rattle.std.specs.declared.cmp.Ordering.TheVariants.{Less, Equal, Greater}
use Rattle.std.proofs.lemmas.Bool.{cases_lt}
use Rattle.std.proofs.lemmas.Cmp.{nat_list_cmp_total}
use Rattle.std.proofs.lemmas.List.{length-map}
use Rattle.std.proofs.lemmas.List.Elements.{recursion_from_All}
use Rattle.std.proofs.lemmas.Option.{slice_get-get_or}
use Rattle.std.proofs.lemmas.Map.Text.{is_eq-slice_cmp}
use Rattle.sqlite.specs.Effect.{Database}
use Rattle.sqlite.specs.State.{State, HasCleanDisk}
use Rattle.desk_codes.specs.declared.currency.Ccy.{Ccy}
use Rattle.desk_codes.specs.declared.currency.TheConstants.{CURRENCIES}
use Rattle.desk_codes.proofs.CurrencyLemmas.{by_ccy}
use Rattle.desk_rules.specs.declared.answers.reply.Kept.{Kept}
use Rattle.desk_rules.specs.declared.history.entry.Entry.{Entry}
use Rattle.desk_rules.specs.Content.{Content, history_of}
use Rattle.desk_register.specs.declared.holding.Holding.{Holding}
use Rattle.desk_register.specs.Looked.{IsHoldingAfter, IsLess, IsRegisteredAbove}
use Rattle.desk_register.specs.View.{HasRead, IfTrusted, IsLater, IsRead, View}
use Rattle.desk_register.proofs.CaseLemmas.{same_bytes}
use Rattle.desk_holdings.specs.Holdings.{HoldsRegistered}
use Rattle.desk_holdings.proofs.AboveLemmas.{fewer, left_above, listed_is_left}
use Rattle.sql_tables.specs.Ends.{ForCause, HasLooked, IfSound, IsLook, IsSame}
use Rattle.sql_tables.specs.Ends.{IsLater as IsLaterState}
use Rattle.sql_tables.specs.Schema.{desk_schema}
use Rattle.sql_rows.specs.declared.amounts.key.Ledger.TheVariants as ledgers
use Rattle.sql_rows.specs.declared.amounts.key.AmountKey.TheVariants.{Balance, Cash, Currency}
use Rattle.sql_tables.specs.declared.fault.AuditFault.{AuditFault}
use Rattle.sql_tables.specs.declared.fault.AuditFault.TheVariants.{Register, Tables}
use Rattle.sql_tables.proofs.EndLemmas.{cause_onward}
use Rattle.sql_tables.specs.Audits.{of_register, of_tables}
use Rattle.sql_tables.proofs.LookLemmas.{look_more, look_then}
use Rattle.desk_register.proofs.ReadLemmas.{read_more, read_then}
use Rattle.sql_rows.specs.Shown.{AreTrueTables, IsTrueTable}
use Rattle.sql_rows.specs.Said.{HasAmounts, HasNoStranger}
use Rattle.sql_rows.proofs.EntryLemmas.{has_all}
use Rattle.sql_rows.specs.Recorded.{AreAllRecorded, AreFirstRecorded, AreHoldingsRecorded, AreRecordedTo, IsCashRecorded, IsEntryRecorded, IsNumberRecorded, IsPaidRecorded, IsRecorded}

module _ (s0 s1 s2 : State) (v0 v1 v2 : View) (later : IsLaterState s1 s2) (on : IsLater v1 v2) where
  was : HasCleanDisk s2 → HasCleanDisk s1
  was clean = (let more = later.clean in omega (arith, clean))

  -- what was found first is so still
  pub kept : (X : Type 0) → IfSound s0 s1 (IfTrusted v0 v1 X) → IfSound s0 s2 (IfTrusted v0 v2 X)
  kept X found = λ clean is_open has honest sure. found (was clean) is_open has (on.honest honest) sure

  -- what is found then was so first
  pub moved : (F : Database → Content → Type 0) → HasLooked s0 s1 → HasRead v0 v1 → IfSound s1 s2 (IfTrusted v1 v2 (F s1.now v1.content)) → IfSound s0 s2 (IfTrusted v0 v2 (F s0.now v0.content))
  moved F looked read found = λ clean is_open has honest sure.
      let same : IsSame s0 s1 = looked.ok (was clean) is_open has in
      let has1 : s1.now.schema ≡ desk_schema = ap (λ (d : Database). d.schema) same.now ∙ has in
      let honest1 = on.honest honest in
      let fact : F s1.now v1.content = found clean same.is_open has1 honest (read.ok.sure honest1 sure) in
      subst (λ d. F d v0.content) same.now (subst (λ c. F s1.now c) (read.same honest1 sure) fact)

-- what is found in one step after another
abbrev Found : State → State → View → View → Type 0 → Type 0
Found s t v w fact = IfSound s t (IfTrusted v w fact)

module _ (s0 s1 s2 : State) (v0 v1 v2 : View) (looked : HasLooked s0 s1) (read : HasRead v0 v1) (later : IsLaterState s1 s2) (on : IsLater v1 v2) where
  pub in_turn : (F G : Database → Content → Type 0) → Found s0 s1 v0 v1 (F s0.now v0.content) → Found s1 s2 v1 v2 (G s1.now v1.content) → Found s0 s2 v0 v2 (F s0.now v0.content × G s0.now v0.content)
  in_turn F G one two = λ clean is_open has honest sure. (
    kept s0 s1 s2 v0 v1 v2 later on (F s0.now v0.content) one clean is_open has honest sure,
    moved s0 s1 s2 v0 v1 v2 later on G looked read two clean is_open has honest sure,
  )

  -- what a step would have found, had what is asked been so at first
  pub found_so : {X : Type 0} (F : Database → Content → Type 0) → Found s1 s2 v1 v2 (F s1.now v1.content → X) → Found s0 s2 v0 v2 (F s0.now v0.content → X)
  found_so {X} F found = moved s0 s1 s2 v0 v1 v2 later on (λ db content. F db content → X) looked read found

-- three steps
module _ (s0 s1 s2 s3 : State) (v0 v1 v2 v3 : View) (look1 : HasLooked s0 s1) (read1 : HasRead v0 v1) (look2 : HasLooked s1 s2) (read2 : HasRead v1 v2) (later : IsLaterState s2 s3) (on : IsLater v2 v3) where
  pub in_three : (F G H : Database → Content → Type 0) → Found s0 s1 v0 v1 (F s0.now v0.content) → Found s1 s2 v1 v2 (G s1.now v1.content) → Found s2 s3 v2 v3 (H s2.now v2.content)
      → Found s0 s3 v0 v3 ((F s0.now v0.content × G s0.now v0.content) × H s0.now v0.content)
  in_three F G H one two three =
      in_turn s0 s2 s3 v0 v2 v3 (look_more tt s0 s1 s2 look1 look2) (read_more tt v0 v1 v2 read1 read2) later on (λ db content. F db content × G db content) H
      (in_turn s0 s1 s2 v0 v1 v2 look1 read1 look2.later read2.later F G one two) three

-- a step after others that gave no answer
pub look_failed : (fault : AuditFault) (r : Result Bool AuditFault) → IsErrAnd r (λ e. e ≡ fault) → (s0 s1 s2 : State) → HasLooked s0 s1 → IsLook (of_tables {X = Bool} (Err fault)) s1 s2 → IsLook (of_tables r) s0 s2
look_failed fault (Ok x) is s0 s1 s2 looked failed = absurd is
look_failed fault (Err e) is s0 s1 s2 looked failed = look_then tt (of_tables {X = Bool} (Err e)) s0 s1 s2 looked (subst (λ f. IsLook (of_tables {X = Bool} (Err f)) s1 s2) (sym is) failed)

pub read_failed : (fault : AuditFault) (r : Result Bool AuditFault) → IsErrAnd r (λ e. e ≡ fault) → (v0 v1 v2 : View) → HasRead v0 v1 → IsRead (of_register {X = Bool} (Err fault)) v1 v2 → IsRead (of_register r) v0 v2
read_failed fault (Ok x) is v0 v1 v2 read failed = absurd is
read_failed fault (Err e) is v0 v1 v2 read failed = read_then v0 v1 v2 read (of_register {X = Bool} (Err e)) (subst (λ f. IsRead (of_register {X = Bool} (Err f)) v1 v2) (sym is) failed)

-- why it gave none
pub cause_on : {X : Type 0} (r : Result X AuditFault) (a b c : State) → IsLaterState a b → IsLaterState b c → IfErr (of_tables r) (ForCause b c) → IfErr (of_tables r) (ForCause a c)
cause_on (Ok so) a b c p q caused = tt
cause_on (Err (Register fault)) a b c p q caused = tt
cause_on (Err (Tables e)) a b c p q caused = cause_onward a b c e p q caused

pub cause_failed : (Y : Type 0) {X : Type 0} (fault : AuditFault) (r : Result X AuditFault) → IsErrAnd r (λ e. e ≡ fault) → (a b c : State) → IsLaterState a b → IsLaterState b c → IfErr (of_tables {X = Y} (Err fault)) (ForCause b c) → IfErr (of_tables r) (ForCause a c)
cause_failed Y fault (Ok so) is a b c p q caused = absurd is
cause_failed Y {X} fault (Err e) is a b c p q caused = cause_on {X = X} (Err e) a b c p q (again fault (sym is) caused)
  where
    again : (f : AuditFault) → f ≡ e → IfErr (of_tables {X = Y} (Err f)) (ForCause b c) → IfErr (of_tables {X = X} (Err e)) (ForCause b c)
    again f same caused = each e (subst (λ f. IfErr (of_tables {X = Y} (Err f)) (ForCause b c)) same caused)
      where
        each : (f : AuditFault) → IfErr (of_tables {X = Y} (Err f)) (ForCause b c) → IfErr (of_tables {X = X} (Err f)) (ForCause b c)
        each (Register fault) caused = tt
        each (Tables e) caused = caused

-- ---- what an account holds, security by security

not_before : (a b : List ℕ) → (IsLess a b → ⊥) → (a ≡ b) ⊎ IsLess b a
not_before a b never = by_order (slice_cmp nat_cmp a b) refl where
  by_order : (o : Ordering) → slice_cmp nat_cmp a b ≡ o → (a ≡ b) ⊎ IsLess b a
  by_order Less e = absurd (never e)
  by_order Equal e = inl (same_bytes a b (sym (is_eq-slice_cmp a b) ∙ ap is_eq e))
  by_order Greater e = inr (nat_list_cmp_total.antisymm b a ∙ ap ordering_reverse e)

module _ (db : Database) (content : Content) (account : List ℕ) where
  pub none_yet : AreRecordedTo db content account None
  none_yet = record { each = λ isin some. inr tt }

  module _ (last : Option (List ℕ)) (so : AreRecordedTo db content account last) where
    pub one_more : (holding : Holding) → IsHoldingAfter content account last (Some holding) → IsRecorded db content (Balance account holding.isin) → AreRecordedTo db content account (Some holding.isin)
    one_more holding next here = record {
      each = λ isin some. elim (so.each isin some) [
        | inl is ↦ inl is
        | inr above ↦ elim (not_before isin holding.isin (next.2 isin (some, above))) [
          | inl same ↦ inl (subst (λ i. IsRecorded db content (Balance account i)) (sym same) here)
          | inr beyond ↦ inr beyond
        ]
      ];
    }

    pub no_more : IsHoldingAfter content account last None → AreHoldingsRecorded db content account
    no_more none = record { each = λ isin some. elim (so.each isin some) [ inl is ↦ is | inr above ↦ absurd (none isin (some, above)) ] }

-- ---- of no more securities than there are entries does it hold some

module _ (content : Content) (account : List ℕ) (last : Option (List ℕ)) (holding : Holding) (known : HoldsRegistered content account) (next : IsHoldingAfter content account last (Some holding)) where
  listed : IsRegisteredAbove (history_of content) last holding.isin
  listed = (known.each holding.isin next.0.0, next.0.1)

  pub fewer_left : (told : ℕ) → told + left_above (history_of content) last ≤ length (history_of content) → told + 1 + left_above (history_of content) (Some holding.isin) ≤ length (history_of content)
  fewer_left told few = (let less = fewer (history_of content) last holding.isin listed in omega (arith, less, few))

  pub none_further : (told : ℕ) → told + left_above (history_of content) last ≤ length (history_of content) → length (history_of content) ≤ told → ⊥
  none_further told few all = (let some = listed_is_left (history_of content) last holding.isin listed in omega (arith, some, few, all))

-- so behind as many as there are entries there is none
pub none_beyond : (content : Content) (account : List ℕ) (last : Option (List ℕ)) (beyond : Option Holding) (told : ℕ) → HoldsRegistered content account → IsHoldingAfter content account last beyond
    → told + left_above (history_of content) last ≤ length (history_of content) → length (history_of content) ≤ told → is_some beyond ≡ false
none_beyond content account last None told known next few all = refl
none_beyond content account last (Some holding) told known next few all = absurd (none_further content account last holding known next told few all)

pub is_so : (b : Bool) → not b ≡ false → b ≡ true
is_so true is = refl
is_so false is = cc

-- ---- entry by entry

pub as_many : (content : Content) (count : ℕ) → count ≡ length content.register → length (history_of content) ≤ count
as_many content count is = (let size = length-map content.register (λ (kept : Kept). kept.entry) in omega (arith, size, is))

module _ (db : Database) (content : Content) where
  pub none_first : AreFirstRecorded db content 0
  none_first = record { each = λ k low. absurd (omega (arith, low)) }

  pub next_first : (n : ℕ) → AreFirstRecorded db content n → IsNumberRecorded db content (n + 1) → AreFirstRecorded db content (n + 1)
  next_first n so here = record {
    each = λ k low. elim (cases_lt k n) [
      | inl before ↦ so.each k before
      | inr at ↦ subst (λ m. IsNumberRecorded db content (m + 1)) (let same : n ≡ k = omega (arith, at, low) in same) here
    ];
  }

  each_entry : (h : List Entry) → ((k : ℕ) → k < length h → IfSome (slice_get h k) (IsEntryRecorded db content)) → AllByRecursion (IsEntryRecorded db content) h
  each_entry [] each = tt
  each_entry (e ∷ h) each = (each 0 (omega arith), each_entry h (λ k low. each (suc k) (omega (arith, low))))

  at_number : (k : ℕ) → IsNumberRecorded db content (k + 1) → IfSome (slice_get (history_of content) k) (IsEntryRecorded db content)
  at_number k so = subst (IsNumberRecorded db content) (let e : k + 1 ≡ suc k = omega arith in e) so

  pub all_first : (n : ℕ) → n ≡ length content.register → AreFirstRecorded db content n → AreAllRecorded db content
  all_first n is so = record {
    each = each_entry (history_of content) (λ k low.
        let size = length-map content.register (λ (kept : Kept). kept.entry) in
        at_number k (so.each k (omega (arith, low, size, is))));
  }

-- ---- the currencies

-- what is so of the currencies before one of a list, and of it, is so of those up to it
pub next_currency : (P : Ccy → Type 0) (ccys : List Ccy) (n : ℕ) (e : Ccy) → n < length ccys → ((k : ℕ) (d : Ccy) → k < n → P (get_or ccys k d)) → P (get_or ccys n e) → (k : ℕ) (d : Ccy) → k < n + 1 → P (get_or ccys k d)
next_currency P ccys n e within before here k d low = elim (cases_lt k n) [
  | inl first ↦ before k d first
  | inr at ↦
      let same : n ≡ k = omega (arith, at, low) in
      let one : Some (get_or ccys n e) ≡ Some (get_or ccys n d) = sym (slice_get-get_or ccys n e within) ∙ slice_get-get_or ccys n d within in
      let is : get_or ccys n e ≡ get_or ccys n d = cc in
      subst (λ m. P (get_or ccys m d)) same (subst P is here)
]

each_currency : (P : Ccy → Type 0) → All P CURRENCIES → (ccy : Ccy) → P ccy
each_currency P all = by_ccy P (recursion_from_All P CURRENCIES all)

-- in the form of a call's answer
module _ (db : Database) (content : Content) (r : Result Bool AuditFault) where
  told : {A B : Type 0} → (A → B) → (s : Result Bool AuditFault) → IfOk s (λ so. IsTrue so → A) → IfOk s (λ so. IsTrue so → B)
  told then (Ok so) all = λ yes. then (all yes)
  told then (Err fault) all = tt

  pub each_cash : (bic : List ℕ) → IfOk r (λ so. IsTrue so → All (λ ccy. IsRecorded db content (Cash bic ccy)) CURRENCIES) → IfOk r (λ so. IsTrue so → IsCashRecorded db content bic)
  each_cash bic all = told (λ here. record { each = each_currency (λ ccy. IsRecorded db content (Cash bic ccy)) here }) r all

  pub each_paid : IfOk r (λ so. IsTrue so → All (λ ccy. IsRecorded db content (Currency ccy)) CURRENCIES) → IfOk r (λ so. IsTrue so → IsPaidRecorded db content)
  each_paid all = told (λ here. record { each = each_currency (λ ccy. IsRecorded db content (Currency ccy)) here }) r all

  pub all_three : (IsTrueTable db content ledgers.Balance) × IsTrueTable db content ledgers.Cash → IfOk r (λ so. IsTrue so → IsTrueTable db content ledgers.Total) → IfOk r (λ so. IsTrue so → AreTrueTables db content)
  all_three first last = told (λ third. record { balance = first.0; cash = first.1; total = third }) r last

  pub has_told : HasNoStranger content → AreTrueTables db content × AreAllRecorded db content → IfOk r (λ so. IsTrue so → IsPaidRecorded db content) → IfOk r (λ so. IsTrue so → HasAmounts db content)
  has_told strange first last = told (λ paid. has_all db content first.0 first.1 paid strange) r last
