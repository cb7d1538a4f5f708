-- What a content that keeps books of accepted entries, each well formed, has some of it has under codes.
use Rattle.std.proofs.Common.{◌≡◌, ◌⊎◌, inl, inr, ℕ, ◌+◌, ◌<◌, Bool, true, false, ◌||◌, List, [], ◌∷◌, bytes_eq, Option, Some, None, is_some, refl, sym, ap, subst, ◌∙◌, arith}
use Rattle.std.specs.Prelude.{if◌then◌else◌}
use Rattle.std.proofs.lemmas.Bool.{cases_Bool, cases_lt}
use Rattle.std.proofs.lemmas.List.Sums.{sum_by-cons}
use Rattle.desk_codes.specs.Account.{IsAccount}
use Rattle.desk_codes.specs.Bic.{IsBic}
use Rattle.desk_codes.specs.CheckDigit.{IsIsin}
use Rattle.desk_codes.specs.declared.currency.Ccy.{Ccy}
use Rattle.desk_rules.specs.declared.history.entry.Entry.{Entry}
use Rattle.desk_rules.specs.declared.history.entry.Entry.TheVariants.{Participant, Account, Security, Issue, Redeem, PayIn, PayOut, Instruct, Cancel, Run}
use Rattle.desk_rules.specs.Balances.{issued, issued_by, movement_of, redeemed}
use Rattle.desk_rules.specs.Books.{Books}
use Rattle.desk_rules.specs.Content.{Content, history_of}
use Rattle.desk_rules.specs.Facts.{is_participant, kind_of, or_else, owner_of}
use Rattle.desk_rules.specs.WellFormed.{AreWellFormed, IsWellFormed}
use Rattle.desk_rules.proofs.Conservation.{if_false}
use Rattle.desk_rules.proofs.Decided.{Contains-from_In, In}
use Rattle.desk_register.proofs.CaseLemmas.{same_bytes}
use Rattle.desk_register.specs.Registered.{security_by}
use Rattle.desk_engine.specs.Applied.{Keeps}
use Rattle.desk_engine.specs.KeptHistory.{HoldsKept}
use Rattle.desk_holdings.proofs.AboveLemmas.{registered}
use Rattle.desk_holdings.proofs.RegisteredLemmas.{holds_registered}
use Rattle.sql_rows.specs.declared.amounts.key.AmountKey.{AmountKey}
use Rattle.sql_rows.specs.declared.amounts.key.AmountKey.TheVariants as keys
use Rattle.sql_rows.specs.Said.{HasReadable, IsReadable, IsSaid}
use Rattle.desk_file.proofs.ContentFacts.{h_is, stranger_has_none, stranger_holds_none}

abbrev Each : List Entry → Type 0
Each h = (e : Entry) → In h e → IsWellFormed e

further : (e : Entry) (h : List Entry) → Each (e ∷ h) → Each h
further e h all x i = all x (inr i)

-- ---- a security that is registered

isin_of : (e : Entry) (isin : List ℕ) → security_by e ≡ Some isin → IsWellFormed e → IsIsin isin
isin_of (Participant reference b) isin is formed = absurd (cc)
isin_of (Account reference b a) isin is formed = absurd (cc)
isin_of (Security reference i kind) isin is formed = (let same : i ≡ isin = cc in subst IsIsin same formed.1)
isin_of (Issue m) isin is formed = absurd (cc)
isin_of (Redeem m) isin is formed = absurd (cc)
isin_of (PayIn x) isin is formed = absurd (cc)
isin_of (PayOut x) isin is formed = absurd (cc)
isin_of (Instruct sender i) isin is formed = absurd (cc)
isin_of (Cancel sender order) isin is formed = absurd (cc)
isin_of (Run reference day rule) isin is formed = absurd (cc)

isin_formed : (h : List Entry) (isin : List ℕ) → Each h → is_some (kind_of h isin) ≡ true → IsIsin isin
isin_formed h isin all is = let it = registered h isin is in isin_of it.entry isin it.is (all it.entry it.kept)

-- ---- an account, a participant

module _ (account : List ℕ) where
  by_owner : (a bic : List ℕ) (rest : Option (List ℕ)) → IsAccount a → (rest ≡ None) ⊎ IsAccount account → (or_else (if bytes_eq a account then Some bic else None) rest ≡ None) ⊎ IsAccount account
  by_owner a bic rest here more = elim (cases_Bool (bytes_eq a account)) [
    | inl is ↦ inr (subst IsAccount (same_bytes a account is) here)
    | inr other ↦ rw other more
  ]

  account_formed : (h : List Entry) → Each h → (owner_of h account ≡ None) ⊎ IsAccount account
  account_formed [] all = inl refl
  account_formed (Participant reference b ∷ h) all = account_formed h (further (Participant reference b) h all)
  account_formed (Account reference b a ∷ h) all = by_owner a b (owner_of h account) (all (Account reference b a) (inl refl)).2 (account_formed h (further (Account reference b a) h all))
  account_formed (Security reference i kind ∷ h) all = account_formed h (further (Security reference i kind) h all)
  account_formed (Issue m ∷ h) all = account_formed h (further (Issue m) h all)
  account_formed (Redeem m ∷ h) all = account_formed h (further (Redeem m) h all)
  account_formed (PayIn x ∷ h) all = account_formed h (further (PayIn x) h all)
  account_formed (PayOut x ∷ h) all = account_formed h (further (PayOut x) h all)
  account_formed (Instruct sender i ∷ h) all = account_formed h (further (Instruct sender i) h all)
  account_formed (Cancel sender order ∷ h) all = account_formed h (further (Cancel sender order) h all)
  account_formed (Run reference day rule ∷ h) all = account_formed h (further (Run reference day rule) h all)

module _ (bic : List ℕ) where
  by_participant : (b : List ℕ) (rest : Bool) → IsBic b → (rest ≡ false) ⊎ IsBic bic → ((bytes_eq b bic || rest) ≡ false) ⊎ IsBic bic
  by_participant b rest here more = elim (cases_Bool (bytes_eq b bic)) [
    | inl is ↦ inr (subst IsBic (same_bytes b bic is) here)
    | inr other ↦ rw other more
  ]

  participant_formed : (h : List Entry) → Each h → (is_participant h bic ≡ false) ⊎ IsBic bic
  participant_formed [] all = inl refl
  participant_formed (Participant reference b ∷ h) all = by_participant b (is_participant h bic) (all (Participant reference b) (inl refl)).1 (participant_formed h (further (Participant reference b) h all))
  participant_formed (Account reference b a ∷ h) all = participant_formed h (further (Account reference b a) h all)
  participant_formed (Security reference i kind ∷ h) all = participant_formed h (further (Security reference i kind) h all)
  participant_formed (Issue m ∷ h) all = participant_formed h (further (Issue m) h all)
  participant_formed (Redeem m ∷ h) all = participant_formed h (further (Redeem m) h all)
  participant_formed (PayIn x ∷ h) all = participant_formed h (further (PayIn x) h all)
  participant_formed (PayOut x ∷ h) all = participant_formed h (further (PayOut x) h all)
  participant_formed (Instruct sender i ∷ h) all = participant_formed h (further (Instruct sender i) h all)
  participant_formed (Cancel sender order ∷ h) all = participant_formed h (further (Cancel sender order) h all)
  participant_formed (Run reference day rule ∷ h) all = participant_formed h (further (Run reference day rule) h all)

-- ---- a security that is issued

module _ (isin : List ℕ) where
  abbrev IssuedOr : List Entry → Type 0
  IssuedOr h = (issued h isin ≡ 0) ⊎ IsIsin isin

  or_issued : (e : Entry) (h : List Entry) → issued_by (movement_of isin) e ≡ 0 → IssuedOr h → IssuedOr (e ∷ h)
  or_issued e h none (inl never) = inl (let all = sum_by-cons (issued_by (movement_of isin)) e h in omega (arith, all, none, never))
  or_issued e h none (inr here) = inr here

  issued_formed : (h : List Entry) → Each h → IssuedOr h
  issued_formed [] all = inl refl
  issued_formed (Participant reference b ∷ h) all = or_issued (Participant reference b) h refl (issued_formed h (further (Participant reference b) h all))
  issued_formed (Account reference b a ∷ h) all = or_issued (Account reference b a) h refl (issued_formed h (further (Account reference b a) h all))
  issued_formed (Security reference i kind ∷ h) all = or_issued (Security reference i kind) h refl (issued_formed h (further (Security reference i kind) h all))
  issued_formed (Issue m ∷ h) all = elim (cases_Bool (bytes_eq m.isin isin)) [
    | inl is ↦ inr (subst IsIsin (same_bytes m.isin isin is) (all (Issue m) (inl refl)).isin)
    | inr other ↦ or_issued (Issue m) h (if_false (bytes_eq m.isin isin) m.quantity other) (issued_formed h (further (Issue m) h all))
  ]
  issued_formed (Redeem m ∷ h) all = or_issued (Redeem m) h refl (issued_formed h (further (Redeem m) h all))
  issued_formed (PayIn x ∷ h) all = or_issued (PayIn x) h refl (issued_formed h (further (PayIn x) h all))
  issued_formed (PayOut x ∷ h) all = or_issued (PayOut x) h refl (issued_formed h (further (PayOut x) h all))
  issued_formed (Instruct sender i ∷ h) all = or_issued (Instruct sender i) h refl (issued_formed h (further (Instruct sender i) h all))
  issued_formed (Cancel sender order ∷ h) all = or_issued (Cancel sender order) h refl (issued_formed h (further (Cancel sender order) h all))
  issued_formed (Run reference day rule ∷ h) all = or_issued (Run reference day rule) h refl (issued_formed h (further (Run reference day rule) h all))

-- ---- what a content has

module _ (limit : ℕ) (books : Books) (content : Content) (keeps : Keeps limit books content) (formed : AreWellFormed (history_of content)) where
  abbrev h : List Entry
  h = history_of content

  all_formed : Each h
  all_formed e i = formed.each e (Contains-from_In h e i)

  account_is : (account isin : List ℕ) → 0 < content.position account isin → IsAccount account
  account_is account isin some = elim (account_formed account h all_formed) [
    | inl none ↦ absurd (let nought = stranger_holds_none limit books content keeps account isin none in omega (arith, some, nought))
    | inr is ↦ is
  ]

  bic_is : (bic : List ℕ) (ccy : Ccy) → 0 < content.cash bic ccy → IsBic bic
  bic_is bic ccy some = elim (participant_formed bic h all_formed) [
    | inl none ↦ absurd (let nought = stranger_has_none limit books content keeps bic ccy none in omega (arith, some, nought))
    | inr is ↦ is
  ]

  isin_is : (isin : List ℕ) (amount : ℕ) → 0 < amount → redeemed h isin + amount ≡ issued h isin → IsIsin isin
  isin_is isin amount some makes = elim (issued_formed isin h all_formed) [ inl none ↦ absurd (omega (arith, some, makes, none)) | inr is ↦ is ]

  readable_key : (key : AmountKey) (amount : ℕ) → 0 < amount → IsSaid content key (Some amount) → IsReadable key
  readable_key (keys.Balance account isin) amount some said =
      let held : 0 < content.position account isin = subst (λ n. 0 < n) said some in
      (account_is account isin held, isin_formed h isin all_formed ((holds_registered limit books content account keeps.tables keeps.accepted).each isin held))
  readable_key (keys.Cash bic ccy) amount some said = bic_is bic ccy (subst (λ n. 0 < n) said some)
  readable_key (keys.Security isin) amount some said = isin_is isin amount some said
  readable_key (keys.Currency ccy) amount some said = tt

  readable_of : HasReadable content
  readable_of = record { key = readable_key; registered = λ account. holds_registered limit books content account keeps.tables keeps.accepted }

pub readable : (limit : ℕ) (content : Content) → HoldsKept limit content.register content → AreWellFormed (history_of content) → HasReadable content
readable limit content held formed = readable_of limit held.books content held.keeps formed
