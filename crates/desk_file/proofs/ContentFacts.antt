-- What is so of a content that keeps books of accepted entries.
use Rattle.std.proofs.Common.{◌≡◌, inl, inr, ℕ, ◌+◌, false, List, [], ◌∷◌, bytes_eq, length, Option, Some, None, is_some, unwrap_or, refl, sym, ap, subst, ◌∙◌, arith}
use Rattle.std.specs.Prelude.{if◌then◌else◌}
use Rattle.std.proofs.lemmas.Bool.{both_ways, cases_lt}
use Rattle.desk_codes.specs.declared.currency.Ccy.{Ccy}
use Rattle.desk_msg.specs.declared.instruction.Kind.{Kind}
use Rattle.desk_rules.specs.declared.history.entry.Entry.{Entry}
use Rattle.desk_rules.specs.declared.history.entry.Entry.TheVariants.{Participant, Account, Security, Issue, Redeem, PayIn, PayOut, Instruct, Cancel, Run}
use Rattle.desk_rules.specs.Balances.{cash_credits, cash_debits, credits, debits, issued, paid_in, paid_out, redeemed}
use Rattle.desk_rules.specs.Books.{Books}
use Rattle.desk_rules.specs.Content.{Content, history_of}
use Rattle.desk_rules.specs.Facts.{is_participant, kind_by, kind_of, or_else, owner_of}
use Rattle.desk_rules.specs.History.{instruction_at}
use Rattle.desk_rules.specs.Standing.{no_standing}
use Rattle.desk_rules.specs.WellFormed.{AreWellFormed, IsWellFormed}
use Rattle.desk_rules.proofs.Decided.{Contains-from_In, In}
use Rattle.desk_rules.proofs.StandsLemmas.{stands_is}
use Rattle.desk_register.specs.Looked.{IsPaid, held_cash_of, held_of}
use Rattle.desk_register.specs.RegisteredOnce.{AreRegisteredOnce}
use Rattle.desk_engine.specs.Applied.{Keeps}
use Rattle.desk_engine.proofs.HeldLemmas.{held_adds_up, held_cash_adds_up}
use Rattle.desk_holdings.proofs.RegisteredLemmas.{holds_registered}
use Rattle.desk_file.proofs.HistoryFacts.{no_cash_credits, no_credits, nothing_paid_in, registered_once}

no_name : (isin : List ℕ) (kind : Kind) → length isin ≡ 12 → (if bytes_eq isin [] then Some kind else None) ≡ None
no_name [] kind len = absurd (omega (arith, len))
no_name (b ∷ bs) kind len = refl

unnamed_by : (e : Entry) → IsWellFormed e → kind_by [] e ≡ None
unnamed_by (Participant reference bic) formed = refl
unnamed_by (Account reference bic a) formed = refl
unnamed_by (Security reference i kind) formed = no_name i kind formed.1.len
unnamed_by (Issue m) formed = refl
unnamed_by (Redeem m) formed = refl
unnamed_by (PayIn x) formed = refl
unnamed_by (PayOut x) formed = refl
unnamed_by (Instruct sender i) formed = refl
unnamed_by (Cancel sender order) formed = refl
unnamed_by (Run reference day rule) formed = refl

unnamed : (h : List Entry) → ((e : Entry) → In h e → IsWellFormed e) → kind_of h [] ≡ None
unnamed [] formed = refl
unnamed (e ∷ h) formed = ap (λ o. or_else o (kind_of h [])) (unnamed_by e (formed e (inl refl))) ∙ unnamed h (λ x i. formed x (inr i))

account_none : (o : Option (List ℕ)) → o ≡ None → is_some o ≡ false
account_none o none = ap is_some none

module _ (limit : ℕ) (books : Books) (content : Content) (keeps : Keeps limit books content) where
  pub h_is : history_of content ≡ books.history
  h_is = keeps.tables.history

  pub stands_nowhere : (n : ℕ) → instruction_at (history_of content) n ≡ None → content.standing n ≡ no_standing
  stands_nowhere n none = keeps.tables.standings.each n ∙ sym (stands_is books keeps.tables.are n no_standing None (ap (λ h. instruction_at h n) (sym h_is) ∙ none) refl)

  pub registered : AreRegisteredOnce (history_of content)
  registered = subst AreRegisteredOnce (sym h_is) (registered_once limit books.history keeps.accepted)

  pub stranger_holds_none : (account isin : List ℕ) → owner_of (history_of content) account ≡ None → content.position account isin ≡ 0
  stranger_holds_none account isin none =
      let out = no_credits account isin limit books.history books.settled keeps.accepted (account_none (owner_of books.history account) (ap (λ h. owner_of h account) (sym h_is) ∙ none)) in
      let makes_up : content.position account isin + debits books.history books.settled account isin ≡ credits books.history books.settled account isin = keeps.tables.positions account isin in
      omega arith

  pub stranger_has_none : (bic : List ℕ) (ccy : Ccy) → is_participant (history_of content) bic ≡ false → content.cash bic ccy ≡ 0
  stranger_has_none bic ccy none =
      let out = no_cash_credits bic ccy limit books.history books.settled keeps.accepted (ap (λ h. is_participant h bic) (sym h_is) ∙ none) in
      let makes_up : content.cash bic ccy + cash_debits books.history books.settled bic ccy ≡ cash_credits books.history books.settled bic ccy = keeps.tables.cash bic ccy in
      omega arith

  pub nothing_unnamed : AreWellFormed books.history → (account : List ℕ) → content.position account [] ≡ 0
  nothing_unnamed formed account = elim (cases_lt 0 (content.position account [])) [
    | inl some ↦
        let there = (holds_registered limit books content account keeps.tables keeps.accepted).each [] some in
        let none : kind_of (history_of content) [] ≡ None = ap (λ h. kind_of h []) h_is ∙ unnamed books.history (λ e i. formed.each e (Contains-from_In books.history e i)) in
        absurd (both_ways (is_some (kind_of (history_of content) [])) (ap is_some none) there)
    | inr none ↦ omega (arith, none)
  ]

  -- ---- the totals

  pub held_is : (isin : List ℕ) (out : ℕ) → redeemed (history_of content) isin + out ≡ issued (history_of content) isin → held_of content isin ≡ out
  held_is isin out makes =
      let all : redeemed (history_of content) isin + held_of content isin ≡ issued (history_of content) isin = ap (λ h. redeemed h isin + held_of content isin) h_is ∙ held_adds_up limit books content isin keeps ∙ ap (λ h. issued h isin) (sym h_is) in
      omega arith

  pub paid_together : (ccy : Ccy) (paid : Option ℕ) → IsPaid (history_of content) ccy paid → paid_out (history_of content) ccy + unwrap_or paid 0 ≡ paid_in (history_of content) ccy
  paid_together ccy (Some amount) is = is.1
  paid_together ccy None is =
      let none = nothing_paid_in ccy (history_of content) is in
      let all : paid_out (history_of content) ccy + held_cash_of content ccy ≡ paid_in (history_of content) ccy = ap (λ h. paid_out h ccy + held_cash_of content ccy) h_is ∙ held_cash_adds_up limit books content ccy keeps ∙ ap (λ h. paid_in h ccy) (sym h_is) in
      omega arith

  pub had_is : (ccy : Ccy) (paid : ℕ) → paid_out (history_of content) ccy + paid ≡ paid_in (history_of content) ccy → held_cash_of content ccy ≡ paid
  had_is ccy paid makes =
      let all : paid_out (history_of content) ccy + held_cash_of content ccy ≡ paid_in (history_of content) ccy = ap (λ h. paid_out h ccy + held_cash_of content ccy) h_is ∙ held_cash_adds_up limit books content ccy keeps ∙ ap (λ h. paid_in h ccy) (sym h_is) in
      omega arith
