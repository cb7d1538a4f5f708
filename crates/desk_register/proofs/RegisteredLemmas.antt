-- Accounts and participants, with one entry more.
use Rattle.std.proofs.Common.{◌≡◌, ℕ, ◌+◌, ◌≤◌, Bool, true, false, not, List, [], ◌∷◌, ◌++◌, length, Option, Some, None, refl, ap, sym, ◌∙◌, subst, arith, append-nil, length-append, inl, inr}
use Rattle.std.specs.Prelude.{◌||◌, bytes_eq, is_none, is_some}
use Rattle.std.proofs.lemmas.Bool.{both_ways, cases_lt, not-false}
use Rattle.std.proofs.lemmas.List.Elements.{filter_map-append}
use Rattle.std.proofs.lemmas.List.Folds.{list_any-append}
use Rattle.std.proofs.lemmas.List.Sums.{sum_by_push}
use Rattle.desk_msg.specs.declared.instruction.CancelOrder.{CancelOrder}
use Rattle.desk_rules.specs.declared.history.entry.Entry.{Entry}
use Rattle.desk_rules.specs.declared.history.entry.Entry.TheVariants.{Participant, Account, Security, Issue, Redeem, PayIn, PayOut, Instruct, Cancel, Run}
use Rattle.desk_rules.specs.declared.history.entry.Instructed.{Instructed}
use Rattle.desk_rules.specs.Balances.{quantity_if}
use Rattle.desk_rules.specs.Content.{Content, history_of}
use Rattle.desk_rules.specs.Facts.{account_by, accounts_of, adds_participant, first_said, is_owner, is_participant, or_else, owner_by, owner_of, participant_by, participants_of}
use Rattle.desk_rules.specs.History.{instructed, instruction_at, sender_of}
use Rattle.desk_rules.specs.Verdict.{Check, is_from_stranger, named_by}
use Rattle.desk_rules.proofs.Conservation.{if_false, if_true}
use Rattle.desk_rules.proofs.HistoryLemmas.{entry_at-end, instruction_at-front, instruction_at-known}
use Rattle.desk_register.specs.Checked.{checks_in, first_refusal}
use Rattle.desk_register.proofs.CaseLemmas.{by_bool, bytes_refl, same_bytes}
use Rattle.desk_register.specs.RegisteredOnce.{AreRegisteredOnce, IsOfRegistered, is_account, times_in}

-- What an entry needs of those before it: what it registers is new, and what it names is registered.

abbrev pub IsFounded : List Entry → Entry → Type 0
IsFounded h (Participant reference bic) = is_participant h bic ≡ false
IsFounded h (Account reference bic account) = is_account h account ≡ false
IsFounded h (Security reference isin kind) = Unit {0}
IsFounded h (Issue movement) = is_account h movement.account ≡ true
IsFounded h (Redeem movement) = is_account h movement.account ≡ true
IsFounded h (PayIn payment) = is_participant h payment.bic ≡ true
IsFounded h (PayOut payment) = is_participant h payment.bic ≡ true
IsFounded h (Instruct sender i) = IsOfRegistered h (record { sender = sender; instruction = i })
IsFounded h (Cancel sender order) = Unit {0}
IsFounded h (Run reference day rule) = Unit {0}

-- no check of these fails
abbrev AllPass : List Check → Type 0
AllPass [] = Unit {0}
AllPass (c ∷ checks) = (c.fails ≡ false) × AllPass checks

all_pass : (checks : List Check) → first_refusal checks ≡ None → AllPass checks
all_pass [] none = tt
all_pass (c ∷ checks) none = by_bool c.fails (λ t. let bad = rw t at none in absurd (cc)) (λ f. (f, all_pass checks (rw f at none)))

some_there : {X : Type 0} (o : Option X) → is_none o ≡ false → is_some o ≡ true
some_there None e = absurd (cc)
some_there (Some x) e = refl

owner_there : (sender : List ℕ) (o : Option (List ℕ)) → not (is_owner sender o) ≡ false → is_some o ≡ true
owner_there sender None e = absurd (cc)
owner_there sender (Some owner) e = refl

module _ (content : Content) where
  -- where no refusal fits an entry
  passes : (e : Entry) → first_refusal (checks_in content e) ≡ None → AllPass (checks_in content e)
  passes e none = all_pass (checks_in content e) none

  -- a cancellation that no refusal fits names an instruction
  pub names_one : (sender : List ℕ) (order : CancelOrder) → first_refusal (checks_in content (Cancel sender order)) ≡ None → is_none (named_by (history_of content) sender order) ≡ false
  names_one sender order none = (passes (Cancel sender order) none).0

  pub founded : (e : Entry) → is_from_stranger (history_of content) (sender_of e) ≡ false → first_refusal (checks_in content e) ≡ None → IsFounded (history_of content) e
  founded (Participant reference bic) known none = (passes (Participant reference bic) none).0
  founded (Account reference bic account) known none = (passes (Account reference bic account) none).0
  founded (Security reference isin kind) known none = tt
  founded (Issue movement) known none = some_there (owner_of (history_of content) movement.account) (passes (Issue movement) none).0
  founded (Redeem movement) known none = some_there (owner_of (history_of content) movement.account) (passes (Redeem movement) none).0
  founded (PayIn payment) known none = not-false (is_participant (history_of content) payment.bic) (passes (PayIn payment) none).0
  founded (PayOut payment) known none = not-false (is_participant (history_of content) payment.bic) (passes (PayOut payment) none).0
  founded (Instruct sender i) known none = record {
    account = owner_there sender (owner_of (history_of content) i.account) (passes (Instruct sender i) none).1.1.1.0;
    sender = not-false (is_participant (history_of content) sender) known;
  }
  founded (Cancel sender order) known none = tt
  founded (Run reference day rule) known none = tt

-- What is registered, with one entry more.

else_some : {X : Type 0} (a b : Option X) → is_some (or_else a b) ≡ (is_some a || is_some b)
else_some None b = refl
else_some (Some x) b = refl

said_push : {X : Type 0} (says : Entry → Option X) (h : List Entry) (e : Entry) → is_some (first_said says (h ++ e ∷ [])) ≡ (is_some (first_said says h) || is_some (says e))
said_push says [] e = else_some (says e) None ∙ by_bool (is_some (says e)) (λ t. rw t refl) (λ f. rw f refl)
said_push says (x ∷ h) e =
    else_some (says x) (first_said says (h ++ e ∷ []))
    ∙ ap (λ z. is_some (says x) || z) (said_push says h e)
    ∙ by_bool (is_some (says x)) (λ t. rw (else_some (says x) (first_said says h), t) refl) (λ f. rw (else_some (says x) (first_said says h), f) refl)

pub account_push : (h : List Entry) (e : Entry) (account : List ℕ) → is_account (h ++ e ∷ []) account ≡ (is_account h account || is_some (owner_by account e))
account_push h e account = said_push (owner_by account) h e

pub participant_push : (h : List Entry) (e : Entry) (bic : List ℕ) → is_participant (h ++ e ∷ []) bic ≡ (is_participant h bic || adds_participant bic e)
participant_push h e bic = list_any-append (adds_participant bic) h (e ∷ []) ∙ ap (λ z. is_participant h bic || z) (by_bool (adds_participant bic e) (λ t. rw t refl) (λ f. rw f refl))

pub accounts_push : (h : List Entry) (e : Entry) → accounts_of (h ++ e ∷ []) ≡ accounts_of h ++ accounts_of (e ∷ [])
accounts_push h e = filter_map-append account_by h (e ∷ [])

pub participants_push : (h : List Entry) (e : Entry) → participants_of (h ++ e ∷ []) ≡ participants_of h ++ participants_of (e ∷ [])
participants_push h e = filter_map-append participant_by h (e ∷ [])

-- what is not there with one more was not there before
pub not_before : (a b : Bool) → (a || b) ≡ false → a ≡ false
not_before true b e = e
not_before false b e = refl

still : (a b : Bool) → a ≡ true → (a || b) ≡ true
still a b e = rw e refl

-- Each stands once.

-- nothing new
times_same : (xs ys : List (List ℕ)) (x : List ℕ) (there new now : Bool) → ys ≡ xs ++ [] → now ≡ (there || new) → new ≡ false
    → times_in xs x ≡ quantity_if there 1 → times_in ys x ≡ quantity_if now 1
times_same xs ys x true new now listed is none e = ap (λ z. times_in z x) (listed ∙ append-nil xs) ∙ e ∙ rw is refl
times_same xs ys x false new now listed is none e = ap (λ z. times_in z x) (listed ∙ append-nil xs) ∙ e ∙ rw (is, none) refl

-- one that is new
times_more : (xs ys : List (List ℕ)) (y x : List ℕ) (there now : List ℕ → Bool) → ys ≡ xs ++ y ∷ [] → now x ≡ (there x || bytes_eq y x) → there y ≡ false
    → ((z : List ℕ) → times_in xs z ≡ quantity_if (there z) 1) → times_in ys x ≡ quantity_if (now x) 1
times_more xs ys y x there now listed is none each =
    let push = sum_by_push (λ other. quantity_if (bytes_eq x other) 1) xs y in
    let whole : times_in ys x ≡ times_in xs x + quantity_if (bytes_eq x y) 1 = ap (λ z. times_in z x) listed ∙ push in
    let before = each x in
    by_bool (bytes_eq y x)
    (λ t.
    let same : y ≡ x = same_bytes y x t in
    let absent : there x ≡ false = ap there (sym same) ∙ none in
    let here : bytes_eq x y ≡ true = ap (λ z. bytes_eq x z) same ∙ bytes_refl x in
    let one : quantity_if (bytes_eq x y) 1 ≡ 1 = if_true (bytes_eq x y) 1 here in
    let nought : quantity_if (there x) 1 ≡ 0 = if_false (there x) 1 absent in
    let counted : quantity_if (now x) 1 ≡ 1 = if_true (now x) 1 (is ∙ rw (absent, t) refl) in
    omega arith)
    (λ f.
    let other : bytes_eq x y ≡ false = by_bool (bytes_eq x y) (λ t. let same : x ≡ y = same_bytes x y t in absurd (both_ways (bytes_eq y x) f (ap (λ z. bytes_eq y z) same ∙ bytes_refl y))) (λ g. g) in
    let nought : quantity_if (bytes_eq x y) 1 ≡ 0 = if_false (bytes_eq x y) 1 other in
    let counted : quantity_if (now x) 1 ≡ quantity_if (there x) 1 = ap (λ b. quantity_if b 1) (is ∙ ap (λ b. there x || b) f ∙ by_bool (there x) (λ t. rw t refl) (λ g. rw g refl)) in
    omega arith)

module _ (h : List Entry) where
  accounts_once : (e : Entry) → IsFounded h e → ((account : List ℕ) → times_in (accounts_of h) account ≡ quantity_if (is_account h account) 1)
      → (account : List ℕ) → times_in (accounts_of (h ++ e ∷ [])) account ≡ quantity_if (is_account (h ++ e ∷ []) account) 1
  accounts_once (Participant reference bic) new each a = times_same _ _ a _ _ _ (accounts_push h (Participant reference bic)) (account_push h (Participant reference bic) a) refl (each a)
  accounts_once (Account reference bic account) new each a =
      times_more _ _ account a (is_account h) (is_account (h ++ Account reference bic account ∷ [])) (accounts_push h (Account reference bic account))
      (account_push h (Account reference bic account) a ∙ ap (λ z. is_account h a || z) (by_bool (bytes_eq account a) (λ t. rw t refl) (λ f. rw f refl))) new each
  accounts_once (Security reference isin kind) new each a = times_same _ _ a _ _ _ (accounts_push h (Security reference isin kind)) (account_push h (Security reference isin kind) a) refl (each a)
  accounts_once (Issue movement) new each a = times_same _ _ a _ _ _ (accounts_push h (Issue movement)) (account_push h (Issue movement) a) refl (each a)
  accounts_once (Redeem movement) new each a = times_same _ _ a _ _ _ (accounts_push h (Redeem movement)) (account_push h (Redeem movement) a) refl (each a)
  accounts_once (PayIn payment) new each a = times_same _ _ a _ _ _ (accounts_push h (PayIn payment)) (account_push h (PayIn payment) a) refl (each a)
  accounts_once (PayOut payment) new each a = times_same _ _ a _ _ _ (accounts_push h (PayOut payment)) (account_push h (PayOut payment) a) refl (each a)
  accounts_once (Instruct sender i) new each a = times_same _ _ a _ _ _ (accounts_push h (Instruct sender i)) (account_push h (Instruct sender i) a) refl (each a)
  accounts_once (Cancel sender order) new each a = times_same _ _ a _ _ _ (accounts_push h (Cancel sender order)) (account_push h (Cancel sender order) a) refl (each a)
  accounts_once (Run reference day rule) new each a = times_same _ _ a _ _ _ (accounts_push h (Run reference day rule)) (account_push h (Run reference day rule) a) refl (each a)

  participants_once : (e : Entry) → IsFounded h e → ((bic : List ℕ) → times_in (participants_of h) bic ≡ quantity_if (is_participant h bic) 1)
      → (bic : List ℕ) → times_in (participants_of (h ++ e ∷ [])) bic ≡ quantity_if (is_participant (h ++ e ∷ []) bic) 1
  participants_once (Participant reference bic) new each b =
      times_more _ _ bic b (is_participant h) (is_participant (h ++ Participant reference bic ∷ [])) (participants_push h (Participant reference bic)) (participant_push h (Participant reference bic) b) new each
  participants_once (Account reference bic account) new each b = times_same _ _ b _ _ _ (participants_push h (Account reference bic account)) (participant_push h (Account reference bic account) b) refl (each b)
  participants_once (Security reference isin kind) new each b = times_same _ _ b _ _ _ (participants_push h (Security reference isin kind)) (participant_push h (Security reference isin kind) b) refl (each b)
  participants_once (Issue movement) new each b = times_same _ _ b _ _ _ (participants_push h (Issue movement)) (participant_push h (Issue movement) b) refl (each b)
  participants_once (Redeem movement) new each b = times_same _ _ b _ _ _ (participants_push h (Redeem movement)) (participant_push h (Redeem movement) b) refl (each b)
  participants_once (PayIn payment) new each b = times_same _ _ b _ _ _ (participants_push h (PayIn payment)) (participant_push h (PayIn payment) b) refl (each b)
  participants_once (PayOut payment) new each b = times_same _ _ b _ _ _ (participants_push h (PayOut payment)) (participant_push h (PayOut payment) b) refl (each b)
  participants_once (Instruct sender i) new each b = times_same _ _ b _ _ _ (participants_push h (Instruct sender i)) (participant_push h (Instruct sender i) b) refl (each b)
  participants_once (Cancel sender order) new each b = times_same _ _ b _ _ _ (participants_push h (Cancel sender order)) (participant_push h (Cancel sender order) b) refl (each b)
  participants_once (Run reference day rule) new each b = times_same _ _ b _ _ _ (participants_push h (Run reference day rule)) (participant_push h (Run reference day rule) b) refl (each b)

  still_registered : (e : Entry) (i : Instructed) → IsOfRegistered h i → IsOfRegistered (h ++ e ∷ []) i
  still_registered e i is = record {
    account = account_push h e i.instruction.account ∙ still _ _ is.account;
    sender = participant_push h e i.sender ∙ still _ _ is.sender;
  }

  new_instruction : (e : Entry) (i : Instructed) → IsFounded h e → instructed e ≡ Some i → IsOfRegistered h i
  new_instruction (Participant reference bic) i new is = absurd (cc)
  new_instruction (Account reference bic account) i new is = absurd (cc)
  new_instruction (Security reference isin kind) i new is = absurd (cc)
  new_instruction (Issue movement) i new is = absurd (cc)
  new_instruction (Redeem movement) i new is = absurd (cc)
  new_instruction (PayIn payment) i new is = absurd (cc)
  new_instruction (PayOut payment) i new is = absurd (cc)
  new_instruction (Instruct sender instruction) i new is =
      let one : Instructed = record { sender = sender; instruction = instruction } in
      let same : one ≡ i = cc in
      subst (IsOfRegistered h) same new
  new_instruction (Cancel sender order) i new is = absurd (cc)
  new_instruction (Run reference day rule) i new is = absurd (cc)

  instructions_once : (e : Entry) → IsFounded h e → ((n : ℕ) (i : Instructed) → instruction_at h n ≡ Some i → IsOfRegistered h i)
      → (n : ℕ) (i : Instructed) → instruction_at (h ++ e ∷ []) n ≡ Some i → IsOfRegistered (h ++ e ∷ []) i
  instructions_once e new each n i is = still_registered e i (elim (cases_lt (length h) n) [
    | inr le ↦ each n i (sym (instruction_at-front h (e ∷ []) n le) ∙ is)
    | inl more ↦
        let known = instruction_at-known (h ++ e ∷ []) n i is in
        let within : n ≤ length (h ++ e ∷ []) = known.1 in
        let size = length-append h (e ∷ []) in
        let last : n ≡ length h + 1 = omega arith in
        new_instruction e i new (sym (ap (λ o. instruct_of o) (entry_at-end h e n last)) ∙ is)
  ])
    where
      instruct_of : Option Entry → Option Instructed
      instruct_of None = None
      instruct_of (Some x) = instructed x

  pub once_more : (e : Entry) → IsFounded h e → AreRegisteredOnce h → AreRegisteredOnce (h ++ e ∷ [])
  once_more e new once = record {
    accounts = accounts_once e new once.accounts;
    participants = participants_once e new once.participants;
    instructions = instructions_once e new once.instructions;
  }
