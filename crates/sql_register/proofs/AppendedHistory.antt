-- What the history says with one entry more: which number instructs, and where each instruction stands.
use Rattle.std.proofs.Common.{◌≡◌, ◌≢◌, inl, inr, refl, sym, ap, ◌∙◌, ℕ, ◌+◌, ◌<◌, ◌==◌, cond, true, false, List, [], ◌∷◌, ◌++◌, length, Option, None, Some, arith, eq-eqb, eqb-true, length-append}
use Rattle.std.specs.Prelude.{option_and_then}
use Rattle.std.proofs.lemmas.Bool.{cases_Bool, cases_lt}
use Rattle.std.proofs.lemmas.List.{length-map}
use Rattle.desk_rules.specs.declared.history.entry.Entry.{Entry}
use Rattle.desk_rules.specs.declared.history.entry.Entry.TheVariants.{Participant, Account, Security, Issue, Redeem, PayIn, PayOut, Instruct, Cancel, Run}
use Rattle.desk_rules.specs.declared.history.entry.Instructed.{Instructed}
use Rattle.desk_rules.specs.declared.answers.reply.Kept.{Kept}
use Rattle.desk_rules.specs.declared.answers.reply.Reply.{Reply}
use Rattle.desk_rules.specs.declared.history.standing.Standing.{Standing}
use Rattle.desk_rules.specs.declared.history.standing.State.TheVariants.{NoInstruction}
use Rattle.desk_rules.specs.Content.{Content, history_of}
use Rattle.desk_rules.specs.declared.history.entry.Sender.TheVariants.{Participant as FromParticipant}
use Rattle.desk_rules.specs.History.{instructed, instruction_at, number_of_key}
use Rattle.desk_rules.specs.Standing.{no_standing}
use Rattle.desk_rules.specs.Verdict.{if_of_type}
use Rattle.desk_rules.proofs.HistoryLemmas.{entry_at-end, instruction_at-front, instruction_at-known, some_before}
use Rattle.desk_msg.specs.MessageType.{number_of_type}
use Rattle.desk_register.specs.Changes.{appended, first_standing, requested_by, requests_noted, with_request}
use Rattle.desk_register.proofs.AddsUpLemmas.{longer}
use Rattle.desk_register.proofs.CaseLemmas.{by_bool}

-- ---- the instruction whose cancellation is requested

of_type_known : (mt x k : ℕ) (o : Option Instructed) → if_of_type mt x o ≡ Some k → (i : Instructed) × (o ≡ Some i) × (x ≡ k)
of_type_known mt x k None is = absurd (cc)
of_type_known mt x k (Some i) is =
    by_bool (number_of_type i.instruction.mt == mt) (λ t. let same : Some x ≡ Some k = (rw t at is) in (i, refl, (let it : x ≡ k = cc in it))) (λ f. let bad = rw f at is in absurd (cc))

pub requested_known : (h : List Entry) (e : Entry) (k : ℕ) → requested_by h e ≡ Some k → (i : Instructed) × (instruction_at h k ≡ Some i)
requested_known h (Participant reference bic) k is = absurd (cc)
requested_known h (Account reference bic account) k is = absurd (cc)
requested_known h (Security reference isin kind) k is = absurd (cc)
requested_known h (Issue movement) k is = absurd (cc)
requested_known h (Redeem movement) k is = absurd (cc)
requested_known h (PayIn payment) k is = absurd (cc)
requested_known h (PayOut payment) k is = absurd (cc)
requested_known h (Instruct sender instruction) k is = absurd (cc)
requested_known h (Cancel sender order) k is =
    let found = some_before (λ x. if_of_type (number_of_type order.mt) x (instruction_at h x)) (number_of_key h (FromParticipant sender) order.previous) k is in
    let known = of_type_known (number_of_type order.mt) found.0 k (instruction_at h found.0) found.2 in
    (known.0, ap (instruction_at h) (sym known.2) ∙ known.1)
requested_known h (Run reference day rule) k is = absurd (cc)

-- ---- what is noted keeps the state and the mate

module _ (standing : ℕ → Standing) where
  noted_part : {X : Type 0} (part : Standing → X) → ((s : Standing) → part (record s { cancel_requested = true }) ≡ part s) → (o : Option ℕ) (n : ℕ) → part (with_request o standing n) ≡ part (standing n)
  noted_part part same None n = refl
  noted_part part same (Some k) n = elim (cases_Bool (n == k)) [
    | inl here ↦ ap (λ b. part (cond b (record (standing k) { cancel_requested = true }) (standing n))) here ∙ same (standing k) ∙ ap (λ m. part (standing m)) (sym (eqb-true n k here))
    | inr apart ↦ ap (λ b. part (cond b (record (standing k) { cancel_requested = true }) (standing n))) apart
  ]

-- no instruction has a number past the last
beyond : (h : List Entry) (n : ℕ) → length h < n → instruction_at h n ≡ None
beyond h n past = go (instruction_at h n) refl
  where
    go : (o : Option Instructed) → instruction_at h n ≡ o → o ≡ None
    go None is = refl
    go (Some i) is = absurd (let known = instruction_at-known h n i is in omega (arith, known.1))

first_none : (e : Entry) → instructed e ≡ None → first_standing e ≡ no_standing
first_none (Participant reference bic) is = refl
first_none (Account reference bic account) is = refl
first_none (Security reference isin kind) is = refl
first_none (Issue movement) is = refl
first_none (Redeem movement) is = refl
first_none (PayIn payment) is = refl
first_none (PayOut payment) is = refl
first_none (Instruct sender instruction) is = absurd (cc)
first_none (Cancel sender order) is = refl
first_none (Run reference day rule) is = refl

-- an instruction stands from the first
first_some : (e : Entry) (i : Instructed) → instructed e ≡ Some i → (first_standing e).state ≢ NoInstruction
first_some (Participant reference bic) i is = absurd (cc)
first_some (Account reference bic account) i is = absurd (cc)
first_some (Security reference isin kind) i is = absurd (cc)
first_some (Issue movement) i is = absurd (cc)
first_some (Redeem movement) i is = absurd (cc)
first_some (PayIn payment) i is = absurd (cc)
first_some (PayOut payment) i is = absurd (cc)
first_some (Instruct sender instruction) i is = λ none. cc
first_some (Cancel sender order) i is = absurd (cc)
first_some (Run reference day rule) i is = absurd (cc)

module _ (content : Content) (e : Entry) (reply : Reply) where
  abbrev h : List Entry
  h = history_of content

  abbrev last : ℕ
  last = length content.register + 1

  abbrev noted : ℕ → Standing
  noted = requests_noted h e content.standing

  abbrev after : Content
  after = appended e reply content

  size : length h ≡ length content.register
  size = length-map content.register (λ (k : Kept). k.entry)

  pub at_last : instruction_at (history_of after) last ≡ instructed e
  at_last = ap (λ z. instruction_at z last) (longer content e reply) ∙ ap (λ o. option_and_then instructed o) (entry_at-end h e last (omega (arith, size)))

  at_front : (n : ℕ) → (n == last) ≡ false → instruction_at (history_of after) n ≡ instruction_at h n
  at_front n apart = ap (λ z. instruction_at z n) (longer content e reply) ∙ elim (cases_lt (length h) n) [
    | inr le ↦ instruction_at-front h (e ∷ []) n le
    | inl past ↦
        let other : n ≢ last = (λ is. let t = eq-eqb n last is in let e = sym t ∙ apart in cc) in
        let more = length-append h (e ∷ []) in
        let further : length (h ++ e ∷ []) < n = elim (cases_lt (length (h ++ e ∷ [])) n) [ inl lt ↦ lt | inr le ↦ absurd (other (omega (arith, size, more, past, le))) ] in
        beyond (h ++ e ∷ []) n further ∙ sym (beyond h n past)
  ]

  pub none_last : instruction_at h last ≡ None
  none_last = beyond h last (omega (arith, size))

  stands_last : (n : ℕ) → (n == last) ≡ true → after.standing n ≡ first_standing e
  stands_last n here = ap (λ b. cond b (first_standing e) (noted n)) here

  stands_front : (n : ℕ) → (n == last) ≡ false → after.standing n ≡ noted n
  stands_front n apart = ap (λ b. cond b (first_standing e) (noted n)) apart

  -- each instruction stands somewhere
  pub stands_more : ((n : ℕ) (i : Instructed) → instruction_at h n ≡ Some i → (content.standing n).state ≢ NoInstruction) → (n : ℕ) (i : Instructed) → instruction_at (history_of after) n ≡ Some i → (after.standing n).state ≢ NoInstruction
  stands_more all n i is none = elim (cases_Bool (n == last)) [
    | inl here ↦ first_some e i (sym at_last ∙ ap (instruction_at (history_of after)) (sym (eqb-true n last here)) ∙ is) (sym (ap (λ (s : Standing). s.state) (stands_last n here)) ∙ none)
    | inr apart ↦ all n i (sym (at_front n apart) ∙ is) (sym (ap (λ (s : Standing). s.state) (stands_front n apart) ∙ noted_part content.standing (λ s. s.state) (λ s. refl) (requested_by h e) n) ∙ none)
  ]

  -- where what is no instruction stands
  module _ (none : (n : ℕ) → instruction_at h n ≡ None → content.standing n ≡ no_standing) where
    noted_none : (n : ℕ) → instruction_at h n ≡ None → noted n ≡ no_standing
    noted_none n is = go (requested_by h e) refl
      where
        go : (o : Option ℕ) → requested_by h e ≡ o → with_request o content.standing n ≡ no_standing
        go None asked = none n is
        go (Some k) asked = elim (cases_Bool (n == k)) [
          | inl here ↦ absurd (let known = requested_known h e k asked in let bad = sym known.1 ∙ ap (instruction_at h) (sym (eqb-true n k here)) ∙ is in cc)
          | inr apart ↦ ap (λ b. cond b (record (content.standing k) { cancel_requested = true }) (content.standing n)) apart ∙ none n is
        ]

    pub instructions_more : (n : ℕ) → instruction_at (history_of after) n ≡ None → after.standing n ≡ no_standing
    instructions_more n is = elim (cases_Bool (n == last)) [
      | inl here ↦ stands_last n here ∙ first_none e (sym at_last ∙ ap (instruction_at (history_of after)) (sym (eqb-true n last here)) ∙ is)
      | inr apart ↦ stands_front n apart ∙ noted_none n (sym (at_front n apart) ∙ is)
    ]

    -- where the entry instructs nothing, its number stands as before
    pub stands_same : instructed e ≡ None → (n : ℕ) → noted n ≡ after.standing n
    stands_same nothing n = elim (cases_Bool (n == last)) [
      | inl here ↦ ap noted (eqb-true n last here) ∙ noted_none last none_last ∙ sym (stands_last n here ∙ first_none e nothing)
      | inr apart ↦ sym (stands_front n apart)
    ]
