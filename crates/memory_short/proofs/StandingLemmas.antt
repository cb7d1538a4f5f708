-- What stands at a number once an entry is added, and once two instructions stand otherwise.
use Rattle.std.proofs.Common.{rules, ◌≡◌, ◌≢◌, ℕ, zero, suc, ◌+◌, ◌<◌, true, false, List, [], ◌∷◌, ◌++◌, length, map, Option, Some, None, refl, ap, sym, ◌∙◌, subst, arith, inl, inr}
use Rattle.std.specs.Prelude.{slice_get, option_and_then, ◌==◌}
use Rattle.std.proofs.lemmas.Bool.{cases_eq}
use Rattle.std.proofs.lemmas.List.{length-map, map-append}
use Rattle.desk_rules.specs.declared.history.entry.Entry.{Entry}
use Rattle.desk_rules.specs.declared.history.entry.Entry.TheVariants.{Participant, Account, Security, Issue, Redeem, PayIn, PayOut, Instruct, Cancel, Run}
use Rattle.desk_rules.specs.declared.answers.reply.Reply.{Reply}
use Rattle.desk_rules.specs.declared.history.standing.Standing.{Standing}
use Rattle.desk_rules.specs.declared.history.standing.State.{State}
use Rattle.desk_rules.specs.declared.history.standing.State.TheVariants.{Unmatched}
use Rattle.desk_rules.specs.Content.{Content, history_of}
use Rattle.desk_rules.specs.History.{instructed, instruction_at}
use Rattle.desk_register.specs.Changes.{appended, first_standing, requested_by, requests_noted, standing_at, standing_both, with_request}

at_end_of : (h : List Entry) (e : Entry) → slice_get (h ++ e ∷ []) (length h) ≡ Some e
at_end_of [] e = refl
at_end_of (x ∷ h) e = at_end_of h e

pub instruction_end : (h : List Entry) (e : Entry) (n : ℕ) → n ≡ length h + 1 → instruction_at (h ++ e ∷ []) n ≡ instructed e
instruction_end h e n is = let same : n ≡ suc (length h) = omega arith in rw same (ap (option_and_then instructed) (at_end_of h e))

slice_more : (h : List Entry) (e : Entry) (k : ℕ) → k ≢ length h → slice_get (h ++ e ∷ []) k ≡ slice_get h k
slice_more [] e zero apart = absurd (apart refl)
slice_more [] e (suc k) apart = refl
slice_more (x ∷ h) e zero apart = refl
slice_more (x ∷ h) e (suc k) apart = slice_more h e k (λ same. apart (ap suc same))

pub instruction_more : (h : List Entry) (e : Entry) (n k : ℕ) → n ≡ length h + 1 → k ≢ n → instruction_at (h ++ e ∷ []) k ≡ instruction_at h k
instruction_more h e n zero is apart = refl
instruction_more h e n (suc k) is apart = ap (option_and_then instructed) (slice_more h e k (λ same. apart (let step : suc k ≡ length h + 1 = omega arith in step ∙ sym is)))

pub no_mate : (e : Entry) → (first_standing e).mate ≡ None
no_mate (Participant reference bic) = refl
no_mate (Account reference bic account) = refl
no_mate (Security reference isin kind) = refl
no_mate (Issue movement) = refl
no_mate (Redeem movement) = refl
no_mate (PayIn payment) = refl
no_mate (PayOut payment) = refl
no_mate (Instruct sender instruction) = refl
no_mate (Cancel sender order) = refl
no_mate (Run reference day rule) = refl

pub history_more : (entry : Entry) (reply : Reply) (content : Content) → history_of (appended entry reply content) ≡ history_of content ++ entry ∷ []
history_more entry reply content = map-append (λ k. k.entry) content.register (record { entry = entry; reply = reply } ∷ [])

pub standing_here : (st : ℕ → Standing) (n : ℕ) (s : Standing) → standing_at st n s n ≡ s
standing_here st n s = let same : (n == n) ≡ true = search rules in rw same refl

pub standing_other : (st : ℕ → Standing) (n k : ℕ) (s : Standing) → k ≢ n → standing_at st n s k ≡ st k
standing_other st n k s apart = let other : (k == n) ≡ false = grind (arith, apart) in rw other refl

-- What an entry requests changes neither a mate nor how far an instruction has come.

pub record AreAlike (a b : Standing) : Type 0 where
  pub mate : a.mate ≡ b.mate
  pub state : a.state ≡ b.state

request_alike : (named : Option ℕ) (st : ℕ → Standing) (k : ℕ) → AreAlike (with_request named st k) (st k)
request_alike None st k = record { mate = refl; state = refl }
request_alike (Some j) st k = elim (cases_eq k j) [
  | inl here ↦
      let same : standing_at st j (record (st j) { cancel_requested = true }) k ≡ record (st j) { cancel_requested = true } = ap (standing_at st j (record (st j) { cancel_requested = true })) here ∙ standing_here st j (record (st j) { cancel_requested = true }) in
      record { mate = ap (λ s. s.mate) same ∙ ap (λ z. (st z).mate) (sym here); state = ap (λ s. s.state) same ∙ ap (λ z. (st z).state) (sym here) }
  | inr apart ↦
      let same : standing_at st j (record (st j) { cancel_requested = true }) k ≡ st k = standing_other st j k (record (st j) { cancel_requested = true }) apart in
      record { mate = ap (λ s. s.mate) same; state = ap (λ s. s.state) same }
]

pub noted_alike : (entry : Entry) (h : List Entry) (st : ℕ → Standing) (k : ℕ) → AreAlike (requests_noted h entry st k) (st k)
noted_alike entry h st k = request_alike (requested_by h entry) st k

pub size_of : (content : Content) → length (history_of content) ≡ length content.register
size_of content = length-map content.register (λ kept. kept.entry)

module _ (entry : Entry) (reply : Reply) (content : Content) (n : ℕ) (is : n ≡ length content.register + 1) where
  pub n_is : n ≡ length (history_of content) + 1
  n_is = is ∙ ap (λ z. z + 1) (sym (size_of content))

  abbrev pub noted : ℕ → Standing
  noted = requests_noted (history_of content) entry content.standing

  pub stands_otherwise : (k : ℕ) → k ≢ n → noted k ≡ (appended entry reply content).standing k
  stands_otherwise k apart = sym (subst (λ z. standing_at noted z (first_standing entry) k ≡ noted k) is (standing_other noted n k (first_standing entry) apart))

-- Two instructions that stand otherwise.

module _ (old new : Content) (m n : ℕ) (s : State) (two : m < n) (apart : s ≢ Unmatched) (same : new.register ≡ old.register) (stand : new.standing ≡ standing_both old.standing m n s) where
  pub history_same : history_of new ≡ history_of old
  history_same = ap (λ r. map (λ k. k.entry) r) same

  abbrev pub later_side : Standing
  later_side = record (old.standing n) { mate = Some m; state = s }

  abbrev pub earlier_side : Standing
  earlier_side = record (old.standing m) { mate = Some n; state = s }

  pub at_later : new.standing n ≡ later_side
  at_later = ap (λ f. f n) stand ∙ standing_here (standing_at old.standing m earlier_side) n later_side

  pub at_earlier : new.standing m ≡ earlier_side
  at_earlier = ap (λ f. f m) stand ∙ standing_other (standing_at old.standing m earlier_side) n m later_side (λ e. omega arith) ∙ standing_here old.standing m earlier_side

  pub at_other : (k : ℕ) → k ≢ n → k ≢ m → new.standing k ≡ old.standing k
  at_other k not_n not_m = ap (λ f. f k) stand ∙ standing_other (standing_at old.standing m earlier_side) n k later_side not_n ∙ standing_other old.standing m k earlier_side not_m
