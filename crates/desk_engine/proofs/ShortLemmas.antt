-- Pairs that stay short are passed over as if each were tried.
use Rattle.std.proofs.Common.{◌≡◌, inl, inr, ℕ, zero, suc, ◌+◌, ◌<◌, ◌≤◌, true, false, List, [], ◌∷◌, ◌++◌, Option, Some, None, refl, sym, subst, arith}
use Rattle.std.proofs.lemmas.Bool.{both_ways, cases_Bool, cases_lt}
use Rattle.desk_codes.specs.Number.{number_of}
use Rattle.desk_rules.specs.declared.history.entry.Entry.TheVariants.{Run}
use Rattle.desk_rules.specs.declared.history.entry.RunRule.{RunRule}
use Rattle.desk_rules.specs.declared.history.pair.Lack.{Lack}
use Rattle.desk_rules.specs.declared.history.pair.Lack.TheVariants.{Securities, Money}
use Rattle.desk_rules.specs.declared.history.pair.Place.{Place}
use Rattle.desk_rules.specs.declared.history.pair.Settled.{Settled}
use Rattle.desk_rules.specs.declared.history.standing.State.{State}
use Rattle.desk_rules.specs.declared.history.standing.State.TheVariants.{Matched}
use Rattle.desk_rules.specs.Books.{Books, AreBooks}
use Rattle.desk_rules.specs.Content.{Content}
use Rattle.desk_rules.specs.Settlement.{is_before, is_past}
use Rattle.desk_rules.specs.Standing.{reason_of_lack}
use Rattle.desk_rules.specs.Verdict.{WasAccepted}
use Rattle.desk_register.specs.declared.outcome.Outcome.TheVariants.{Lacks}
use Rattle.desk_register.specs.Changes.{TriesPair, TriesSides, standing_both}
use Rattle.desk_register.specs.Looked.{IsDue, IsDuePairAfter}
use Rattle.desk_register.specs.Short.{IsToTryAfter, LacksNow, StaysShort}
use Rattle.desk_engine.specs.Pass.{Fares, IsTried}
use Rattle.desk_register.proofs.StandingLemmas.{stand_already}
use Rattle.desk_rules.proofs.Existence.{fewer_above}
use Rattle.desk_rules.proofs.PlaceLemmas.{before_day, before_number, before_through}
use Rattle.desk_engine.proofs.PassLemmas.{due_open, first_due, found_pair}
use Rattle.desk_engine.proofs.UnderwayLemmas.{Underway, goes_on, left_above}

-- A try of a pair that stays short writes what stands there.

module _ (content : Content) (n : ℕ) (s : StaysShort content n) where
  abbrev waits_so : State
  waits_so = Matched (reason_of_lack (Some s.lack))

  same_content : content ≡ record content { standing = standing_both content.standing s.mate n waits_so }
  same_content = stand_already content s.mate n waits_so s.pair.has_mate s.back s.later_waits s.earlier_waits

  tries_sides : (lack : Lack) → LacksNow content s.earlier s.later lack → content ≡ record content { standing = standing_both content.standing s.mate n (Matched (reason_of_lack (Some lack))) }
      → TriesSides content n s.mate s.earlier s.later (Lacks lack) content
  tries_sides Securities lacks same = (lacks, same)
  tries_sides Money lacks same = (lacks.0, lacks.1, same)

  short_tried : TriesPair content n (Lacks s.lack) content
  short_tried = record { mate = s.mate; earlier = s.earlier; later = s.later; pair = s.pair; ends = tries_sides s.lack s.lacks same_content }

  -- so it fares as by a try
  pub short_so : (day : List ℕ) → IsTried content n day (Lacks s.lack) content
  short_so day = record { between = content; tried = short_tried; told = refl }

  pub short_fares : (day : List ℕ) → Fares content n day false content
  short_fares day = record { outcome = Lacks s.lack; settled = refl; tried = short_so day }

-- Places.

past_through : (place : Option Place) (q r : Place) → is_past place q ≡ true → is_before q r ≡ true → is_past place r ≡ true
past_through None q r past before = refl
past_through (Some last) q r past before = before_through last q r past before

-- two places of which neither is before the other are one
one_place : (p q : Place) → is_before p q ≡ false → is_before q p ≡ false → p ≡ q
one_place p q not_first not_second =
    let days_up : q.day ≤ p.day = not_less_day p q not_first in
    let days_down : p.day ≤ q.day = not_less_day q p not_second in
    let days : p.day ≡ q.day = omega arith in
    let up : q.number ≤ p.number = not_less_number p q days not_first in
    let down : p.number ≤ q.number = not_less_number q p (sym days) not_second in
    let numbers : p.number ≡ q.number = omega arith in
    λ i. record { day = days i; number = numbers i }
  where
    not_less_day : (p q : Place) → is_before p q ≡ false → q.day ≤ p.day
    not_less_day p q e = elim (cases_lt p.day q.day) [ inl lt ↦ absurd (both_ways _ e (before_day p q lt)) | inr le ↦ omega arith ]

    not_less_number : (p q : Place) → p.day ≡ q.day → is_before p q ≡ false → q.number ≤ p.number
    not_less_number p q same e = elim (cases_lt p.number q.number) [ inl lt ↦ absurd (both_ways _ e (before_number p q same lt)) | inr le ↦ omega arith ]

-- what is due past a further place is due past the first
due_before : (content : Content) (day : ℕ) (place : Option Place) (q r : Place) → IsDue content day place q → IsDue content day (Some q) r → IsDue content day place r
due_before content day place q r first due = record { pair = due.pair; by = due.by; above = past_through place q r first.above due.above }

-- and what is to be tried past the first is, past a further one
try_further : (content : Content) (day : ℕ) (place : Option Place) (q p : Place) → IsDue content day place q → is_before q p ≡ true → IsToTryAfter content day place (Some p) → IsToTryAfter content day (Some q) (Some p)
try_further content day place q p first before to_try = (
  record { pair = to_try.0.pair; by = to_try.0.by; above = before },
  λ r due low. to_try.1 r (due_before content day place q r first due) low,
)

none_further : (content : Content) (day : ℕ) (place : Option Place) (q : Place) → IsDue content day place q → IsToTryAfter content day place None → IsToTryAfter content day (Some q) None
none_further content day place q first short = λ r due. short r (due_before content day place q r first due)

-- Past all that stay short.

-- the pass has come to a place, so that the next one to try is the next that is due
pub record Skipped (books : Books) (reference day : List ℕ) (rule : RunRule) (pass : ℕ) (start : List Settled) (tried count : ℕ) (next : Option Place) (content : Content) : Type 0 where
  pub place : Option Place
  pub tried_so : ℕ
  pub waiting_so : ℕ
  pub enough : tried ≤ tried_so
  pub underway : Underway books reference day rule pass start place tried_so count waiting_so content
  pub after : IsDuePairAfter content (number_of day) place next

module _ (limit : ℕ) (books : Books) (reference day : List ℕ) (rule : RunRule) (pass : ℕ) (start : List Settled) (count : ℕ) (content : Content) (are : AreBooks books) (was : WasAccepted limit books.history) where
  -- one more that stays short
  one_skipped : (place : Option Place) (tried waiting : ℕ) (q : Place) → Underway books reference day rule pass start place tried count waiting content → IsDuePairAfter content (number_of day) place (Some q) → StaysShort content q.number
      → Underway books reference day rule pass start (Some q) (tried + 1) count (waiting + 1) content
  one_skipped place tried waiting q u due short =
      let same : count + 0 ≡ count = omega arith in
      let P : ℕ → Type 0 = λ k. Underway books reference day rule pass start (Some q) (tried + 1) k (waiting + 1) content in
      subst P same (goes_on limit books reference day rule pass start place tried count waiting (waiting + 1) content content (record { place = q; outcome = Lacks short.lack }) are was u (due, short_so content q.number short day) (omega arith))

  -- fewer are above it
  less_above : (place : Option Place) (tried waiting : ℕ) (q : Place) → Underway books reference day rule pass start place tried count waiting content → IsDuePairAfter content (number_of day) place (Some q)
      → left_above books reference day rule (Some q) < left_above books reference day rule place
  less_above place tried waiting q u due =
      let found = found_pair books reference day rule pass place (start ++ u.here) content are u.underway q due.0.pair in
      let is_open = (due_open books reference day rule pass place (start ++ u.here) content are u.underway q due.0 found).0 in
      fewer_above (books.history ++ Run reference day rule ∷ []) books.pairs place q found.waiting.pair is_open.paired found.place_is is_open.above

  here : (place : Option Place) (tried waiting : ℕ) (next : Option Place) → Underway books reference day rule pass start place tried count waiting content → IsDuePairAfter content (number_of day) place next
      → Skipped books reference day rule pass start tried count next content
  here place tried waiting next u after = record { place = place; tried_so = tried; waiting_so = waiting; enough = omega arith; underway = u; after = after }

  more_so : (tried : ℕ) (next : Option Place) → Skipped books reference day rule pass start (tried + 1) count next content → Skipped books reference day rule pass start tried count next content
  more_so tried next s = record { place = s.place; tried_so = s.tried_so; waiting_so = s.waiting_so; enough = (let more = s.enough in omega arith); underway = s.underway; after = s.after }

  skip_all : (fuel : ℕ) (place : Option Place) (tried waiting : ℕ) → left_above books reference day rule place ≤ fuel → Underway books reference day rule pass start place tried count waiting content
      → IsToTryAfter content (number_of day) place None → Skipped books reference day rule pass start tried count None content
  skip_all zero place tried waiting le u short = elim (first_due books reference day rule pass place (start ++ u.here) content are u.underway) [
    | inr none ↦ here place tried waiting None u none
    | inl found ↦ (let less = less_above place tried waiting found.0 u found.1 in absurd (omega arith))
  ]
  skip_all (suc fuel) place tried waiting le u short = elim (first_due books reference day rule pass place (start ++ u.here) content are u.underway) [
    | inr none ↦ here place tried waiting None u none
    | inl found ↦
        let q = found.0 in
        let due = found.1 in
        let less = less_above place tried waiting q u due in
        more_so tried None (skip_all fuel (Some q) (tried + 1) (waiting + 1) (omega arith) (one_skipped place tried waiting q u due (short q due.0)) (none_further content (number_of day) place q due.0 short))
  ]

  skip_to : (fuel : ℕ) (place : Option Place) (tried waiting : ℕ) (p : Place) → left_above books reference day rule place ≤ fuel → Underway books reference day rule pass start place tried count waiting content
      → IsToTryAfter content (number_of day) place (Some p) → Skipped books reference day rule pass start tried count (Some p) content
  skip_to zero place tried waiting p le u to_try = elim (first_due books reference day rule pass place (start ++ u.here) content are u.underway) [
    | inr none ↦ absurd (none p to_try.0)
    | inl found ↦ (let less = less_above place tried waiting found.0 u found.1 in absurd (omega arith))
  ]
  skip_to (suc fuel) place tried waiting p le u to_try = elim (first_due books reference day rule pass place (start ++ u.here) content are u.underway) [
    | inr none ↦ absurd (none p to_try.0)
    | inl found ↦
        let q = found.0 in
        let due = found.1 in
        elim (cases_Bool (is_before q p)) [
          | inl before ↦
              let less = less_above place tried waiting q u due in
              more_so tried (Some p) (skip_to fuel (Some q) (tried + 1) (waiting + 1) p (omega arith) (one_skipped place tried waiting q u due (to_try.1 q due.0 before)) (try_further content (number_of day) place q p due.0 before to_try))
          | inr not_before ↦
              let same : q ≡ p = one_place q p not_before (due.1 p to_try.0) in
              let P : Place → Type 0 = λ z. IsDuePairAfter content (number_of day) place (Some z) in
              here place tried waiting (Some p) u (subst P same due)
        ]
  ]

  pub skip : (place : Option Place) (tried waiting : ℕ) (next : Option Place) → Underway books reference day rule pass start place tried count waiting content
      → IsToTryAfter content (number_of day) place next → Skipped books reference day rule pass start tried count next content
  skip place tried waiting None u short = skip_all (left_above books reference day rule place) place tried waiting (omega arith) u short
  skip place tried waiting (Some p) u to_try = skip_to (left_above books reference day rule place) place tried waiting p (omega arith) u to_try
