-- The places of the matched pairs: there are so many, and one is the next past a place, or none is.
use Rattle.std.proofs.Common.{◌≡◌, ◌⊎◌, inl, inr, ℕ, zero, suc, ◌<◌, ◌≤◌, true, false, List, [], ◌∷◌, length, filter, Option, Some, None, refl, ap, sym, ◌∙◌, subst, arith}
use Rattle.std.proofs.lemmas.Bool.{both_ways, cases_Bool, cases_lt, cases_order, false_from_ne_true}
use Rattle.std.proofs.lemmas.List.Filters.{length-filter_both}
use Rattle.std.specs.Prelude.{not}
use Rattle.desk_codes.specs.Number.{number_of}
use Rattle.desk_msg.specs.declared.writing.status.Reason.{Reason}
use Rattle.desk_rules.specs.declared.history.entry.Instructed.{Instructed}
use Rattle.desk_rules.specs.declared.history.pair.Place.{Place}
use Rattle.desk_rules.specs.declared.history.standing.State.{State}
use Rattle.desk_rules.specs.declared.history.standing.State.TheVariants.{NoInstruction, Unmatched, Matched, Cancelled, Settled}
use Rattle.desk_rules.specs.Content.{Content, history_of}
use Rattle.desk_rules.specs.History.{instruction_at}
use Rattle.desk_rules.specs.Settlement.{is_before, is_past}
use Rattle.desk_rules.proofs.Decided.{In}
use Rattle.desk_rules.proofs.Existence.{filter_fewer}
use Rattle.desk_rules.proofs.HistoryLemmas.{instruction_at-known}
use Rattle.desk_rules.proofs.PlaceLemmas.{before_day, before_never, before_number, before_through}
use Rattle.desk_register.specs.Looked.{IsMatchedPair}
use Rattle.desk_report.specs.PendingReading.{IsPairAfter}

-- The order of places.

pub place_same : (p q : Place) → p.day ≡ q.day → p.number ≡ q.number → p ≡ q
place_same p q d n = λ i. record { day = d i; number = n i }

pub never_before : (p : Place) → is_before p p ≡ true → ⊥
never_before p e = both_ways (is_before p p) (before_never p p refl refl) e

-- of two places neither of which is before the other there is one
pub neither_before : (p q : Place) → is_before p q ≡ false → is_before q p ≡ false → p ≡ q
neither_before p q e f = elim (cases_order p.day q.day) [
  | inr apart ↦ elim apart [
    | inl lt ↦ absurd (both_ways (is_before p q) e (before_day p q lt))
    | inr gt ↦ absurd (both_ways (is_before q p) f (before_day q p gt))
  ]
  | inl days ↦ elim (cases_order p.number q.number) [
    | inl numbers ↦ place_same p q days numbers
    | inr apart ↦ elim apart [
      | inl lt ↦ absurd (both_ways (is_before p q) e (before_number p q days lt))
      | inr gt ↦ absurd (both_ways (is_before q p) f (before_number q p (sym days) gt))
    ]
  ]
]

-- what is past a place is past what that is past
pub past_through : (last : Option Place) (p q : Place) → is_past last p ≡ true → is_before p q ≡ true → is_past last q ≡ true
past_through None p q e f = refl
past_through (Some last) p q e f = before_through last p q e f

-- The matched pairs up to a number.

module _ (content : Content) where
  abbrev IsOf : ℕ → Type 0
  IsOf n = (p : Place) × IsMatchedPair content p × (p.number ≡ n)

  abbrev NoneOf : ℕ → Type 0
  NoneOf n = (p : Place) → p.number ≡ n → IsMatchedPair content p → ⊥

  none_by_instruction : (n : ℕ) → instruction_at (history_of content) n ≡ None → NoneOf n
  none_by_instruction n at p e w =
      let some : instruction_at (history_of content) n ≡ Some w.later = ap (λ k. instruction_at (history_of content) k) (sym e) ∙ w.is_later in
      let clash : Some w.later ≡ None = sym some ∙ at in
      absurd (cc)

  none_by_mate : (n : ℕ) → (content.standing n).mate ≡ None → NoneOf n
  none_by_mate n at p e w =
      let some : (content.standing n).mate ≡ Some w.mate = ap (λ k. (content.standing k).mate) (sym e) ∙ w.has_mate in
      let clash : Some w.mate ≡ None = sym some ∙ at in
      absurd (cc)

  none_by_order : (n m : ℕ) → (content.standing n).mate ≡ Some m → n ≤ m → NoneOf n
  none_by_order n m at le p e w =
      let some : (content.standing n).mate ≡ Some w.mate = ap (λ k. (content.standing k).mate) (sym e) ∙ w.has_mate in
      let both : Some w.mate ≡ Some m = sym some ∙ at in
      let same : w.mate ≡ m = cc in
      let less : w.mate < p.number = w.is_earlier in
      absurd (omega arith)

  none_by_state : (n : ℕ) (state : State) → (content.standing n).state ≡ state → ((reason : Reason) → state ≡ Matched reason → ⊥) → NoneOf n
  none_by_state n state at other p e w =
      other w.reason (sym at ∙ ap (λ k. (content.standing k).state) (sym e) ∙ w.matched)

  either_by : (n : ℕ) (instructed : Option Instructed) (mate : Option ℕ) (state : State) → instruction_at (history_of content) n ≡ instructed → (content.standing n).mate ≡ mate → (content.standing n).state ≡ state
      → IsOf n ⊎ NoneOf n
  either_by n None mate state a m s = inr (none_by_instruction n a)
  either_by n (Some i) None state a m s = inr (none_by_mate n m)
  either_by n (Some i) (Some mate) NoInstruction a m s = inr (none_by_state n NoInstruction s (λ reason e. absurd (cc)))
  either_by n (Some i) (Some mate) Unmatched a m s = inr (none_by_state n Unmatched s (λ reason e. absurd (cc)))
  either_by n (Some i) (Some mate) (Matched reason) a m s = elim (cases_lt mate n) [
    | inl less ↦ inl (
      record { day = number_of i.instruction.day; number = n },
      record { later = i; mate = mate; reason = reason; is_later = a; has_mate = m; is_earlier = less; matched = s; day = refl },
      refl,
    )
    | inr more ↦ inr (none_by_order n mate m more)
  ]
  either_by n (Some i) (Some mate) Cancelled a m s = inr (none_by_state n Cancelled s (λ reason e. absurd (cc)))
  either_by n (Some i) (Some mate) Settled a m s = inr (none_by_state n Settled s (λ reason e. absurd (cc)))

  either : (n : ℕ) → IsOf n ⊎ NoneOf n
  either n = either_by n (instruction_at (history_of content) n) (content.standing n).mate (content.standing n).state refl refl refl

  day_again : (p q : Place) → p.number ≡ q.number → IsMatchedPair content p → IsMatchedPair content q → p ≡ q
  day_again p q e a b =
      let both : Some a.later ≡ Some b.later = sym a.is_later ∙ ap (λ k. instruction_at (history_of content) k) e ∙ b.is_later in
      let same : a.later ≡ b.later = cc in
      place_same p q (sym a.day ∙ ap (λ (i : Instructed). number_of i.instruction.day) same ∙ b.day) e

  pub record Placed (most : ℕ) : Type 0 where
    pub places : List Place
    pub each : (p : Place) → In places p → IsMatchedPair content p
    pub all : (p : Place) → IsMatchedPair content p → p.number ≤ most → In places p
    pub few : length places ≤ most

  number_some : (p : Place) → IsMatchedPair content p → 0 < p.number
  number_some p w = (let known = instruction_at-known (history_of content) p.number w.later w.is_later in known.0)

  placed : (most : ℕ) → Placed most
  placed zero = record {
    places = [];
    each = λ p i. absurd i;
    all = λ p w le. (let some = number_some p w in absurd (omega arith));
    few = omega arith;
  }
  placed (suc most) =
      let below = placed most in
      elim (either (suc most)) [
        | inr none ↦ record {
          places = below.places;
          each = below.each;
          all = λ p w le. elim (cases_lt p.number (suc most)) [
            | inl lt ↦ below.all p w (omega arith)
            | inr ge ↦ absurd (none p (omega arith) w)
          ];
          few = (let few = below.few in omega arith);
        }
        | inl found ↦ record {
          places = found.0 ∷ below.places;
          each = λ p i. elim i [ inl e ↦ subst (λ z. IsMatchedPair content z) e found.1 | inr j ↦ below.each p j ];
          all = λ p w le. elim (cases_lt p.number (suc most)) [
            | inl lt ↦ inr (below.all p w (omega arith))
            | inr ge ↦ (let is : found.0.number ≡ suc most = found.2 in inl (day_again found.0 p (omega arith) found.1 w))
          ];
          few = (let few = below.few in omega arith);
        }
      ]

  -- all of them
  pub placed_all : Placed (length (history_of content))
  placed_all = placed (length (history_of content))

  abbrev places : List Place
  places = placed_all.places

  matched_in : (p : Place) → IsMatchedPair content p → In places p
  matched_in p w = (let known = instruction_at-known (history_of content) p.number w.later w.is_later in placed_all.all p w known.1)

  -- how many matched pairs are past a place, or past none
  abbrev pub left : Option Place → ℕ
  left last = length (filter (is_past last) places)

  pub left_most : (last : Option Place) → left last ≤ length (history_of content)
  left_most last =
      let both = length-filter_both (is_past last) (λ p. not (is_past last p)) (λ p. refl) places in
      let few : length places ≤ length (history_of content) = placed_all.few in
      omega arith

  -- with each pair that is taken there is one less
  pub left_fewer : (last : Option Place) (next : Place) → IsMatchedPair content next → is_past last next ≡ true → left (Some next) < left last
  left_fewer last next w past =
      filter_fewer (is_past last) (is_past (Some next)) places next (λ p above. past_through last next p past above) (matched_in next w) past (false_from_ne_true (is_before next next) (never_before next))

  -- The next pair.

  abbrev IsFirstIn : Option Place → List Place → Place → Type 0
  IsFirstIn last ps q = In ps q × (is_past last q ≡ true) × ((p : Place) → In ps p → is_past last p ≡ true → is_before p q ≡ false)

  abbrev NonePast : Option Place → List Place → Type 0
  NonePast last ps = (p : Place) → In ps p → is_past last p ≡ true → ⊥

  before_itself : (p q : Place) → q ≡ p → is_before p q ≡ false
  before_itself p q e = before_never p q (sym (ap (λ z. z.day) e)) (sym (ap (λ z. z.number) e))

  first_past : (last : Option Place) (ps : List Place) → ((q : Place) × IsFirstIn last ps q) ⊎ NonePast last ps
  first_past last [] = inr (λ p i past. absurd i)
  first_past last (x ∷ ps) = elim (cases_Bool (is_past last x)) [
    | inr low ↦ elim (first_past last ps) [
      | inr none ↦ inr (λ p i past. elim i [ inl e ↦ both_ways (is_past last x) low (ap (is_past last) e ∙ past) | inr j ↦ none p j past ])
      | inl found ↦ inl (
        found.0,
        (inr found.1.0, found.1.1, λ p i past. elim i [ inl e ↦ absurd (both_ways (is_past last x) low (ap (is_past last) e ∙ past)) | inr j ↦ found.1.2 p j past ]),
      )
    ]
    | inl high ↦ elim (first_past last ps) [
      | inr none ↦ inl (x, (inl refl, high, λ p i past. elim i [ inl e ↦ before_itself p x e | inr j ↦ absurd (none p j past) ]))
      | inl found ↦ elim (cases_Bool (is_before x found.0)) [
        | inl less ↦ inl (
          x,
          (
            inl refl,
            high,
            λ p i past. elim i [
              | inl e ↦ before_itself p x e
              | inr j ↦ false_from_ne_true (is_before p x) (λ lt. both_ways (is_before p found.0) (found.1.2 p j past) (before_through p x found.0 lt less))
            ],
          ),
        )
        | inr more ↦ inl (
          found.0,
          (inr found.1.0, found.1.1, λ p i past. elim i [ inl e ↦ subst (λ z. is_before z found.0 ≡ false) e more | inr j ↦ found.1.2 p j past ]),
        )
      ]
    ]
  ]

  pub next_or_none : (last : Option Place) → ((next : Place) × IsPairAfter content last (Some next)) ⊎ IsPairAfter content last None
  next_or_none last = elim (first_past last places) [
    | inl found ↦ inl (found.0, (placed_all.each found.0 found.1.0, found.1.1, λ p w past. found.1.2 p (matched_in p w) past))
    | inr none ↦ inr (λ p w past. none p (matched_in p w) past)
  ]
