-- Lists in an order, in which each member is decided by those that stand before it. There is one such list, and
-- it grows at its end.
use Rattle.std.proofs.Common.{◌≡◌, zero, suc, ◌<◌, ◌↔◌, ◌⊎◌, inl, inr, Bool, true, false, List, [], ◌∷◌, ◌++◌, Contains, AllPairs, filter, length, get_or, refl, sym, ◌∙◌, ap, subst, arith, append_assoc}
use Rattle.std.proofs.lemmas.Bool.{cases_Bool, both_ways, false_from_ne_true}
use Rattle.std.proofs.lemmas.List.{append-nil}
use Rattle.std.proofs.lemmas.List.Elements.{Contains-get_or, filter-append}

-- Membership by recursion.

abbrev pub In : {X : Type 0} → List X → X → Type 0
In [] x = ⊥
In (y ∷ ys) x = (y ≡ x) ⊎ In ys x

pub In-from_Contains : {X : Type 0} (xs : List X) (x : X) → Contains xs x → In xs x
In-from_Contains [] x (k, lt, e) = absurd (omega arith)
In-from_Contains (y ∷ ys) x (zero, lt, e) = inl e
In-from_Contains (y ∷ ys) x (suc k, lt, e) = inr (In-from_Contains ys x (k, omega arith, e))

pub Contains-from_In : {X : Type 0} (xs : List X) (x : X) → In xs x → Contains xs x
Contains-from_In [] x i = absurd i
Contains-from_In (y ∷ ys) x (inl e) = (0, omega arith, e)
Contains-from_In (y ∷ ys) x (inr i) = let c = Contains-from_In ys x i in (suc c.0, let lt : c.0 < length ys = c.1 in omega arith, c.2)

pub In-left : {X : Type 0} (xs ys : List X) (x : X) → In xs x → In (xs ++ ys) x
In-left [] ys x i = absurd i
In-left (z ∷ xs) ys x (inl e) = inl e
In-left (z ∷ xs) ys x (inr i) = inr (In-left xs ys x i)

pub In-right : {X : Type 0} (xs ys : List X) (x : X) → In ys x → In (xs ++ ys) x
In-right [] ys x i = i
In-right (z ∷ xs) ys x i = inr (In-right xs ys x i)

pub In-cases : {X : Type 0} (xs ys : List X) (x : X) → In (xs ++ ys) x → In xs x ⊎ In ys x
In-cases [] ys x i = inr i
In-cases (z ∷ xs) ys x (inl e) = inl (inl e)
In-cases (z ∷ xs) ys x (inr i) = elim (In-cases xs ys x i) [ inl l ↦ inl (inr l) | inr r ↦ inr r ]

pub In-push_cases : {X : Type 0} (xs : List X) (y x : X) → In (xs ++ y ∷ []) x → In xs x ⊎ (y ≡ x)
In-push_cases xs y x i = elim (In-cases xs (y ∷ []) x i) [ inl l ↦ inl l | inr r ↦ elim r [ inl e ↦ inr e | inr n ↦ absurd n ] ]

-- A filter.

pub filter_yes : {X : Type 0} (p : X → Bool) (y : X) (ys : List X) → p y ≡ true → filter p (y ∷ ys) ≡ y ∷ filter p ys
filter_yes p y ys e = rw e refl

pub filter_no : {X : Type 0} (p : X → Bool) (y : X) (ys : List X) → p y ≡ false → filter p (y ∷ ys) ≡ filter p ys
filter_no p y ys e = rw e refl

pub In-filter : {X : Type 0} (p : X → Bool) (xs : List X) (x : X) → In (filter p xs) x → In xs x × (p x ≡ true)
In-filter p [] x i = absurd i
In-filter {X} p (y ∷ ys) x i =
    let P : List X → Type 0 = λ z. In z x in
    elim (cases_Bool (p y)) [
      | inl e ↦ elim (subst P (filter_yes p y ys e) i) [
        | inl same ↦ (inl same, ap p (sym same) ∙ e)
        | inr rest ↦ let r = In-filter p ys x rest in (inr r.0, r.1)
      ]
      | inr e ↦ let r = In-filter p ys x (subst P (filter_no p y ys e) i) in (inr r.0, r.1)
    ]

pub filter-In : {X : Type 0} (p : X → Bool) (xs : List X) (x : X) → In xs x → p x ≡ true → In (filter p xs) x
filter-In p [] x i e = absurd i
filter-In {X} p (y ∷ ys) x i e =
    let P : List X → Type 0 = λ z. In z x in
    elim (cases_Bool (p y)) [
      | inl is ↦ subst P (sym (filter_yes p y ys is)) (elim i [ inl same ↦ inl same | inr rest ↦ inr (filter-In p ys x rest e) ])
      | inr is ↦ subst P (sym (filter_no p y ys is)) (elim i [ inl same ↦ absurd (both_ways (p y) is (ap p same ∙ e)) | inr rest ↦ filter-In p ys x rest e ])
    ]

pub filter-none : {X : Type 0} (p : X → Bool) (xs : List X) → ((x : X) → In xs x → p x ≡ false) → filter p xs ≡ []
filter-none p [] none = refl
filter-none p (x ∷ xs) none = rw (none x (inl refl)) (filter-none p xs (λ y i. none y (inr i)))

-- the front passes and the rest does not
pub filter-front : {X : Type 0} (p : X → Bool) (front rest : List X) → ((x : X) → In front x → p x ≡ true) → ((x : X) → In rest x → p x ≡ false) → filter p (front ++ rest) ≡ front
filter-front p [] rest pass fail = filter-none p rest fail
filter-front p (x ∷ front) rest pass fail = rw (pass x (inl refl)) (ap (λ z. x ∷ z) (filter-front p front rest (λ y i. pass y (inr i)) fail))

pub filter-push_no : {X : Type 0} (p : X → Bool) (xs : List X) (y : X) → p y ≡ false → filter p (xs ++ y ∷ []) ≡ filter p xs
filter-push_no {X} p xs y e =
    let one : filter p (y ∷ []) ≡ [] = filter_no p y [] e in
    filter-append p xs (y ∷ []) ∙ rw one (append-nil (filter p xs))

pub filter-same : {X : Type 0} (p q : X → Bool) (xs : List X) → ((x : X) → In xs x → p x ≡ q x) → filter p xs ≡ filter q xs
filter-same p q [] same = refl
filter-same p q (x ∷ xs) same = rw (same x (inl refl), filter-same p q xs (λ y i. same y (inr i))) refl

-- A list in order.

abbrev pub Ordered : {X : Type 0} → (X → X → Bool) → List X → Type 0
Ordered {X} lt [] = Unit {0}
Ordered {X} lt (x ∷ xs) = ((y : X) → In xs y → lt x y ≡ true) × Ordered lt xs

pub Ordered-from_AllPairs : {X : Type 0} (lt : X → X → Bool) (xs : List X) → AllPairs (λ x y. lt x y ≡ true) xs → Ordered lt xs
Ordered-from_AllPairs lt [] all = tt
Ordered-from_AllPairs {X} lt (x ∷ xs) all = (
  λ y i.
      let c = Contains-from_In xs y i in
      let h : lt x (get_or xs c.0 y) ≡ true = all 0 (suc c.0) y (omega arith) (let l : c.0 < length xs = c.1 in omega arith) in
      let P : X → Type 0 = λ z. lt x z ≡ true in
      subst P c.2 h,
  Ordered-from_AllPairs lt xs (λ i j d i<j j<n. all (suc i) (suc j) d (omega arith) (omega arith)),
)

pub AllPairs-from_Ordered : {X : Type 0} (lt : X → X → Bool) (xs : List X) → Ordered lt xs → AllPairs (λ x y. lt x y ≡ true) xs
AllPairs-from_Ordered lt [] all i j d i<j j<n = absurd (omega arith)
AllPairs-from_Ordered lt (x ∷ xs) all i zero d i<j j<n = absurd (omega arith)
AllPairs-from_Ordered lt (x ∷ xs) all zero (suc j) d i<j j<n = all.0 (get_or xs j d) (In-from_Contains xs (get_or xs j d) (Contains-get_or xs j d (omega arith)))
AllPairs-from_Ordered lt (x ∷ xs) all (suc i) (suc j) d i<j j<n = AllPairs-from_Ordered lt xs all.1 i j d (omega arith) (omega arith)

pub Ordered-across : {X : Type 0} (lt : X → X → Bool) (front rest : List X) → Ordered lt (front ++ rest) → (z w : X) → In front z → In rest w → lt z w ≡ true
Ordered-across lt [] rest o z w i j = absurd i
Ordered-across {X} lt (x ∷ front) rest o z w (inl e) j = let P : X → Type 0 = λ v. lt v w ≡ true in subst P e (o.0 w (In-right front rest w j))
Ordered-across lt (x ∷ front) rest o z w (inr i) j = Ordered-across lt front rest o.1 z w i j

pub Ordered-right : {X : Type 0} (lt : X → X → Bool) (front rest : List X) → Ordered lt (front ++ rest) → Ordered lt rest
Ordered-right lt [] rest o = o
Ordered-right lt (x ∷ front) rest o = Ordered-right lt front rest o.1

pub Ordered-left : {X : Type 0} (lt : X → X → Bool) (front rest : List X) → Ordered lt (front ++ rest) → Ordered lt front
Ordered-left lt [] rest o = tt
Ordered-left lt (x ∷ front) rest o = ((λ y i. o.0 y (In-left front rest y i)), Ordered-left lt front rest o.1)

pub Ordered-push : {X : Type 0} (lt : X → X → Bool) (xs : List X) (y : X) → Ordered lt xs → ((x : X) → In xs x → lt x y ≡ true) → Ordered lt (xs ++ y ∷ [])
Ordered-push lt [] y o above = (λ z i. absurd i, tt)
Ordered-push {X} lt (x ∷ xs) y o above = (
  λ z i. elim (In-push_cases xs y z i) [
    | inl old ↦ o.0 z old
    | inr e ↦ let P : X → Type 0 = λ v. lt x v ≡ true in subst P e (above x (inl refl))
  ],
  Ordered-push lt xs y o.1 (λ z i. above z (inr i)),
)

pub Ordered-same : {X : Type 0} (lt le : X → X → Bool) (xs : List X) → ((x y : X) → In xs x → In xs y → lt x y ≡ le x y) → Ordered lt xs → Ordered le xs
Ordered-same lt le [] same o = tt
Ordered-same lt le (x ∷ xs) same o = (
  λ y i. sym (same x y (inl refl) (inr i)) ∙ o.0 y i,
  Ordered-same lt le xs (λ a b i j. same a b (inr i) (inr j)) o.1,
)

-- An order that is strict.
pub record IsStrict {X : Type 0} (lt : X → X → Bool) : Type 0 where
  pub never : (x : X) → lt x x ≡ true → ⊥
  pub through : (x y z : X) → lt x y ≡ true → lt y z ≡ true → lt x z ≡ true

pub not_back : {X : Type 0} (lt : X → X → Bool) → IsStrict lt → (x y : X) → lt x y ≡ true → lt y x ≡ false
not_back lt strict x y e = false_from_ne_true (lt y x) (λ back. strict.never x (strict.through x y x e back))

-- Each x of which B holds stands in the list exactly when the condition holds of what stands before it there.
pub record Decided {X : Type 0} (lt : X → X → Bool) (B : X → Type 0) (Cond : List X → X → Type 0) (xs : List X) : Type 0 where
  pub exact : (x : X) → B x → In xs x ↔ Cond (filter (λ t. lt t x) xs) x
  pub within : (x : X) → In xs x → B x
  pub order : Ordered lt xs

-- what stands before a member
pub front_of : {X : Type 0} (lt : X → X → Bool) → IsStrict lt → (front rest : List X) (x : X) → Ordered lt (front ++ x ∷ rest) → filter (λ t. lt t x) (front ++ x ∷ rest) ≡ front
front_of {X} lt strict front rest x o = filter-front (λ t. lt t x) front (x ∷ rest)
    (λ z i. Ordered-across lt front (x ∷ rest) o z x i (inl refl))
    (λ z i. elim i [
      | inl e ↦ let P : X → Type 0 = λ v. lt v x ≡ false in subst P e (false_from_ne_true (lt x x) (strict.never x))
      | inr j ↦ not_back lt strict x z ((Ordered-right lt front (x ∷ rest) o).0 z j)
    ])

-- what would stand before x, where the next member y comes after it
front_below : {X : Type 0} (lt : X → X → Bool) → IsStrict lt → (front rest : List X) (x y : X) → Ordered lt (front ++ y ∷ rest) → ((z : X) → In front z → lt z x ≡ true) → lt x y ≡ true → filter (λ t. lt t x) (front ++ y ∷ rest) ≡ front
front_below {X} lt strict front rest x y o below e = filter-front (λ t. lt t x) front (y ∷ rest) below
    (λ z i. elim i [
      | inl same ↦ let P : X → Type 0 = λ v. lt v x ≡ false in subst P same (not_back lt strict x y e)
      | inr j ↦ not_back lt strict x z (strict.through x y z e ((Ordered-right lt front (y ∷ rest) o).0 z j))
    ])

-- then x isn't there
not_below : {X : Type 0} (lt : X → X → Bool) → IsStrict lt → (front rest : List X) (x y : X) → Ordered lt (front ++ y ∷ rest) → ((z : X) → In front z → lt z x ≡ true) → lt x y ≡ true → In (front ++ y ∷ rest) x → ⊥
not_below {X} lt strict front rest x y o below e i = elim (In-cases front (y ∷ rest) x i) [
  | inl j ↦ strict.never x (below x j)
  | inr j ↦ elim j [
    | inl same ↦ let P : X → Type 0 = λ v. lt x v ≡ true in strict.never x (subst P same e)
    | inr k ↦ strict.never x (strict.through x y x e ((Ordered-right lt front (y ∷ rest) o).0 x k))
  ]
]

-- Of two that a front lets in, one comes before the other, or they are one.
abbrev pub IsTotalOn : {X : Type 0} → (X → X → Bool) → (List X → X → Type 0) → Type 0
IsTotalOn {X} lt Cond = (front : List X) (x y : X) → Cond front x → Cond front y → (lt x y ≡ true) ⊎ ((x ≡ y) ⊎ (lt y x ≡ true))

abbrev Always : {X : Type 0} → X → Type 0
Always x = Unit {0}

module _ {X : Type 0} (lt : X → X → Bool) (strict : IsStrict lt) (B : X → Type 0) (Cond : List X → X → Type 0) where
  -- a member's condition, of the front that it stands behind
  lets_in : (front rest : List X) (x : X) → Decided lt B Cond (front ++ x ∷ rest) → Cond front x
  lets_in front rest x d =
      let inside : In (front ++ x ∷ rest) x = In-right front (x ∷ rest) x (inl refl) in
      let P : List X → Type 0 = λ z. Cond z x in
      subst P (front_of lt strict front rest x d.order) ((d.exact x (d.within x inside)).0 inside)

  -- a list that goes on after this front with something later, or with nothing, has no x that the front lets in
  no_gap : (front rest : List X) (x y : X) → Decided lt B Cond (front ++ y ∷ rest) → B x → ((z : X) → In front z → lt z x ≡ true) → lt x y ≡ true → Cond front x → ⊥
  no_gap front rest x y d b below e c =
      let P : List X → Type 0 = λ z. Cond z x in
      not_below lt strict front rest x y d.order below e ((d.exact x b).1 (subst P (sym (front_below lt strict front rest x y d.order below e)) c))

  no_end : (front : List X) (x : X) → Decided lt B Cond (front ++ []) → B x → ((z : X) → In front z → lt z x ≡ true) → Cond front x → ⊥
  no_end front x d b below c =
      let P : List X → Type 0 = λ z. Cond z x in
      let all : filter (λ t. lt t x) (front ++ []) ≡ front = filter-front (λ t. lt t x) front [] below (λ z i. absurd i) in
      elim (In-cases front [] x ((d.exact x b).1 (subst P (sym all) c))) [
        | inl i ↦ strict.never x (below x i)
        | inr n ↦ absurd n
      ]

  rests_agree : IsTotalOn lt Cond → (front xs ys : List X) → Decided lt B Cond (front ++ xs) → Decided lt B Cond (front ++ ys) → xs ≡ ys
  rests_agree total front [] [] d e = refl
  rests_agree total front (x ∷ xs) [] d e =
      absurd (no_end front x e (d.within x (In-right front (x ∷ xs) x (inl refl))) (λ z i. Ordered-across lt front (x ∷ xs) d.order z x i (inl refl)) (lets_in front xs x d))
  rests_agree total front [] (y ∷ ys) d e =
      absurd (no_end front y d (e.within y (In-right front (y ∷ ys) y (inl refl))) (λ z i. Ordered-across lt front (y ∷ ys) e.order z y i (inl refl)) (lets_in front ys y e))
  rests_agree total front (x ∷ xs) (y ∷ ys) d e =
      let cx = lets_in front xs x d in
      let cy = lets_in front ys y e in
      elim (total front x y cx cy) [
        | inl less ↦ absurd (no_gap front ys x y e (d.within x (In-right front (x ∷ xs) x (inl refl))) (λ z i. Ordered-across lt front (x ∷ xs) d.order z x i (inl refl)) less cx)
        | inr o ↦ elim o [
          | inl same ↦
              let Q : List X → Type 0 = λ z. Decided lt B Cond z in
              let d' : Decided lt B Cond (front ++ x ∷ [] ++ xs) = subst Q (sym (append_assoc front (x ∷ []) xs)) d in
              let P : X → Type 0 = λ z. Decided lt B Cond (front ++ z ∷ [] ++ ys) in
              let e' : Decided lt B Cond (front ++ x ∷ [] ++ ys) = subst P (sym same) (subst Q (sym (append_assoc front (y ∷ []) ys)) e) in
              let rest : xs ≡ ys = rests_agree total (front ++ x ∷ []) xs ys d' e' in
              rw (same, rest) refl
          | inr more ↦ absurd (no_gap front xs y x d (e.within y (In-right front (y ∷ ys) y (inl refl))) (λ z i. Ordered-across lt front (y ∷ ys) e.order z y i (inl refl)) more cy)
        ]
      ]

  -- There is one such list.
  pub one_list : IsTotalOn lt Cond → (xs ys : List X) → Decided lt B Cond xs → Decided lt B Cond ys → xs ≡ ys
  one_list total xs ys d e = rests_agree total [] xs ys d e

-- It grows at its end.
module _ {X : Type 0} (lt : X → X → Bool) (strict : IsStrict lt) (B B' : X → Type 0) (Cond Cond' : List X → X → Type 0) where
  -- Nothing comes in: what is new in the range has no condition that holds.
  pub grow_out : (xs : List X) → Decided lt B Cond xs
      → ((x : X) → B x → B' x) → ((front : List X) (x : X) → B x → Cond front x ↔ Cond' front x)
      → ((x : X) → B' x → B x ⊎ (Cond' (filter (λ t. lt t x) xs) x → ⊥))
      → Decided lt B' Cond' xs
  grow_out xs d wider same others = record {
    exact = λ x b'. (
      λ i. (same (filter (λ t. lt t x) xs) x (d.within x i)).0 ((d.exact x (d.within x i)).0 i),
      λ c. elim (others x b') [
        | inl b ↦ (d.exact x b).1 ((same (filter (λ t. lt t x) xs) x b).1 c)
        | inr none ↦ absurd (none c)
      ],
    );
    within = λ x i. wider x (d.within x i);
    order = d.order;
  }

  -- One comes in, after all others.
  pub grow_in : (xs : List X) (y : X) → Decided lt B Cond xs
      → ((x : X) → B x → B' x) → B' y → ((front : List X) (x : X) → B x → Cond front x ↔ Cond' front x)
      → ((x : X) → B x → lt x y ≡ true) → Cond' xs y
      → ((x : X) → B' x → B x ⊎ ((y ≡ x) ⊎ (Cond' (filter (λ t. lt t x) (xs ++ y ∷ [])) x → ⊥)))
      → Decided lt B' Cond' (xs ++ y ∷ [])
  grow_in xs y d wider new same above here others =
      let old : (x : X) → B x → filter (λ t. lt t x) (xs ++ y ∷ []) ≡ filter (λ t. lt t x) xs = (λ x b. filter-push_no (λ t. lt t x) xs y (not_back lt strict x y (above x b))) in
      let all : filter (λ t. lt t y) (xs ++ y ∷ []) ≡ xs =
      filter-front (λ t. lt t y) xs (y ∷ []) (λ z i. above z (d.within z i)) (λ z i. elim i [ inl e ↦ (let P : X → Type 0 = λ v. lt v y ≡ false in subst P e (false_from_ne_true (lt y y) (strict.never y))) | inr n ↦ absurd n ]) in
      record {
        exact = λ x b'. (
          λ i. elim (In-push_cases xs y x i) [
            | inl j ↦
                let P : List X → Type 0 = λ z. Cond' z x in
                subst P (sym (old x (d.within x j))) ((same (filter (λ t. lt t x) xs) x (d.within x j)).0 ((d.exact x (d.within x j)).0 j))
            | inr e ↦
                let P : X → Type 0 = λ v. Cond' (filter (λ t. lt t v) (xs ++ y ∷ [])) v in
                let Q : List X → Type 0 = λ z. Cond' z y in
                subst P e (subst Q (sym all) here)
          ],
          λ c. elim (others x b') [
            | inl b ↦
                let P : List X → Type 0 = λ z. Cond' z x in
                In-left xs (y ∷ []) x ((d.exact x b).1 ((same (filter (λ t. lt t x) xs) x b).1 (subst P (old x b) c)))
            | inr o ↦ elim o [ inl e ↦ In-right xs (y ∷ []) x (inl e) | inr none ↦ absurd (none c) ]
          ],
        );
        within = λ x i. elim (In-push_cases xs y x i) [
          | inl j ↦ wider x (d.within x j)
          | inr e ↦ let P : X → Type 0 = B' in subst P e new
        ];
        order = Ordered-push lt xs y d.order (λ x i. above x (d.within x i));
      }

-- Other words for the order and the condition, which agree on the range.
pub Decided-same : {X : Type 0} (lt le : X → X → Bool) (B : X → Type 0) (Cond Cond' : List X → X → Type 0) (xs : List X) → Decided lt B Cond xs
    → ((x y : X) → B x → B y → lt x y ≡ le x y)
    → ((front : List X) (x : X) → B x → Cond front x ↔ Cond' front x)
    → Decided le B Cond' xs
Decided-same {X} lt le B Cond Cond' xs d order same = record {
  exact = λ x b.
      let P : List X → Type 0 = λ z. Cond' z x in
      let e : filter (λ t. lt t x) xs ≡ filter (λ t. le t x) xs = filter-same (λ t. lt t x) (λ t. le t x) xs (λ z i. order z x (d.within z i) b) in (
        λ i. subst P e ((same (filter (λ t. lt t x) xs) x b).0 ((d.exact x b).0 i)),
        λ c. (d.exact x b).1 ((same (filter (λ t. lt t x) xs) x b).1 (subst P (sym e) c)),
      );
  within = d.within;
  order = Ordered-same lt le xs (λ x y i j. order x y (d.within x i) (d.within y j)) d.order;
}

-- A front, cut where B stops holding: what follows has not B.
pub Decided-narrow : {X : Type 0} (lt : X → X → Bool) (B B' : X → Type 0) (Cond : List X → X → Type 0) (front rest : List X) → Decided lt B Cond (front ++ rest)
    → ((x : X) → B' x → B x) → ((x : X) → In front x → B' x) → ((x y : X) → In rest x → B' y → lt y x ≡ true) → IsStrict lt
    → Decided lt B' Cond front
Decided-narrow {X} lt B B' Cond front rest d narrower inside above strict = record {
  exact = λ x b'.
      let e : filter (λ t. lt t x) (front ++ rest) ≡ filter (λ t. lt t x) front =
      filter-append (λ t. lt t x) front rest ∙ rw (filter-none (λ t. lt t x) rest (λ z i. not_back lt strict x z (above z x i b'))) (append-nil (filter (λ t. lt t x) front)) in
      let P : List X → Type 0 = λ z. Cond z x in (
        λ i. subst P e ((d.exact x (narrower x b')).0 (In-left front rest x i)),
        λ c. elim (In-cases front rest x ((d.exact x (narrower x b')).1 (subst P (sym e) c))) [
          | inl i ↦ i
          | inr i ↦ absurd (strict.never x (above x x i b'))
        ],
      );
  within = inside;
  order = Ordered-left lt front rest d.order;
}
