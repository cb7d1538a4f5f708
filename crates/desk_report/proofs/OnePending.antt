-- There is a list of the pairs that wait, and one alone.
use Rattle.std.proofs.Common.{◌≡◌, inl, inr, suc, ◌<◌, true, List, [], ◌∷◌, length, None, AllPairs, get_or, refl, sym, subst, arith, ◌∙◌}
use Rattle.desk_rules.proofs.Decided.{In, Contains-from_In, In-from_Contains}
use Rattle.desk_rules.proofs.PlaceLemmas.{before_through}
use Rattle.desk_rules.specs.Books.{Books}
use Rattle.desk_rules.specs.Content.{Content}
use Rattle.desk_rules.specs.Settlement.{is_before}
use Rattle.desk_rules.specs.Tables.{AreTables}
use Rattle.desk_report.specs.declared.rows.pending.PendingPair.{PendingPair}
use Rattle.desk_report.specs.Pending.{ArePending, IsPendingRow, place_of_row}
use Rattle.desk_report.proofs.GatheringLemmas.{gathers_none, pending_go_on}
use Rattle.desk_report.proofs.MatchedLemmas.{never_before}
use Rattle.desk_report.proofs.PendingRowLemmas.{one_row}
use Rattle.desk_report.proofs.TablesLemmas.{are_opposite}

-- one row is before another
record IsSooner (a b : PendingPair) : Type 0 where
  before : is_before (place_of_row a) (place_of_row b) ≡ true

-- the rows, in order
abbrev InOrder : List PendingPair → Type 0
InOrder [] = Unit {0}
InOrder (t ∷ rows) = ((u : PendingPair) → In rows u → IsSooner t u) × InOrder rows

in_order : (rows : List PendingPair) → AllPairs (λ a b. is_before (place_of_row a) (place_of_row b) ≡ true) rows → InOrder rows
in_order [] all = tt
in_order (t ∷ rows) all = (
  λ u i.
      let c = Contains-from_In rows u i in
      let h : is_before (place_of_row t) (place_of_row (get_or rows c.0 u)) ≡ true = all 0 (suc c.0) u (omega arith) (let l : c.0 < length rows = c.1 in omega arith) in
      record { before = subst (λ z. is_before (place_of_row t) (place_of_row z) ≡ true) c.2 h },
  in_order rows (λ i j d i<j j<n. all (suc i) (suc j) d (omega arith) (omega arith)),
)

never_sooner : (t u : PendingPair) → IsSooner t u → IsSooner u t → ⊥
never_sooner t u a b = never_before (place_of_row t) (before_through (place_of_row t) (place_of_row u) (place_of_row t) a.before b.before)

-- lists in order of the same rows are one
one_order : (xs ys : List PendingPair) → InOrder xs → InOrder ys → ((t : PendingPair) → In xs t → In ys t) → ((t : PendingPair) → In ys t → In xs t) → xs ≡ ys
one_order [] [] o p there back = refl
one_order [] (y ∷ ys) o p there back = absurd (back y (inl refl))
one_order (x ∷ xs) [] o p there back = absurd (there x (inl refl))
one_order (x ∷ xs) (y ∷ ys) o p there back =
    let same : x ≡ y = heads (there x (inl refl)) (back y (inl refl)) in
    let rest : xs ≡ ys = one_order xs ys o.1 p.1 (λ t i. onward t i same) (λ t i. backward t i same) in
    rw (same, rest) refl where
      heads : In (y ∷ ys) x → In (x ∷ xs) y → x ≡ y
      heads (inl e) j = sym e
      heads (inr i) (inl e) = e
      heads (inr i) (inr j) = absurd (never_sooner x y (o.0 y j) (p.0 x i))

      skip_y : (t : PendingPair) → In (y ∷ ys) t → IsSooner x t → x ≡ y → In ys t
      skip_y t (inl e) sooner same =
          let own = subst (λ z. IsSooner z t) (same ∙ e) sooner in
          absurd (never_sooner t t own own)
      skip_y t (inr i) sooner same = i

      skip_x : (t : PendingPair) → In (x ∷ xs) t → IsSooner y t → x ≡ y → In xs t
      skip_x t (inl e) sooner same =
          let own = subst (λ z. IsSooner z t) (sym same ∙ e) sooner in
          absurd (never_sooner t t own own)
      skip_x t (inr i) sooner same = i

      onward : (t : PendingPair) → In xs t → x ≡ y → In ys t
      onward t i same = skip_y t (there t (inr i)) (o.0 t i) same

      backward : (t : PendingPair) → In ys t → x ≡ y → In xs t
      backward t i same = skip_x t (back t (inr i)) (p.0 t i) same

also_there : (content : Content) (xs ys : List PendingPair) → ArePending content xs → ArePending content ys → (t : PendingPair) → In xs t → In ys t
also_there content xs ys x y t i =
    let s = x.each t (Contains-from_In xs t i) in
    let u = y.all (place_of_row t) s.pair in
    let is : IsPendingRow content (place_of_row t) u.0 = subst (λ z. IsPendingRow content z u.0) u.2 (y.each u.0 u.1) in
    subst (λ z. In ys z) (one_row content (place_of_row t) u.0 t is s) (In-from_Contains ys u.0 u.1)

pub one_list : (content : Content) (xs ys : List PendingPair) → ArePending content xs → ArePending content ys → xs ≡ ys
one_list content xs ys x y = one_order xs ys (in_order xs x.in_order) (in_order ys y.in_order) (also_there content xs ys x y) (also_there content ys xs y x)

pub list_exists : (books : Books) (content : Content) → AreTables books content → (rows : List PendingPair) × ArePending content rows
list_exists books content tables = pending_go_on content (λ place w. are_opposite books content tables place w) None [] (gathers_none content)
