-- An account has one list of holdings.
use Rattle.std.proofs.Common.{◌≡◌, inl, inr, suc, ℕ, ◌<◌, List, [], ◌∷◌, length, AllPairs, get_or, Some, refl, sym, ◌∙◌, ap, subst, arith}
use Rattle.desk_msg.specs.declared.instruction.Kind.{Kind}
use Rattle.desk_msg.specs.declared.writing.statement_row.StatementRow.{StatementRow}
use Rattle.desk_rules.proofs.Decided.{In, Contains-from_In, In-from_Contains}
use Rattle.desk_rules.specs.Content.{Content, history_of}
use Rattle.desk_rules.specs.Facts.{kind_of}
use Rattle.desk_register.specs.Looked.{IsLess}
use Rattle.desk_holdings.specs.Holdings.{AreHoldings, IsRow}
use Rattle.desk_holdings.proofs.AboveLemmas.{less_then, never_less}

-- the rows, in order
abbrev InOrder : List StatementRow → Type 0
InOrder [] = Unit {0}
InOrder (t ∷ rows) = ((u : StatementRow) → In rows u → IsLess t.isin u.isin) × InOrder rows

in_order : (rows : List StatementRow) → AllPairs (λ a b. IsLess a.isin b.isin) rows → InOrder rows
in_order [] all = tt
in_order (t ∷ rows) all = (
  λ u i.
      let c = Contains-from_In rows u i in
      let h : IsLess t.isin (get_or rows c.0 u).isin = all 0 (suc c.0) u (omega arith) (let l : c.0 < length rows = c.1 in omega arith) in
      let P : StatementRow → Type 0 = λ z. IsLess t.isin z.isin in
      subst P c.2 h,
  in_order rows (λ i j d i<j j<n. all (suc i) (suc j) d (omega arith) (omega arith)),
)

-- lists in order of the same rows are one
one_order : (xs ys : List StatementRow) → InOrder xs → InOrder ys → ((t : StatementRow) → In xs t → In ys t) → ((t : StatementRow) → In ys t → In xs t) → xs ≡ ys
one_order [] [] o p there back = refl
one_order [] (y ∷ ys) o p there back = absurd (back y (inl refl))
one_order (x ∷ xs) [] o p there back = absurd (there x (inl refl))
one_order (x ∷ xs) (y ∷ ys) o p there back =
    let same : x ≡ y = heads (there x (inl refl)) (back y (inl refl)) in
    let rest : xs ≡ ys = one_order xs ys o.1 p.1 (λ t i. onward t i same) (λ t i. backward t i same) in
    rw (same, rest) refl where
      heads : In (y ∷ ys) x → In (x ∷ xs) y → x ≡ y
      heads (inl e) j = sym e
      heads (inr i) (inl e) = e
      heads (inr i) (inr j) = absurd (never_less x.isin (less_then x.isin y.isin x.isin (o.0 y j) (p.0 x i)))

      skip_y : (t : StatementRow) → In (y ∷ ys) t → IsLess x.isin t.isin → x ≡ y → In ys t
      skip_y t (inl e) less same =
          let P : StatementRow → Type 0 = λ z. IsLess x.isin z.isin in
          absurd (never_less x.isin (subst P (sym (same ∙ e)) less))
      skip_y t (inr i) less same = i

      skip_x : (t : StatementRow) → In (x ∷ xs) t → IsLess y.isin t.isin → x ≡ y → In xs t
      skip_x t (inl e) less same =
          let P : StatementRow → Type 0 = λ z. IsLess y.isin z.isin in
          absurd (never_less y.isin (subst P (sym (sym same ∙ e)) less))
      skip_x t (inr i) less same = i

      onward : (t : StatementRow) → In xs t → x ≡ y → In ys t
      onward t i same = skip_y t (there t (inr i)) (o.0 t i) same

      backward : (t : StatementRow) → In ys t → x ≡ y → In xs t
      backward t i same = skip_x t (back t (inr i)) (p.0 t i) same

-- a security has one row

abbrev as_row : StatementRow → StatementRow
as_row t = t

same_row : (a b : StatementRow) → a.isin ≡ b.isin → a.kind ≡ b.kind → a.quantity ≡ b.quantity → a ≡ b
same_row a b e f g =
    ap (λ (i : List ℕ). as_row (record { isin = i; kind = a.kind; quantity = a.quantity })) e
    ∙ ap (λ (k : Kind). as_row (record { isin = b.isin; kind = k; quantity = a.quantity })) f
    ∙ ap (λ (n : ℕ). as_row (record { isin = b.isin; kind = b.kind; quantity = n })) g

same_some : (k l : Kind) → Some k ≡ Some l → k ≡ l
same_some k l e = cc

module _ (content : Content) (account : List ℕ) where
  one_row : (a b : StatementRow) → a.isin ≡ b.isin → IsRow content account a → IsRow content account b → a ≡ b
  one_row a b e x y =
      same_row a b e
      (same_some a.kind b.kind (sym x.kind ∙ ap (λ i. kind_of (history_of content) i) e ∙ y.kind))
      (x.quantity ∙ ap (λ i. content.position account i) e ∙ sym y.quantity)

  also_there : (xs ys : List StatementRow) → AreHoldings content account xs → AreHoldings content account ys → (t : StatementRow) → In xs t → In ys t
  also_there xs ys x y t i =
      let s = x.each t (Contains-from_In xs t i) in
      let some : 0 < content.position account t.isin = (let is = s.quantity in let some = s.some in omega arith) in
      let u = y.all t.isin some in
      let P : StatementRow → Type 0 = λ z. In ys z in
      subst P (one_row u.0 t u.2 (y.each u.0 u.1) s) (In-from_Contains ys u.0 u.1)

  pub one_list : (xs ys : List StatementRow) → AreHoldings content account xs → AreHoldings content account ys → xs ≡ ys
  one_list xs ys x y = one_order xs ys (in_order xs x.in_order) (in_order ys y.in_order) (also_there xs ys x y) (also_there ys xs y x)
