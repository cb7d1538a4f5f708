-- What is near and differs in nothing is opposite; so the nearest to an unmatched instruction differs in something.
use Rattle.std.proofs.Common.{◌≡◌, ◌≢◌, ℕ, Bool, true, false, inl, inr, List, [], ◌∷◌, Contains, Option, Some, None, refl, sym, ap, ◌∙◌, subst, bytes_eq}
use Rattle.std.specs.Prelude.{◌&&◌, ◌||◌, ◌==◌, not, is_some, option_and_then, option_map, IfSome, IsTrue}
use Rattle.std.specs.List.{cons_option, filter_map}
use Rattle.std.proofs.lemmas.Bool.{eqb-true}
use Rattle.desk_msg.specs.MessageType.{is_delivery, is_against_payment}
use Rattle.desk_msg.specs.declared.instruction.Cash.{Cash}
use Rattle.desk_msg.specs.declared.instruction.Kind.{Kind}
use Rattle.desk_msg.specs.declared.instruction.Kind.TheVariants.{Unit as Units, FaceAmount}
use Rattle.desk_rules.specs.Balances.{same_ccy}
use Rattle.desk_rules.specs.Books.{Books}
use Rattle.desk_rules.specs.Content.{Content}
use Rattle.desk_rules.specs.Facts.{is_of_kind}
use Rattle.desk_rules.specs.Opposite.{AreOpposite}
use Rattle.desk_rules.specs.Tables.{AreTables}
use Rattle.desk_rules.specs.declared.history.entry.Instructed.{Instructed}
use Rattle.desk_rules.proofs.Decided.{In, In-from_Contains}
use Rattle.desk_rules.proofs.Deciding.{same_ccy-true}
use Rattle.desk_rules.proofs.SameContent.{cash_same}
use Rattle.desk_register.proofs.CaseLemmas.{by_bool, same_bytes}
use Rattle.desk_report.specs.declared.rows.unmatched.Nearest.{Nearest}
use Rattle.desk_report.specs.declared.rows.unmatched.UnmatchedInstruction.{UnmatchedInstruction}
use Rattle.desk_rules.specs.Unmatched.{unmatched_in}
use Rattle.desk_report.specs.Unmatched.{amounts_differ, currencies_differ, differ, differences_of, any_differs, is_near, is_some_near, nearest_number, nearest_of, nearest_told, numbers_of, row_of, unmatched_of, unmatched_row}
use Rattle.desk_report.proofs.AloneLemmas.{never_opposite}
use Rattle.desk_report.proofs.NearestLemmas.{found_holds}

all_four : (a b c d : Bool) → (a && b && c && d) ≡ true → (a ≡ true) × (b ≡ true) × (c ≡ true) × (d ≡ true)
all_four true true true d e = (refl, refl, refl, e)
all_four true true false d e = absurd (cc)
all_four true false c d e = absurd (cc)
all_four false b c d e = absurd (cc)

none_of_six : (a b c d e f : Bool) → (a || b || c || d || e || f) ≡ false → (a ≡ false) × (b ≡ false) × (c ≡ false) × (d ≡ false) × (e ≡ false) × (f ≡ false)
none_of_six true b c d e f none = absurd (cc)
none_of_six false true c d e f none = absurd (cc)
none_of_six false false true d e f none = absurd (cc)
none_of_six false false false true e f none = absurd (cc)
none_of_six false false false false true f none = absurd (cc)
none_of_six false false false false false f none = (refl, refl, refl, refl, refl, none)

not_false : (b : Bool) → not b ≡ false → b ≡ true
not_false true e = refl
not_false false e = absurd (cc)

alike : (a b : Bool) → differ a b ≡ false → a ≡ b
alike true true e = refl
alike true false e = absurd (cc)
alike false true e = absurd (cc)
alike false false e = refl

unlike : (a b : Bool) → differ a b ≡ true → b ≢ a
unlike true true e same = absurd (cc)
unlike true false e same = absurd (cc)
unlike false true e same = absurd (cc)
unlike false false e same = absurd (cc)

same_kind : (a b : Kind) → is_of_kind a (Some b) ≡ true → a ≡ b
same_kind Units Units e = refl
same_kind Units FaceAmount e = absurd (cc)
same_kind FaceAmount Units e = absurd (cc)
same_kind FaceAmount FaceAmount e = refl

same_cash : (a b : Option Cash) → is_some a ≡ is_some b → currencies_differ a b ≡ false → amounts_differ a b ≡ false → a ≡ b
same_cash None None some currency amount = refl
same_cash None (Some b) some currency amount = absurd (cc)
same_cash (Some a) None some currency amount = absurd (cc)
same_cash (Some a) (Some b) some currency amount =
    let ccy = not_false (same_ccy a.ccy b.ccy) currency in
    let paid = not_false (a.amount == b.amount) (rw ccy at amount) in
    ap Some (cash_same a b (same_ccy-true a.ccy b.ccy ccy) (eqb-true a.amount b.amount paid))

-- what is near to it and differs in nothing
opposite_so : (one other : Instructed) → is_near one other ≡ true → any_differs (differences_of one other) ≡ false → AreOpposite one other
opposite_so one other near same =
    let i = one.instruction in
    let j = other.instruction in
    let d = differences_of one other in
    let n = all_four (bytes_eq j.isin i.isin) (bytes_eq other.sender i.counterparty) (bytes_eq j.counterparty one.sender) (differ (is_delivery j.mt) (is_delivery i.mt)) near in
    let s = none_of_six d.kind d.quantity d.day d.payment d.currency d.amount same in
    let paid = alike (is_against_payment i.mt) (is_against_payment j.mt) s.3 in
    record {
      sides = unlike (is_delivery j.mt) (is_delivery i.mt) n.3;
      payment = paid;
      isin = sym (same_bytes j.isin i.isin n.0);
      quantity = eqb-true i.quantity j.quantity (not_false (i.quantity == j.quantity) s.1);
      kind = same_kind i.kind j.kind (not_false (is_of_kind i.kind (Some j.kind)) s.0);
      day = same_bytes i.day j.day (not_false (bytes_eq i.day j.day) s.2);
      cash = same_cash i.cash j.cash (i.paid ∙ paid ∙ sym j.paid) s.4 s.5;
      names = sym (same_bytes other.sender i.counterparty n.1);
      is_named = same_bytes j.counterparty one.sender n.2;
    }

-- What a row and its nearest are made of.

record IsRowOf (content : Content) (row : UnmatchedInstruction) : Type 0 where
  number : ℕ
  one : Instructed
  at : unmatched_in content number ≡ Some one
  is : row ≡ row_of content number one

row_parts : (content : Content) (row : UnmatchedInstruction) (n : ℕ) (found : Option Instructed) → unmatched_in content n ≡ found → option_map (row_of content n) found ≡ Some row → IsRowOf content row
row_parts content row n None at is = absurd (cc)
row_parts content row n (Some one) at is = (let same : row_of content n one ≡ row = cc in record { number = n; one = one; at = at; is = sym same })

listed_row : (content : Content) (row : UnmatchedInstruction) (n : ℕ) (found : Option UnmatchedInstruction) (rest : List UnmatchedInstruction) → unmatched_row content n ≡ found → In (cons_option found rest) row → (In rest row → IsRowOf content row)
    → IsRowOf content row
listed_row content row n None rest at i later = later i
listed_row content row n (Some first) rest at (inl same) later = row_parts content row n (unmatched_in content n) refl (at ∙ ap Some same)
listed_row content row n (Some first) rest at (inr i) later = later i

row_in : (content : Content) (row : UnmatchedInstruction) (ns : List ℕ) → In (filter_map (unmatched_row content) ns) row → IsRowOf content row
row_in content row [] i = absurd i
row_in content row (n ∷ ns) i = listed_row content row n (unmatched_row content n) (filter_map (unmatched_row content) ns) refl i (row_in content row ns)

record IsNearestOf (content : Content) (one : Instructed) (nearest : Nearest) : Type 0 where
  number : ℕ
  other : Instructed
  found : nearest_number content one ≡ Some number
  at : unmatched_in content number ≡ Some other
  is : nearest ≡ nearest_told one number other

nearest_parts : (content : Content) (one : Instructed) (nearest : Nearest) (number : Option ℕ) → nearest_number content one ≡ number
    → option_and_then (λ n. option_map (nearest_told one n) (unmatched_in content n)) number ≡ Some nearest → IsNearestOf content one nearest
nearest_parts content one nearest None found is = absurd (cc)
nearest_parts content one nearest (Some n) found is = by (unmatched_in content n) refl is
  where
    by : (o : Option Instructed) → unmatched_in content n ≡ o → option_map (nearest_told one n) o ≡ Some nearest → IsNearestOf content one nearest
    by None at told = absurd (cc)
    by (Some other) at told = (let same : nearest_told one n other ≡ nearest = cc in record { number = n; other = other; found = found; at = at; is = sym same })

-- The nearest differs in something.

module _ (books : Books) (content : Content) (are : AreTables books content) where
  told_differs : (n : ℕ) (one : Instructed) (nearest : Nearest) → unmatched_in content n ≡ Some one → IsNearestOf content one nearest → any_differs nearest.differs ≡ true
  told_differs n one nearest at told = by_bool (any_differs nearest.differs) (λ yes. yes) (λ same.
      let near = found_holds (λ k. is_some_near one (unmatched_in content k)) (numbers_of content) told.number told.found in
      let is_so : is_near one told.other ≡ true = subst (λ o. is_some_near one o ≡ true) told.at near in
      let none : any_differs (differences_of one told.other) ≡ false = subst (λ (z : Nearest). any_differs z.differs ≡ false) told.is same in
      absurd (never_opposite books content are n told.number one told.other at told.at (opposite_so one told.other is_so none)))

  if_told : (n : ℕ) (one : Instructed) (nearest : Option Nearest) → unmatched_in content n ≡ Some one → nearest_of content one ≡ nearest → IfSome nearest (λ z. IsTrue (any_differs z.differs))
  if_told n one None at is = tt
  if_told n one (Some nearest) at is = told_differs n one nearest at (nearest_parts content one nearest (nearest_number content one) refl is)

  pub row_differs : (row : UnmatchedInstruction) → Contains (unmatched_of content) row → IfSome row.nearest (λ z. IsTrue (any_differs z.differs))
  row_differs row c =
      let r = row_in content row (numbers_of content) (In-from_Contains (unmatched_of content) row c) in
      subst (λ (z : UnmatchedInstruction). IfSome z.nearest (λ x. IsTrue (any_differs x.differs))) (sym r.is) (if_told r.number r.one (nearest_of content r.one) r.at refl)
