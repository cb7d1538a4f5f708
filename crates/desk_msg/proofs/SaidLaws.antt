-- A value says one thing.
use Rattle.std.proofs.Common.{◌≡◌, ℕ, List, ◌∷◌, ◌++◌, length, take, codes, sym, ◌∙◌, ap, subst, inl, inr, arith, Ok}
use Rattle.std.proofs.lemmas.Grind.{common_steps}
use Rattle.std.proofs.lemmas.List.{append_cancel_left}
use Rattle.std.proofs.Math.Seq.{take-append_seam}
use Rattle.desk_codes.specs.Number.{SpellsNumber}
use Rattle.desk_codes.specs.Bic.{ReadsBic}
use Rattle.desk_codes.specs.Currency.{decimals_of}
use Rattle.desk_codes.specs.declared.currency.Ccy.{Ccy}
use Rattle.desk_codes.proofs.SpellingLaws.{one_value_each}
use Rattle.desk_text.specs.Fields.{Found}
use Rattle.desk_msg.specs.declared.instruction.Kind.{Kind}
use Rattle.desk_msg.specs.Profile.{Row, Form, function_form, reference_form, day_form, security_form, quantity_form, account_form, settlement_form, party_form, amount_form, Said, text_said, quantity_said, amount_said, unsaid, Says, SaysText, Behind, slashed, IsFunctionText, IsDayText, IsSettlementText, IsQuantityText, IsAmountText}
use Rattle.desk_msg.proofs.ValueLemmas.{one_behind, one_head}
use Rattle.desk_msg.proofs.FormLemmas.{one_cut_back, one_quantity_text, one_amount_text}
use Rattle.desk_msg.proofs.RowLemmas.{no_text}

-- what stands behind a beginning says one thing, where each text does
one_said_behind : {Y : Type 0} (P : List ℕ → Y → Type 0) (begins : List ℕ) (field : Found) (x y : Y) → ((text : List ℕ) → P text x → P text y → x ≡ y) → Behind begins field (λ t. P t x) → Behind begins field (λ t. P t y) → x ≡ y
one_said_behind P begins field x y one a b =
    let Q : List ℕ → Type 0 = λ t. P t y in one a.0 a.2 (subst Q (one_behind begins field b.0 a.0 b.1 a.1) b.2)

front_of : (n : ℕ) (text front back : List ℕ) → length front ≡ n → text ≡ front ++ back → take n text ≡ front
front_of n text front back len e = ap (take n) e ∙ ap (λ k. take k (front ++ back)) (sym len) ∙ take-append_seam front back

whole_of : (n : ℕ) (text front : List ℕ) → length front ≡ n → text ≡ front → take n text ≡ front
whole_of n text front len e = ap (take n) e ∙ (let P : ℕ → Type 0 = λ k. take k front ≡ front in subst P len (grind (arith, common_steps)))

function_front : (text function : List ℕ) → IsFunctionText text function → take 4 text ≡ function
function_front text function h = elim h.1 [
  | inl e ↦ whole_of 4 text function h.0.0 e
  | inr (further, code, e) ↦ front_of 4 text function (47 ∷ further) h.0.0 e
]

day_front : (tag text day : List ℕ) → IsDayText tag text day → take 8 text ≡ day
day_front tag text day h = elim h.1 [
  | inl (t, e) ↦ whole_of 8 text day h.0.len e
  | inr (t, timed) ↦ front_of 8 text day timed.0 h.0.len timed.3
]

one_settlement : (text x y : List ℕ) → IsSettlementText text x → IsSettlementText text y → x ≡ y
one_settlement text x y a b =
    let cut = one_cut_back a.1.0 b.1.0 (47 ∷ x) (47 ∷ y) (omega (arith, a.0.0, b.0.0)) (sym a.1.3 ∙ b.1.3) in
    let both : 47 ∷ x ≡ 47 ∷ y = cut.1 in cc

-- the value of a field says one text
pub one_text_said : (form : Form) (begins : List ℕ) (field : Found) (x y : List ℕ) → SaysText form begins field x → SaysText form begins field y → x ≡ y
one_text_said function_form begins field x y a b = one_said_behind IsFunctionText begins field x y (λ t p q. sym (function_front t x p) ∙ function_front t y q) a b
one_text_said reference_form begins field x y a b = sym a.2.1 ∙ one_behind (slashed begins) field a.0 b.0 a.1 b.1 ∙ b.2.1
one_text_said day_form begins field x y a b = one_said_behind (IsDayText field.tag) (slashed begins) field x y (λ t p q. sym (day_front field.tag t x p) ∙ day_front field.tag t y q) a b
one_text_said security_form begins field x y a b =
    append_cancel_left (codes "ISIN ") x y (sym a.3.1 ∙ one_head a.0 b.0 a.1 b.1 (sym a.2 ∙ b.2) ∙ b.3.1)
one_text_said account_form begins field x y a b = sym a.2.1 ∙ one_behind (slashed begins) field a.0 b.0 a.1 b.1 ∙ b.2.1
one_text_said settlement_form begins field x y a b = one_said_behind IsSettlementText begins field x y (λ t p q. one_settlement t x y p q) a b
one_text_said party_form begins field x y a b = one_said_behind (λ t party. ReadsBic t (Ok party)) (slashed begins) field x y (λ t p q. p.0 ∙ sym q.0) a b
one_text_said quantity_form begins field x y a b = absurd a
one_text_said amount_form begins field x y a b = absurd a

one_quantity : (text : List ℕ) (x y : Kind × ℕ) → IsQuantityText text x.0 x.1 → IsQuantityText text y.0 y.1 → (x.0 ≡ y.0) × (x.1 ≡ y.1)
one_quantity text x y a b =
    let split = one_quantity_text x.0 y.0 a.0 b.0 (sym a.1 ∙ b.1) in
    let P : List ℕ → Type 0 = λ t. SpellsNumber t y.1 0 in
    (split.0, one_value_each a.0 x.1 y.1 0 a.2.0 (subst P (sym split.1) b.2.0))

one_amount : (text : List ℕ) (x y : Ccy × ℕ) → IsAmountText text x.0 x.1 → IsAmountText text y.0 y.1 → (x.0 ≡ y.0) × (x.1 ≡ y.1)
one_amount text x y a b =
    let split = one_amount_text x.0 y.0 a.0 b.0 (sym a.1 ∙ b.1) in
    let P : List ℕ → Type 0 = λ t. SpellsNumber t y.1 (decimals_of y.0) in
    let Q : Ccy → Type 0 = λ c. SpellsNumber a.0 y.1 (decimals_of c) in
    (split.0, one_value_each a.0 x.1 y.1 (decimals_of x.0) a.2.0 (subst Q (sym split.0) (subst P (sym split.1) b.2.0)))

-- the value of a field says one thing
pub one_said : (row : Row) (field : Found) (x y : Said) → Says row field x → Says row field y → x ≡ y
one_said row field (text_said x) (text_said y) a b = ap text_said (one_text_said row.form row.begins field x y a b)
one_said row field (text_said x) (quantity_said k n) a b = absurd (no_text row.form row.begins field x (inl b.0) a)
one_said row field (text_said x) (amount_said c n) a b = absurd (no_text row.form row.begins field x (inr b.0) a)
one_said row field (quantity_said k n) (text_said y) a b = absurd (no_text row.form row.begins field y (inl a.0) b)
one_said row field (quantity_said k n) (quantity_said l m) a b =
    let Q : List ℕ → Type 0 = λ t. IsQuantityText t l m in
    let same = one_quantity a.1.0 (k, n) (l, m) a.1.2 (subst Q (one_behind (slashed row.begins) field b.1.0 a.1.0 b.1.1 a.1.1) b.1.2) in
    ap (λ kind. quantity_said kind n) same.0 ∙ ap (λ number. quantity_said l number) same.1
one_said row field (quantity_said k n) (amount_said c m) a b = let both : quantity_form ≡ amount_form = sym a.0 ∙ b.0 in cc
one_said row field (amount_said c n) (text_said y) a b = absurd (no_text row.form row.begins field y (inr a.0) b)
one_said row field (amount_said c n) (quantity_said k m) a b = let both : amount_form ≡ quantity_form = sym a.0 ∙ b.0 in cc
one_said row field (amount_said c n) (amount_said d m) a b =
    let Q : List ℕ → Type 0 = λ t. IsAmountText t d m in
    let same = one_amount a.1.0 (c, n) (d, m) a.1.2 (subst Q (one_behind (slashed row.begins) field b.1.0 a.1.0 b.1.1 a.1.1) b.1.2) in
    ap (λ ccy. amount_said ccy n) same.0 ∙ ap (λ number. amount_said d number) same.1
one_said row field unsaid y a b = absurd a
one_said row field x unsaid a b = absurd b
