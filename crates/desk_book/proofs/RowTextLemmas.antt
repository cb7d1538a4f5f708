-- What a row of the totals is written as: no character of its names and codes is escaped.
use Rattle.std.proofs.Common.{◌≡◌, ◌⊎◌, ℕ, ◌-◌, ◌%◌, ◌<◌, ◌==◌, ◌++◌, List, [], ◌∷◌, All, false, codes, decimal, length, nat_lt, inl, inr, take, drop, get_or, refl, sym, ap, ◌∙◌, subst, append_assoc, arith}
use Rattle.std.proofs.lemmas.Bool.Decides.{nat_tests}
use Rattle.std.proofs.lemmas.List.{drop_all}
use Rattle.std.proofs.lemmas.List.Elements.{All-cons, All-head, All-nil, All-tail}
use Rattle.std.proofs.lemmas.Nat.{mod_below}
use Rattle.std.proofs.Math.Seq.{drop-cons}
use Rattle.serde_json.specs.Data.{string}
use Rattle.serde_json.proofs.OnLiterals.{serde_json_on_literals}
use Rattle.serde_json.specs.Written.{compact_text}
use Rattle.desk_codes.specs.Characters.{IsCodeChar}
use Rattle.desk_codes.specs.CheckDigit.{IsIsin, check_of, weighed_sum, expanded}
use Rattle.desk_codes.specs.Currency.{letters_of}
use Rattle.desk_codes.proofs.CharacterLemmas.{All-split}
use Rattle.desk_codes.specs.declared.currency.Ccy.{Ccy}
use Rattle.desk_codes.proofs.CurrencyLemmas.{agree}
use Rattle.desk_book.specs.declared.answers.total.CashTotal.{CashTotal}
use Rattle.desk_book.specs.declared.answers.total.SecurityTotal.{SecurityTotal}
use Rattle.desk_book.specs.Sums.{cash_data, security_data}

-- a text between quotes, of which no character is escaped
record IsPlain (text : List ℕ) : Type 0 where
  quoted : compact_text (string text) ≡ 34 ∷ (text ++ 34 ∷ [])

letters_quoted : (ccy : Ccy) → compact_text (string (letters_of ccy)) ≡ 34 ∷ (letters_of ccy ++ 34 ∷ [])
unfolding serde_json_on_literals
letters_quoted = agree (λ ccy. compact_text (string (letters_of ccy))) (λ ccy. 34 ∷ (letters_of ccy ++ 34 ∷ [])) refl

letters_plain : (ccy : Ccy) → IsPlain (letters_of ccy)
letters_plain ccy = record { quoted = letters_quoted ccy }

other : (c k : ℕ) → k < 48 ⊎ k ≡ 92 → IsCodeChar c → (c == k) ≡ false
other c k outside is = grind (arith, nat_tests)

codes_plain : (text : List ℕ) → All IsCodeChar text → compact_text (string text) ≡ 34 ∷ (text ++ 34 ∷ [])
unfolding serde_json_on_literals
codes_plain [] all = refl
codes_plain (c ∷ text) all =
    let is = All-head IsCodeChar c text all in
    let large : nat_lt c 32 ≡ false = grind (arith, nat_tests) in
    rw (other c 34 (inl (omega arith)) is, other c 92 (inr refl) is, other c 8 (inl (omega arith)) is, other c 12 (inl (omega arith)) is, other c 10 (inl (omega arith)) is, other c 13 (inl (omega arith)) is, other c 9 (inl (omega arith)) is, large)
    (ap (λ (l : List ℕ). 34 ∷ c ∷ drop 1 l) (codes_plain text (All-tail IsCodeChar c text all)))

isin_plain : (isin : List ℕ) → IsIsin isin → IsPlain isin
isin_plain isin is =
    let digit : check_of (take 11 isin) < 10 = mod_below (10 - weighed_sum (expanded (take 11 isin)) % 10) 10 (omega arith) in
    let last : IsCodeChar (get_or isin 11 0) = inl (omega (arith, is.check), omega (arith, is.check)) in
    let within : 11 < length isin = omega (arith, is.len) in
    let tail : drop 11 isin ≡ get_or isin 11 0 ∷ [] = drop-cons isin 11 0 within ∙ ap (λ z. get_or isin 11 0 ∷ z) (drop_all 12 isin (omega (arith, is.len))) in
    record { quoted = codes_plain isin (All-split IsCodeChar 11 isin is.body (subst (All IsCodeChar) (sym tail) (All-cons IsCodeChar (get_or isin 11 0) [] last (All-nil IsCodeChar)))) }

-- before what stands behind it
in_quotes : (text rest : List ℕ) → IsPlain text → 34 ∷ (text ++ 34 ∷ rest) ≡ compact_text (string text) ++ rest
in_quotes text rest plain = ap (λ (l : List ℕ). 34 ∷ l) (sym (append_assoc text (34 ∷ []) rest)) ∙ ap (λ (l : List ℕ). l ++ rest) (sym plain.quoted)

-- the parts of a row, as they are put one before the other
pub cash_parts : (total : CashTotal)
    → codes "{\"ccy\":\"" ++ (letters_of total.ccy ++ (codes "\",\"held\":" ++ (decimal total.held ++ (codes ",\"net\":" ++ (decimal total.net ++ codes "}")))))
    ≡ compact_text (cash_data total)
unfolding serde_json_on_literals
cash_parts total =
    let rest = codes ",\"held\":" ++ (decimal total.held ++ (codes ",\"net\":" ++ (decimal total.net ++ codes "}"))) in
    ap (λ (l : List ℕ). codes "{\"ccy\":" ++ l) (in_quotes (letters_of total.ccy) rest (letters_plain total.ccy))

pub security_parts : (total : SecurityTotal) → IsIsin total.isin
    → codes "{\"held\":" ++ (decimal total.held ++ (codes ",\"isin\":\"" ++ (total.isin ++ (codes "\",\"outstanding\":" ++ (decimal total.outstanding ++ codes "}")))))
    ≡ compact_text (security_data total)
unfolding serde_json_on_literals
security_parts total is =
    let rest = codes ",\"outstanding\":" ++ (decimal total.outstanding ++ codes "}") in
    ap (λ (l : List ℕ). codes "{\"held\":" ++ (decimal total.held ++ (codes ",\"isin\":" ++ l))) (in_quotes total.isin rest (isin_plain total.isin is))
