-- The characters of an ISIN.
use Rattle.std.proofs.Common.{◌≡◌, ℕ, ◌<◌, ◌-◌, ◌%◌, List, [], ◌∷◌, All, take, drop, length, get_or, arith, ap, sym, ◌∙◌, subst}
use Rattle.std.proofs.lemmas.List.Elements.{All-cons, All-nil}
use Rattle.std.proofs.lemmas.Nat.{mod_below}
use Rattle.std.proofs.Math.Seq.{drop-cons}
use Rattle.std.proofs.lemmas.List.{drop_all}
use Rattle.desk_codes.specs.CheckDigit.{IsIsin, check_of, weighed_sum, expanded}
use Rattle.desk_codes.proofs.CharacterLemmas.{All-split, code_is_ascii}

pub isin_is_ascii : (text : List ℕ) → IsIsin text → All (λ c. c < 128) text
isin_is_ascii text isin =
    let digit : check_of (take 11 text) < 10 = mod_below (10 - weighed_sum (expanded (take 11 text)) % 10) 10 (omega arith) in
    let last : get_or text 11 0 < 128 = omega (arith, isin.check) in
    let within : 11 < length text = omega (arith, isin.len) in
    let tail : drop 11 text ≡ get_or text 11 0 ∷ [] = drop-cons text 11 0 within ∙ ap (λ z. get_or text 11 0 ∷ z) (drop_all 12 text (omega (arith, isin.len))) in
    All-split (λ c. c < 128) 11 text (code_is_ascii (take 11 text) isin.body) (subst (All (λ c. c < 128)) (sym tail) (All-cons (λ c. c < 128) (get_or text 11 0) [] last (All-nil (λ c. c < 128))))
