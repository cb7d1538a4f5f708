-- Lines, one after another.
use Rattle.std.proofs.Common.{◌≡◌, ◌≢◌, ℕ, Bool, true, false, cond, ◌&&◌, eqb, List, [], ◌∷◌, ◌++◌, length, ◌<◌, ◌-◌, ◌≤◌, suc, take, drop, get_or, Some, All, refl, sym, ap, ◌∙◌, arith}
use Rattle.std.proofs.lemmas.Bool.Decides.{nat_tests}
use Rattle.std.proofs.lemmas.List.Elements.{All-head, All-tail}
use Rattle.desk_text.specs.Lines.{lines_of, onto_first, value_lines}
use Rattle.std.proofs.Math.Bool.{and-true}
use Rattle.std.specs.List.{list_all}
use Rattle.desk_text.specs.BlockGrammar.{is_first, is_further}
use Rattle.desk_text.specs.Written.{are_lines, is_value}
use Rattle.desk_text.specs.Reading.{strip_return}
use Rattle.desk_text.specs.Signs.{split_tag}
use Rattle.std.proofs.lemmas.List.{take_all}

not_feed : (c : ℕ) → c ≢ 10 → eqb c 10 ≡ false
not_feed c ne = grind (arith, nat_tests)

is_not : (c d : ℕ) → c ≢ d → eqb c d ≡ false
is_not c d ne = grind (arith, nat_tests)

pub not_return : (c : ℕ) → c ≢ 13 → eqb c 13 ≡ false
not_return c ne = grind (arith, nat_tests)

-- a value's lines

pub value_lines-line : (line rest : List ℕ) → All (λ c. c ≢ 10) line → value_lines (line ++ 10 ∷ rest) ≡ line ∷ value_lines rest
value_lines-line [] rest a = refl
value_lines-line (c ∷ line) rest a =
    rw (not_feed c (All-head (λ c. c ≢ 10) c line a), value_lines-line line rest (All-tail (λ c. c ≢ 10) c line a)) refl

pub value_lines-last : (line : List ℕ) → All (λ c. c ≢ 10) line → value_lines line ≡ line ∷ []
value_lines-last [] a = refl
value_lines-last (c ∷ line) a =
    rw (not_feed c (All-head (λ c. c ≢ 10) c line a), value_lines-last line (All-tail (λ c. c ≢ 10) c line a)) refl

-- a text's lines

-- the line before an LF comes first, without a CR at its end
pub lines_of-line : (line rest : List ℕ) → All (λ c. c ≢ 10) line → lines_of (line ++ 10 ∷ rest) ≡ strip_return line ∷ lines_of rest
lines_of-line [] rest a = refl
lines_of-line (c ∷ []) rest a = rw (not_feed c (All-head (λ c. c ≢ 10) c [] a)) (go (eqb c 13)) where
  go : (b : Bool) → cond b ([] ∷ lines_of rest) (onto_first c ([] ∷ lines_of rest)) ≡ cond b [] (c ∷ []) ∷ lines_of rest
  go true = refl
  go false = refl
lines_of-line (c ∷ d ∷ line) rest a =
    rw (not_feed c (All-head (λ c. c ≢ 10) c (d ∷ line) a), lines_of-line (d ∷ line) rest (All-tail (λ c. c ≢ 10) c (d ∷ line) a), not_feed d (All-head (λ c. c ≢ 10) d line (All-tail (λ c. c ≢ 10) c (d ∷ line) a))) refl

-- the last line has no end
pub lines_of-last : (c : ℕ) (line : List ℕ) → All (λ c. c ≢ 10) (c ∷ line) → lines_of (c ∷ line) ≡ (c ∷ line) ∷ []
lines_of-last c [] a = rw (not_feed c (All-head (λ c. c ≢ 10) c [] a)) refl
lines_of-last c (d ∷ line) a =
    rw (not_feed c (All-head (λ c. c ≢ 10) c (d ∷ line) a), lines_of-last d line (All-tail (λ c. c ≢ 10) c (d ∷ line) a), not_feed d (All-head (λ c. c ≢ 10) d line (All-tail (λ c. c ≢ 10) c (d ∷ line) a))) refl

-- a text that begins with no line end

onto-not_empty : (c : ℕ) (lines rest : List (List ℕ)) → onto_first c lines ≢ [] ∷ rest
onto-not_empty c [] rest e = let h = e in cc
onto-not_empty c (line ∷ lines) rest e = let h = e in cc

no_end : (c d : ℕ) → (c ≡ 13 → d ≢ 10) → (eqb d 10 && eqb c 13) ≡ false
no_end c d ne = grind (arith, nat_tests, ne)

pub first_not_empty : (text : List ℕ) → (0 < length text → get_or text 0 0 ≢ 10) → (1 < length text → get_or text 0 0 ≡ 13 → get_or text 1 0 ≢ 10) → (rest : List (List ℕ)) → lines_of text ≢ [] ∷ rest
first_not_empty [] one two rest e = let h = e in cc
first_not_empty (c ∷ []) one two rest e =
    onto-not_empty c [] rest (sym (ap (λ b. cond b ([] ∷ []) (onto_first c [])) (not_feed c (one (omega arith)))) ∙ e)
first_not_empty (c ∷ d ∷ text) one two rest e =
    let lines = lines_of (d ∷ text) in
    let same : lines_of (c ∷ d ∷ text) ≡ onto_first c lines =
    ap (λ b. cond b ([] ∷ lines) (cond (eqb d 10 && eqb c 13) lines (onto_first c lines))) (not_feed c (one (omega arith)))
    ∙ ap (λ b. cond b lines (onto_first c lines)) (no_end c d (two (omega arith))) in
    onto-not_empty c lines rest (sym same ∙ e)

either_some : (b : Bool) (x y : List (List ℕ)) → x ≢ [] → y ≢ [] → cond b x y ≢ []
either_some true x y p q = p
either_some false x y p q = q

onto-not_none : (c : ℕ) (lines : List (List ℕ)) → onto_first c lines ≢ []
onto-not_none c [] e = let h = e in cc
onto-not_none c (line ∷ lines) e = let h = e in cc

-- a text that isn't empty has a line
pub some_line : (c : ℕ) (text : List ℕ) → lines_of (c ∷ text) ≢ []
some_line c [] = either_some (eqb c 10) ([] ∷ []) (onto_first c []) (λ e. let h = e in cc) (onto-not_none c [])
some_line c (d ∷ text) =
    let lines = lines_of (d ∷ text) in
    let returns = eqb d 10 && eqb c 13 in
    either_some (eqb c 10) ([] ∷ lines) (cond returns lines (onto_first c lines)) (λ e. let h = e in cc)
    (either_some returns lines (onto_first c lines) (some_line d text) (onto-not_none c lines))

-- what stands before an LF, the text's first lines

pub lines_of-found : (text line rest : List ℕ) → (text ≡ line ++ 10 ∷ rest) × All (λ c. c ≢ 10) line → lines_of text ≡ strip_return line ∷ lines_of rest
lines_of-found text line rest found = ap lines_of found.0 ∙ lines_of-line line rest found.1

pub lines_of-only : (text : List ℕ) → eqb (length text) 0 ≡ false → All (λ c. c ≢ 10) text → lines_of text ≡ text ∷ []
lines_of-only [] some a = absurd (let h = some in cc)
lines_of-only (c ∷ text) some a = lines_of-last c text a

pub value_lines-found : (text line rest : List ℕ) → (text ≡ line ++ 10 ∷ rest) × All (λ c. c ≢ 10) line → value_lines text ≡ line ∷ value_lines rest
value_lines-found text line rest found = ap value_lines found.0 ∙ value_lines-line line rest found.1

-- the CR at a line's end

pub strip_return-at : (front : List ℕ) → strip_return (front ++ 13 ∷ []) ≡ front
strip_return-at [] = refl
strip_return-at (c ∷ []) = refl
strip_return-at (c ∷ d ∷ front) = ap (λ z. c ∷ z) (strip_return-at (d ∷ front))

last_index : (c d : ℕ) (line : List ℕ) → length (c ∷ d ∷ line) - 1 ≡ suc (length (d ∷ line) - 1)
last_index c d line = omega arith

last_under : (c d : ℕ) (line : List ℕ) → get_or (c ∷ d ∷ line) (length (c ∷ d ∷ line) - 1) 0 ≡ get_or (d ∷ line) (length (d ∷ line) - 1) 0
last_under c d line = ap (λ n. get_or (c ∷ d ∷ line) n 0) (last_index c d line)

pub strip_return-none : (line : List ℕ) → (get_or line (length line - 1) 0 ≡ 13 → ⊥) → strip_return line ≡ line
strip_return-none [] h = refl
strip_return-none (c ∷ []) h = rw (not_return c h) refl
strip_return-none (c ∷ d ∷ line) h = ap (λ z. c ∷ z) (strip_return-none (d ∷ line) (λ g. h (last_under c d line ∙ g)))

pub strip_return-some : (line : List ℕ) → 0 < length line → get_or line (length line - 1) 0 ≡ 13 → take (length line - 1) line ≡ strip_return line
strip_return-some [] lt h = absurd (omega arith)
strip_return-some (c ∷ []) lt h = rw (ap (λ z. eqb z 13) h) refl
strip_return-some (c ∷ d ∷ line) lt h =
    ap (λ n. take n (c ∷ d ∷ line)) (last_index c d line) ∙ ap (λ z. c ∷ z) (strip_return-some (d ∷ line) (omega arith) (sym (last_under c d line) ∙ h))

-- further lines, one after another

pub further_stops : (rest line after lines : List ℕ) → value_lines rest ≡ line ∷ value_lines after → is_further line ≡ false → list_all is_further (value_lines rest) ≡ list_all is_further (value_lines lines) → false ≡ list_all is_further (value_lines lines)
further_stops rest line after lines e wrong all =
    sym (ap (λ b. b && list_all is_further (value_lines after)) wrong) ∙ sym (ap (list_all is_further) e) ∙ all

pub further_goes_on : (rest line after lines : List ℕ) → value_lines rest ≡ line ∷ value_lines after → is_further line ≡ true → list_all is_further (value_lines rest) ≡ list_all is_further (value_lines lines) → list_all is_further (value_lines after) ≡ list_all is_further (value_lines lines)
further_goes_on rest line after lines e right all =
    sym (ap (λ b. b && list_all is_further (value_lines after)) right) ∙ sym (ap (list_all is_further) e) ∙ all

pub further_last : (rest lines : List ℕ) → value_lines rest ≡ rest ∷ [] → list_all is_further (value_lines rest) ≡ list_all is_further (value_lines lines) → is_further rest ≡ list_all is_further (value_lines lines)
further_last rest lines e all = sym (and-true (is_further rest)) ∙ sym (ap (list_all is_further) e) ∙ all

-- a value by its lines

pub value_more : (value first further : List ℕ) → value_lines value ≡ first ∷ value_lines further → is_value value ≡ (is_first first && list_all is_further (value_lines further))
value_more value first further e = ap are_lines e

pub value_one : (value : List ℕ) → value_lines value ≡ value ∷ [] → is_value value ≡ is_first value
value_one value e = ap are_lines e ∙ and-true (is_first value)

pub some_length : (text : List ℕ) → eqb (length text) 0 ≡ false → 0 < length text
some_length [] e = absurd (let h = e in cc)
some_length (c ∷ text) e = omega arith

-- a tag of three characters
pub split_three : (line : List ℕ) → 4 ≤ length line → (get_or line 2 0 ≡ 58 → ⊥) → get_or line 3 0 ≡ 58 → Some (take 3 line, take (length line - 4) (drop 4 line)) ≡ split_tag line
split_three [] le a b = absurd (omega arith)
split_three (w ∷ []) le a b = absurd (omega arith)
split_three (w ∷ x ∷ []) le a b = absurd (omega arith)
split_three (w ∷ x ∷ y ∷ []) le a b = absurd (omega arith)
split_three (w ∷ x ∷ y ∷ z ∷ line) le a b =
    let e : length (w ∷ x ∷ y ∷ z ∷ line) - 4 ≡ length line = omega arith in
    rw (e, take_all (length line) line (omega arith), is_not y 58 a, ap (λ n. eqb n 58) b) refl
