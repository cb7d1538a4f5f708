-- Reading a text gives exactly what the definitions say: the fields of a block, or the one fault.
use Rattle.std.proofs.Common.{◌≡◌, ◌≢◌, ℕ, ◌+◌, ◌-◌, ◌<◌, ◌≤◌, nat_lt, false, cond, List, [], ◌∷◌, ◌++◌, length, map, take, drop, codes, Some, Result, Ok, Err, refl, sym, ap, ◌∙◌, subst, arith, append_assoc, length-append, ◌⊎◌, inl, inr}
use Rattle.std.proofs.lemmas.Bool.Decides.{nat_tests}
use Rattle.std.proofs.lemmas.List.{map-append, take_at, take-take, take-append-drop, length-map}
use Rattle.std.proofs.lemmas.List.Elements.{All-from_recursion, All-contains, Contains-append_right}
use Rattle.std.proofs.lemmas.Option.{same_Some}
use Rattle.std.specs.Prelude.{slice_get, Contains}
use Rattle.std.specs.List.{AllByRecursion}
use Rattle.std.specs.Str.{bytes_eq}
use Rattle.desk_text.specs.declared.limits.TheConstants.{LONGEST_TEXT}
use Rattle.desk_text.specs.declared.faults.TextFault.{TextFault}
use Rattle.desk_text.specs.declared.faults.TextFault.TheVariants.{NotBlock, BadLine, BadNesting, TooLong, Memory}
use Rattle.desk_text.specs.Lines.{lines_of}
use Rattle.desk_text.specs.BlockGrammar.{Items, none, IsTree}
use Rattle.desk_text.specs.Fields.{IsBlock}
use Rattle.desk_text.specs.BlockFault.{Begins, IsFirstBad, IsRight, is_opening, is_closing, is_field, is_end, IsMisnested, IsFault}
use Rattle.desk_text.specs.Reading.{Rest, read_from, read_lines, read_text}
use Rattle.desk_text.specs.Signs.{Sign, opens, closes, starts, further, ends, strange, sign_of}
use Rattle.desk_text.proofs.SignLemmas.{same_bytes, line_of, IsSigned, sign-sound, opening-sign, closing-sign, field-sign}
use Rattle.desk_text.proofs.ReadingLemmas.{chosen, right-signs, read-tree, block-read}
use Rattle.desk_text.proofs.FaultLemmas.{CanEnd, NoEnd, HasEnd, IsNest, nest_open, nest_close, nest_end, IsOdd, IsWhy, IsAt, IsLocated, located}

-- Lines that begin a block.

pub begins-from_tree : (lines more : List (List ℕ)) (items : Items) → IsTree (lines ++ more) items → Begins lines
begins-from_tree lines more items tree = record { more = more; items = items; tree = tree }

pub begins-front : (front more : List (List ℕ)) → Begins (front ++ more) → Begins front
begins-front front more b =
    let P : List (List ℕ) → Type 0 = λ z. IsTree z b.items in
    record { more = more ++ b.more; items = b.items; tree = subst P (append_assoc front more b.more) b.tree }

nothing_begins : Begins []
nothing_begins = record {
  more = codes "{4:" ∷ codes "-}" ∷ [];
  items = none;
  tree = record { blanks = 0; are = refl; right = tt };
}

pub begins-read : (lines more : List (List ℕ)) (rest : Rest) → read_lines (lines ++ more) ≡ Ok rest → Begins lines
begins-read lines more rest e = let b = block-read (lines ++ more) rest e in record { more = more; items = b.items; tree = b.tree }

begins-can : (lines : List (List ℕ)) → CanEnd [] false 2 (map sign_of lines) → Begins (codes "{4:" ∷ lines)
begins-can lines c = begins-read (codes "{4:" ∷ lines) c.more c.rest (ap (λ z. read_from z [] false 2) (map-append sign_of lines c.more) ∙ c.reads)

no_tree : (lines : List (List ℕ)) (fault : TextFault) → read_lines lines ≡ Err fault → (items : Items) → IsTree lines items → ⊥
no_tree lines fault e items tree = let h = read-tree lines items tree in cc

-- The first line with which lines begin no block.

at_end_of : (front after : List (List ℕ)) (at : List ℕ) (k : ℕ) → k ≡ length front + 1 → take k (front ++ at ∷ after) ≡ front ++ at ∷ []
at_end_of front after at k e =
    ap (take k) (sym (append_assoc front (at ∷ []) after)) ∙ take_at (front ++ at ∷ []) after k (length-append front (at ∷ []) ∙ sym e)

before_end_of : (front after : List (List ℕ)) (at : List ℕ) (k : ℕ) → k ≡ length front + 1 → take (k - 1) (front ++ at ∷ after) ≡ front
before_end_of front after at k e = take_at front (at ∷ after) (k - 1) (omega arith)

get_at : (front after : List (List ℕ)) (at : List ℕ) → slice_get (front ++ at ∷ after) (length front) ≡ Some at
get_at [] after at = refl
get_at (line ∷ front) after at = get_at front after at

first_bad : (front after : List (List ℕ)) (at : List ℕ) (k : ℕ) → k ≡ length front + 1 → Begins front → (Begins (front ++ at ∷ []) → ⊥) → IsFirstBad (front ++ at ∷ after) k
first_bad front after at k e before bad = record {
  within = omega (arith, e, length-append front (at ∷ after));
  bad = λ b. bad (subst Begins (at_end_of front after at k e) b);
  least = λ j lt.
      let le : j ≤ k - 1 = omega arith in
      let shorter : take j front ≡ take j (front ++ at ∷ after) =
      sym (ap (take j) (before_end_of front after at k e)) ∙ take-take j (k - 1) (front ++ at ∷ after) le in
      subst Begins shorter (begins-front (take j front) (drop j front) (subst Begins (sym (take-append-drop j front)) before));
}

-- Signs split as their lines do.
record IsSplit (lines : List (List ℕ)) (front : List Sign) (bad : Sign) : Type 0 where
  before : List (List ℕ)
  at : List ℕ
  after : List (List ℕ)
  are : lines ≡ before ++ at ∷ after
  front_is : map sign_of before ≡ front
  bad_is : sign_of at ≡ bad

split_lines : (lines : List (List ℕ)) (front : List Sign) (bad : Sign) (rest : List Sign) → map sign_of lines ≡ front ++ bad ∷ rest → IsSplit lines front bad
split_lines [] [] bad rest e = absurd (let h = e in cc)
split_lines [] (sign ∷ front) bad rest e = absurd (let h = e in cc)
split_lines (line ∷ lines) [] bad rest e = record { before = []; at = line; after = lines; are = refl; front_is = refl; bad_is = let h = e in cc }
split_lines (line ∷ lines) (sign ∷ front) bad rest e =
    let s = split_lines lines front bad rest (let h = e in cc) in
    let head : sign_of line ≡ sign = let h = e in cc in
    record {
      before = line ∷ s.before;
      at = s.at;
      after = s.after;
      are = ap (λ z. line ∷ z) s.are;
      front_is = ap (λ z. z ∷ map sign_of s.before) head ∙ ap (λ z. sign ∷ z) s.front_is;
      bad_is = s.bad_is;
    }

-- ends among lines and signs

no_end_line : (lines : List (List ℕ)) → NoEnd (map sign_of lines) → AllByRecursion (λ line. line ≢ codes "-}") lines
no_end_line [] n = tt
no_end_line (line ∷ lines) n = (λ e. n.0 (ap sign_of e), no_end_line lines n.1)

pub end_line : (lines : List (List ℕ)) → HasEnd (map sign_of lines) → Contains lines (codes "-}")
end_line [] h = absurd h
end_line (line ∷ lines) (inl e) =
    let not_strange : sign_of line ≢ strange = λ s. let h = e in cc in
    let is : line ≡ codes "-}" = (sign-sound line).is not_strange ∙ ap line_of e in
    (0, omega arith, is)
end_line (line ∷ lines) (inr h) = Contains-append_right (line ∷ []) lines (codes "-}") (end_line lines h)

-- which lines are right under some names

nest_right : (line : List ℕ) (sign : Sign) → sign_of line ≡ sign → IsNest sign → (names : List (List ℕ)) × IsRight names line
nest_right line (opens name) e nest_open =
    let s = subst (λ (z : Sign). IsSigned line z) e (sign-sound line) in ([], is_opening name (s.is (λ h. let g = h in cc)) s.right (omega arith))
nest_right line (closes name) e nest_close =
    let s = subst (λ (z : Sign). IsSigned line z) e (sign-sound line) in (name ∷ [], is_closing name [] (s.is (λ h. let g = h in cc)) s.right refl)
nest_right line ends e nest_end =
    let s = subst (λ (z : Sign). IsSigned line z) e (sign-sound line) in ([], is_end (s.is (λ h. let g = h in cc)) refl)
nest_right line (starts tag first) e nest = elim nest [ ]
nest_right line (further text) e nest = elim nest [ ]
nest_right line strange e nest = elim nest [ ]

opens_even : (name : List ℕ) → IsOdd (opens name) → ⊥
opens_even name odd = elim odd [ ]

closes_even : (name : List ℕ) → IsOdd (closes name) → ⊥
closes_even name odd = elim odd [ ]

begins_even : (tag first : List ℕ) → IsOdd (starts tag first) → ⊥
begins_even tag first odd = elim odd [ ]

ends_even : IsOdd ends → ⊥
ends_even odd = elim odd [ ]

odd_wrong : (names : List (List ℕ)) (line : List ℕ) → IsRight names line → IsOdd (sign_of line) → ⊥
odd_wrong names line (is_opening name is n room) odd = opens_even name (subst IsOdd (ap sign_of is ∙ opening-sign name n) odd)
odd_wrong names line (is_closing name outer is n top) odd = closes_even name (subst IsOdd (ap sign_of is ∙ closing-sign name n) odd)
odd_wrong names line (is_field tag first is t f) odd = begins_even tag first (subst IsOdd (ap sign_of is ∙ field-sign tag first t f) odd)
odd_wrong names line (is_end is top) odd = ends_even (subst IsOdd (ap sign_of is) odd)

-- From signs to lines.

-- the parts of a fault's place among lines, `{4:` in front
record IsPlace (lines : List (List ℕ)) (m : ℕ) (fault : TextFault) : Type 0 where
  front : List (List ℕ)
  at : List ℕ
  after : List (List ℕ)
  are : codes "{4:" ∷ lines ≡ (codes "{4:" ∷ front) ++ at ∷ after
  number : m ≡ length (codes "{4:" ∷ front) + 1
  bad : IsFirstBad (codes "{4:" ∷ lines) m
  why : IsWhy fault (map sign_of front) (sign_of at)

place : (lines : List (List ℕ)) (m : ℕ) (fault : TextFault) → IsAt (map sign_of lines) [] false 2 m fault → IsPlace lines m fault
place lines m fault a =
    let s = split_lines lines a.front a.bad a.rest a.split in
    let first = codes "{4:" in
    let number : m ≡ length (first ∷ s.before) + 1 = let n = a.number in let len = ap length s.front_is in omega (arith, n, len, length-map s.before sign_of) in
    let can : CanEnd [] false 2 (map sign_of s.before) = subst (λ (z : List Sign). CanEnd [] false 2 z) (sym s.front_is) a.can in
    let before : Begins (first ∷ s.before) = begins-can s.before can in
    let bad : Begins ((first ∷ s.before) ++ s.at ∷ []) → ⊥ = λ b.
    let read = read-tree (((first ∷ s.before) ++ s.at ∷ []) ++ b.more) b.items b.tree in
    let signs : map sign_of ((s.before ++ s.at ∷ []) ++ b.more) ≡ a.front ++ a.bad ∷ map sign_of b.more =
    ap (map sign_of) (append_assoc s.before (s.at ∷ []) b.more) ∙ map-append sign_of s.before (s.at ∷ b.more)
    ∙ ap (λ z. z ++ sign_of s.at ∷ map sign_of b.more) s.front_is ∙ ap (λ z. a.front ++ z ∷ map sign_of b.more) s.bad_is in
    let other : read_lines (((first ∷ s.before) ++ s.at ∷ []) ++ b.more) ≡ Err fault = ap (λ z. read_from z [] false 2) signs ∙ a.never (map sign_of b.more) in
    cc in
    let are : first ∷ lines ≡ (first ∷ s.before) ++ s.at ∷ s.after = ap (λ z. first ∷ z) s.are in
    record {
      front = s.before;
      at = s.at;
      after = s.after;
      are = are;
      number = number;
      bad = subst (λ (z : List (List ℕ)). IsFirstBad z m) (sym are) (first_bad (first ∷ s.before) s.after s.at m number before bad);
      why = subst (λ (z : Sign). IsWhy fault (map sign_of s.before) z) (sym s.bad_is) (subst (λ (z : List Sign). IsWhy fault z a.bad) (sym s.front_is) a.why);
    }

place_line : (lines : List (List ℕ)) (m : ℕ) (fault : TextFault) (p : IsPlace lines m fault) → slice_get (codes "{4:" ∷ lines) (m - 1) ≡ Some p.at
place_line lines m fault p =
    let index : m - 1 ≡ length (codes "{4:" ∷ p.front) = let n = p.number in omega arith in
    ap (λ n. slice_get (codes "{4:" ∷ lines) n) index ∙ ap (λ z. slice_get z (length (codes "{4:" ∷ p.front))) p.are ∙ get_at (codes "{4:" ∷ p.front) p.after p.at

place_front : (lines : List (List ℕ)) (m : ℕ) (fault : TextFault) (p : IsPlace lines m fault) → take (m - 1) (codes "{4:" ∷ lines) ≡ codes "{4:" ∷ p.front
place_front lines m fault p = ap (take (m - 1)) p.are ∙ before_end_of (codes "{4:" ∷ p.front) p.after p.at m p.number

misnested : (lines : List (List ℕ)) (m : ℕ) → IsPlace lines m (BadNesting m) → IsMisnested (codes "{4:" ∷ lines) m
misnested lines m p =
    let first = codes "{4:" in
    let right = nest_right p.at (sign_of p.at) refl p.why.1 in
    let other : first ≢ codes "-}" = λ e. let h = e in cc in
    let none_ends : AllByRecursion (λ line. line ≢ codes "-}") (first ∷ p.front) = (other, no_end_line p.front p.why.0) in
    record {
      line = p.at;
      is = place_line lines m (BadNesting m) p;
      unended = λ c.
          All-contains (λ line. line ≢ codes "-}") (first ∷ p.front) (codes "-}") (All-from_recursion (λ line. line ≢ codes "-}") (first ∷ p.front) none_ends)
          (subst (λ (z : List (List ℕ)). Contains z (codes "-}")) (place_front lines m (BadNesting m) p) c) refl;
      names = right.0;
      right = right.1;
    }

not_misnested : (lines : List (List ℕ)) (m : ℕ) → IsPlace lines m (BadLine m) → IsMisnested (codes "{4:" ∷ lines) m → ⊥
not_misnested lines m p n = elim (p.why) [
  | inl ended ↦ n.unended (subst (λ (z : List (List ℕ)). Contains z (codes "-}")) (sym (place_front lines m (BadLine m) p)) (Contains-append_right (codes "{4:" ∷ []) p.front (codes "-}") (end_line p.front ended)))
  | inr odd ↦ let same : p.at ≡ n.line = same_Some p.at n.line (sym (place_line lines m (BadLine m) p) ∙ n.is) in
      odd_wrong n.names p.at (subst (λ (z : List ℕ). IsRight n.names z) (sym same) n.right) odd
]

-- What reading gives is what the definitions say.

-- the fault of lines, whatever the length of their text
abbrev pub FaultOfLines : List (List ℕ) → TextFault → Type 0
FaultOfLines lines NotBlock = IsFirstBad lines 1 ⊎ (Begins lines × ((items : Items) → IsTree lines items → ⊥))
FaultOfLines lines (BadLine k) = (1 < k) × IsFirstBad lines k × (IsMisnested lines k → ⊥)
FaultOfLines lines (BadNesting k) = (1 < k) × IsFirstBad lines k × IsMisnested lines k
FaultOfLines lines TooLong = ⊥
FaultOfLines lines Memory = ⊥

from_lines : (text : List ℕ) (fault : TextFault) → length text ≤ LONGEST_TEXT → FaultOfLines (lines_of text) fault → IsFault text fault
from_lines text NotBlock short f = (short, f)
from_lines text (BadLine k) short f = (short, f.0, f.1, f.2)
from_lines text (BadNesting k) short f = (short, f.0, f.1, f.2)
from_lines text TooLong short f = absurd f
from_lines text Memory short f = absurd f

located_fault : (lines : List (List ℕ)) (fault : TextFault) → IsLocated (map sign_of lines) [] false 2 fault → read_lines (codes "{4:" ∷ lines) ≡ Err fault → FaultOfLines (codes "{4:" ∷ lines) fault
located_fault lines NotBlock l e = inr (begins-can lines l, no_tree (codes "{4:" ∷ lines) NotBlock e)
located_fault lines (BadLine m) l e =
    let p = place lines m (BadLine m) l in
    let n = p.number in (omega arith, p.bad, not_misnested lines m p)
located_fault lines (BadNesting m) l e =
    let p = place lines m (BadNesting m) l in
    let n = p.number in (omega arith, p.bad, misnested lines m p)
located_fault lines TooLong l e = l
located_fault lines Memory l e = l

-- the first line is another
other_first : (first : List ℕ) (lines : List (List ℕ)) → bytes_eq first (codes "{4:") ≡ false → IsFirstBad (first ∷ lines) 1
other_first first lines other = first_bad [] lines first 1 refl nothing_begins (λ b.
    let h = read-tree ((first ∷ []) ++ b.more) b.items b.tree in
    let wrong : read_lines ((first ∷ []) ++ b.more) ≡ Err NotBlock = ap (λ c. cond c (read_from (map sign_of b.more) [] false 2) (Err NotBlock)) other in
    cc)

seen_fault : (P : TextFault → Type 0) (a b : TextFault) → ◌≡◌ {A = Result Rest TextFault} (Err a) (Err b) → P a → P b
seen_fault P a b e p = let same : a ≡ b = cc in subst P same p

pub lines_fault : (lines : List (List ℕ)) (fault : TextFault) → read_lines lines ≡ Err fault → FaultOfLines lines fault
lines_fault [] fault e = seen_fault (λ f. FaultOfLines [] f) NotBlock fault e (inr (nothing_begins, no_tree [] NotBlock refl))
lines_fault (first ∷ lines) fault e = elim (chosen (bytes_eq first (codes "{4:")) (read_from (map sign_of lines) [] false 2) (Err NotBlock) (Err fault) e) [
  | inl (same, r) ↦ let P : List ℕ → Type 0 = λ z. FaultOfLines (z ∷ lines) fault in
      subst P (sym (same_bytes first (codes "{4:") same)) (located_fault lines fault (located (map sign_of lines) [] false 2 fault (right-signs lines) tt r) r)
  | inr (other, r) ↦ seen_fault (λ f. FaultOfLines (first ∷ lines) f) NotBlock fault r (inl (other_first first lines other))
]

abbrev pub IsExact : List ℕ → Result Rest TextFault → Type 0
IsExact text (Ok rest) = (length text ≤ LONGEST_TEXT) × IsBlock text rest.fields
IsExact text (Err fault) = IsFault text fault

short_exact : (text : List ℕ) → length text ≤ LONGEST_TEXT → (r : Result Rest TextFault) → read_lines (lines_of text) ≡ r → IsExact text r
short_exact text short (Ok rest) e =
    let b = block-read (lines_of text) rest e in (short, record { items = b.items; tree = b.tree; fields = b.fields })
short_exact text short (Err fault) e = from_lines text fault short (lines_fault (lines_of text) fault e)

pub reads_exactly : (text : List ℕ) (r : Result Rest TextFault) → read_text text ≡ r → IsExact text r
reads_exactly text r e = elim (chosen (nat_lt LONGEST_TEXT (length text)) (Err TooLong) (read_lines (lines_of text)) r e) [
  | inl (long, same) ↦ subst (λ (z : Result Rest TextFault). IsExact text z) same (let lt : LONGEST_TEXT < length text = grind (arith, nat_tests, long) in lt)
  | inr (short, same) ↦ short_exact text (let le : length text ≤ LONGEST_TEXT = grind (arith, nat_tests, short) in le) r same
]
