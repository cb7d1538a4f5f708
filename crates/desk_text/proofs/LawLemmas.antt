-- One tree, one fault.
use Rattle.std.proofs.Common.{◌≡◌, ◌≢◌, ℕ, ◌<◌, ◌≤◌, List, [], ◌∷◌, ◌++◌, length, map, take, drop, replicate, codes, All, Result, Ok, Err, refl, sym, ap, ◌∙◌, subst, arith, append_assoc, append-nil, ◌⊎◌, inl, inr}
use Rattle.std.proofs.lemmas.Bool.{cases_lt}
use Rattle.std.proofs.lemmas.List.{map-append, take-append-drop}
use Rattle.std.proofs.lemmas.List.Elements.{All-head, All-tail}
use Rattle.std.specs.Prelude.{IsTrue}
use Rattle.desk_text.specs.declared.limits.TheConstants.{LONGEST_TEXT}
use Rattle.desk_text.specs.declared.faults.TextFault.{TextFault}
use Rattle.desk_text.specs.declared.faults.TextFault.TheVariants.{NotBlock, BadLine, BadNesting, TooLong, Memory}
use Rattle.desk_text.specs.Lines.{lines_of, value_lines}
use Rattle.desk_text.specs.BlockGrammar.{Items, none, field, sequence, lines_of_items, IsTree, is_first}
use Rattle.desk_text.specs.Fields.{Found, IsBlock, fields_of}
use Rattle.desk_text.specs.BlockFault.{Begins, IsFirstBad, IsMisnested, IsFault}
use Rattle.desk_text.specs.Written.{Part, AreParts, block_text, fields_written, is_value}
use Rattle.desk_text.specs.Reading.{strip_return, Rest, read_text}
use Rattle.desk_text.specs.Signs.{Sign, opens, closes, starts, further, ends, strange, sign_of}
use Rattle.desk_text.proofs.LinesLemmas.{lines_of-line, lines_of-last, value_lines-last, value_one, not_return}
use Rattle.desk_text.proofs.ReadingLemmas.{signs_of, IsStop, at_close, at_end, items-signs, blank-signs}
use Rattle.desk_text.proofs.ExactLemmas.{begins-front, begins-from_tree, reads_exactly, IsExact}
use Rattle.desk_text.proofs.PartLemmas.{first_is_line, one_line, parts_block}

-- One tree.

abbrev pub NotFurther : List Sign → Type 0
NotFurther [] = Unit {0}
NotFurther (opens name ∷ signs) = Unit {0}
NotFurther (closes name ∷ signs) = Unit {0}
NotFurther (starts tag first ∷ signs) = Unit {0}
NotFurther (further line ∷ signs) = ⊥
NotFurther (ends ∷ signs) = Unit {0}
NotFurther (strange ∷ signs) = Unit {0}

stop-not_further : (signs : List Sign) → IsStop signs → NotFurther signs
stop-not_further [] stop = tt
stop-not_further (opens name ∷ signs) stop = tt
stop-not_further (closes name ∷ signs) stop = tt
stop-not_further (starts tag first ∷ signs) stop = tt
stop-not_further (further line ∷ signs) stop = elim stop [ ]
stop-not_further (ends ∷ signs) stop = tt
stop-not_further (strange ∷ signs) stop = tt

items-not_further : (items : Items) (signs : List Sign) → NotFurther signs → NotFurther (signs_of items ++ signs)
items-not_further none signs n = n
items-not_further (field tag first more rest) signs n = tt
items-not_further (sequence name inner rest) signs n = tt

same-further : (a b : List (List ℕ)) (x y : List Sign) → NotFurther x → NotFurther y → map further a ++ x ≡ map further b ++ y → (a ≡ b) × (x ≡ y)
same-further [] [] x y nx ny e = (refl, e)
same-further [] (line ∷ b) x y nx ny e = absurd (subst NotFurther e nx)
same-further (line ∷ a) [] x y nx ny e = absurd (subst NotFurther (sym e) ny)
same-further (line ∷ a) (other ∷ b) x y nx ny e =
    let tails : map further a ++ x ≡ map further b ++ y = let h = e in cc in
    let heads : line ≡ other = let h = e in cc in
    let s = same-further a b x y nx ny tails in
    (ap (λ z. z ∷ a) heads ∙ ap (λ z. other ∷ z) s.0, s.1)

stop-begins : (tag first : List ℕ) (signs : List Sign) → IsStop (starts tag first ∷ signs) → ⊥
stop-begins tag first signs stop = elim stop [ ]

stop-opens : (name : List ℕ) (signs : List Sign) → IsStop (opens name ∷ signs) → ⊥
stop-opens name signs stop = elim stop [ ]

same-items : (a b : Items) (x y : List Sign) → IsStop x → IsStop y → signs_of a ++ x ≡ signs_of b ++ y → (a ≡ b) × (x ≡ y)
same-items none none x y sx sy e = (refl, e)
same-items none (field tag first more rest) x y sx sy e = absurd (stop-begins tag first ((map further more ++ signs_of rest) ++ y) (subst IsStop e sx))
same-items none (sequence name inner rest) x y sx sy e = absurd (stop-opens name ((signs_of inner ++ closes name ∷ signs_of rest) ++ y) (subst IsStop e sx))
same-items (field tag first more rest) none x y sx sy e = absurd (stop-begins tag first ((map further more ++ signs_of rest) ++ x) (subst IsStop (sym e) sy))
same-items (sequence name inner rest) none x y sx sy e = absurd (stop-opens name ((signs_of inner ++ closes name ∷ signs_of rest) ++ x) (subst IsStop (sym e) sy))
same-items (field tag first more rest) (sequence name inner rest') x y sx sy e = absurd (let h = e in cc)
same-items (sequence name inner rest) (field tag first more rest') x y sx sy e = absurd (let h = e in cc)
same-items (field tag first more rest) (field tag' first' more' rest') x y sx sy e =
    let tags : tag ≡ tag' = let h = e in cc in
    let firsts : first ≡ first' = let h = e in cc in
    let tails : (map further more ++ signs_of rest) ++ x ≡ (map further more' ++ signs_of rest') ++ y = let h = e in cc in
    let f = same-further more more' (signs_of rest ++ x) (signs_of rest' ++ y) (items-not_further rest x (stop-not_further x sx)) (items-not_further rest' y (stop-not_further y sy))
    (sym (append_assoc (map further more) (signs_of rest) x) ∙ tails ∙ append_assoc (map further more') (signs_of rest') y) in
    let r = same-items rest rest' x y sx sy f.1 in
    let m = f.0 in let s = r.0 in
    (cc, r.1)
same-items (sequence name inner rest) (sequence name' inner' rest') x y sx sy e =
    let tails : (signs_of inner ++ closes name ∷ signs_of rest) ++ x ≡ (signs_of inner' ++ closes name' ∷ signs_of rest') ++ y = let h = e in cc in
    let names : name ≡ name' = let h = e in cc in
    let i = same-items inner inner' (closes name ∷ (signs_of rest ++ x)) (closes name' ∷ (signs_of rest' ++ y)) at_close at_close
    (sym (append_assoc (signs_of inner) (closes name ∷ signs_of rest) x) ∙ tails ∙ append_assoc (signs_of inner') (closes name' ∷ signs_of rest') y) in
    let after : signs_of rest ++ x ≡ signs_of rest' ++ y = let h = i.1 in cc in
    let r = same-items rest rest' x y sx sy after in
    let m = i.0 in let s = r.0 in
    (cc, r.1)

tree-signs : (lines : List (List ℕ)) (items : Items) (tree : IsTree lines items) → map sign_of (drop 1 lines) ≡ signs_of items ++ ends ∷ replicate tree.blanks (further [])
tree-signs lines items tree =
    ap (λ z. map sign_of (drop 1 z)) tree.are
    ∙ map-append sign_of (lines_of_items items) (codes "-}" ∷ replicate tree.blanks [])
    ∙ ap (λ z. z ++ ends ∷ map sign_of (replicate tree.blanks [])) (items-signs items 0 tree.right)
    ∙ ap (λ z. signs_of items ++ ends ∷ z) (blank-signs tree.blanks)

pub one-tree : (lines : List (List ℕ)) (a b : Items) → IsTree lines a → IsTree lines b → a ≡ b
one-tree lines a b ta tb =
    (same-items a b (ends ∷ replicate ta.blanks (further [])) (ends ∷ replicate tb.blanks (further [])) at_end at_end (sym (tree-signs lines a ta) ∙ tree-signs lines b tb)).0

pub one-fields : (text : List ℕ) (a b : List Found) → IsBlock text a → IsBlock text b → a ≡ b
one-fields text a b x y = x.fields ∙ ap fields_of (one-tree (lines_of text) x.items y.items x.tree y.tree) ∙ sym y.fields

-- One fault.

before-bad : (lines : List (List ℕ)) (k m : ℕ) → IsFirstBad lines k → IsFirstBad lines m → k < m → ⊥
before-bad lines k m a b lt = a.bad (b.least k lt)

same-bad : (lines : List (List ℕ)) (k m : ℕ) → IsFirstBad lines k → IsFirstBad lines m → k ≡ m
same-bad lines k m a b = elim (cases_lt k m) [
  | inl lt ↦ absurd (before-bad lines k m a b lt)
  | inr le ↦ elim (cases_lt m k) [ inl lt ↦ absurd (before-bad lines m k b a lt) | inr ge ↦ omega arith ]
]

begins-all : (lines : List (List ℕ)) (k : ℕ) → Begins lines → IsFirstBad lines k → ⊥
begins-all lines k b bad = bad.bad (begins-front (take k lines) (drop k lines) (subst Begins (sym (take-append-drop k lines)) b))

not_and_bad : (lines : List (List ℕ)) (k : ℕ) → (IsFirstBad lines 1 ⊎ (Begins lines × ((items : Items) → IsTree lines items → ⊥))) → 1 < k → IsFirstBad lines k → ⊥
not_and_bad lines k (inl one) lt bad = let same = same-bad lines 1 k one bad in omega arith
not_and_bad lines k (inr (b, n)) lt bad = begins-all lines k b bad

pub one-fault : (text : List ℕ) (a b : TextFault) → IsFault text a → IsFault text b → a ≡ b
one-fault text TooLong TooLong x y = refl
one-fault text TooLong NotBlock x y = absurd (let le = y.0 in omega (arith, x))
one-fault text TooLong (BadLine k) x y = absurd (let le = y.0 in omega (arith, x))
one-fault text TooLong (BadNesting k) x y = absurd (let le = y.0 in omega (arith, x))
one-fault text NotBlock TooLong x y = absurd (let le = x.0 in omega (arith, y))
one-fault text NotBlock NotBlock x y = refl
one-fault text NotBlock (BadLine k) x y = absurd (not_and_bad (lines_of text) k x.1 y.1 y.2)
one-fault text NotBlock (BadNesting k) x y = absurd (not_and_bad (lines_of text) k x.1 y.1 y.2)
one-fault text (BadLine k) TooLong x y = absurd (let le = x.0 in omega (arith, y))
one-fault text (BadLine k) NotBlock x y = absurd (not_and_bad (lines_of text) k y.1 x.1 x.2)
one-fault text (BadLine k) (BadLine m) x y = ap BadLine (same-bad (lines_of text) k m x.2 y.2)
one-fault text (BadLine k) (BadNesting m) x y = absurd (x.3 (subst (λ (z : ℕ). IsMisnested (lines_of text) z) (same-bad (lines_of text) m k y.2 x.2) y.3))
one-fault text (BadNesting k) TooLong x y = absurd (let le = x.0 in omega (arith, y))
one-fault text (BadNesting k) NotBlock x y = absurd (not_and_bad (lines_of text) k y.1 x.1 x.2)
one-fault text (BadNesting k) (BadLine m) x y = absurd (y.3 (subst (λ (z : ℕ). IsMisnested (lines_of text) z) (same-bad (lines_of text) k m x.2 y.2) x.3))
one-fault text (BadNesting k) (BadNesting m) x y = ap BadNesting (same-bad (lines_of text) k m x.2 y.2)
one-fault text Memory b x y = absurd x
one-fault text TooLong Memory x y = absurd y
one-fault text NotBlock Memory x y = absurd y
one-fault text (BadLine k) Memory x y = absurd y
one-fault text (BadNesting k) Memory x y = absurd y

block-begins : (text : List ℕ) (found : List Found) → IsBlock text found → Begins (lines_of text)
block-begins text found b = begins-from_tree (lines_of text) [] b.items (subst (λ (z : List (List ℕ)). IsTree z b.items) (sym (append-nil (lines_of text))) b.tree)

pub block-no_fault : (text : List ℕ) (found : List Found) (fault : TextFault) → length text ≤ LONGEST_TEXT → IsBlock text found → IsFault text fault → ⊥
block-no_fault text found TooLong short b f = omega (arith, short, f)
block-no_fault text found NotBlock short b (le, inl one) = begins-all (lines_of text) 1 (block-begins text found b) one
block-no_fault text found NotBlock short b (le, inr (begun, n)) = n b.items b.tree
block-no_fault text found (BadLine k) short b f = begins-all (lines_of text) k (block-begins text found b) f.2
block-no_fault text found (BadNesting k) short b f = begins-all (lines_of text) k (block-begins text found b) f.2
block-no_fault text found Memory short b f = f

pub some-fault : (text : List ℕ) → ((found : List Found) → IsBlock text found → ⊥) → (fault : TextFault) × IsFault text fault
some-fault text no_block = go (read_text text) (reads_exactly text (read_text text) refl) where
  go : (r : Result Rest TextFault) → IsExact text r → (fault : TextFault) × IsFault text fault
  go (Ok rest) x = absurd (no_block rest.fields x.1)
  go (Err fault) x = (fault, x)

-- Reading back.

pub reads-back : (parts : List Part) (found : List Found) → AreParts [] parts → IsBlock (block_text parts) found → found ≡ fields_written parts
reads-back parts found right b = one-fields (block_text parts) found (fields_written parts) b (parts_block parts right)

-- Line ends.

strip_return-free : (line : List ℕ) → All (λ c. c ≢ 13) line → strip_return line ≡ line
strip_return-free [] a = refl
strip_return-free (c ∷ []) a = let other = All-head (λ c. c ≢ 13) c [] a in rw (not_return c other) refl
strip_return-free (c ∷ d ∷ line) a = ap (λ z. c ∷ z) (strip_return-free (d ∷ line) (All-tail (λ c. c ≢ 13) c (d ∷ line) a))

pub line-feed : (line rest : List ℕ) → All (λ c. c ≢ 10) line → All (λ c. c ≢ 13) line → lines_of (line ++ 10 ∷ rest) ≡ line ∷ lines_of rest
line-feed line rest a b = lines_of-line line rest a ∙ ap (λ z. z ∷ lines_of rest) (strip_return-free line b)

pub line-return : (line rest : List ℕ) → All (λ c. c ≢ 10) line → lines_of (line ++ 13 ∷ 10 ∷ rest) ≡ line ∷ lines_of rest
line-return line rest a = ap lines_of (sym (append_assoc line (13 ∷ 10 ∷ []) rest)) ∙ one_line line rest a

pub line-last : (line : List ℕ) → line ≢ [] → All (λ c. c ≢ 10) line → lines_of line ≡ line ∷ []
line-last [] some a = absurd (some refl)
line-last (c ∷ line) some a = lines_of-last c line a

pub value-right : (value : List ℕ) → IsTrue (is_first value) → IsTrue (is_value value)
value-right value e = value_one value (value_lines-last value (first_is_line value e)) ∙ e

pub value-line : (value : List ℕ) → IsTrue (is_first value) → value_lines value ≡ value ∷ []
value-line value e = value_lines-last value (first_is_line value e)
