-- Where a body ends, which is sought by its full stops.
use Rattle.std.proofs.Common.{◌≡◌, ◌≢◌, ℕ, zero, suc, ◌+◌, ◌-◌, ◌≤◌, Bool, true, false, cond, eqb, fold, codes, List, [], ◌∷◌, ◌++◌, All, length, length-append, take, arith, refl, ap, sym, ◌∙◌, subst, append_assoc, append-nil}
use Rattle.std.proofs.lemmas.Bool.{false≢true}
use Rattle.std.proofs.lemmas.List.Elements.{All-head, All-tail, All-cons, All-nil, All-append}
use Rattle.std.proofs.Math.Seq.{take-append_seam}
use Rattle.std.proofs.lemmas.List.Folds.{concat-append}
use Rattle.std.specs.List.{concat, onto_first}
use Rattle.std.specs.Str.{bytes_eq}
use Rattle.desk_book.specs.Lines.{script_lines, has_end, is_stop}
use Rattle.desk_book.specs.Script.{HasNoStop}
use Rattle.desk_book.specs.Items.{BeginsWithBody, ends_line}
use Rattle.desk_book.proofs.ScriptLemmas.{IsReadTo, line_more}

abbrev pub HasNoDot : List ℕ → Type 0
HasNoDot text = All (λ c. c ≢ 46) text

no_dot : (c : ℕ) → c ≢ 46 → eqb c 46 ≡ false
no_dot c h = grind arith

taken : (n c : ℕ) (line : List ℕ) → eqb c 46 ≡ false → bytes_eq (take n (c ∷ line)) (46 ∷ []) ≡ false
taken zero c line h = refl
taken (suc n) c line h = rw h refl

any_end : (a b : Bool) (n m c : ℕ) (line : List ℕ) → eqb c 46 ≡ false
    → bytes_eq (cond a (take n (c ∷ line)) (cond b (take m (c ∷ line)) (c ∷ line))) (46 ∷ []) ≡ false
any_end true b n m c line h = taken n c line h
any_end false true n m c line h = taken m c line h
any_end false false n m c line h = rw h refl

-- a line that begins with another byte ends no body
not_stop : (c : ℕ) (line : List ℕ) → c ≢ 46 → is_stop (c ∷ line) ≡ false
not_stop c line h = any_end (has_end (codes "\r\n") (c ∷ line)) (has_end (codes "\n") (c ∷ line)) (length (c ∷ line) - 2) (length (c ∷ line) - 1) c line (no_dot c h)

-- one byte more before lines
one_more : (b : Bool) (c : ℕ) (lines : List (List ℕ)) → c ≢ 46 → HasNoStop lines → HasNoStop (cond b ((c ∷ []) ∷ lines) (onto_first c lines))
one_more true c lines h all = All-cons (λ l. is_stop l ≡ false) (c ∷ []) lines (not_stop c [] h) all
one_more false c [] h all = All-cons (λ l. is_stop l ≡ false) (c ∷ []) [] (not_stop c [] h) all
one_more false c (line ∷ lines) h all =
    All-cons (λ l. is_stop l ≡ false) (c ∷ line) lines (not_stop c line h) (All-tail (λ l. is_stop l ≡ false) line lines all)

-- nor does a line of a text that has no full stop
pub none_stops : (text : List ℕ) → HasNoDot text → HasNoStop (script_lines text)
none_stops [] all = All-nil (λ l. is_stop l ≡ false)
none_stops (c ∷ text) all =
    one_more (eqb c 10) c (script_lines text) (All-head (λ d. d ≢ 46) c text all) (none_stops text (All-tail (λ d. d ≢ 46) c text all))

-- whole lines, none of which ends a body
record IsWhole (front tail : List ℕ) : Type 0 where
  before : List (List ℕ)
  split : script_lines (front ++ tail) ≡ before ++ script_lines tail
  bytes : front ≡ concat before
  inside : HasNoStop before

whole_on : (c d : ℕ) (front tail : List ℕ) → eqb c 10 ≡ false → c ≢ 46 → (before : List (List ℕ)) → script_lines (d ∷ (front ++ tail)) ≡ before ++ script_lines tail
    → d ∷ front ≡ concat before → HasNoStop before → IsWhole (c ∷ d ∷ front) tail
whole_on c d front tail is other [] split bytes inside = absurd (cc)
whole_on c d front tail is other (line ∷ lines) split bytes inside = record {
  before = (c ∷ line) ∷ lines;
  split = rw is (ap (onto_first c) split);
  bytes = ap (λ x. c ∷ x) bytes;
  inside = All-cons (λ l. is_stop l ≡ false) (c ∷ line) lines (not_stop c line other) (All-tail (λ l. is_stop l ≡ false) line lines inside);
}

whole_at : (c : ℕ) (front tail : List ℕ) (b : Bool) → eqb c 10 ≡ b → c ≢ 46 → (ends_line front ≡ true → IsWhole front tail) → fold (λ _ d. eqb d 10) b front ≡ true
    → IsWhole (c ∷ front) tail
whole_at c front tail true is other later ends =
    let l = later ends in record {
      before = (c ∷ []) ∷ l.before;
      split = rw is (ap (λ x. (c ∷ []) ∷ x) l.split);
      bytes = ap (λ x. c ∷ x) l.bytes;
      inside = All-cons (λ k. is_stop k ≡ false) (c ∷ []) l.before (not_stop c [] other) l.inside;
    }
whole_at c [] tail false is other later ends = absurd (false≢true ends)
whole_at c (d ∷ front) tail false is other later ends =
    let l = later ends in whole_on c d front tail is other l.before l.split l.bytes l.inside

whole : (front tail : List ℕ) → HasNoDot front → ends_line front ≡ true → IsWhole front tail
whole [] tail all ends = record { before = []; split = refl; bytes = refl; inside = All-nil (λ l. is_stop l ≡ false) }
whole (c ∷ front) tail all ends =
    whole_at c front tail (eqb c 10) refl (All-head (λ d. d ≢ 46) c front all) (whole front tail (All-tail (λ d. d ≢ 46) c front all)) ends

-- lines of which the last begins before the full stop
broken_on : (c d : ℕ) (front behind after : List ℕ) → eqb c 10 ≡ false → c ≢ 46 → length after ≤ length behind → (before : List (List ℕ))
    → script_lines (d ∷ (front ++ behind)) ≡ before ++ script_lines after → d ∷ (front ++ behind) ≡ concat before ++ after → HasNoStop before
    → IsReadTo (c ∷ d ∷ (front ++ behind)) after
broken_on c d front behind after is other short [] split bytes inside = absurd (omega (arith, ap length bytes, length-append front behind))
broken_on c d front behind after is other short (line ∷ lines) split bytes inside = record {
  before = (c ∷ line) ∷ lines;
  split = rw is (ap (onto_first c) split);
  bytes = ap (λ x. c ∷ x) bytes;
  inside = All-cons (λ l. is_stop l ≡ false) (c ∷ line) lines (not_stop c line other) (All-tail (λ l. is_stop l ≡ false) line lines inside);
}

broken_at : (c : ℕ) (front line after : List ℕ) (b : Bool) → eqb c 10 ≡ b → c ≢ 46 → script_lines (line ++ after) ≡ line ∷ script_lines after
    → (ends_line front ≡ false → IsReadTo (front ++ (line ++ after)) after) → fold (λ _ d. eqb d 10) b front ≡ false → IsReadTo (c ∷ (front ++ (line ++ after))) after
broken_at c front line after true is other first later ends =
    let l = later ends in record {
      before = (c ∷ []) ∷ l.before;
      split = rw is (ap (λ x. (c ∷ []) ∷ x) l.split);
      bytes = ap (λ x. c ∷ x) l.bytes;
      inside = All-cons (λ k. is_stop k ≡ false) (c ∷ []) l.before (not_stop c [] other) l.inside;
    }
broken_at c [] line after false is other first later ends = record {
  before = (c ∷ line) ∷ [];
  split = rw is (ap (onto_first c) first);
  bytes = ap (λ x. c ∷ (x ++ after)) (sym (append-nil line));
  inside = All-cons (λ l. is_stop l ≡ false) (c ∷ line) [] (not_stop c line other) (All-nil (λ l. is_stop l ≡ false));
}
broken_at c (d ∷ front) line after false is other first later ends =
    let l = later ends in broken_on c d front (line ++ after) after is other (omega (arith, length-append line after)) l.before l.split l.bytes l.inside

broken : (front line after : List ℕ) → HasNoDot front → script_lines (line ++ after) ≡ line ∷ script_lines after → ends_line front ≡ false → IsReadTo (front ++ (line ++ after)) after
broken [] line after all first ends = absurd (false≢true (sym ends))
broken (c ∷ front) line after all first ends =
    broken_at c front line after (eqb c 10) refl (All-head (λ d. d ≢ 46) c front all) first (broken front line after (All-tail (λ d. d ≢ 46) c front all) first) ends

read_on : (text rest later : List ℕ) → IsReadTo text rest → IsReadTo rest later → IsReadTo text later
read_on text rest later one other = record {
  before = one.before ++ other.before;
  split = one.split ∙ ap (λ x. one.before ++ x) other.split ∙ sym (append_assoc one.before other.before (script_lines later));
  bytes =
      let joined : concat (one.before ++ other.before) ++ later ≡ concat one.before ++ (concat other.before ++ later) = simp (concat-append, append_assoc) in
      one.bytes ∙ ap (λ x. concat one.before ++ x) other.bytes ∙ sym joined;
  inside = All-append (λ l. is_stop l ≡ false) one.before other.before one.inside other.inside;
}

-- to the line of the full stop
up_to : (text rest front line after : List ℕ) → IsReadTo text rest → rest ≡ front ++ (line ++ after) → HasNoDot front → ends_line front ≡ true → IsReadTo text (line ++ after)
up_to text rest front line after read split all ends =
    let w = whole front (line ++ after) all ends in
    read_on text rest (line ++ after) read record {
      before = w.before;
      split = ap script_lines split ∙ w.split;
      bytes = split ∙ ap (λ x. x ++ (line ++ after)) w.bytes;
      inside = w.inside;
    }

-- a full stop that ends no body
pub past_full_stop : (text rest front line after : List ℕ) (b : Bool) → IsReadTo text rest → rest ≡ front ++ (line ++ after) → script_lines (line ++ after) ≡ line ∷ script_lines after
    → HasNoDot front → ends_line front ≡ b → (b ≡ true → is_stop line ≡ false) → IsReadTo text after
past_full_stop text rest front line after true read split first all ends open_line =
    line_more text (line ++ after) line after (up_to text rest front line after read split all ends) first refl (open_line refl)
past_full_stop text rest front line after false read split first all ends open_line =
    read_on text rest after read (subst (λ x. IsReadTo x after) (sym split) (broken front line after all first ends))

-- the line that ends a body
pub at_stop : (text rest front line after : List ℕ) (n : ℕ) → n ≡ length text - (length line + length after) → IsReadTo text rest → rest ≡ front ++ (line ++ after)
    → script_lines (line ++ after) ≡ line ∷ script_lines after → HasNoDot front → ends_line front ≡ true → is_stop line ≡ true → BeginsWithBody (script_lines text) (take n text) after
at_stop text rest front line after n count read split first all ends stop =
    let r = up_to text rest front line after read split all ends in
    let many : n ≡ length (concat r.before) = omega (arith, ap length r.bytes, length-append (concat r.before) (line ++ after), length-append line after) in record {
      body = r.before;
      stop = line;
      split = r.split ∙ ap (λ x. r.before ++ x) first;
      inside = r.inside;
      stops = stop;
      is = rw many (ap (take (length (concat r.before))) r.bytes ∙ take-append_seam (concat r.before) (line ++ after));
    }

-- no full stop is left
pub no_stop_left : (text rest : List ℕ) → IsReadTo text rest → HasNoDot rest → HasNoStop (script_lines text)
no_stop_left text rest read all =
    subst HasNoStop (sym read.split) (All-append (λ l. is_stop l ≡ false) read.before (script_lines rest) read.inside (none_stops rest all))
