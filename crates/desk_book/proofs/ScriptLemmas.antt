-- How a script goes on behind its first line.
use Rattle.std.proofs.Common.{◌+◌, ◌≡◌, ℕ, ◌<◌, ◌≤◌, true, false, List, [], ◌∷◌, ◌++◌, length, Some, None, arith, refl, sym, ◌∙◌, ap, subst, min, append_assoc, append-nil}
use Rattle.std.specs.Prelude.{take}
use Rattle.std.specs.List.{concat}
use Rattle.std.proofs.lemmas.List.{take_min}
use Rattle.std.proofs.lemmas.List.Folds.{concat-append}
use Rattle.std.proofs.lemmas.List.Elements.{All-push}
use Rattle.std.proofs.Math.Nat.{min_comm}
use Rattle.desk_text.specs.declared.limits.TheConstants.{LONGEST_TEXT}
use Rattle.desk_book.specs.Lines.{script_lines, said_by, is_skipped, has_body, is_stop}
use Rattle.desk_book.specs.Script.{Item, bad_line, Asking, ended, skipped, bodiless, posted, cut, Means, Script, HasNoStop, BeginsWith, posted_text}
use Rattle.desk_book.specs.Items.{BeginsWithBody}

none_left : {lines : List (List ℕ)} {items : List Item} → Asking lines items → lines ≡ [] → items ≡ []
none_left ended e = refl
none_left (skipped s h) e = cc
none_left (bodiless s b m h) e = cc
none_left (posted body stop b o s m h) e = cc
none_left (cut b o) e = cc

pub bodiless_begins : (line after said : List ℕ) (item : Item) → said ≡ said_by line → is_skipped (said_by line) ≡ false → has_body said ≡ false → Means said None item
    → BeginsWith (line ∷ script_lines after) item after
bodiless_begins line after said item is some no_body means = record {
  then = λ items h. bodiless some (ap has_body (sym is) ∙ no_body) (subst (λ x. Means x None item) is means) h;
}

first_bytes : (n : ℕ) (text : List ℕ) → take (min (length text) n) text ≡ take n text
first_bytes n text = rw (min_comm (length text) n) (take_min n text)

pub posted_begins : (line after said text rest : List ℕ) (item : Item) → said ≡ said_by line → has_body said ≡ true → BeginsWithBody (script_lines after) text rest
    → Means said (Some (take (min (length text) (LONGEST_TEXT + 1)) text)) item → BeginsWith (line ∷ script_lines after) item rest
posted_begins line after said text rest item is body begins means = record {
  then = λ items h.
      let counted : take (min (length text) (LONGEST_TEXT + 1)) text ≡ posted_text begins.body = first_bytes (LONGEST_TEXT + 1) text ∙ ap (take (LONGEST_TEXT + 1)) begins.is in
      let same : has_body (said_by line) ≡ true = ap has_body (sym is) ∙ body in
      let asked : Means (said_by line) (Some (posted_text begins.body)) item = subst (λ x. Means x (Some (posted_text begins.body)) item) is (subst (λ x. Means said (Some x) item) counted means) in
      rw begins.split (posted {line = line} begins.body begins.stop same begins.inside begins.stops asked h);
}

pub cut_begins : (line after said : List ℕ) → said ≡ said_by line → has_body said ≡ true → HasNoStop (script_lines after) → BeginsWith (line ∷ script_lines after) bad_line []
cut_begins line after said is body inside = record {
  then = λ items h.
      let same : has_body (said_by line) ≡ true = ap has_body (sym is) ∙ body in
      rw (none_left h refl) (cut {line = line} same inside);
}

-- the lines of a text as far as the rest: none of them ends a body
pub record IsReadTo (text rest : List ℕ) : Type 0 where
  pub before : List (List ℕ)
  pub split : script_lines text ≡ before ++ script_lines rest
  pub bytes : text ≡ concat before ++ rest
  pub inside : HasNoStop before

pub line_more : (text rest line after : List ℕ) → IsReadTo text rest → script_lines rest ≡ line ∷ script_lines after → rest ≡ line ++ after → is_stop line ≡ false → IsReadTo text after
line_more text rest line after read first split open_line = record {
  before = read.before ++ line ∷ [];
  split = read.split ∙ ap (λ x. read.before ++ x) first ∙ sym (append_assoc read.before (line ∷ []) (script_lines after));
  bytes =
      let joined : concat (read.before ++ line ∷ []) ++ after ≡ concat read.before ++ (line ++ after) = simp (concat-append, append-nil, append_assoc) in
      read.bytes ∙ ap (λ x. concat read.before ++ x) split ∙ sym joined;
  inside = All-push (λ l. is_stop l ≡ false) read.before line read.inside open_line;
}

-- what the rest of a script asks, all of it asks
pub record IsSkippedTo (script rest : List ℕ) : Type 0 where
  pub asks : (items : List Item) → Script rest items → Script script items
  pub shorter : length rest ≤ length script

pub skip_more : (script rest line after : List ℕ) → IsSkippedTo script rest → script_lines rest ≡ line ∷ script_lines after → length after < length rest → is_skipped (said_by line) ≡ true → IsSkippedTo script after
skip_more script rest line after skips first shorter skip = record {
  asks = λ items h. skips.asks items (subst (λ x. Asking x items) (sym first) (skipped {line = line} skip h));
  shorter = omega (arith, skips.shorter);
}
