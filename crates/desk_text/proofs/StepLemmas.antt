-- The reader's steps, over plain lists.
use Rattle.std.proofs.Common.{◌≡◌, ◌≢◌, ℕ, ◌+◌, ◌-◌, suc, zero, get_or, set, arith, Bool, true, false, cond, ◌&&◌, eqb, codes, nat_lt, List, [], ◌∷◌, ◌++◌, length, map, reverse, Option, Some, None, Result, Ok, Err, refl, sym, ap, ◌∙◌, append_assoc, append-nil}
use Rattle.std.specs.Str.{bytes_eq}
use Rattle.desk_text.specs.declared.limits.TheConstants.{DEEPEST}
use Rattle.desk_text.specs.declared.fields.Field.{Field}
use Rattle.desk_text.specs.declared.faults.TextFault.{TextFault}
use Rattle.desk_text.specs.declared.faults.TextFault.TheVariants.{BadLine, BadNesting}
use Rattle.desk_text.specs.Lines.{lines_of}
use Rattle.desk_text.specs.BlockGrammar.{is_name, is_tag, is_first, is_further}
use Rattle.desk_text.specs.Fields.{Found}
use Rattle.desk_text.specs.Reading.{Rest, nothing, with_field, with_value, read_after, read_from, extend_last, after_found}
use Rattle.desk_text.specs.Signs.{Sign, opens, closes, starts, further, ends, strange, sign_of, sign_of_tag, sign_of_split, split_tag}
use Rattle.desk_text.specs.Seen.{found_of}
use Rattle.desk_text.proofs.LinesLemmas.{some_line}

-- the last field's value

pub extend_last-nil : (found : List Found) → extend_last found [] ≡ found
extend_last-nil [] = refl
extend_last-nil (x ∷ []) = ap (λ (v : List (List ℕ)). record x { values = v } ∷ []) (append-nil x.values)
extend_last-nil (x ∷ y ∷ found) = ap (λ z. x ∷ z) (extend_last-nil (y ∷ found))

pub extend_last-push : (found : List Found) (x : Found) (values : List (List ℕ)) → extend_last (found ++ x ∷ []) values ≡ found ++ record x { values = x.values ++ values } ∷ []
extend_last-push [] x values = refl
extend_last-push (y ∷ []) x values = refl
extend_last-push (y ∷ z ∷ found) x values = ap (λ w. y ∷ w) (extend_last-push (z ∷ found) x values)

pub extend_last-twice : (found : List Found) (v w : List (List ℕ)) → extend_last (extend_last found v) w ≡ extend_last found (v ++ w)
extend_last-twice [] v w = refl
extend_last-twice (x ∷ []) v w = ap (λ (z : List (List ℕ)). record x { values = z } ∷ []) (append_assoc x.values v w)
extend_last-twice (x ∷ y ∷ []) v w = ap (λ z. x ∷ z) (extend_last-twice (y ∷ []) v w)
extend_last-twice (x ∷ y ∷ z ∷ found) v w = ap (λ u. x ∷ u) (extend_last-twice (y ∷ z ∷ found) v w)

-- one more line

pub field_more : (found : List Found) (x : Found) (r : Result Rest TextFault) → after_found found (with_field x r) ≡ after_found (found ++ x ∷ []) r
field_more found x (Ok rest) =
    let x' : Found = record x { values = x.values ++ rest.values } in
    ap (λ (z : List Found). Ok (record { values = []; fields = z })) (
    ap (λ z. z ++ x' ∷ rest.fields) (extend_last-nil found) ∙ sym (append_assoc found (x' ∷ []) rest.fields) ∙ ap (λ z. z ++ rest.fields) (sym (extend_last-push found x rest.values))
    )
field_more found x (Err fault) = refl

pub value_more : (found : List Found) (line : List ℕ) (r : Result Rest TextFault) → after_found found (with_value line r) ≡ after_found (extend_last found (line ∷ [])) r
value_more found line (Ok rest) = ap (λ (z : List Found). Ok (record { values = []; fields = z ++ rest.fields })) (sym (extend_last-twice found (line ∷ []) rest.values))
value_more found line (Err fault) = refl

pub further_more : (found : List Found) (line : List ℕ) (goes_on : Bool) (signs : List Sign) (within : List (List ℕ)) (k : ℕ) → goes_on ≡ true → after_found found (read_from (further line ∷ signs) within goes_on k) ≡ after_found (extend_last found (line ∷ [])) (read_from signs within goes_on (k + 1))
further_more found line true signs within k e = value_more found line (read_from signs within true (k + 1))
further_more found line false signs within k e = absurd (let h = e in cc)

-- the last field with one value line more
pub extended : (old : List Field) (n : ℕ) (x x' : Field) (line : List ℕ) → n ≡ length old - 1 → x ≡ get_or old n x → found_of x' ≡ record (found_of x) { values = (found_of x).values ++ line ∷ [] }
    → map found_of (set old n x') ≡ extend_last (map found_of old) (line ∷ [])
extended [] n x x' line last is same = refl
extended (y ∷ []) zero x x' line last is same =
    ap (λ f. f ∷ []) (same ∙ ap (λ z. record (found_of z) { values = (found_of z).values ++ line ∷ [] }) is)
extended (y ∷ []) (suc n) x x' line last is same = absurd (omega arith)
extended (y ∷ z ∷ old) zero x x' line last is same = absurd (omega arith)
extended (y ∷ z ∷ old) (suc n) x x' line last is same = ap (λ rest. found_of y ∷ rest) (extended (z ∷ old) n x x' line (omega arith) is same)

-- Where no value goes on, reading begins with no value lines.

pub read_after-values : (signs : List Sign) (k : ℕ) → read_after signs k ≡ after_found [] (read_after signs k)
read_after-values [] k = refl
read_after-values (further [] ∷ signs) k = read_after-values signs (k + 1)
read_after-values (further (c ∷ line) ∷ signs) k = refl
read_after-values (opens name ∷ signs) k = refl
read_after-values (closes name ∷ signs) k = refl
read_after-values (starts tag first ∷ signs) k = refl
read_after-values (ends ∷ signs) k = refl
read_after-values (strange ∷ signs) k = refl

-- at either side of a test
either : (P : Result Rest TextFault → Type 0) (b : Bool) (x y : Result Rest TextFault) → P x → P y → P (cond b x y)
either P true x y p q = p
either P false x y p q = q

with_field-values : (x : Found) (r : Result Rest TextFault) → with_field x r ≡ after_found [] (with_field x r)
with_field-values x (Ok rest) = refl
with_field-values x (Err fault) = refl

pub read_from-values : (signs : List Sign) (within : List (List ℕ)) (k : ℕ) → read_from signs within false k ≡ after_found [] (read_from signs within false k)
read_from-values [] within k = refl
read_from-values (opens name ∷ signs) within k =
    either (λ r. r ≡ after_found [] r) (nat_lt (length within) DEEPEST) (read_from signs (name ∷ within) false (k + 1)) (Err (BadNesting k)) (read_from-values signs (name ∷ within) (k + 1)) refl
read_from-values (closes name ∷ signs) [] k = refl
read_from-values (closes name ∷ signs) (top ∷ within) k =
    either (λ r. r ≡ after_found [] r) (bytes_eq top name) (read_from signs within false (k + 1)) (Err (BadNesting k)) (read_from-values signs within (k + 1)) refl
read_from-values (starts tag first ∷ signs) within k = with_field-values (record { path = reverse within; tag = tag; values = first ∷ []; line = k }) (read_from signs within true (k + 1))
read_from-values (further line ∷ signs) within k = refl
read_from-values (ends ∷ signs) [] k = read_after-values signs (k + 1)
read_from-values (ends ∷ signs) (top ∷ within) k = refl
read_from-values (strange ∷ signs) within k = refl

-- A line that isn't empty is a fault after `-}`.

either_sign : (P : Sign → Type 0) (b : Bool) (x y : Sign) → P x → P y → P (cond b x y)
either_sign P true x y p q = p
either_sign P false x y p q = q

pub record IsBadAfter (sign : Sign) : Type 0 where
  pub at : (signs : List Sign) (k : ℕ) → read_after (sign ∷ signs) k ≡ Err (BadLine k)

strange-bad_after : IsBadAfter strange
strange-bad_after = record { at = λ signs k. refl }

tag-bad_after : (tag value : List ℕ) → IsBadAfter (sign_of_tag tag value)
tag-bad_after tag value =
    let plain : IsBadAfter (cond (is_tag tag && is_first value) (starts tag value) strange) = either_sign IsBadAfter (is_tag tag && is_first value) (starts tag value) strange (record { at = λ signs k. refl }) strange-bad_after in
    let close : IsBadAfter (cond (is_name value) (closes value) strange) = either_sign IsBadAfter (is_name value) (closes value) strange (record { at = λ signs k. refl }) strange-bad_after in
    let start : IsBadAfter (cond (is_name value) (opens value) strange) = either_sign IsBadAfter (is_name value) (opens value) strange (record { at = λ signs k. refl }) strange-bad_after in
    let others = either_sign IsBadAfter (bytes_eq tag (codes "16S")) (cond (is_name value) (closes value) strange) (cond (is_tag tag && is_first value) (starts tag value) strange) close plain in
    either_sign IsBadAfter (bytes_eq tag (codes "16R")) (cond (is_name value) (opens value) strange) (cond (bytes_eq tag (codes "16S")) (cond (is_name value) (closes value) strange) (cond (is_tag tag && is_first value) (starts tag value) strange)) start others

split-bad_after : (parts : Option (List ℕ × List ℕ)) → IsBadAfter (sign_of_split parts)
split-bad_after None = strange-bad_after
split-bad_after (Some (tag, value)) = tag-bad_after tag value

line-bad_after : (c : ℕ) (line : List ℕ) → IsBadAfter (sign_of (c ∷ line))
line-bad_after c line =
    let plain : IsBadAfter (cond (is_further (c ∷ line)) (further (c ∷ line)) strange) = either_sign IsBadAfter (is_further (c ∷ line)) (further (c ∷ line)) strange (record { at = λ signs k. refl }) strange-bad_after in
    let others : IsBadAfter (cond (bytes_eq (c ∷ line) (codes "-}")) ends (cond (is_further (c ∷ line)) (further (c ∷ line)) strange)) =
    either_sign IsBadAfter (bytes_eq (c ∷ line) (codes "-}")) ends (cond (is_further (c ∷ line)) (further (c ∷ line)) strange) (record { at = λ signs k. refl }) plain in
    either_sign IsBadAfter (eqb c 58) (sign_of_split (split_tag line)) (cond (bytes_eq (c ∷ line) (codes "-}")) ends (cond (is_further (c ∷ line)) (further (c ∷ line)) strange)) (split-bad_after (split_tag line)) others

-- of lines, the first of which isn't empty
lines_stop : (lines : List (List ℕ)) (k : ℕ) → lines ≢ [] → ((rest : List (List ℕ)) → lines ≢ [] ∷ rest) → read_after (map sign_of lines) k ≡ Err (BadLine k)
lines_stop [] k some first = absurd (some refl)
lines_stop ([] ∷ lines) k some first = absurd (first lines refl)
lines_stop ((c ∷ line) ∷ lines) k some first = (line-bad_after c line).at (map sign_of lines) k

pub after_stops : (text : List ℕ) (k : ℕ) → eqb (length text) 0 ≡ false → ((rest : List (List ℕ)) → lines_of text ≢ [] ∷ rest) → read_after (map sign_of (lines_of text)) k ≡ Err (BadLine k)
after_stops [] k some first = absurd (let h = some in cc)
after_stops (c ∷ text) k some first = lines_stop (lines_of (c ∷ text)) k (some_line c text) first

-- The block ends: what was found is all.
pub read_ended : (all : Result Rest TextFault) (found found' : List Found) (text line after : List ℕ) (sign : Sign) (within : List (List ℕ)) (goes_on : Bool) (k : ℕ) →
    all ≡ after_found found (read_from (map sign_of (lines_of text)) within goes_on k) → lines_of text ≡ line ∷ lines_of after → sign ≡ sign_of line
    → ((rest : List Sign) → after_found found (read_from (sign ∷ rest) within goes_on k) ≡ after_found found' (read_after rest (k + 1)))
    → read_after (map sign_of (lines_of after)) (k + 1) ≡ Ok nothing → all ≡ Ok (record { values = []; fields = found' })
read_ended all found found' text line after sign within goes_on k same lines is step ended =
    same
    ∙ ap (λ z. after_found found (read_from (map sign_of z) within goes_on k)) lines
    ∙ ap (λ z. after_found found (read_from (z ∷ map sign_of (lines_of after)) within goes_on k)) (sym is)
    ∙ step (map sign_of (lines_of after))
    ∙ ap (after_found found') ended
    ∙ ap (λ (z : List Found). Ok (record { values = []; fields = z })) (append-nil (extend_last found' []) ∙ extend_last-nil found')
