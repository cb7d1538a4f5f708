-- The stack reads exactly the grammar: what is read is in it, and what is in it is read.
use Rattle.std.proofs.Common.{◌≡◌, ◌≢◌, ℕ, ◌+◌, ◌<◌, zero, suc, nat_lt, Bool, true, false, cond, ◌&&◌, List, [], ◌∷◌, ◌++◌, length, map, reverse, replicate, codes, Result, Ok, Err, refl, sym, ap, ◌∙◌, subst, arith, append_assoc, append-nil, length-append, ◌⊎◌, inl, inr}
use Rattle.std.proofs.lemmas.Bool.Decides.{nat_tests}
use Rattle.std.proofs.lemmas.Cmp.{nat_list_eq_equiv}
use Rattle.std.proofs.lemmas.List.{map-append}
use Rattle.std.specs.Prelude.{IsTrue}
use Rattle.std.specs.List.{list_all}
use Rattle.std.specs.Str.{bytes_eq}
use Rattle.desk_text.specs.declared.limits.TheConstants.{DEEPEST}
use Rattle.desk_text.specs.declared.faults.TextFault.{TextFault}
use Rattle.desk_text.specs.declared.faults.TextFault.TheVariants.{NotBlock, BadNesting}
use Rattle.desk_text.specs.BlockGrammar.{Items, none, field, sequence, lines_of_items, AreItems, IsTree, is_name, is_tag, is_first, is_further, opening, closing, field_line}
use Rattle.desk_text.specs.Fields.{Found, fields_from, fields_of}
use Rattle.desk_text.specs.Reading.{Rest, nothing, with_field, with_value, read_after, read_from, read_lines, after_found}
use Rattle.desk_text.specs.Signs.{Sign, opens, closes, starts, further, ends, strange, sign_of}
use Rattle.desk_text.proofs.SignLemmas.{both, same_bytes, line_of, IsRightSign, sign-sound, opening-sign, closing-sign, field-sign, further-sign}
use Rattle.desk_text.proofs.StepLemmas.{read_from-values}

-- which way a test went
pub chosen : {X : Type 0} (b : Bool) (x y z : X) → cond b x y ≡ z → ((b ≡ true) × (x ≡ z)) ⊎ ((b ≡ false) × (y ≡ z))
chosen true x y z e = inl (refl, e)
chosen false x y z e = inr (refl, e)

pub same_name : (name : List ℕ) → bytes_eq name name ≡ true
same_name name = nat_list_eq_equiv.refl name

-- the signs of items
abbrev pub signs_of : Items → List Sign
signs_of none = []
signs_of (field tag first more rest) = starts tag first ∷ (map further more ++ signs_of rest)
signs_of (sequence name inner rest) = opens name ∷ (signs_of inner ++ closes name ∷ signs_of rest)

abbrev pub AreRight : List Sign → Type 0
AreRight [] = Unit {0}
AreRight (sign ∷ signs) = IsRightSign sign × AreRight signs

-- What is read is in the grammar.

-- Within open names, from line k on: items, the closing of the innermost, and so on outwards, and the end.
abbrev pub Tail : List (List ℕ) → ℕ → List Sign → List Found → Type 0
Tail [] k signs found =
    (items : Items) × (n : ℕ) × (signs ≡ signs_of items ++ ends ∷ replicate n (further [])) × AreItems 0 items × (found ≡ fields_from [] k items)
Tail (name ∷ within) k signs found =
    (items : Items) × (rest : List Sign) × (more : List Found) × (j : ℕ) × (signs ≡ signs_of items ++ closes name ∷ rest) × AreItems (suc (length within)) items
    × (found ≡ fields_from (name ∷ within) k items ++ more) × (j ≡ k + length (lines_of_items items) + 1) × Tail within j rest more

Tail-field : (within : List (List ℕ)) (k : ℕ) (tag first : List ℕ) (more : List (List ℕ)) (signs : List Sign) (found : List Found) →
    IsTrue (is_tag tag) → IsTrue (is_first first) → IsTrue (list_all is_further more) → Tail within (k + 1 + length more) signs found
    → Tail within k (starts tag first ∷ (map further more ++ signs)) (record { path = reverse within; tag = tag; values = first ∷ more; line = k } ∷ found)
Tail-field [] k tag first more signs found t f m (items, n, es, right, ef) = (
  field tag first more items,
  n,
  ap (λ z. starts tag first ∷ (map further more ++ z)) es ∙ ap (λ z. starts tag first ∷ z) (sym (append_assoc (map further more) (signs_of items) (ends ∷ replicate n (further [])))),
  (t, f, m, right),
  ap (λ z. record { path = reverse []; tag = tag; values = first ∷ more; line = k } ∷ z) ef,
)
Tail-field (name ∷ within) k tag first more signs found t f m (items, rest, others, j, es, right, ef, ej, tail) = (
  field tag first more items,
  rest,
  others,
  j,
  ap (λ z. starts tag first ∷ (map further more ++ z)) es ∙ ap (λ z. starts tag first ∷ z) (sym (append_assoc (map further more) (signs_of items) (closes name ∷ rest))),
  (t, f, m, right),
  ap (λ z. record { path = reverse (name ∷ within); tag = tag; values = first ∷ more; line = k } ∷ z) ef,
  omega (arith, length-append more (lines_of_items items)),
  tail,
)

Tail-close : (within : List (List ℕ)) (k : ℕ) (name : List ℕ) (signs : List Sign) (found : List Found) → Tail within (k + 1) signs found → Tail (name ∷ within) k (closes name ∷ signs) found
Tail-close within k name signs found tail = (none, signs, found, k + 1, refl, tt, refl, omega arith, tail)

Tail-open : (within : List (List ℕ)) (k : ℕ) (name : List ℕ) (signs : List Sign) (found : List Found) → length within < DEEPEST → IsTrue (is_name name) → Tail (name ∷ within) (k + 1) signs found → Tail within k (opens name ∷ signs) found
Tail-open [] k name signs found room n (inner, rest, more, j, es, right, ef, ej, (items, m, es', right', ef')) = (
  sequence name inner items,
  m,
  ap (λ z. opens name ∷ z) es ∙ ap (λ z. opens name ∷ (signs_of inner ++ closes name ∷ z)) es' ∙ ap (λ z. opens name ∷ z) (sym (append_assoc (signs_of inner) (closes name ∷ signs_of items) (ends ∷ replicate m (further [])))),
  (room, n, right, right'),
  let at : j ≡ k + 2 + length (lines_of_items inner) = omega arith in
      ef ∙ ap (λ z. fields_from (name ∷ []) (k + 1) inner ++ z) (ef' ∙ ap (λ z. fields_from [] z items) at),
)
Tail-open (top ∷ within) k name signs found room n (inner, rest, more, j, es, right, ef, ej, (items, rest', more', j', es', right', ef', ej', tail)) = (
  sequence name inner items,
  rest',
  more',
  j',
  ap (λ z. opens name ∷ z) es ∙ ap (λ z. opens name ∷ (signs_of inner ++ closes name ∷ z)) es' ∙ ap (λ z. opens name ∷ z) (sym (append_assoc (signs_of inner) (closes name ∷ signs_of items) (closes top ∷ rest'))),
  (room, n, right, right'),
  let at : j ≡ k + 2 + length (lines_of_items inner) = omega arith in
      ef ∙ ap (λ z. fields_from (name ∷ top ∷ within) (k + 1) inner ++ z) (ef' ∙ ap (λ z. fields_from (top ∷ within) z items ++ more') at)
      ∙ sym (append_assoc (fields_from (name ∷ top ∷ within) (k + 1) inner) (fields_from (top ∷ within) (k + 2 + length (lines_of_items inner)) items) more'),
  omega (arith, length-append (lines_of_items inner) (closing name ∷ lines_of_items items)),
  tail,
)

-- What reading from line k gives: lines that go on a value, and then a tail.
pub record IsReading (within : List (List ℕ)) (goes_on : Bool) (k : ℕ) (signs : List Sign) (values : List (List ℕ)) (found : List Found) : Type 0 where
  pub body : List Sign
  pub split : signs ≡ map further values ++ body
  pub right : IsTrue (list_all is_further values)
  pub fresh : goes_on ≡ false → values ≡ []
  pub at : ℕ
  pub at_is : at ≡ k + length values
  pub tail : Tail within at body found

with_none : (within : List (List ℕ)) (goes_on : Bool) (k : ℕ) (signs : List Sign) (values : List (List ℕ)) (found : List Found) → values ≡ [] → Tail within k signs found → IsReading within goes_on k signs values found
with_none within goes_on k signs [] found e tail =
    record { body = signs; split = refl; right = refl; fresh = λ _. refl; at = k; at_is = omega arith; tail = tail }
with_none within goes_on k signs (value ∷ values) found e tail = absurd (let h = e in cc)

fresh_tail : (within : List (List ℕ)) (k : ℕ) (signs : List Sign) (values : List (List ℕ)) (found : List Found) → IsReading within false k signs values found → Tail within k signs found
fresh_tail within k signs [] found r =
    let here : r.at ≡ k = let e = r.at_is in omega arith in
    let P : ℕ → Type 0 = λ z. Tail within z signs found in
    let Q : List Sign → Type 0 = λ z. Tail within r.at z found in
    subst P here (subst Q (sym r.split) r.tail)
fresh_tail within k signs (value ∷ values) found r = absurd (let h = r.fresh refl in cc)

-- after the end only line ends
pub record IsBlank (signs : List Sign) (rest : Rest) : Type 0 where
  pub n : ℕ
  pub are : signs ≡ replicate n (further [])
  pub gives : rest ≡ nothing

pub after-ok : (signs : List Sign) (k : ℕ) (rest : Rest) → read_after signs k ≡ Ok rest → IsBlank signs rest
after-ok [] k rest e = record { n = 0; are = refl; gives = let h = e in cc }
after-ok (further [] ∷ signs) k rest e =
    let b = after-ok signs (k + 1) rest e in
    record { n = suc b.n; are = ap (λ z. further [] ∷ z) b.are; gives = b.gives }
after-ok (further (c ∷ line) ∷ signs) k rest e = absurd (let h = e in cc)
after-ok (opens name ∷ signs) k rest e = absurd (let h = e in cc)
after-ok (closes name ∷ signs) k rest e = absurd (let h = e in cc)
after-ok (starts tag first ∷ signs) k rest e = absurd (let h = e in cc)
after-ok (ends ∷ signs) k rest e = absurd (let h = e in cc)
after-ok (strange ∷ signs) k rest e = absurd (let h = e in cc)

-- what a reading with something in front comes from
pub record IsFront (r : Result Rest TextFault) (values : List (List ℕ)) (fields : List Found) (rest : Rest) : Type 0 where
  pub before : Rest
  pub is : r ≡ Ok before
  pub values_are : rest.values ≡ values ++ before.values
  pub fields_are : rest.fields ≡ fields ++ before.fields

pub with_value-ok : (line : List ℕ) (r : Result Rest TextFault) (rest : Rest) → with_value line r ≡ Ok rest → IsFront r (line ∷ []) [] rest
with_value-ok line (Ok before) rest e =
    let same : record before { values = line ∷ before.values } ≡ rest = cc in
    record { before = before; is = refl; values_are = sym (ap (λ (z : Rest). z.values) same); fields_are = sym (ap (λ (z : Rest). z.fields) same) }
with_value-ok line (Err fault) rest e = absurd (let h = e in cc)

-- a field in front of a reading
pub record IsField (x : Found) (r : Result Rest TextFault) (rest : Rest) : Type 0 where
  pub before : Rest
  pub is : r ≡ Ok before
  pub values_are : rest.values ≡ []
  pub fields_are : rest.fields ≡ record x { values = x.values ++ before.values } ∷ before.fields

pub with_field-ok : (x : Found) (r : Result Rest TextFault) (rest : Rest) → with_field x r ≡ Ok rest → IsField x r rest
with_field-ok x (Ok before) rest e =
    let after : Rest = record { values = []; fields = record x { values = x.values ++ before.values } ∷ before.fields } in
    let same : after ≡ rest = cc in
    record { before = before; is = refl; values_are = sym (ap (λ (z : Rest). z.values) same); fields_are = sym (ap (λ (z : Rest). z.fields) same) }
with_field-ok x (Err fault) rest e = absurd (let h = e in cc)

pub reading-ok : (signs : List Sign) (within : List (List ℕ)) (goes_on : Bool) (k : ℕ) (rest : Rest) → AreRight signs → read_from signs within goes_on k ≡ Ok rest → IsReading within goes_on k signs rest.values rest.fields
reading-ok [] within goes_on k rest right e = absurd (let h = e in cc)
reading-ok (opens name ∷ signs) within goes_on k rest right e = elim (chosen (nat_lt (length within) DEEPEST) (read_from signs (name ∷ within) false (k + 1)) (Err (BadNesting k)) (Ok rest) e) [
  | inl (fits, r) ↦ let b = reading-ok signs (name ∷ within) false (k + 1) rest right.1 r in
      with_none within goes_on k (opens name ∷ signs) rest.values rest.fields (b.fresh refl)
      (Tail-open within k name signs rest.fields (grind (arith, nat_tests, fits)) right.0 (fresh_tail (name ∷ within) (k + 1) signs rest.values rest.fields b))
  | inr (_, r) ↦ absurd (let h = r in cc)
]
reading-ok (closes name ∷ signs) [] goes_on k rest right e = absurd (let h = e in cc)
reading-ok (closes name ∷ signs) (top ∷ within) goes_on k rest right e = elim (chosen (bytes_eq top name) (read_from signs within false (k + 1)) (Err (BadNesting k)) (Ok rest) e) [
  | inl (same, r) ↦ let b = reading-ok signs within false (k + 1) rest right.1 r in
      with_none (top ∷ within) goes_on k (closes name ∷ signs) rest.values rest.fields (b.fresh refl)
      (let P : List ℕ → Type 0 = λ z. Tail (top ∷ within) k (closes z ∷ signs) rest.fields in
      subst P (same_bytes top name same) (Tail-close within k top signs rest.fields (fresh_tail within (k + 1) signs rest.values rest.fields b)))
  | inr (_, r) ↦ absurd (let h = r in cc)
]
reading-ok (starts tag first ∷ signs) within goes_on k rest right e =
    let x : Found = record { path = reverse within; tag = tag; values = first ∷ []; line = k } in
    let f = with_field-ok x (read_from signs within true (k + 1)) rest e in
    let b = reading-ok signs within true (k + 1) f.before right.1 f.is in
    let P : ℕ → Type 0 = λ z. Tail within z b.body f.before.fields in
    let tail = Tail-field within k tag first f.before.values b.body f.before.fields right.0.0 right.0.1 b.right (subst P b.at_is b.tail) in
    let Q : List Found → Type 0 = λ z. Tail within k (starts tag first ∷ (map further f.before.values ++ b.body)) z in
    let R : List Sign → Type 0 = λ z. Tail within k (starts tag first ∷ z) rest.fields in
    with_none within goes_on k (starts tag first ∷ signs) rest.values rest.fields f.values_are (subst R (sym b.split) (subst Q (sym f.fields_are) tail))
reading-ok (further line ∷ signs) within true k rest right e =
    let f = with_value-ok line (read_from signs within true (k + 1)) rest e in
    let b = reading-ok signs within true (k + 1) f.before right.1 f.is in
    let P : List Found → Type 0 = λ z. Tail within b.at b.body z in
    record {
      body = b.body;
      split = ap (λ z. further line ∷ z) b.split ∙ ap (λ z. map further z ++ b.body) (sym f.values_are);
      right = ap (list_all is_further) f.values_are ∙ ap (λ z. z && list_all is_further f.before.values) right.0 ∙ b.right;
      fresh = λ no. absurd (let h = no in cc);
      at = b.at;
      at_is = let n = b.at_is in let m = ap length f.values_are in omega (arith, n, m);
      tail = subst P (sym f.fields_are) b.tail;
    }
reading-ok (further line ∷ signs) within false k rest right e = absurd (let h = e in cc)
reading-ok (ends ∷ signs) [] goes_on k rest right e =
    let b = after-ok signs (k + 1) rest e in
    with_none [] goes_on k (ends ∷ signs) rest.values rest.fields (ap (λ (z : Rest). z.values) b.gives)
    (none, b.n, ap (λ z. ends ∷ z) b.are, tt, ap (λ (z : Rest). z.fields) b.gives)
reading-ok (ends ∷ signs) (top ∷ within) goes_on k rest right e = absurd (let h = e in cc)
reading-ok (strange ∷ signs) within goes_on k rest right e = absurd (let h = e in cc)

-- What is in the grammar is read.

-- fields in front of what reading gives
abbrev pub with_fields : List Found → Result Rest TextFault → Result Rest TextFault
with_fields found (Ok rest) = Ok (record { values = []; fields = found ++ rest.fields })
with_fields found (Err fault) = Err fault

abbrev pub with_values : List (List ℕ) → Result Rest TextFault → Result Rest TextFault
with_values values (Ok rest) = Ok (record rest { values = values ++ rest.values })
with_values values (Err fault) = Err fault

-- signs that end items: a closing, or the end
pub data IsStop : List Sign → Type 0 where
  at_close : {name : List ℕ} {signs : List Sign} → IsStop (closes name ∷ signs)
  at_end : {signs : List Sign} → IsStop (ends ∷ signs)

values_none : (r : Result Rest TextFault) → r ≡ with_values [] r
values_none (Ok rest) = refl
values_none (Err fault) = refl

values_more : (line : List ℕ) (values : List (List ℕ)) (r : Result Rest TextFault) → with_value line (with_values values r) ≡ with_values (line ∷ values) r
values_more line values (Ok rest) = refl
values_more line values (Err fault) = refl

pub read-further : (more : List (List ℕ)) (signs : List Sign) (within : List (List ℕ)) (k j : ℕ) → j ≡ k + length more → read_from (map further more ++ signs) within true k ≡ with_values more (read_from signs within true j)
read-further [] signs within k j e =
    let here : k ≡ j = omega arith in
    ap (λ z. read_from signs within true z) here ∙ values_none (read_from signs within true j)
read-further (line ∷ more) signs within k j e =
    let later = read-further more signs within (k + 1) j (omega arith) in
    ap (with_value line) later ∙ values_more line more (read_from signs within true j)

none-found : (r : Result Rest TextFault) → after_found [] r ≡ with_fields [] r
none-found (Ok rest) = refl
none-found (Err fault) = refl

both-found : (xs ys : List Found) (r : Result Rest TextFault) → with_fields xs (with_fields ys r) ≡ with_fields (xs ++ ys) r
both-found xs ys (Ok rest) = ap (λ (z : List Found). Ok (record { values = []; fields = z })) (sym (append_assoc xs ys rest.fields))
both-found xs ys (Err fault) = refl

read-stop : (rest : List Sign) → IsStop rest → (within : List (List ℕ)) (goes_on : Bool) (k : ℕ) → read_from rest within goes_on k ≡ with_fields [] (read_from rest within false k)
read-stop (closes name ∷ signs) at_close [] goes_on k = refl
read-stop (closes name ∷ signs) at_close (top ∷ within) goes_on k =
    read_from-values (closes name ∷ signs) (top ∷ within) k ∙ none-found (read_from (closes name ∷ signs) (top ∷ within) false k)
read-stop (ends ∷ signs) at_end [] goes_on k = read_from-values (ends ∷ signs) [] k ∙ none-found (read_from (ends ∷ signs) [] false k)
read-stop (ends ∷ signs) at_end (top ∷ within) goes_on k = refl
read-stop [] stop within goes_on k = elim stop [ ]
read-stop (opens name ∷ signs) stop within goes_on k = elim stop [ ]
read-stop (starts tag first ∷ signs) stop within goes_on k = elim stop [ ]
read-stop (further line ∷ signs) stop within goes_on k = elim stop [ ]
read-stop (strange ∷ signs) stop within goes_on k = elim stop [ ]

field_found : (path : List (List ℕ)) (tag first : List ℕ) (k : ℕ) (more : List (List ℕ)) (found : List Found) (r : Result Rest TextFault) →
    with_field (record { path = path; tag = tag; values = first ∷ []; line = k }) (with_values more (with_fields found r)) ≡ with_fields (record { path = path; tag = tag; values = first ∷ more; line = k } ∷ found) r
field_found path tag first k more found (Ok rest) =
    ap (λ (z : List (List ℕ)). Ok (record { values = []; fields = record { path = path; tag = tag; values = first ∷ z; line = k } ∷ (found ++ rest.fields) })) (append-nil more)
field_found path tag first k more found (Err fault) = refl

pub read-items : (items : Items) (within : List (List ℕ)) (goes_on : Bool) (k j : ℕ) (rest : List Sign) → AreItems (length within) items → IsStop rest → j ≡ k + length (lines_of_items items)
    → read_from (signs_of items ++ rest) within goes_on k ≡ with_fields (fields_from within k items) (read_from rest within false j)
read-items none within goes_on k j rest right stop e =
    let here : k ≡ j = omega arith in
    read-stop rest stop within goes_on k ∙ ap (λ z. with_fields [] (read_from rest within false z)) here
read-items (field tag first more items) within goes_on k j rest right stop e =
    let later = read-items items within true (k + 1 + length more) j rest right.3 stop (omega (arith, e, length-append more (lines_of_items items))) in
    let x : Found = record { path = reverse within; tag = tag; values = first ∷ []; line = k } in
    ap (λ z. with_field x (read_from z within true (k + 1))) (append_assoc (map further more) (signs_of items) rest)
    ∙ ap (with_field x) (read-further more (signs_of items ++ rest) within (k + 1) (k + 1 + length more) refl ∙ ap (with_values more) later)
    ∙ field_found (reverse within) tag first k more (fields_from within (k + 1 + length more) items) (read_from rest within false j)
read-items (sequence name inner items) within goes_on k j rest right stop e =
    let fits : nat_lt (length within) DEEPEST ≡ true = let room = right.0 in grind (arith, nat_tests) in
    let m = k + 1 + length (lines_of_items inner) in
    let inside = read-items inner (name ∷ within) false (k + 1) m (closes name ∷ (signs_of items ++ rest)) right.2 at_close refl in
    let at : m + 1 ≡ k + 2 + length (lines_of_items inner) = omega arith in
    let after = read-items items within false (k + 2 + length (lines_of_items inner)) j rest right.3 stop (omega (arith, e, length-append (lines_of_items inner) (closing name ∷ lines_of_items items))) in
    ap (λ b. cond b (read_from ((signs_of inner ++ closes name ∷ signs_of items) ++ rest) (name ∷ within) false (k + 1)) (Err (BadNesting k))) fits
    ∙ ap (λ z. read_from z (name ∷ within) false (k + 1)) (append_assoc (signs_of inner) (closes name ∷ signs_of items) rest)
    ∙ inside
    ∙ ap (λ b. with_fields (fields_from (name ∷ within) (k + 1) inner) (cond b (read_from (signs_of items ++ rest) within false (m + 1)) (Err (BadNesting m)))) (same_name name)
    ∙ ap (λ z. with_fields (fields_from (name ∷ within) (k + 1) inner) (read_from (signs_of items ++ rest) within false z)) at
    ∙ ap (with_fields (fields_from (name ∷ within) (k + 1) inner)) after
    ∙ both-found (fields_from (name ∷ within) (k + 1) inner) (fields_from within (k + 2 + length (lines_of_items inner)) items) (read_from rest within false j)

-- Lines and signs.

pub right-signs : (lines : List (List ℕ)) → AreRight (map sign_of lines)
right-signs [] = tt
right-signs (line ∷ lines) = ((sign-sound line).right, right-signs lines)

pub further-signs : (more : List (List ℕ)) → IsTrue (list_all is_further more) → map sign_of more ≡ map further more
further-signs [] e = refl
further-signs (line ∷ more) e =
    let parts = both (is_further line) (list_all is_further more) e in
    ap (λ z. z ∷ map sign_of more) (further-sign line parts.0) ∙ ap (λ z. further line ∷ z) (further-signs more parts.1)

pub items-signs : (items : Items) (depth : ℕ) → AreItems depth items → map sign_of (lines_of_items items) ≡ signs_of items
items-signs none depth right = refl
items-signs (field tag first more items) depth right =
    ap (λ z. z ∷ map sign_of (more ++ lines_of_items items)) (field-sign tag first right.0 right.1)
    ∙ ap (λ z. starts tag first ∷ z) (map-append sign_of more (lines_of_items items))
    ∙ ap (λ z. starts tag first ∷ (z ++ map sign_of (lines_of_items items))) (further-signs more right.2)
    ∙ ap (λ z. starts tag first ∷ (map further more ++ z)) (items-signs items depth right.3)
items-signs (sequence name inner items) depth right =
    ap (λ z. z ∷ map sign_of (lines_of_items inner ++ closing name ∷ lines_of_items items)) (opening-sign name right.1)
    ∙ ap (λ z. opens name ∷ z) (map-append sign_of (lines_of_items inner) (closing name ∷ lines_of_items items))
    ∙ ap (λ z. opens name ∷ (z ++ sign_of (closing name) ∷ map sign_of (lines_of_items items))) (items-signs inner (suc depth) right.2)
    ∙ ap (λ z. opens name ∷ (signs_of inner ++ z ∷ map sign_of (lines_of_items items))) (closing-sign name right.1)
    ∙ ap (λ z. opens name ∷ (signs_of inner ++ closes name ∷ z)) (items-signs items depth right.3)

pub blank-signs : (n : ℕ) → map sign_of (replicate n []) ≡ replicate n (further [])
blank-signs zero = refl
blank-signs (suc n) = ap (λ z. further [] ∷ z) (blank-signs n)

read-blanks : (n k : ℕ) → read_after (replicate n (further [])) k ≡ Ok nothing
read-blanks zero k = refl
read-blanks (suc n) k = read-blanks n (k + 1)

-- a block is read
pub read-tree : (lines : List (List ℕ)) (items : Items) → IsTree lines items → read_lines lines ≡ Ok (record { values = []; fields = fields_of items })
read-tree lines items tree =
    let body = lines_of_items items in
    let end = codes "-}" ∷ replicate tree.blanks [] in
    let j = 2 + length body in
    ap read_lines tree.are
    ∙ ap (λ z. read_from z [] false 2) (map-append sign_of body end ∙ ap (λ z. z ++ ends ∷ map sign_of (replicate tree.blanks [])) (items-signs items 0 tree.right) ∙ ap (λ z. signs_of items ++ ends ∷ z) (blank-signs tree.blanks))
    ∙ read-items items [] false 2 j (ends ∷ replicate tree.blanks (further [])) tree.right at_end refl
    ∙ ap (with_fields (fields_of items)) (read-blanks tree.blanks (j + 1))
    ∙ ap (λ (z : List Found). Ok (record { values = []; fields = z })) (append-nil (fields_of items))

-- Lines that are read are a block.

-- no sign is strange
abbrev pub AreKnown : List Sign → Type 0
AreKnown [] = Unit {0}
AreKnown (sign ∷ signs) = (sign ≢ strange) × AreKnown signs

known-lines : (lines : List (List ℕ)) → AreKnown (map sign_of lines) → lines ≡ map line_of (map sign_of lines)
known-lines [] known = refl
known-lines (line ∷ lines) known =
    ap (λ z. z ∷ lines) ((sign-sound line).is known.0) ∙ ap (λ z. line_of (sign_of line) ∷ z) (known-lines lines known.1)

known-append : (a b : List Sign) → AreKnown a → AreKnown b → AreKnown (a ++ b)
known-append [] b x y = y
known-append (sign ∷ a) b x y = (x.0, known-append a b x.1 y)

known-further : (more : List (List ℕ)) → AreKnown (map further more)
known-further [] = tt
known-further (line ∷ more) = (λ e. let h = e in cc, known-further more)

known-blanks : (n : ℕ) → AreKnown (replicate n (further []))
known-blanks zero = tt
known-blanks (suc n) = (λ e. let h = e in cc, known-blanks n)

known-items : (items : Items) → AreKnown (signs_of items)
known-items none = tt
known-items (field tag first more items) = (λ e. let h = e in cc, known-append (map further more) (signs_of items) (known-further more) (known-items items))
known-items (sequence name inner items) =
    (λ e. let h = e in cc, known-append (signs_of inner) (closes name ∷ signs_of items) (known-items inner) (λ e. let h = e in cc, known-items items))

lines-further : (more : List (List ℕ)) → map line_of (map further more) ≡ more
lines-further [] = refl
lines-further (line ∷ more) = ap (λ z. line ∷ z) (lines-further more)

lines-blanks : (n : ℕ) → map line_of (replicate n (further [])) ≡ replicate n []
lines-blanks zero = refl
lines-blanks (suc n) = ap (λ z. [] ∷ z) (lines-blanks n)

lines-items : (items : Items) → map line_of (signs_of items) ≡ lines_of_items items
lines-items none = refl
lines-items (field tag first more items) =
    ap (λ z. field_line tag first ∷ z) (map-append line_of (map further more) (signs_of items))
    ∙ ap (λ z. field_line tag first ∷ (z ++ map line_of (signs_of items))) (lines-further more)
    ∙ ap (λ z. field_line tag first ∷ (more ++ z)) (lines-items items)
lines-items (sequence name inner items) =
    ap (λ z. opening name ∷ z) (map-append line_of (signs_of inner) (closes name ∷ signs_of items))
    ∙ ap (λ z. opening name ∷ (z ++ closing name ∷ map line_of (signs_of items))) (lines-items inner)
    ∙ ap (λ z. opening name ∷ (lines_of_items inner ++ closing name ∷ z)) (lines-items items)

-- a block with these fields
pub record IsBlockOf (lines : List (List ℕ)) (found : List Found) : Type 0 where
  pub items : Items
  pub tree : IsTree lines items
  pub fields : found ≡ fields_of items

tail-block : (lines : List (List ℕ)) (found : List Found) → Tail [] 2 (map sign_of lines) found → IsBlockOf (codes "{4:" ∷ lines) found
tail-block lines found (items, n, es, right, ef) =
    let end = ends ∷ replicate n (further []) in
    let known : AreKnown (signs_of items ++ end) = known-append (signs_of items) end (known-items items) (λ e. let h = e in cc, known-blanks n) in
    let are : lines ≡ map line_of (map sign_of lines) = known-lines lines (subst AreKnown (sym es) known) in
    record {
      items = items;
      tree = record {
        blanks = n;
        are = ap (λ z. codes "{4:" ∷ z) (
            are ∙ ap (map line_of) es ∙ map-append line_of (signs_of items) end
            ∙ ap (λ z. z ++ codes "-}" ∷ map line_of (replicate n (further []))) (lines-items items)
            ∙ ap (λ z. lines_of_items items ++ codes "-}" ∷ z) (lines-blanks n)
            );
        right = right;
      };
      fields = ef;
    }

pub block-read : (lines : List (List ℕ)) (rest : Rest) → read_lines lines ≡ Ok rest → IsBlockOf lines rest.fields
block-read [] rest e = absurd (let h = e in cc)
block-read (first ∷ lines) rest e = elim (chosen (bytes_eq first (codes "{4:")) (read_from (map sign_of lines) [] false 2) (Err NotBlock) (Ok rest) e) [
  | inl (same, r) ↦ let b = reading-ok (map sign_of lines) [] false 2 rest (right-signs lines) r in
      let P : List ℕ → Type 0 = λ z. IsBlockOf (z ∷ lines) rest.fields in
      subst P (sym (same_bytes first (codes "{4:") same)) (tail-block lines rest.fields (fresh_tail [] 2 (map sign_of lines) rest.values rest.fields b))
  | inr (_, r) ↦ absurd (let h = r in cc)
]
