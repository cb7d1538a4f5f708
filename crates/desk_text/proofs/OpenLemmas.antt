-- The names that are open after lines, and the lines that may follow.
use Rattle.std.proofs.Common.{◌≡◌, ◌≢◌, ℕ, ◌+◌, zero, suc, nat_lt, Bool, true, false, cond, List, [], ◌∷◌, ◌++◌, length, map, reverse, replicate, codes, Result, Ok, Err, refl, sym, ap, ◌∙◌, subst, arith, append_assoc, ◌⊎◌, inl, inr}
use Rattle.std.proofs.lemmas.Bool.Decides.{nat_tests}
use Rattle.std.proofs.lemmas.List.{map-append}
use Rattle.std.proofs.lemmas.List.Elements.{Contains-append_right}
use Rattle.std.specs.Prelude.{IsTrue, Contains}
use Rattle.std.specs.Str.{bytes_eq}
use Rattle.desk_text.specs.declared.limits.TheConstants.{DEEPEST}
use Rattle.desk_text.specs.declared.faults.TextFault.{TextFault}
use Rattle.desk_text.specs.declared.faults.TextFault.TheVariants.{NotBlock, BadNesting}
use Rattle.desk_text.specs.BlockGrammar.{is_name, is_further, closing}
use Rattle.desk_text.specs.Fields.{Found}
use Rattle.desk_text.specs.BlockFault.{Begins, AreOpen, IsRight, is_opening, is_closing, is_field, is_end}
use Rattle.desk_text.specs.Reading.{Rest, nothing, read_from, read_lines}
use Rattle.desk_text.specs.Signs.{Sign, opens, closes, starts, further, ends, strange, sign_of}
use Rattle.desk_text.proofs.SignLemmas.{same_bytes, IsSigned, sign-sound, opening-sign, closing-sign, field-sign}
use Rattle.desk_text.proofs.ReadingLemmas.{chosen, same_name, AreRight, right-signs, after-ok, with_field-ok, with_value-ok, read-tree, block-read}
use Rattle.desk_text.proofs.FaultLemmas.{AreNames, CanEnd, always_ends, NoEnd, HasEnd, IsStep, step-can, open_step, close_step, field_step, value_step}
use Rattle.desk_text.proofs.ExactLemmas.{begins-read, end_line}

-- Reading on from where some signs lead to.

-- reading these signs and more is reading more within other names, with something in front
pub record IsRun (front : List Sign) (within : List (List ℕ)) (goes_on : Bool) (k : ℕ) : Type 0 where
  pub names : List (List ℕ)
  pub may_go_on : Bool
  pub at : ℕ
  pub wrap : Result Rest TextFault → Result Rest TextFault
  pub ok : (rest : Rest) → (rest' : Rest) × (wrap (Ok rest) ≡ Ok rest')
  pub err : (fault : TextFault) → wrap (Err fault) ≡ Err fault
  pub reads : (more : List Sign) → read_from (front ++ more) within goes_on k ≡ wrap (read_from more names may_go_on at)
  pub right : AreNames names

no_run : (within : List (List ℕ)) (goes_on : Bool) (k : ℕ) → AreNames within → IsRun [] within goes_on k
no_run within goes_on k right = record {
  names = within;
  may_go_on = goes_on;
  at = k;
  wrap = λ r. r;
  ok = λ rest. (rest, refl);
  err = λ fault. refl;
  reads = λ more. refl;
  right = right;
}

more_run : (sign : Sign) (front : List Sign) (within : List (List ℕ)) (goes_on : Bool) (k : ℕ) (within' : List (List ℕ)) (goes_on' : Bool) → IsStep sign within goes_on k within' goes_on' → IsRun front within' goes_on' (k + 1) → IsRun (sign ∷ front) within goes_on k
more_run sign front within goes_on k within' goes_on' s r = record {
  names = r.names;
  may_go_on = r.may_go_on;
  at = r.at;
  wrap = λ z. s.wrap (r.wrap z);
  ok = λ rest. let o = r.ok rest in let p = s.ok o.0 in (p.0, ap s.wrap o.1 ∙ p.1);
  err = λ fault. ap s.wrap (r.err fault) ∙ s.err fault;
  reads = λ more. s.reads (front ++ more) ∙ ap s.wrap (r.reads more);
  right = r.right;
}

blank-no_end : (n : ℕ) (front more : List Sign) → front ++ more ≡ replicate n (further []) → HasEnd more → ⊥
blank-no_end zero [] [] e h = h
blank-no_end zero [] (sign ∷ more) e h = let x = e in cc
blank-no_end zero (sign ∷ front) more e h = let x = e in cc
blank-no_end (suc n) [] [] e h = h
blank-no_end (suc n) [] (sign ∷ more) e (inl is) = let x = e in cc
blank-no_end (suc n) [] (sign ∷ more) e (inr h) = blank-no_end n [] more (let x = e in cc) h
blank-no_end (suc n) (sign ∷ front) more e h = blank-no_end n front more (let x = e in cc) h

tail_end : (sign : Sign) (front more : List Sign) → (NoEnd (sign ∷ front) ⊎ HasEnd more) → NoEnd front ⊎ HasEnd more
tail_end sign front more (inl n) = inl n.1
tail_end sign front more (inr h) = inr h

run : (front more : List Sign) (within : List (List ℕ)) (goes_on : Bool) (k : ℕ) (rest : Rest) → (NoEnd front ⊎ HasEnd more) → AreRight front → AreNames within → read_from (front ++ more) within goes_on k ≡ Ok rest → IsRun front within goes_on k
run [] more within goes_on k rest end right names e = no_run within goes_on k names
run (opens name ∷ front) more within goes_on k rest end right names e = elim (chosen (nat_lt (length within) DEEPEST) (read_from (front ++ more) (name ∷ within) false (k + 1)) (Err (BadNesting k)) (Ok rest) e) [
  | inl (fits, r) ↦ more_run (opens name) front within goes_on k (name ∷ within) false (open_step name within goes_on k fits)
      (run front more (name ∷ within) false (k + 1) rest (tail_end (opens name) front more end) right.1 (right.0, names) r)
  | inr (_, r) ↦ absurd (let h = r in cc)
]
run (closes name ∷ front) more [] goes_on k rest end right names e = absurd (let h = e in cc)
run (closes name ∷ front) more (top ∷ within) goes_on k rest end right names e = elim (chosen (bytes_eq top name) (read_from (front ++ more) within false (k + 1)) (Err (BadNesting k)) (Ok rest) e) [
  | inl (same, r) ↦ more_run (closes name) front (top ∷ within) goes_on k within false (close_step name top within goes_on k same)
      (run front more within false (k + 1) rest (tail_end (closes name) front more end) right.1 names.1 r)
  | inr (_, r) ↦ absurd (let h = r in cc)
]
run (starts tag first ∷ front) more within goes_on k rest end right names e =
    let x : Found = record { path = reverse within; tag = tag; values = first ∷ []; line = k } in
    let f = with_field-ok x (read_from (front ++ more) within true (k + 1)) rest e in
    more_run (starts tag first) front within goes_on k within true (field_step tag first within goes_on k)
    (run front more within true (k + 1) f.before (tail_end (starts tag first) front more end) right.1 names f.is)
run (further line ∷ front) more within true k rest end right names e =
    let f = with_value-ok line (read_from (front ++ more) within true (k + 1)) rest e in
    more_run (further line) front within true k within true (value_step line within k)
    (run front more within true (k + 1) f.before (tail_end (further line) front more end) right.1 names f.is)
run (further line ∷ front) more within false k rest end right names e = absurd (let h = e in cc)
run (ends ∷ front) more [] goes_on k rest (inl n) right names e = absurd (n.0 refl)
run (ends ∷ front) more [] goes_on k rest (inr h) right names e =
    let b = after-ok (front ++ more) (k + 1) rest e in absurd (blank-no_end b.n front more b.are h)
run (ends ∷ front) more (top ∷ within) goes_on k rest end right names e = absurd (let h = e in cc)
run (strange ∷ front) more within goes_on k rest end right names e = absurd (let h = e in cc)

-- what was wrapped to an Ok was one
pub record WasOk (r : Result Rest TextFault) : Type 0 where
  pub before : Rest
  pub is : r ≡ Ok before

was_ok : (wrap : Result Rest TextFault → Result Rest TextFault) → ((fault : TextFault) → wrap (Err fault) ≡ Err fault) → (r : Result Rest TextFault) (rest : Rest) → wrap r ≡ Ok rest → WasOk r
was_ok wrap err (Ok before) rest e = record { before = before; is = refl }
was_ok wrap err (Err fault) rest e = absurd (let h = err fault in cc)

-- Closings of all names, and the end.

abbrev pub closers : List (List ℕ) → List (List ℕ)
closers names = map closing names ++ codes "-}" ∷ []

bool_cases : (b : Bool) → (b ≡ true) ⊎ (b ≡ false)
bool_cases true = inl refl
bool_cases false = inr refl

closing-strange : (name : List ℕ) → is_name name ≡ false → sign_of (closing name) ≡ strange
closing-strange name e = ap (λ b. cond b (closes name) strange) e

close-names : (names within : List (List ℕ)) (goes_on : Bool) (k : ℕ) (rest : Rest) → read_from (map sign_of (closers names)) within goes_on k ≡ Ok rest → names ≡ within
close-names [] [] goes_on k rest e = refl
close-names [] (top ∷ within) goes_on k rest e = absurd (let h = e in cc)
close-names (name ∷ names) [] goes_on k rest e = elim (bool_cases (is_name name)) [
  | inl right ↦ absurd (let h = sym (ap (λ s. read_from (s ∷ map sign_of (closers names)) [] goes_on k) (closing-sign name right)) ∙ e in cc)
  | inr wrong ↦ absurd (let h = sym (ap (λ s. read_from (s ∷ map sign_of (closers names)) [] goes_on k) (closing-strange name wrong)) ∙ e in cc)
]
close-names (name ∷ names) (top ∷ within) goes_on k rest e = elim (bool_cases (is_name name)) [
  | inl right ↦
      let read : cond (bytes_eq top name) (read_from (map sign_of (closers names)) within false (k + 1)) (Err (BadNesting k)) ≡ Ok rest =
      sym (ap (λ s. read_from (s ∷ map sign_of (closers names)) (top ∷ within) goes_on k) (closing-sign name right)) ∙ e in
      elim (chosen (bytes_eq top name) (read_from (map sign_of (closers names)) within false (k + 1)) (Err (BadNesting k)) (Ok rest) read) [
        | inl (same, r) ↦ ap (λ z. z ∷ names) (sym (same_bytes top name same)) ∙ ap (λ z. top ∷ z) (close-names names within false (k + 1) rest r)
        | inr (_, r) ↦ absurd (let h = r in cc)
      ]
  | inr wrong ↦ absurd (let h = sym (ap (λ s. read_from (s ∷ map sign_of (closers names)) (top ∷ within) goes_on k) (closing-strange name wrong)) ∙ e in cc)
]

names-close : (within : List (List ℕ)) → AreNames within → (goes_on : Bool) (k : ℕ) → read_from (map sign_of (closers within)) within goes_on k ≡ Ok nothing
names-close [] right goes_on k = refl
names-close (name ∷ within) right goes_on k =
    ap (λ s. read_from (s ∷ map sign_of (closers within)) (name ∷ within) goes_on k) (closing-sign name right.0)
    ∙ ap (λ b. cond b (read_from (map sign_of (closers within)) within false (k + 1)) (Err (BadNesting k))) (same_name name)
    ∙ names-close within right.1 false (k + 1)

closers-end : (names : List (List ℕ)) → HasEnd (map sign_of (closers names))
closers-end [] = inl refl
closers-end (name ∷ names) = inr (closers-end names)

-- Lines that begin a block and haven't ended it.
record IsBegun (lines : List (List ℕ)) : Type 0 where
  body : List (List ℕ)
  are : lines ≡ codes "{4:" ∷ body
  run : IsRun (map sign_of body) [] false 2

begun : (first : List ℕ) (body more : List (List ℕ)) (rest : Rest) → (NoEnd (map sign_of body) ⊎ HasEnd (map sign_of more)) → read_lines ((first ∷ body) ++ more) ≡ Ok rest → IsBegun (first ∷ body)
begun first body more rest end e = elim (chosen (bytes_eq first (codes "{4:")) (read_from (map sign_of (body ++ more)) [] false 2) (Err NotBlock) (Ok rest) e) [
  | inl (same, r) ↦ record {
    body = body;
    are = ap (λ z. z ∷ body) (same_bytes first (codes "{4:") same);
    run = run (map sign_of body) (map sign_of more) [] false 2 rest end (right-signs body) tt (ap (λ z. read_from z [] false 2) (sym (map-append sign_of body more)) ∙ r);
  }
  | inr (_, r) ↦ absurd (let h = r in cc)
]

-- reading a beginning and more
begun-reads : (lines more : List (List ℕ)) (b : IsBegun lines) → read_lines (lines ++ more) ≡ b.run.wrap (read_from (map sign_of more) b.run.names b.run.may_go_on b.run.at)
begun-reads lines more b =
    ap (λ z. read_lines (z ++ more)) b.are ∙ ap (λ z. read_from z [] false 2) (map-append sign_of b.body more) ∙ b.run.reads (map sign_of more)

open-begun : (lines names : List (List ℕ)) → AreOpen lines names → IsBegun lines
open-begun [] [] o = absurd (let h = read-tree ([] ++ closers []) o.items o.tree in cc)
open-begun [] (name ∷ names) o = absurd (let h = read-tree ([] ++ closers (name ∷ names)) o.items o.tree in cc)
open-begun (first ∷ body) names o = begun first body (closers names) _ (inr (closers-end names)) (read-tree ((first ∷ body) ++ closers names) o.items o.tree)

open-names : (lines names : List (List ℕ)) (b : IsBegun lines) → AreOpen lines names → names ≡ b.run.names
open-names lines names b o =
    let read = read-tree (lines ++ closers names) o.items o.tree in
    let w = was_ok b.run.wrap b.run.err (read_from (map sign_of (closers names)) b.run.names b.run.may_go_on b.run.at) _ (sym (begun-reads lines (closers names) b) ∙ read) in
    close-names names b.run.names b.run.may_go_on b.run.at w.before w.is

begun-open : (lines : List (List ℕ)) (b : IsBegun lines) → AreOpen lines b.run.names
begun-open lines b =
    let o = b.run.ok nothing in
    let read : read_lines (lines ++ closers b.run.names) ≡ Ok o.0 =
    begun-reads lines (closers b.run.names) b ∙ ap b.run.wrap (names-close b.run.names b.run.right b.run.may_go_on b.run.at) ∙ o.1 in
    let t = block-read (lines ++ closers b.run.names) o.0 read in
    record { items = t.items; tree = t.tree }

-- The names.

end_or_not : (signs : List Sign) → NoEnd signs ⊎ HasEnd signs
end_or_not [] = inl tt
end_or_not (ends ∷ signs) = inr (inl refl)
end_or_not (opens name ∷ signs) = elim (end_or_not signs) [ inl n ↦ inl (λ e. let h = e in cc, n) | inr h ↦ inr (inr h) ]
end_or_not (closes name ∷ signs) = elim (end_or_not signs) [ inl n ↦ inl (λ e. let h = e in cc, n) | inr h ↦ inr (inr h) ]
end_or_not (starts tag first ∷ signs) = elim (end_or_not signs) [ inl n ↦ inl (λ e. let h = e in cc, n) | inr h ↦ inr (inr h) ]
end_or_not (further line ∷ signs) = elim (end_or_not signs) [ inl n ↦ inl (λ e. let h = e in cc, n) | inr h ↦ inr (inr h) ]
end_or_not (strange ∷ signs) = elim (end_or_not signs) [ inl n ↦ inl (λ e. let h = e in cc, n) | inr h ↦ inr (inr h) ]

no_end : (first : List ℕ) (body : List (List ℕ)) → (Contains (first ∷ body) (codes "-}") → ⊥) → NoEnd (map sign_of body)
no_end first body unended = elim (end_or_not (map sign_of body)) [
  | inl n ↦ n
  | inr h ↦ absurd (unended (Contains-append_right (first ∷ []) body (codes "-}") (end_line body h)))
]

pub some-open : (lines : List (List ℕ)) → Begins lines → lines ≢ [] → (Contains lines (codes "-}") → ⊥) → (names : List (List ℕ)) × AreOpen lines names
some-open [] b some unended = absurd (some refl)
some-open (first ∷ body) b some unended =
    let n = begun first body b.more _ (inl (no_end first body unended)) (read-tree ((first ∷ body) ++ b.more) b.items b.tree) in
    (n.run.names, begun-open (first ∷ body) n)

pub one-open : (lines x y : List (List ℕ)) → AreOpen lines x → AreOpen lines y → x ≡ y
one-open lines x y a b = let n = open-begun lines x a in open-names lines x n a ∙ sym (open-names lines y n b)

-- The lines that may follow.

can-follow : (names : List (List ℕ)) (goes_on : Bool) (k : ℕ) (line : List ℕ) → AreNames names → IsRight names line → CanEnd names goes_on k (sign_of line ∷ [])
can-follow names goes_on k line right (is_opening name is n room) =
    let fits : nat_lt (length names) DEEPEST ≡ true = grind (arith, nat_tests, room) in
    let c = step-can (opens name) names goes_on k (name ∷ names) false (open_step name names goes_on k fits) [] (always_ends (name ∷ names) (n, right) false (k + 1)) in
    subst (λ (z : Sign). CanEnd names goes_on k (z ∷ [])) (sym (ap sign_of is ∙ opening-sign name n)) c
can-follow names goes_on k line right (is_closing name outer is n top) =
    let inner : AreNames (name ∷ outer) = subst AreNames top right in
    let c = step-can (closes name) (name ∷ outer) goes_on k outer false (close_step name name outer goes_on k (same_name name)) [] (always_ends outer inner.1 false (k + 1)) in
    subst (λ (z : List (List ℕ)). CanEnd z goes_on k (sign_of line ∷ [])) (sym top)
    (subst (λ (z : Sign). CanEnd (name ∷ outer) goes_on k (z ∷ [])) (sym (ap sign_of is ∙ closing-sign name n)) c)
can-follow names goes_on k line right (is_field tag first is t f) =
    let c = step-can (starts tag first) names goes_on k names true (field_step tag first names goes_on k) [] (always_ends names right true (k + 1)) in
    subst (λ (z : Sign). CanEnd names goes_on k (z ∷ [])) (sym (ap sign_of is ∙ field-sign tag first t f)) c
can-follow names goes_on k line right (is_end is top) =
    let c : CanEnd [] goes_on k (ends ∷ []) = record { more = []; rest = nothing; reads = refl } in
    subst (λ (z : List (List ℕ)). CanEnd z goes_on k (sign_of line ∷ [])) (sym top) (subst (λ (z : Sign). CanEnd [] goes_on k (z ∷ [])) (sym (ap sign_of is)) c)

pub right-goes_on : (lines names : List (List ℕ)) (line : List ℕ) → AreOpen lines names → IsRight names line → Begins (lines ++ line ∷ [])
right-goes_on lines names line o right =
    let b = open-begun lines names o in
    let same = open-names lines names b o in
    let c = can-follow b.run.names b.run.may_go_on b.run.at line b.run.right (subst (λ (z : List (List ℕ)). IsRight z line) same right) in
    let r = b.run.ok c.rest in
    begins-read (lines ++ line ∷ []) c.more r.0
    (ap read_lines (append_assoc lines (line ∷ []) c.more) ∙ begun-reads lines (line ∷ c.more) b ∙ ap b.run.wrap c.reads ∙ r.1)

follows : (names : List (List ℕ)) (goes_on : Bool) (k : ℕ) (line : List ℕ) (sign : Sign) (more : List Sign) (rest : Rest) → IsSigned line sign → read_from (sign ∷ more) names goes_on k ≡ Ok rest → IsRight names line ⊎ IsTrue (is_further line)
follows names goes_on k line (opens name) more rest s e = elim (chosen (nat_lt (length names) DEEPEST) (read_from more (name ∷ names) false (k + 1)) (Err (BadNesting k)) (Ok rest) e) [
  | inl (fits, r) ↦ inl (is_opening name (s.is (λ h. let g = h in cc)) s.right (grind (arith, nat_tests, fits)))
  | inr (_, r) ↦ absurd (let h = r in cc)
]
follows [] goes_on k line (closes name) more rest s e = absurd (let h = e in cc)
follows (top ∷ names) goes_on k line (closes name) more rest s e = elim (chosen (bytes_eq top name) (read_from more names false (k + 1)) (Err (BadNesting k)) (Ok rest) e) [
  | inl (same, r) ↦ inl (is_closing name names (s.is (λ h. let g = h in cc)) s.right (ap (λ z. z ∷ names) (same_bytes top name same)))
  | inr (_, r) ↦ absurd (let h = r in cc)
]
follows names goes_on k line (starts tag first) more rest s e = inl (is_field tag first (s.is (λ h. let g = h in cc)) s.right.0 s.right.1)
follows names goes_on k line (further text) more rest s e = inr (subst (λ (z : List ℕ). IsTrue (is_further z)) (sym (s.is (λ h. let g = h in cc))) s.right)
follows [] goes_on k line ends more rest s e = inl (is_end (s.is (λ h. let g = h in cc)) refl)
follows (top ∷ names) goes_on k line ends more rest s e = absurd (let h = e in cc)
follows names goes_on k line strange more rest s e = absurd (let h = e in cc)

pub follows-right : (lines names : List (List ℕ)) (line : List ℕ) → AreOpen lines names → Begins (lines ++ line ∷ []) → IsRight names line ⊎ IsTrue (is_further line)
follows-right lines names line o begin =
    let b = open-begun lines names o in
    let same = open-names lines names b o in
    let read = read-tree ((lines ++ line ∷ []) ++ begin.more) begin.items begin.tree in
    let all = sym (ap read_lines (append_assoc lines (line ∷ []) begin.more) ∙ begun-reads lines (line ∷ begin.more) b) ∙ read in
    let w = was_ok b.run.wrap b.run.err (read_from (sign_of line ∷ map sign_of begin.more) b.run.names b.run.may_go_on b.run.at) _ all in
    subst (λ (z : List (List ℕ)). IsRight z line ⊎ IsTrue (is_further line)) (sym same)
    (follows b.run.names b.run.may_go_on b.run.at line (sign_of line) (map sign_of begin.more) w.before (sign-sound line) w.is)
