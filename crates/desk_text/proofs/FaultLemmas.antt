-- Where a text stops being the beginning of a block.
use Rattle.std.proofs.Common.{◌≡◌, ◌≢◌, ℕ, ◌+◌, nat_lt, Bool, true, false, cond, List, [], ◌∷◌, ◌++◌, length, map, reverse, codes, Result, Ok, Err, refl, sym, ap, ◌∙◌, subst, arith, ◌⊎◌, inl, inr}
use Rattle.std.specs.Prelude.{IsTrue}
use Rattle.std.specs.Str.{bytes_eq}
use Rattle.desk_text.specs.declared.limits.TheConstants.{DEEPEST}
use Rattle.desk_text.specs.declared.faults.TextFault.{TextFault}
use Rattle.desk_text.specs.declared.faults.TextFault.TheVariants.{NotBlock, BadLine, BadNesting, TooLong, Memory}
use Rattle.desk_text.specs.BlockGrammar.{is_name, closing}
use Rattle.desk_text.specs.Fields.{Found}
use Rattle.desk_text.specs.Reading.{Rest, nothing, with_field, with_value, read_after, read_from}
use Rattle.desk_text.specs.Signs.{Sign, opens, closes, starts, further, ends, strange, sign_of}
use Rattle.desk_text.proofs.SignLemmas.{closing-sign}
use Rattle.desk_text.proofs.ReadingLemmas.{chosen, same_name, AreRight}

-- Completions.

abbrev pub AreNames : List (List ℕ) → Type 0
AreNames [] = Unit {0}
AreNames (name ∷ within) = IsTrue (is_name name) × AreNames within

-- some lines complete these signs
pub record CanEnd (within : List (List ℕ)) (goes_on : Bool) (k : ℕ) (front : List Sign) : Type 0 where
  pub more : List (List ℕ)
  pub rest : Rest
  pub reads : read_from (front ++ map sign_of more) within goes_on k ≡ Ok rest

pub always_ends : (within : List (List ℕ)) → AreNames within → (goes_on : Bool) (k : ℕ) → CanEnd within goes_on k []
always_ends [] names goes_on k = record { more = codes "-}" ∷ []; rest = nothing; reads = refl }
always_ends (name ∷ within) names goes_on k =
    let c = always_ends within names.1 false (k + 1) in
    record {
      more = closing name ∷ c.more;
      rest = c.rest;
      reads = ap (λ s. read_from (s ∷ map sign_of c.more) (name ∷ within) goes_on k) (closing-sign name names.0)
          ∙ ap (λ b. cond b (read_from (map sign_of c.more) within false (k + 1)) (Err (BadNesting k))) (same_name name) ∙ c.reads;
    }

-- The fault's line among signs.

abbrev pub NoEnd : List Sign → Type 0
NoEnd [] = Unit {0}
NoEnd (sign ∷ signs) = (sign ≢ ends) × NoEnd signs

abbrev pub HasEnd : List Sign → Type 0
HasEnd [] = ⊥
HasEnd (sign ∷ signs) = (sign ≡ ends) ⊎ HasEnd signs

-- a line that is right under some names alone
pub data IsNest : Sign → Type 0 where
  nest_open : {name : List ℕ} → IsNest (opens name)
  nest_close : {name : List ℕ} → IsNest (closes name)
  nest_end : IsNest ends

-- a line that is right under no names
pub data IsOdd : Sign → Type 0 where
  odd_strange : IsOdd strange
  odd_further : {line : List ℕ} → IsOdd (further line)

abbrev pub IsWhy : TextFault → List Sign → Sign → Type 0
IsWhy NotBlock front bad = ⊥
IsWhy (BadLine m) front bad = HasEnd front ⊎ IsOdd bad
IsWhy (BadNesting m) front bad = NoEnd front × IsNest bad
IsWhy TooLong front bad = ⊥
IsWhy Memory front bad = ⊥

-- the signs in front can be completed, and with the bad one they can't
pub record IsAt (signs : List Sign) (within : List (List ℕ)) (goes_on : Bool) (k m : ℕ) (fault : TextFault) : Type 0 where
  pub front : List Sign
  pub bad : Sign
  pub rest : List Sign
  pub split : signs ≡ front ++ bad ∷ rest
  pub number : k + length front ≡ m
  pub can : CanEnd within goes_on k front
  pub never : (more : List Sign) → read_from (front ++ bad ∷ more) within goes_on k ≡ Err fault
  pub why : IsWhy fault front bad

abbrev pub IsLocated : List Sign → List (List ℕ) → Bool → ℕ → TextFault → Type 0
IsLocated signs within goes_on k NotBlock = CanEnd within goes_on k signs
IsLocated signs within goes_on k (BadLine m) = IsAt signs within goes_on k m (BadLine m)
IsLocated signs within goes_on k (BadNesting m) = IsAt signs within goes_on k m (BadNesting m)
IsLocated signs within goes_on k TooLong = ⊥
IsLocated signs within goes_on k Memory = ⊥

-- one sign on: reading it is reading the rest, with something in front
pub record IsStep (sign : Sign) (within : List (List ℕ)) (goes_on : Bool) (k : ℕ) (within' : List (List ℕ)) (goes_on' : Bool) : Type 0 where
  pub wrap : Result Rest TextFault → Result Rest TextFault
  pub ok : (rest : Rest) → (rest' : Rest) × (wrap (Ok rest) ≡ Ok rest')
  pub err : (fault : TextFault) → wrap (Err fault) ≡ Err fault
  pub reads : (more : List Sign) → read_from (sign ∷ more) within goes_on k ≡ wrap (read_from more within' goes_on' (k + 1))
  pub unended : sign ≢ ends

pub step-can : (sign : Sign) (within : List (List ℕ)) (goes_on : Bool) (k : ℕ) (within' : List (List ℕ)) (goes_on' : Bool) → IsStep sign within goes_on k within' goes_on' → (front : List Sign) → CanEnd within' goes_on' (k + 1) front → CanEnd within goes_on k (sign ∷ front)
step-can sign within goes_on k within' goes_on' s front c =
    let o = s.ok c.rest in
    record { more = c.more; rest = o.0; reads = s.reads (front ++ map sign_of c.more) ∙ ap s.wrap c.reads ∙ o.1 }

step-why : (fault : TextFault) (sign : Sign) (front : List Sign) (bad : Sign) → sign ≢ ends → IsWhy fault front bad → IsWhy fault (sign ∷ front) bad
step-why NotBlock sign front bad no_end why = why
step-why (BadLine m) sign front bad no_end (inl e) = inl (inr e)
step-why (BadLine m) sign front bad no_end (inr o) = inr o
step-why (BadNesting m) sign front bad no_end (e, n) = ((no_end, e), n)
step-why TooLong sign front bad no_end why = why
step-why Memory sign front bad no_end why = why

step-at : (sign : Sign) (within : List (List ℕ)) (goes_on : Bool) (k : ℕ) (within' : List (List ℕ)) (goes_on' : Bool) → IsStep sign within goes_on k within' goes_on' → (signs : List Sign) (m : ℕ) (fault : TextFault) → IsAt signs within' goes_on' (k + 1) m fault → IsAt (sign ∷ signs) within goes_on k m fault
step-at sign within goes_on k within' goes_on' s signs m fault a = record {
  front = sign ∷ a.front;
  bad = a.bad;
  rest = a.rest;
  split = ap (λ z. sign ∷ z) a.split;
  number = let n = a.number in omega arith;
  can = step-can sign within goes_on k within' goes_on' s a.front a.can;
  never = λ more. s.reads (a.front ++ a.bad ∷ more) ∙ ap s.wrap (a.never more) ∙ s.err fault;
  why = step-why fault sign a.front a.bad s.unended a.why;
}

step-located : (sign : Sign) (within : List (List ℕ)) (goes_on : Bool) (k : ℕ) (within' : List (List ℕ)) (goes_on' : Bool) → IsStep sign within goes_on k within' goes_on' → (signs : List Sign) (fault : TextFault) → IsLocated signs within' goes_on' (k + 1) fault → IsLocated (sign ∷ signs) within goes_on k fault
step-located sign within goes_on k within' goes_on' s signs NotBlock l = step-can sign within goes_on k within' goes_on' s signs l
step-located sign within goes_on k within' goes_on' s signs (BadLine m) l = step-at sign within goes_on k within' goes_on' s signs m (BadLine m) l
step-located sign within goes_on k within' goes_on' s signs (BadNesting m) l = step-at sign within goes_on k within' goes_on' s signs m (BadNesting m) l
step-located sign within goes_on k within' goes_on' s signs TooLong l = l
step-located sign within goes_on k within' goes_on' s signs Memory l = l

-- Each kind of sign that goes on.

pub open_step : (name : List ℕ) (within : List (List ℕ)) (goes_on : Bool) (k : ℕ) → nat_lt (length within) DEEPEST ≡ true → IsStep (opens name) within goes_on k (name ∷ within) false
open_step name within goes_on k fits = record {
  wrap = λ r. r;
  ok = λ rest. (rest, refl);
  err = λ fault. refl;
  reads = λ more. ap (λ b. cond b (read_from more (name ∷ within) false (k + 1)) (Err (BadNesting k))) fits;
  unended = λ e. let h = e in cc;
}

pub close_step : (name top : List ℕ) (within : List (List ℕ)) (goes_on : Bool) (k : ℕ) → bytes_eq top name ≡ true → IsStep (closes name) (top ∷ within) goes_on k within false
close_step name top within goes_on k same = record {
  wrap = λ r. r;
  ok = λ rest. (rest, refl);
  err = λ fault. refl;
  reads = λ more. ap (λ b. cond b (read_from more within false (k + 1)) (Err (BadNesting k))) same;
  unended = λ e. let h = e in cc;
}

pub field_step : (tag first : List ℕ) (within : List (List ℕ)) (goes_on : Bool) (k : ℕ) → IsStep (starts tag first) within goes_on k within true
field_step tag first within goes_on k = record {
  wrap = with_field (record { path = reverse within; tag = tag; values = first ∷ []; line = k });
  ok = λ rest. (record { values = []; fields = record { path = reverse within; tag = tag; values = (first ∷ []) ++ rest.values; line = k } ∷ rest.fields }, refl);
  err = λ fault. refl;
  reads = λ more. refl;
  unended = λ e. let h = e in cc;
}

pub value_step : (line : List ℕ) (within : List (List ℕ)) (k : ℕ) → IsStep (further line) within true k within true
value_step line within k = record {
  wrap = with_value line;
  ok = λ rest. (record rest { values = line ∷ rest.values }, refl);
  err = λ fault. refl;
  reads = λ more. refl;
  unended = λ e. let h = e in cc;
}

with_field-err : (x : Found) (r : Result Rest TextFault) (fault : TextFault) → with_field x r ≡ Err fault → r ≡ Err fault
with_field-err x (Ok rest) fault e = absurd (let h = e in cc)
with_field-err x (Err f) fault e = e

with_value-err : (line : List ℕ) (r : Result Rest TextFault) (fault : TextFault) → with_value line r ≡ Err fault → r ≡ Err fault
with_value-err line (Ok rest) fault e = absurd (let h = e in cc)
with_value-err line (Err f) fault e = e

-- A fault at the first of these signs.
here : (bad : Sign) (rest : List Sign) (within : List (List ℕ)) (goes_on : Bool) (k : ℕ) (fault : TextFault) → AreNames within → ((more : List Sign) → read_from (bad ∷ more) within goes_on k ≡ Err fault) → IsWhy fault [] bad → IsAt (bad ∷ rest) within goes_on k k fault
here bad rest within goes_on k fault names never why = record {
  front = [];
  bad = bad;
  rest = rest;
  split = refl;
  number = omega arith;
  can = always_ends within names goes_on k;
  never = never;
  why = why;
}

-- the fault is the one that is seen
seen : (P : TextFault → Type 0) (a b : TextFault) → ◌≡◌ {A = Result Rest TextFault} (Err a) (Err b) → P a → P b
seen P a b e p = let same : a ≡ b = cc in subst P same p

-- After the end.

pub record IsAfter (signs : List Sign) (k : ℕ) (fault : TextFault) : Type 0 where
  pub front : List Sign
  pub bad : Sign
  pub rest : List Sign
  pub split : signs ≡ front ++ bad ∷ rest
  pub is : fault ≡ BadLine (k + length front)
  pub can : read_after (front ++ []) k ≡ Ok nothing
  pub never : (more : List Sign) → read_after (front ++ bad ∷ more) k ≡ Err fault

after_here : (bad : Sign) (rest : List Sign) (k : ℕ) (fault : TextFault) → ((more : List Sign) → read_after (bad ∷ more) k ≡ Err (BadLine k)) → read_after (bad ∷ rest) k ≡ Err fault → IsAfter (bad ∷ rest) k fault
after_here bad rest k fault never e =
    let both_ways : ◌≡◌ {A = Result Rest TextFault} (Err (BadLine k)) (Err fault) = sym (never rest) ∙ e in
    let at : k ≡ k + length {A = Sign} [] = omega arith in
    record {
      front = [];
      bad = bad;
      rest = rest;
      split = refl;
      is = let same : BadLine k ≡ fault = cc in sym same ∙ ap BadLine at;
      can = refl;
      never = λ more. never more ∙ both_ways;
    }

after_bad : (signs : List Sign) (k : ℕ) (fault : TextFault) → read_after signs k ≡ Err fault → IsAfter signs k fault
after_bad [] k fault e = absurd (let h = e in cc)
after_bad (further [] ∷ signs) k fault e =
    let b = after_bad signs (k + 1) fault e in
    let at : k + 1 + length b.front ≡ k + length (further [] ∷ b.front) = omega arith in
    record {
      front = further [] ∷ b.front;
      bad = b.bad;
      rest = b.rest;
      split = ap (λ z. further [] ∷ z) b.split;
      is = b.is ∙ ap BadLine at;
      can = b.can;
      never = b.never;
    }
after_bad (further (c ∷ line) ∷ signs) k fault e = after_here (further (c ∷ line)) signs k fault (λ more. refl) e
after_bad (opens name ∷ signs) k fault e = after_here (opens name) signs k fault (λ more. refl) e
after_bad (closes name ∷ signs) k fault e = after_here (closes name) signs k fault (λ more. refl) e
after_bad (starts tag first ∷ signs) k fault e = after_here (starts tag first) signs k fault (λ more. refl) e
after_bad (ends ∷ signs) k fault e = after_here ends signs k fault (λ more. refl) e
after_bad (strange ∷ signs) k fault e = after_here strange signs k fault (λ more. refl) e

after_at : (signs : List Sign) (goes_on : Bool) (k : ℕ) (fault : TextFault) → IsAfter signs (k + 1) fault → IsLocated (ends ∷ signs) [] goes_on k fault
after_at signs goes_on k fault a =
    let P : TextFault → Type 0 = λ f. IsLocated (ends ∷ signs) [] goes_on k f in
    let m = k + 1 + length a.front in
    let at : IsAt (ends ∷ signs) [] goes_on k m (BadLine m) = record {
      front = ends ∷ a.front;
      bad = a.bad;
      rest = a.rest;
      split = ap (λ z. ends ∷ z) a.split;
      number = omega arith;
      can = record { more = []; rest = nothing; reads = a.can };
      never = λ more. a.never more ∙ ap Err a.is;
      why = inl (inl refl);
    } in
    subst P (sym a.is) at

-- Before the end.

pub located : (signs : List Sign) (within : List (List ℕ)) (goes_on : Bool) (k : ℕ) (fault : TextFault) → AreRight signs → AreNames within → read_from signs within goes_on k ≡ Err fault → IsLocated signs within goes_on k fault
located [] within goes_on k fault right names e = seen (λ f. IsLocated [] within goes_on k f) NotBlock fault e (always_ends within names goes_on k)
located (opens name ∷ signs) within goes_on k fault right names e = elim (chosen (nat_lt (length within) DEEPEST) (read_from signs (name ∷ within) false (k + 1)) (Err (BadNesting k)) (Err fault) e) [
  | inl (fits, r) ↦ step-located (opens name) within goes_on k (name ∷ within) false (open_step name within goes_on k fits) signs fault (located signs (name ∷ within) false (k + 1) fault right.1 (right.0, names) r)
  | inr (full, r) ↦ seen (λ f. IsLocated (opens name ∷ signs) within goes_on k f) (BadNesting k) fault r
      (here (opens name) signs within goes_on k (BadNesting k) names (λ more. ap (λ b. cond b (read_from more (name ∷ within) false (k + 1)) (Err (BadNesting k))) full) (tt, nest_open))
]
located (closes name ∷ signs) [] goes_on k fault right names e =
    seen (λ f. IsLocated (closes name ∷ signs) [] goes_on k f) (BadNesting k) fault e (here (closes name) signs [] goes_on k (BadNesting k) names (λ more. refl) (tt, nest_close))
located (closes name ∷ signs) (top ∷ within) goes_on k fault right names e = elim (chosen (bytes_eq top name) (read_from signs within false (k + 1)) (Err (BadNesting k)) (Err fault) e) [
  | inl (same, r) ↦ step-located (closes name) (top ∷ within) goes_on k within false (close_step name top within goes_on k same) signs fault (located signs within false (k + 1) fault right.1 names.1 r)
  | inr (other, r) ↦ seen (λ f. IsLocated (closes name ∷ signs) (top ∷ within) goes_on k f) (BadNesting k) fault r
      (here (closes name) signs (top ∷ within) goes_on k (BadNesting k) names (λ more. ap (λ b. cond b (read_from more within false (k + 1)) (Err (BadNesting k))) other) (tt, nest_close))
]
located (starts tag first ∷ signs) within goes_on k fault right names e =
    let x : Found = record { path = reverse within; tag = tag; values = first ∷ []; line = k } in
    step-located (starts tag first) within goes_on k within true (field_step tag first within goes_on k) signs fault
    (located signs within true (k + 1) fault right.1 names (with_field-err x (read_from signs within true (k + 1)) fault e))
located (further line ∷ signs) within true k fault right names e =
    step-located (further line) within true k within true (value_step line within k) signs fault
    (located signs within true (k + 1) fault right.1 names (with_value-err line (read_from signs within true (k + 1)) fault e))
located (further line ∷ signs) within false k fault right names e =
    seen (λ f. IsLocated (further line ∷ signs) within false k f) (BadLine k) fault e (here (further line) signs within false k (BadLine k) names (λ more. refl) (inr odd_further))
located (ends ∷ signs) [] goes_on k fault right names e = after_at signs goes_on k fault (after_bad signs (k + 1) fault e)
located (ends ∷ signs) (top ∷ within) goes_on k fault right names e =
    seen (λ f. IsLocated (ends ∷ signs) (top ∷ within) goes_on k f) (BadNesting k) fault e (here ends signs (top ∷ within) goes_on k (BadNesting k) names (λ more. refl) (tt, nest_end))
located (strange ∷ signs) within goes_on k fault right names e =
    seen (λ f. IsLocated (strange ∷ signs) within goes_on k f) (BadLine k) fault e (here strange signs within goes_on k (BadLine k) names (λ more. refl) (inr odd_strange))
