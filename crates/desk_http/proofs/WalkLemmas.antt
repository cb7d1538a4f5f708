-- What a router's walk over its rows says of a target.
use Rattle.std.proofs.Common.{◌≡◌, ◌≢◌, ℕ, zero, suc, ◌+◌, ◌-◌, ◌<◌, ◌≤◌, ◌⊎◌, inl, inr, List, [], ◌∷◌, ◌++◌, length, drop, take, All, Option, Some, None, Bool, true, false, cond, ltb, ◌&&◌, ◌==◌, refl, sym, ap, subst, ◌∙◌, arith, length-append}
use Rattle.std.proofs.lemmas.Bool.Decides.{nat_tests}
use Rattle.std.proofs.lemmas.List.{take-append-drop, take_all}
use Rattle.std.proofs.Math.Seq.{drop-append_seam}
use Rattle.std.proofs.lemmas.List.Elements.{All-head, All-tail, All-cons}
use Rattle.matchit.specs.Rows.{RowsOf, param_token, catch_all_token}
use Rattle.matchit.specs.Seek.{own, step, or_else, seek, param_step, has_slash, segment, better, longest_from, longest_suffix, with_suffix, same_text, cuts}
use Rattle.matchit.proofs.ParamLemmas.{better-short, one_less, length-segment, drop-length}
use Rattle.desk_http.specs.Paths.{IsPart}

abbrev pub NoSlash : List ℕ → Type 0
NoSlash text = All (λ c. c ≢ 47) text

pub no_slash_nil : NoSlash []
no_slash_nil k d h = absurd (omega arith)

-- the front of a segment has no slash
segment_front : (text : List ℕ) (k : ℕ) → k < length (segment text) → NoSlash (take k text)
segment_front text zero h = no_slash_nil
segment_front [] (suc k) h = absurd (omega arith)
segment_front (b ∷ text) (suc k) h = by (b == 47) refl h (λ less. segment_front text k less)
  where
    by : (q : Bool) → (b == 47) ≡ q → suc k < length (cond q (b ∷ []) (b ∷ segment text)) → (k < length (segment text) → NoSlash (take k text)) → NoSlash (b ∷ take k text)
    by true e less front = absurd (omega arith)
    by false e less front =
        let other : b ≢ 47 = λ is. grind (arith, nat_tests) in
        All-cons (λ c. c ≢ 47) b (take k text) other (front (omega arith))

slashless : (text : List ℕ) → has_slash text ≡ false → NoSlash text
slashless [] e = no_slash_nil
slashless (b ∷ text) e = by (b == 47) refl e (slashless text)
  where
    by : (q : Bool) → (b == 47) ≡ q → cond q true (has_slash text) ≡ false → (has_slash text ≡ false → NoSlash text) → NoSlash (b ∷ text)
    by true is e rest = cc
    by false is e rest =
        let other : b ≢ 47 = λ same. grind (arith, nat_tests) in
        All-cons (λ c. c ≢ 47) b text other (rest e)

has_none : (text : List ℕ) → NoSlash text → has_slash text ≡ false
has_none [] none = refl
has_none (b ∷ text) none =
    let other : b ≢ 47 = All-head (λ c. c ≢ 47) b text none in
    let e : (b == 47) ≡ false = grind (arith, nat_tests) in
    rw e (has_none text (All-tail (λ c. c ≢ 47) b text none))

segment_part : (text rest : List ℕ) → NoSlash text → segment (text ++ 47 ∷ rest) ≡ text ++ 47 ∷ []
segment_part [] rest none = refl
segment_part (b ∷ text) rest none =
    let other : b ≢ 47 = All-head (λ c. c ≢ 47) b text none in
    let e : (b == 47) ≡ false = grind (arith, nat_tests) in
    rw e (ap (λ l. b ∷ l) (segment_part text rest (All-tail (λ c. c ≢ 47) b text none)))

pub both : (a b : Bool) → (a && b) ≡ true → (a ≡ true) × (b ≡ true)
both true b e = (refl, e)
both false b e = cc

cuts_slash : (part : List ℕ) → 1 ≤ length part → cuts (part ++ 47 ∷ []) (47 ∷ []) ≡ true
cuts_slash part some =
    let long : length (part ++ 47 ∷ []) ≡ length part + 1 = length-append part (47 ∷ []) in
    let more : ltb 1 (length (part ++ 47 ∷ [])) ≡ true = grind (arith, nat_tests) in
    let place : length (part ++ 47 ∷ []) - 1 ≡ length part = omega arith in
    let end : drop (length (part ++ 47 ∷ []) - 1) (part ++ 47 ∷ []) ≡ 47 ∷ [] = rw place (drop-append_seam part (47 ∷ [])) in
    rw (more, end) refl

-- The text is spelled by these tokens: a byte is itself, a parameter is a part. (Of a parameter that takes all, nothing is said.)
abbrev pub Fits : List ℕ → List ℕ → Type 0
Fits [] text = text ≡ []
Fits (x ∷ tokens) text =
    ((rest : List ℕ) × (text ≡ x ∷ rest) × Fits tokens rest)
    ⊎ (((x ≡ param_token) × (part : List ℕ) × (rest : List ℕ) × IsPart part × (text ≡ part ++ rest) × Fits tokens rest)
    ⊎ (x ≡ catch_all_token))

module _ {K : Type 0} where
  -- one of the rows
  abbrev pub HasRow : RowsOf K → List ℕ → K → Type 0
  HasRow [] tokens key = ⊥
  HasRow ((t, k) ∷ rows) tokens key = ((tokens ≡ t) × (key ≡ k)) ⊎ HasRow rows tokens key

  own_row : (rows : RowsOf K) (key : K) → own rows ≡ Some key → HasRow rows [] key
  own_row [] key e = cc
  own_row (([], k) ∷ rows) key e = let same : key ≡ k = cc in inl (refl, same)
  own_row ((x ∷ t, k) ∷ rows) key e = inr (own_row rows key e)

  step_row : (b : ℕ) (rows : RowsOf K) (tokens : List ℕ) (key : K) → HasRow (step b rows) tokens key → HasRow rows (b ∷ tokens) key
  step_row b [] tokens key h = h
  step_row b (([], k) ∷ rows) tokens key h = inr (step_row b rows tokens key h)
  step_row b ((x ∷ t, k) ∷ rows) tokens key h = by (x == b) refl h (step_row b rows tokens key)
    where
      by : (q : Bool) → (x == b) ≡ q → HasRow (cond q ((t, k) ∷ step b rows) (step b rows)) tokens key → (HasRow (step b rows) tokens key → HasRow rows (b ∷ tokens) key)
          → HasRow ((x ∷ t, k) ∷ rows) (b ∷ tokens) key
      by true e (inl is) more =
          let same : b ≡ x = grind (arith, nat_tests) in
          inl (rw (same, is.0) refl, is.1)
      by true e (inr h) more = inr (more h)
      by false e h more = inr (more h)

  suffix_row : (suffix : List ℕ) (rows : RowsOf K) (tokens : List ℕ) (key : K) → HasRow (with_suffix suffix rows) tokens key → HasRow rows tokens key
  suffix_row suffix [] tokens key h = h
  suffix_row suffix ((t, k) ∷ rows) tokens key h = by (same_text (segment t) suffix) h (suffix_row suffix rows tokens key)
    where
      by : (q : Bool) → HasRow (cond q ((t, k) ∷ with_suffix suffix rows) (with_suffix suffix rows)) tokens key → (HasRow (with_suffix suffix rows) tokens key → HasRow rows tokens key)
          → HasRow ((t, k) ∷ rows) tokens key
      by true (inl is) more = inl is
      by true (inr h) more = inr (more h)
      by false h more = inr (more h)

  longest_short : (seg best : List ℕ) (rows : RowsOf K) → (length best ≡ 0) ⊎ (length best < length seg) → (length (longest_from seg best rows) ≡ 0) ⊎ (length (longest_from seg best rows) < length seg)
  longest_short seg best [] h = h
  longest_short seg best ((t, k) ∷ rows) h = longest_short seg (better seg best (segment t)) rows (better-short seg best (segment t) h)

  -- a parameter takes a part, and the walk goes on with rows that were there
  record Takes (rows : RowsOf K) (text : List ℕ) (count : ℕ) (left : RowsOf K) (tokens : List ℕ) (key : K) : Type 0 where
    some : 1 ≤ count
    within : count ≤ length text
    no_slash : NoSlash (take count text)
    row : HasRow rows tokens key

  param_takes : (rows : RowsOf K) (text tokens : List ℕ) (key : K) → 1 ≤ length text → HasRow (param_step rows text).1 tokens key → Takes rows text (param_step rows text).0 (param_step rows text).1 tokens key
  unfolding param_step
  param_takes rows text tokens key some h = by (ltb 0 (length (longest_suffix (segment text) rows))) refl (has_slash text) refl h
    where
      by : (u : Bool) → ltb 0 (length (longest_suffix (segment text) rows)) ≡ u → (v : Bool) → has_slash text ≡ v
          → HasRow (cond {A = ℕ × RowsOf K} u (length (segment text) - length (longest_suffix (segment text) rows), with_suffix (longest_suffix (segment text) rows) rows) (cond v (0, []) (length text, rows))).1 tokens key
          → Takes rows text (cond {A = ℕ × RowsOf K} u (length (segment text) - length (longest_suffix (segment text) rows), with_suffix (longest_suffix (segment text) rows) rows) (cond v (0, []) (length text, rows))).0
          (cond {A = ℕ × RowsOf K} u (length (segment text) - length (longest_suffix (segment text) rows), with_suffix (longest_suffix (segment text) rows) rows) (cond v (0, []) (length text, rows))).1 tokens key
      by true e v w h =
          let short : length (longest_suffix (segment text) rows) < length (segment text) = by_short (longest_short (segment text) [] rows (inl refl)) e in
          let positive : 0 < length (longest_suffix (segment text) rows) = grind (arith, nat_tests) in
          let seg = length-segment text in
          record {
            some = omega arith;
            within = omega arith;
            no_slash = segment_front text (length (segment text) - length (longest_suffix (segment text) rows)) (omega arith);
            row = suffix_row (longest_suffix (segment text) rows) rows tokens key h;
          }
        where
          by_short : (length (longest_suffix (segment text) rows) ≡ 0) ⊎ (length (longest_suffix (segment text) rows) < length (segment text)) → ltb 0 (length (longest_suffix (segment text) rows)) ≡ true
              → length (longest_suffix (segment text) rows) < length (segment text)
          by_short (inl none) e = let positive : 0 < length (longest_suffix (segment text) rows) = grind (arith, nat_tests) in absurd (omega arith)
          by_short (inr less) e = less
      by false e true w h = absurd h
      by false e false w h = record {
        some = some;
        within = omega arith;
        no_slash = rw (take_all (length text) text (omega arith)) (slashless text w);
        row = h;
      }

  first_some : (a b : Option K) (key : K) → or_else a b ≡ Some key → (a ≡ Some key) ⊎ (b ≡ Some key)
  first_some None b key e = inr e
  first_some (Some k) b key e = inl e

  -- what the walk finds is a row that the text is spelled by
  pub fits : (skip : ℕ) (rows : RowsOf K) (text : List ℕ) (key : K) → seek skip rows text ≡ Some key → (tokens : List ℕ) × HasRow rows tokens key × Fits tokens (drop skip text)
  unfolding seek
  fits zero rows [] key e = ([], own_row rows key e, refl)
  fits (suc skip) rows [] key e = ([], own_row rows key e, refl)
  fits (suc skip) rows (b ∷ text) key e = fits skip rows text key e
  fits zero rows (b ∷ text) key e =
      by (first_some (seek 0 (step b rows) text) _ key e) (fits 0 (step b rows) text key)
      (fits ((param_step (step param_token rows) (b ∷ text)).0 - 1) (param_step (step param_token rows) (b ∷ text)).1 text key)
    where
      -- a parameter took its part
      takes : (count : ℕ) (tokens : List ℕ) → 1 ≤ count → count ≤ suc (length text) → NoSlash (take count (b ∷ text)) → Fits tokens (drop (count - 1) text)
          → (part : List ℕ) × (rest : List ℕ) × IsPart part × (b ∷ text ≡ part ++ rest) × Fits tokens rest
      takes zero tokens some within none f = absurd (omega arith)
      takes (suc count) tokens some within none f =
          let P : ℕ → Type 0 = λ n. Fits tokens (drop n text) in (
            b ∷ take count text,
            drop count text,
            record { some = omega arith; no_slash = none },
            ap (λ l. b ∷ l) (sym (take-append-drop count text)),
            subst P (one_less count) f,
          )

      later : (seek ((param_step (step param_token rows) (b ∷ text)).0 - 1) (param_step (step param_token rows) (b ∷ text)).1 text ≡ Some key) ⊎ (own (step catch_all_token rows) ≡ Some key)
          → (seek ((param_step (step param_token rows) (b ∷ text)).0 - 1) (param_step (step param_token rows) (b ∷ text)).1 text ≡ Some key
          → (tokens : List ℕ) × HasRow (param_step (step param_token rows) (b ∷ text)).1 tokens key × Fits tokens (drop ((param_step (step param_token rows) (b ∷ text)).0 - 1) text))
          → (tokens : List ℕ) × HasRow rows tokens key × Fits tokens (b ∷ text)
      later (inl found) behind =
          let f = behind found in
          let t = param_takes (step param_token rows) (b ∷ text) f.0 key (omega arith) f.1 in
          let p = takes (param_step (step param_token rows) (b ∷ text)).0 f.0 t.some t.within t.no_slash f.2 in
          (param_token ∷ f.0, step_row param_token rows f.0 key t.row, inr (inl (refl, p.0, p.1, p.2, p.3, p.4)))
      later (inr all) behind = (catch_all_token ∷ [], step_row catch_all_token rows [] key (own_row (step catch_all_token rows) key all), inr (inr refl))

      by : (seek 0 (step b rows) text ≡ Some key) ⊎ (or_else (seek ((param_step (step param_token rows) (b ∷ text)).0 - 1) (param_step (step param_token rows) (b ∷ text)).1 text) (own (step catch_all_token rows)) ≡ Some key)
          → (seek 0 (step b rows) text ≡ Some key → (tokens : List ℕ) × HasRow (step b rows) tokens key × Fits tokens text)
          → (seek ((param_step (step param_token rows) (b ∷ text)).0 - 1) (param_step (step param_token rows) (b ∷ text)).1 text ≡ Some key
          → (tokens : List ℕ) × HasRow (param_step (step param_token rows) (b ∷ text)).1 tokens key × Fits tokens (drop ((param_step (step param_token rows) (b ∷ text)).0 - 1) text))
          → (tokens : List ℕ) × HasRow rows tokens key × Fits tokens (b ∷ text)
      by (inl found) literal behind =
          let f = literal found in
          (b ∷ f.0, step_row b rows f.0 key f.1, inl (text, refl, f.2))
      by (inr other) literal behind = later (first_some (seek ((param_step (step param_token rows) (b ∷ text)).0 - 1) (param_step (step param_token rows) (b ∷ text)).1 text) (own (step catch_all_token rows)) key other) behind

  -- Where the walk finds something.

  no_rows_step : (text : List ℕ) → (param_step {K = K} [] text).1 ≡ []
  unfolding param_step
  no_rows_step text =
      elim (has_slash text) as (λ v. (cond {A = ℕ × RowsOf K} v (0, []) (length text, [])).1 ≡ []) [
        | true ↦ refl
        | false ↦ refl
      ]

  no_rows : (skip : ℕ) (text : List ℕ) → seek {K = K} skip [] text ≡ None
  unfolding seek
  no_rows skip [] = refl
  no_rows (suc skip) (b ∷ text) = no_rows skip text
  no_rows zero (b ∷ text) = simp (no_rows 0 text, no_rows_step (b ∷ text), no_rows ((param_step {K = K} [] (b ∷ text)).0 - 1) text)

  or_none : (a : Option K) → or_else a None ≡ a
  or_none None = refl
  or_none (Some k) = refl

  both_none : (a b : Option K) → or_else a b ≡ None → (a ≡ None) × (b ≡ None)
  both_none None b e = (refl, e)
  both_none (Some k) b e = cc

  from_skip : (skip : ℕ) (rows : RowsOf K) (text : List ℕ) → seek skip rows text ≡ seek 0 rows (drop skip text)
  unfolding seek
  from_skip zero rows text = refl
  from_skip (suc skip) rows [] = refl
  from_skip (suc skip) rows (b ∷ text) = from_skip skip rows text

  -- a byte where no row has a parameter
  past_byte : (b : ℕ) (rows : RowsOf K) (text : List ℕ) → step param_token rows ≡ [] → step catch_all_token rows ≡ [] → seek 0 rows (b ∷ text) ≡ seek 0 (step b rows) text
  unfolding seek
  past_byte b rows text p q = simp (p, q, no_rows_step (b ∷ text), no_rows ((param_step {K = K} [] (b ∷ text)).0 - 1) text, or_none)

  abbrev pub steps : List ℕ → RowsOf K → RowsOf K
  steps [] rows = rows
  steps (b ∷ word) rows = steps word (step b rows)

  abbrev pub is_empty : RowsOf K → Bool
  is_empty [] = true
  is_empty (row ∷ rows) = false

  -- along the word no row has a parameter
  abbrev pub is_plain : List ℕ → RowsOf K → Bool
  is_plain [] rows = true
  is_plain (b ∷ word) rows = is_empty (step param_token rows) && (is_empty (step catch_all_token rows) && is_plain word (step b rows))

  empty_is : (rows : RowsOf K) → is_empty rows ≡ true → rows ≡ []
  empty_is [] e = refl
  empty_is (row ∷ rows) e = cc

  pub past : (word : List ℕ) (rows : RowsOf K) (text : List ℕ) → is_plain word rows ≡ true → seek 0 rows (word ++ text) ≡ seek 0 (steps word rows) text
  past [] rows text e = refl
  past (b ∷ word) rows text e =
      let one = both (is_empty (step param_token rows)) _ e in
      let two = both (is_empty (step catch_all_token rows)) _ one.1 in
      past_byte b rows (word ++ text) (empty_is _ one.0) (empty_is _ two.0) ∙ past word (step b rows) text two.1

  takes_rest : (key : K) (text : List ℕ) → has_slash text ≡ false → param_step (([], key) ∷ []) text ≡ (length text, ([], key) ∷ [])
  unfolding param_step
  takes_rest key text none = rw none refl

  pub last_found : (key : K) (part : List ℕ) → IsPart part → seek 0 ((param_token ∷ [], key) ∷ []) part ≡ None → ⊥
  unfolding seek
  last_found key [] is e = absurd (omega (arith, is.some))
  last_found key (b ∷ text) is e =
      let rows : RowsOf K = (param_token ∷ [], key) ∷ [] in
      let later = both_none (seek 0 (step b rows) text) _ e in
      let here = both_none (seek ((param_step (([], key) ∷ []) (b ∷ text)).0 - 1) (param_step (([], key) ∷ []) (b ∷ text)).1 text) _ later.1 in
      let P : ℕ × RowsOf K → Type 0 = λ p. seek (p.0 - 1) p.1 text ≡ None in
      let at = subst P (takes_rest key (b ∷ text) (has_none (b ∷ text) is.no_slash)) here.0 in
      let Q : ℕ → Type 0 = λ n. seek n (([], key) ∷ []) text ≡ None in
      let whole = subst Q (one_less (length text)) at in
      let R : List ℕ → Type 0 = λ t. seek 0 (([], key) ∷ []) t ≡ None in
      let end = subst R (drop-length text) (sym (from_skip (length text) (([], key) ∷ []) text) ∙ whole) in
      cc

  takes_first : (key : K) (part rest : List ℕ) → 1 ≤ length part → NoSlash part → param_step ((47 ∷ param_token ∷ [], key) ∷ []) (part ++ 47 ∷ rest) ≡ (length part, (47 ∷ param_token ∷ [], key) ∷ [])
  unfolding param_step
  takes_first key part rest some none =
      let long : length (part ++ 47 ∷ []) ≡ length part + 1 = length-append part (47 ∷ []) in
      let count : length (part ++ 47 ∷ []) - 1 ≡ length part = omega arith in
      rw (segment_part part rest none, cuts_slash part some, count) refl

  pub two_found : (key : K) (first last : List ℕ) → IsPart first → IsPart last → seek 0 ((param_token ∷ 47 ∷ param_token ∷ [], key) ∷ []) (first ++ 47 ∷ last) ≡ None → ⊥
  unfolding seek
  two_found key [] last is then e = absurd (omega (arith, is.some))
  two_found key (b ∷ text) last is then e =
      let rows : RowsOf K = (param_token ∷ 47 ∷ param_token ∷ [], key) ∷ [] in
      let left : RowsOf K = (47 ∷ param_token ∷ [], key) ∷ [] in
      let later = both_none (seek 0 (step b rows) (text ++ 47 ∷ last)) _ e in
      let here = both_none (seek ((param_step left (b ∷ (text ++ 47 ∷ last))).0 - 1) (param_step left (b ∷ (text ++ 47 ∷ last))).1 (text ++ 47 ∷ last)) _ later.1 in
      let P : ℕ × RowsOf K → Type 0 = λ p. seek (p.0 - 1) p.1 (text ++ 47 ∷ last) ≡ None in
      let at = subst P (takes_first key (b ∷ text) last is.some is.no_slash) here.0 in
      let Q : ℕ → Type 0 = λ n. seek n left (text ++ 47 ∷ last) ≡ None in
      let whole = subst Q (one_less (length text)) at in
      let R : List ℕ → Type 0 = λ t. seek 0 left t ≡ None in
      let end = subst R (drop-append_seam text (47 ∷ last)) (sym (from_skip (length text) left (text ++ 47 ∷ last)) ∙ whole) in
      last_found key last then (sym (past_byte 47 left last refl refl) ∙ end)
