-- The first security above one, or the first of all.
use Rattle.std.proofs.Common.{◌≡◌, inl, inr, ℕ, ◌+◌, List, [], ◌∷◌, map, Bool, true, false, cond, ◌&&◌, ◌||◌, nat_eq, Option, None, Some, is_some, Ok, Err, Result, IfOk, Vec, refl, sym, ap, subst, ◌∙◌}
use Rattle.std.specs.Prelude.{if◌then◌else◌}
use Rattle.std.specs.declared.alloc.Global.{Global}
use Rattle.std.specs.List.{list_any}
use Rattle.std.specs.Str.{bytes_eq}
use Rattle.std.specs.declared.cmp.Ordering.{Ordering}
use Rattle.std.specs.declared.cmp.Ordering.TheVariants.{Less, Equal, Greater}
use Rattle.std.specs.Ordering.{is_lt, is_gt, nat_cmp, ordering_reverse}
use Rattle.std.specs.Cmp.Lexicographic.{slice_cmp}
use Rattle.std.proofs.lemmas.Bool.{cases_Bool, both_ways}
use Rattle.std.proofs.Math.Bool.{and-true}
use Rattle.std.proofs.lemmas.Cmp.{nat_list_cmp_total}
use Rattle.std.proofs.lemmas.Slice.Eq.{bytes_eq-Decides}
use Rattle.sqlite.specs.Order.{Row}
use Rattle.sqlite_value.proofs.OrderLemmas.{value_cmp-Text}
use Rattle.sqlite.specs.declared.error.Error.{Error}
use Rattle.sqlite.specs.declared.types.Value.TheVariants.{Text as Words}
use Rattle.sqlite.specs.Term.{col, eval, eval_all}
use Rattle.sqlite.specs.State.{State, Shown}
use Rattle.desk_rules.specs.declared.history.entry.Entry.{Entry}
use Rattle.desk_rules.specs.declared.history.entry.Entry.TheVariants.{Participant, Account, Security, Issue, Redeem, PayIn, PayOut, Instruct, Cancel, Run}
use Rattle.desk_rules.specs.declared.answers.reply.Kept.{Kept}
use Rattle.desk_rules.specs.Facts.{kind_by, kind_of, or_else}
use Rattle.desk_register.specs.Looked.{IsLess, IsAboveText, IsSecurityAfter}
use Rattle.sql_tables.specs.Schema.{desk_schema}
use Rattle.sql_tables.specs.Queries.{rising, Among, IsFirst}
use Rattle.sql_tables.proofs.QueryLemmas.{among_map, among_of}
use Rattle.sql_entries.specs.Columns.{kind_number, about_of}
use Rattle.sql_entries.specs.Entries.{AreEntries, entries_in}
use Rattle.sql_tables.specs.Rows.{text_rows}
use Rattle.sql_entries.proofs.NumberedLemmas.{Numbered, found, row_at, is_before}
use Rattle.sql_entries.proofs.FindingTexts.{first_security_text, finds_first_security, next_security_text, finds_next_security}
use Rattle.sql_entries.proofs.RowLemmas.{kind_test, later_test}
use Rattle.sql_entries.proofs.EntryLemmas.{row_with, first_found}

-- ---- which entries register a security

abbrev pub registers : List ℕ → Entry → Bool
registers isin entry = nat_eq (kind_number entry) 3 && bytes_eq (about_of entry) isin

some_if : (b : Bool) {X : Type 0} (x : X) → is_some (if b then Some x else None) ≡ b
some_if true x = refl
some_if false x = refl

some_by : (isin : List ℕ) (entry : Entry) → is_some (kind_by isin entry) ≡ registers isin entry
some_by isin (Participant reference b) = refl
some_by isin (Account reference b account) = refl
some_by isin (Security reference i kind) = some_if (bytes_eq i isin) kind
some_by isin (Issue movement) = refl
some_by isin (Redeem movement) = refl
some_by isin (PayIn payment) = refl
some_by isin (PayOut payment) = refl
some_by isin (Instruct sender instruction) = refl
some_by isin (Cancel sender order) = refl
some_by isin (Run reference day rule) = refl

some_else : {X : Type 0} (a b : Option X) → is_some (or_else a b) ≡ (is_some a || is_some b)
some_else None b = refl
some_else (Some x) b = refl

is_known : (isin : List ℕ) (history : List Entry) → is_some (kind_of history isin) ≡ list_any (registers isin) history
is_known isin [] = refl
is_known isin (entry ∷ entries) =
    some_else (kind_by isin entry) (kind_of entries isin) ∙ ap (λ b. b || is_some (kind_of entries isin)) (some_by isin entry) ∙ ap (λ b. registers isin entry || b) (is_known isin entries)

-- ---- which of their rows are found

-- a security whose ISIN passes
abbrev pub is_security : (List ℕ → Bool) → Kept → Bool
is_security passes kept = nat_eq (kind_number kept.entry) 3 && passes (about_of kept.entry)

both_parts : (a b : Bool) → (a && b) ≡ true → (a ≡ true) × (b ≡ true)
both_parts true b h = (refl, h)
both_parts false b h = absurd (cc)

module _ (passes : List ℕ → Bool) where
  abbrev hits : ℕ → List Kept → List (Numbered Kept)
  hits = found (is_security passes)

  hit_later : (n : ℕ) (kept : Kept) (more : List Kept) (it : Numbered Kept) → Among (hits (n + 1) more) it → Among (hits n (kept ∷ more)) it
  hit_later n kept more it later = elim (cases_Bool (is_security passes kept)) [
    | inl here ↦ rw here (inr later)
    | inr apart ↦ rw apart later
  ]

  -- a registered security that passes is found
  is_hit : (isin : List ℕ) (n : ℕ) (register : List Kept) → list_any (registers isin) (entries_in register) ≡ true → passes isin ≡ true
      → (it : Numbered Kept) × Among (hits n register) it × (about_of it.1.entry ≡ isin)
  is_hit isin n [] known right = absurd (cc)
  is_hit isin n (kept ∷ more) known right = go (is_hit isin (n + 1) more) (registers isin kept.entry) refl known
    where
      go : (list_any (registers isin) (entries_in more) ≡ true → passes isin ≡ true → (it : Numbered Kept) × Among (hits (n + 1) more) it × (about_of it.1.entry ≡ isin))
          → (b : Bool) → registers isin kept.entry ≡ b → (b || list_any (registers isin) (entries_in more)) ≡ true
          → (it : Numbered Kept) × Among (hits n (kept ∷ more)) it × (about_of it.1.entry ≡ isin)
      go rest true here known =
          let parts = both_parts (nat_eq (kind_number kept.entry) 3) (bytes_eq (about_of kept.entry) isin) here in
          let same : about_of kept.entry ≡ isin = (bytes_eq-Decides (about_of kept.entry) isin).0 parts.1 in
          let hit : is_security passes kept ≡ true = ap (λ b. b && passes (about_of kept.entry)) parts.0 ∙ ap passes same ∙ right in
          ((n + 1, kept), rw hit (inl refl), same)
      go rest false apart known = let it = rest known right in (it.0, hit_later n kept more it.0 it.1, it.2)

  -- what is found is registered, and passes
  hit_is : (n : ℕ) (register : List Kept) (it : Numbered Kept) → Among (hits n register) it → (list_any (registers (about_of it.1.entry)) (entries_in register) ≡ true) × (passes (about_of it.1.entry) ≡ true)
  hit_is n [] it among = absurd among
  hit_is n (kept ∷ more) it among = go (hit_is (n + 1) more it) (is_security passes kept) refl among
    where
      later : (registers (about_of it.1.entry) kept.entry || true) ≡ true
      later = elim (registers (about_of it.1.entry) kept.entry) as (λ b. (b || true) ≡ true) [ true ↦ refl | false ↦ refl ]

      go : (Among (hits (n + 1) more) it → (list_any (registers (about_of it.1.entry)) (entries_in more) ≡ true) × (passes (about_of it.1.entry) ≡ true))
          → (b : Bool) → is_security passes kept ≡ b → Among (cond b ((n + 1, kept) ∷ hits (n + 1) more) (hits (n + 1) more)) it
          → ((registers (about_of it.1.entry) kept.entry || list_any (registers (about_of it.1.entry)) (entries_in more)) ≡ true) × (passes (about_of it.1.entry) ≡ true)
      go rest true here (inl same) =
          let parts = both_parts (nat_eq (kind_number kept.entry) 3) (passes (about_of kept.entry)) here in
          let entry : it.1.entry ≡ kept.entry = ap (λ (it : Numbered Kept). it.1.entry) same in
          let own : bytes_eq (about_of kept.entry) (about_of it.1.entry) ≡ true = (bytes_eq-Decides (about_of kept.entry) (about_of it.1.entry)).1 (ap about_of (sym entry)) in (
            ap (λ b. (b && bytes_eq (about_of kept.entry) (about_of it.1.entry)) || list_any (registers (about_of it.1.entry)) (entries_in more)) parts.0
                ∙ ap (λ b. b || list_any (registers (about_of it.1.entry)) (entries_in more)) own,
            ap (λ e. passes (about_of e)) entry ∙ parts.1,
          )
      go rest true here (inr among) = let it' = rest among in (ap (λ b. registers (about_of it.1.entry) kept.entry || b) it'.0 ∙ later, it'.1)
      go rest false apart among = let it' = rest among in (ap (λ b. registers (about_of it.1.entry) kept.entry || b) it'.0 ∙ later, it'.1)

-- ---- the least

abbrev about_in : Numbered Kept → Row
about_in it = Words (about_of it.1.entry) ∷ []

less_before : (s t : List ℕ) → IsLess s t → is_before rising (Words s) (Words t) ≡ true
less_before s t less = ap is_lt (value_cmp-Text s t ∙ less)

pub first_is_next : (register : List Kept) (above : Option (List ℕ)) (passes : List ℕ → Bool) → ((isin : List ℕ) → IsAboveText above isin → passes isin ≡ true) → ((isin : List ℕ) → passes isin ≡ true → IsAboveText above isin)
    → (params : Row) (rows : List Row) → IsFirst (map (row_at row_with) (found (is_security passes) 0 register)) params (col 1 5 ∷ []) (col 1 5) rising rows
    → (found' : Option (List ℕ)) × (rows ≡ text_rows found') × IsSecurityAfter (entries_in register) above found'
first_is_next register above passes to from params rows (inl none) = (
  None,
  none.0,
  λ isin there.
      let it = is_hit passes isin 0 register (sym (is_known isin (entries_in register)) ∙ there.0) (to isin there.1) in
      subst (λ rows. Among rows (row_at row_with it.0)) none.1 (among_of (row_at row_with) (found (is_security passes) 0 register) it.0 it.1),
)
first_is_next register above passes to from params rows (inr one) =
    let it = among_map (row_at row_with) (found (is_security passes) 0 register) one.0 one.1 in
    let isin = about_of it.0.1.entry in
    let known = hit_is passes 0 register it.0 it.1 in (
      Some isin,
      one.2 ∙ ap (λ r. eval_all (col 1 5 ∷ []) (params ∷ r ∷ []) ∷ []) it.2,
      (
        (is_known isin (entries_in register) ∙ known.0, from isin known.1),
        λ other there less.
            let next = is_hit passes other 0 register (sym (is_known other (entries_in register)) ∙ there.0) (to other there.1) in
            let not_before = one.3 (row_at row_with next.0) (among_of (row_at row_with) (found (is_security passes) 0 register) next.0 next.1) in
            let e : is_before rising (Words other) (Words isin) ≡ false = ap (λ t. is_before rising (Words t) (Words isin)) (sym next.2)
            ∙ subst (λ r. is_before rising (Words (about_of next.0.1.entry)) (eval (col 1 5) (params ∷ r ∷ [])) ≡ false) it.2 not_before in
            both_ways _ e (less_before other isin less),
      ),
    )

-- ---- one text is above another

flips : (s t : List ℕ) → IsLess s t → is_gt (slice_cmp nat_cmp t s) ≡ true
flips s t less = ap is_gt (nat_list_cmp_total.antisymm t s ∙ ap ordering_reverse less)

greater : (o : Ordering) → is_gt o ≡ true → o ≡ Greater
greater Less h = absurd (cc)
greater Equal h = absurd (cc)
greater Greater h = refl

flips_back : (s t : List ℕ) → is_gt (slice_cmp nat_cmp t s) ≡ true → IsLess s t
flips_back s t h = nat_list_cmp_total.antisymm s t ∙ ap ordering_reverse (greater (slice_cmp nat_cmp t s) h)

module _ (old new : State) (has : old.now.schema ≡ desk_schema) (register : List Kept) (are : AreEntries old.now register) where
  pub first_security_shown : (r : Result (Vec Row Global) Error) → IfOk r (λ rows. Shown first_security_text [] old new rows.items)
      → IfOk r (λ rows. (found : Option (List ℕ)) × (rows.items ≡ text_rows found) × IsSecurityAfter (entries_in register) None found)
  first_security_shown (Ok rows) h =
      first_is_next register None (λ _. true) (λ isin above. refl) (λ isin right. tt) [] rows.items
      (first_found old new has register are first_security_text [] rows.items h _ _ (is_security (λ _. true))
      (λ number kept. kind_test number kept.entry kept.reply 3 ∙ sym (and-true (nat_eq (kind_number kept.entry) 3))) (col 1 5) rising finds_first_security)
  first_security_shown (Err e) h = tt

  pub security_above_shown : (isin : List ℕ) → (r : Result (Vec Row Global) Error) → IfOk r (λ rows. Shown next_security_text (Words isin ∷ []) old new rows.items)
      → IfOk r (λ rows. (found : Option (List ℕ)) × (rows.items ≡ text_rows found) × IsSecurityAfter (entries_in register) (Some isin) found)
  security_above_shown isin (Ok rows) h =
      let passes : List ℕ → Bool = λ other. is_gt (slice_cmp nat_cmp other isin) in
      first_is_next register (Some isin) passes (λ other. flips isin other) (λ other. flips_back isin other) (Words isin ∷ []) rows.items
      (first_found old new has register are next_security_text (Words isin ∷ []) rows.items h _ _ (is_security passes)
      (λ number kept. later_test number kept.entry kept.reply 3 isin) (col 1 5) rising finds_next_security)
  security_above_shown isin (Err e) h = tt
