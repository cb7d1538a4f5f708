-- The order of the ISINs, and the entries whose security is above one.
use Rattle.std.proofs.Common.{◌≡◌, ◌⊎◌, inl, inr, ℕ, ◌<◌, ◌≤◌, Bool, true, false, List, [], ◌∷◌, length, filter, bytes_eq, Option, Some, None, is_some, refl, ap, sym, ◌∙◌, arith}
use Rattle.std.proofs.lemmas.Bool.{cases_Bool, both_ways, false_from_ne_true}
use Rattle.std.proofs.lemmas.Cmp.{nat_list_cmp_total}
use Rattle.std.proofs.lemmas.Map.Text.{is_eq-slice_cmp}
use Rattle.std.specs.Ordering.{nat_cmp, is_lt, is_eq, ordering_reverse}
use Rattle.std.specs.Cmp.Lexicographic.{slice_cmp}
use Rattle.std.specs.declared.cmp.Ordering.{Ordering}
use Rattle.std.specs.declared.cmp.Ordering.TheVariants.{Less, Equal, Greater}
use Rattle.desk_msg.specs.declared.instruction.Kind.{Kind}
use Rattle.desk_rules.specs.declared.history.entry.Entry.{Entry}
use Rattle.desk_rules.specs.declared.history.entry.Entry.TheVariants.{Participant, Account, Security, Issue, Redeem, PayIn, PayOut, Instruct, Cancel, Run}
use Rattle.desk_rules.specs.Facts.{or_else, kind_by, kind_of}
use Rattle.desk_rules.proofs.Decided.{In, filter-In}
use Rattle.desk_rules.proofs.Existence.{filter_fewer}
use Rattle.desk_register.specs.Looked.{IsLess, IsAboveText, IsRegisteredAbove}
use Rattle.desk_register.specs.Registered.{security_by}
use Rattle.desk_register.proofs.CaseLemmas.{same_bytes}

-- The order of texts.

abbrev pub is_above : Option (List ℕ) → List ℕ → Bool
is_above None b = true
is_above (Some a) b = is_lt (slice_cmp nat_cmp a b)

pub above_yes : (last : Option (List ℕ)) (b : List ℕ) → IsAboveText last b → is_above last b ≡ true
above_yes None b up = refl
above_yes (Some a) b up = rw up refl

pub less_from : (o : Ordering) → is_lt o ≡ true → o ≡ Less
less_from Less e = refl
less_from Equal e = cc
less_from Greater e = cc

pub above_from : (last : Option (List ℕ)) (b : List ℕ) → is_above last b ≡ true → IsAboveText last b
above_from None b e = tt
above_from (Some a) b e = less_from (slice_cmp nat_cmp a b) e

pub never_less : (a : List ℕ) → IsLess a a → ⊥
never_less a less =
    let bad = sym less ∙ nat_list_cmp_total.antisymm a a ∙ ap ordering_reverse less in
    cc

not_less_itself : (a : List ℕ) → is_lt (slice_cmp nat_cmp a a) ≡ false
not_less_itself a = false_from_ne_true (is_lt (slice_cmp nat_cmp a a)) (λ e. never_less a (less_from (slice_cmp nat_cmp a a) e))

pub less_then : (a b c : List ℕ) → IsLess a b → IsLess b c → IsLess a c
less_then a b c p q = nat_list_cmp_total.trans a b c p q

pub above_then : (last : Option (List ℕ)) (a b : List ℕ) → IsAboveText last a → IsLess a b → IsAboveText last b
above_then None a b up less = tt
above_then (Some l) a b up less = less_then l a b up less

-- what is not above a text is below it, or the same
pub not_above : (a b : List ℕ) → is_lt (slice_cmp nat_cmp a b) ≡ false → IsLess b a ⊎ (b ≡ a)
not_above a b low = by_order (slice_cmp nat_cmp b a) refl where
  by_order : (o : Ordering) → slice_cmp nat_cmp b a ≡ o → IsLess b a ⊎ (b ≡ a)
  by_order Less e = inl e
  by_order Equal e = inr (same_bytes b a (sym (is_eq-slice_cmp b a) ∙ ap is_eq e))
  by_order Greater e = absurd (both_ways (is_lt (slice_cmp nat_cmp a b)) low (ap is_lt (nat_list_cmp_total.antisymm a b ∙ ap ordering_reverse e)))

-- The entry that registers a security.

said_by : (o more : Option Kind) → is_some (or_else o more) ≡ true → (is_some o ≡ true) ⊎ (is_some more ≡ true)
said_by None more e = inr e
said_by (Some kind) more e = inl refl

registers : (entry : Entry) (isin : List ℕ) → is_some (kind_by isin entry) ≡ true → security_by entry ≡ Some isin
registers (Participant reference bic) isin e = cc
registers (Account reference bic account) isin e = cc
registers (Security reference i kind) isin e = elim (cases_Bool (bytes_eq i isin)) [
  | inl same ↦ ap Some (same_bytes i isin same)
  | inr other ↦ (let bad = rw other at e in cc)
]
registers (Issue movement) isin e = cc
registers (Redeem movement) isin e = cc
registers (PayIn payment) isin e = cc
registers (PayOut payment) isin e = cc
registers (Instruct sender instruction) isin e = cc
registers (Cancel sender order) isin e = cc
registers (Run reference day rule) isin e = cc

pub record IsRegisteredIn (history : List Entry) (isin : List ℕ) : Type 0 where
  pub entry : Entry
  pub kept : In history entry
  pub is : security_by entry ≡ Some isin

pub registered : (history : List Entry) (isin : List ℕ) → is_some (kind_of history isin) ≡ true → IsRegisteredIn history isin
registered [] isin e = cc
registered (entry ∷ history) isin e = elim (said_by (kind_by isin entry) (kind_of history isin) e) [
  | inl here ↦ record { entry = entry; kept = inl refl; is = registers entry isin here }
  | inr there ↦ (let r = registered history isin there in record { entry = r.entry; kept = inr r.kept; is = r.is })
]

-- The entries whose security is above one.

abbrev is_named_above : Option (List ℕ) → Option (List ℕ) → Bool
is_named_above last None = false
is_named_above last (Some isin) = is_above last isin

abbrev registers_above : Option (List ℕ) → Entry → Bool
registers_above last entry = is_named_above last (security_by entry)

abbrev pub left_above : List Entry → Option (List ℕ) → ℕ
left_above history last = length (filter (registers_above last) history)

named_further : (last : Option (List ℕ)) (isin : List ℕ) (named : Option (List ℕ)) → IsAboveText last isin → is_named_above (Some isin) named ≡ true → is_named_above last named ≡ true
named_further last isin None up e = cc
named_further last isin (Some i) up e = above_yes last i (above_then last isin i up (less_from (slice_cmp nat_cmp isin i) e))

-- above a security there are fewer than above what it is above itself
pub fewer : (history : List Entry) (last : Option (List ℕ)) (isin : List ℕ) → IsRegisteredAbove history last isin → left_above history (Some isin) < left_above history last
fewer history last isin listed =
    let r = registered history isin listed.0 in
    filter_fewer (registers_above last) (registers_above (Some isin)) history r.entry
    (λ e above. named_further last isin (security_by e) listed.1 above) r.kept
    (ap (λ named. is_named_above last named) r.is ∙ above_yes last isin listed.1)
    (ap (λ named. is_named_above (Some isin) named) r.is ∙ not_less_itself isin)

some_left : {X : Type 0} (xs : List X) (x : X) → In xs x → 0 < length xs
some_left [] x i = absurd i
some_left (y ∷ ys) x i = omega arith

pub listed_is_left : (history : List Entry) (last : Option (List ℕ)) (isin : List ℕ) → IsRegisteredAbove history last isin → 0 < left_above history last
listed_is_left history last isin listed =
    let r = registered history isin listed.0 in
    some_left (filter (registers_above last) history) r.entry
    (filter-In (registers_above last) history r.entry r.kept (ap (λ named. is_named_above last named) r.is ∙ above_yes last isin listed.1))

filter_most : {X : Type 0} (p : X → Bool) (xs : List X) → length (filter p xs) ≤ length xs
filter_most p [] = omega arith
filter_most p (x ∷ xs) =
    let rest = filter_most p xs in
    elim (cases_Bool (p x)) [ inl in_it ↦ rw in_it (omega arith) | inr out ↦ rw out (omega arith) ]

-- there are no more of them than entries
pub left_most : (history : List Entry) (last : Option (List ℕ)) → left_above history last ≤ length history
left_most history last = filter_most (registers_above last) history
