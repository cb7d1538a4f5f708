-- What is wanted is one where the order ties it.
use Rattle.std.proofs.Common.{◌≡◌, false, ap, sym, ◌∙◌}
use Rattle.std.specs.Ordering.{is_eq, nat_cmp}
use Rattle.std.specs.Cmp.Lexicographic.{slice_cmp}
use Rattle.std.proofs.lemmas.Map.Lookups.{CmpEqualImpliesEq, exact_bytes, exact_pairs}
use Rattle.desk_codes.specs.contracts.currency.CcyOrd.TheImpl as ccy_ord
use Rattle.desk_rules.proofs.Deciding.{same_ccy-true}
use Rattle.desk_register.proofs.CaseLemmas.{by_bool}
use Rattle.desk_codes.proofs.CurrencyLemmas.{tied_by_letters}
use Rattle.memory_short.specs.Wants.{want_cmp}
use Rattle.memory_short.specs.declared.wants.Want.{Want}
use Rattle.memory_short.specs.declared.wants.Want.TheVariants.{MoreHeld, LessHeld, MoreCash}
use Rattle.memory_short.proofs.PlaceCases.{equal_if}

exact_ccy : CmpEqualImpliesEq (ccy_ord.ghosts).cmp
exact_ccy a b e = same_ccy-true a b (sym (tied_by_letters a b) ∙ ap is_eq e)

pub exact_want : CmpEqualImpliesEq want_cmp
exact_want (MoreHeld a i) (MoreHeld b j) e = ap (λ z. MoreHeld z.0 z.1) (exact_pairs (slice_cmp nat_cmp) (slice_cmp nat_cmp) exact_bytes exact_bytes (a, i) (b, j) e)
exact_want (LessHeld a i) (LessHeld b j) e = ap (λ z. LessHeld z.0 z.1) (exact_pairs (slice_cmp nat_cmp) (slice_cmp nat_cmp) exact_bytes exact_bytes (a, i) (b, j) e)
exact_want (MoreCash a c) (MoreCash b d) e = ap (λ z. MoreCash z.0 z.1) (exact_pairs (slice_cmp nat_cmp) (ccy_ord.ghosts).cmp exact_bytes exact_ccy (a, c) (b, d) e)
exact_want a b e = absurd (cc)

pub by_want : (this other : Want) {G : Type 0} → (this ≡ other → G) → (is_eq (want_cmp this other) ≡ false → G) → G
by_want this other same apart = by_bool (is_eq (want_cmp this other)) (λ tied. same (exact_want this other (equal_if (want_cmp this other) tied))) apart
