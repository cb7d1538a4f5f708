-- What was sent that confirms an instruction, with one message more, and with one less; which message has the number.
use Rattle.std.proofs.Common.{◌≡◌, ℕ, zero, suc, ◌+◌, Bool, true, false, List, [], ◌∷◌, ◌++◌, length, map, Some, None, refl, arith}
use Rattle.std.specs.Prelude.{if◌then◌else◌, ◌==◌, slice_get}
use Rattle.std.specs.List.{find}
use Rattle.std.specs.Ordering.{is_eq, nat_cmp}
use Rattle.std.specs.BTreeMap.{BTreeMap, get}
use Rattle.desk_rules.specs.declared.answers.reply.Sent.{Sent}
use Rattle.desk_rules.specs.Questions.{sent_at}
use Rattle.memory_register.specs.declared.sent.confirmations.Confirmations.{Confirmations}
use Rattle.memory_register.specs.declared.sent.heading.Heading.{Heading}
use Rattle.memory_register.specs.Confirmations.{AreConfirmations, confirms}
use Rattle.memory_register.specs.FirstNumbers.{first_from, first_number, number_if, or_number, without}
use Rattle.memory_register.specs.Headings.{is_confirmation}
use Rattle.desk_register.proofs.CaseLemmas.{by_bool}
use Rattle.memory_register.proofs.FirstLemmas.{at_least, first_forgotten, first_kept, first_noted, first_stays}

same_about : (i j : ℕ) → (i == j) ≡ is_eq (nat_cmp i j)
same_about i j = grind arith

module _ (old : Confirmations) (headings : List Heading) (h : Heading) (n : ℕ) (is : n ≡ length headings + 1) where
  module _ (numbers : BTreeMap ℕ ℕ) (confirming : is_confirmation h ≡ true) where
    tests : (q : ℕ) → confirms q h ≡ is_eq (nat_cmp h.about q)
    tests q = rw confirming (same_about h.about q)

    pub noted : AreConfirmations old headings → ((q : ℕ) → get nat_cmp numbers q ≡ or_number (get nat_cmp old.numbers q) (number_if (is_eq (nat_cmp h.about q)) n)) → AreConfirmations (record { numbers = numbers }) (headings ++ h ∷ [])
    noted are put = record { numbers = first_noted nat_cmp confirms old.numbers headings h n is numbers h.about tests put are.numbers }

    pub forgotten : AreConfirmations old (headings ++ h ∷ []) → ((q : ℕ) → get nat_cmp numbers q ≡ (if is_eq (nat_cmp h.about q) then without n (get nat_cmp old.numbers q) else get nat_cmp old.numbers q))
        → AreConfirmations (record { numbers = numbers }) headings
    forgotten are took = record { numbers = first_forgotten nat_cmp confirms old.numbers headings h n is numbers h.about tests took are.numbers }

  module _ (other : is_confirmation h ≡ false) where
    apart : (q : ℕ) → confirms q h ≡ false
    apart q = rw other refl

    pub kept : AreConfirmations old headings → AreConfirmations old (headings ++ h ∷ [])
    kept are = record { numbers = first_kept nat_cmp confirms old.numbers headings h n is apart are.numbers }

    pub stays : AreConfirmations old (headings ++ h ∷ []) → AreConfirmations old headings
    stays are = record { numbers = first_stays nat_cmp confirms old.numbers headings h n is apart are.numbers }

-- Which message has the number.

module _ {B : Type 0} (f : Sent → B) (t : B → Bool) where
  none_from : (n : ℕ) (sent : List Sent) → first_from n t (map f sent) ≡ None → find (λ x. t (f x)) sent ≡ None
  none_from n [] e = refl
  none_from n (x ∷ sent) e = by_bool (t (f x))
      (λ here. absurd (let bad = rw here at e in cc))
      (λ other. rw other (none_from (n + 1) sent (rw other at e)))

  found_from : (n m i : ℕ) (sent : List Sent) → first_from n t (map f sent) ≡ Some m → m ≡ n + i → find (λ x. t (f x)) sent ≡ slice_get sent i
  found_from n m i [] e is = absurd (let bad = e in cc)
  found_from n m zero (x ∷ sent) e is = by_bool (t (f x))
      (λ here. rw here refl)
      (λ other. let least = at_least (n + 1) t (map f sent) m (rw other at e) in absurd (omega arith))
  found_from n m (suc i) (x ∷ sent) e is = by_bool (t (f x))
      (λ here. let at : n ≡ m = let g = rw here at e in cc in absurd (omega arith))
      (λ other. rw other (found_from (n + 1) m i sent (rw other at e) (omega arith)))

  -- with no number there is no such message
  pub not_found : (sent : List Sent) → first_number t (map f sent) ≡ None → find (λ x. t (f x)) sent ≡ None
  not_found sent e = none_from 1 sent e

  -- the message of the number is the first
  pub found_at : (sent : List Sent) (m : ℕ) → first_number t (map f sent) ≡ Some m → find (λ x. t (f x)) sent ≡ sent_at sent m
  found_at sent zero e = let least = at_least 1 t (map f sent) 0 e in absurd (omega arith)
  found_at sent (suc i) e = found_from 1 (suc i) i sent e (omega arith)
