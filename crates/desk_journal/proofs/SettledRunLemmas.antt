-- The run that settled an instruction, by the place of its confirmation.
use Rattle.std.proofs.Common.{◌≡◌, ℕ, Bool, true, false, ltb, List, [], ◌∷◌, length, get_or, Some, None, refl, sym, ap, ◌∙◌}
use Rattle.std.specs.Prelude.{option_map, slice_get}
use Rattle.std.specs.List.{find, list_any}
use Rattle.std.proofs.lemmas.Bool.{lt-ltb}
use Rattle.std.proofs.lemmas.Option.{get_or_from_slice_get, slice_get_within}
use Rattle.desk_rules.specs.declared.answers.reply.Notice.{Notice}
use Rattle.desk_rules.specs.declared.history.pair.Settled.{Settled}
use Rattle.desk_rules.specs.Books.{Books, is_settled}
use Rattle.desk_rules.specs.Pairing.{has_side}
use Rattle.desk_rules.specs.Sent.{notices_of}
use Rattle.desk_register.proofs.CaseLemmas.{by_bool}
use Rattle.desk_journal.specs.Runs.{settled_in}
use Rattle.desk_journal.specs.Sending.{IsConfirmedAt}

found_none : (test : Settled → Bool) (xs : List Settled) → list_any test xs ≡ false → find test xs ≡ None
found_none test [] none = refl
found_none test (x ∷ xs) none = by_bool (test x)
    (λ here. absurd (let e = rw here at none in cc))
    (λ other. rw other (found_none test xs (rw other at none)))

-- none where it is not settled
pub no_run : (books : Books) (n : ℕ) → is_settled books n ≡ false → None ≡ settled_in books n
no_run books n none = sym (ap (option_map (λ (s : Settled). s.run)) (found_none (λ (s : Settled). has_side n s.pair) books.settled none))

-- the one that the notice at the place tells, which is there
module _ (books : Books) (n place : ℕ) (notices : List Notice) (same : notices ≡ notices_of books) (is : IsConfirmedAt books n place) where
  at_place : slice_get notices place ≡ Some (record { about = n; run = Some is.run })
  at_place = ap (λ l. slice_get l place) same ∙ is.is_notice

  pub run_told : (notice : Notice) → notice ≡ get_or notices place notice → notice.run ≡ settled_in books n
  run_told notice at = ap (λ (z : Notice). z.run) (at ∙ get_or_from_slice_get notices place (record { about = n; run = Some is.run }) notice at_place) ∙ sym is.settled

  pub run_there : false ≡ ltb place (length notices) → ⊥
  run_there past = not_both (ltb place (length notices)) past (lt-ltb place (length notices) (slice_get_within notices place (record { about = n; run = Some is.run }) at_place))
    where
      not_both : (b : Bool) → false ≡ b → b ≡ true → ⊥
      not_both b no_more here = absurd (cc)
