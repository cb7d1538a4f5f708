-- The reply to a run, word by word.
use Rattle.std.proofs.Common.{◌≡◌, ℕ, zero, suc, ◌+◌, ◌/◌, ◌%◌, Bool, true, false, if◌then◌else◌, List, [], ◌∷◌, ◌++◌, codes, decimal, All, Some, refl, ap, ◌∙◌, arith, append_assoc}
use Rattle.std.specs.Prelude.{◌==◌, nat_lt, slice_get}
use Rattle.std.specs.Fmt.{digits, digits_onto, digit_glyph}
use Rattle.std.specs.List.{slice_split}
use Rattle.std.specs.Str.{byte}
use Rattle.std.proofs.lemmas.Bool.Decides.{nat_tests}
use Rattle.std.proofs.lemmas.List.Splits.{slice_split_at, slice_split_none}
use Rattle.std.proofs.lemmas.List.Elements.{All-cons, All-nil}
use Rattle.desk_rules.specs.Reply.{accepted_text}
use Rattle.desk_journal.specs.Words.{word_at}

-- A number as `{}` writes it has no space in it, however great it is.

abbrev is_space : ℕ → Bool
is_space c = c == byte " "

abbrev NoSpace : List ℕ → Type 0
NoSpace text = All (λ c. is_space c ≡ false) text

no_space_glyph : (d : ℕ) → is_space (digit_glyph false d) ≡ false
no_space_glyph d = by (nat_lt d 10)
  where
    by : (small : Bool) → is_space (if small then 48 + d else 87 + d) ≡ false
    by true = grind (arith, nat_tests)
    by false = grind (arith, nat_tests)

one_of : (last : Bool) (a b : List ℕ) → NoSpace a → NoSpace b → NoSpace (if last then a else b)
one_of true a b x y = x
one_of false a b x y = y

no_space_onto : (k n : ℕ) (behind : List ℕ) → NoSpace behind → NoSpace (digits_onto k 10 false n behind)
no_space_onto zero n behind none = none
no_space_onto (suc k) n behind none =
    let more : NoSpace (digit_glyph false (n % 10) ∷ behind) = All-cons (λ c. is_space c ≡ false) (digit_glyph false (n % 10)) behind (no_space_glyph (n % 10)) none in
    one_of (n / 10 == 0) _ _ more (no_space_onto k (n / 10) (digit_glyph false (n % 10) ∷ behind) more)

no_space : (n : ℕ) → NoSpace (decimal n)
unfolding digits
no_space n = no_space_onto 64 n [] (All-nil (λ c. is_space c ≡ false))

-- the words behind the number of what is settled
abbrev waiting_text : ℕ → List ℕ
waiting_text waiting = codes "waiting " ++ decimal waiting

-- the words behind the number of the entry
abbrev counts_text : ℕ → ℕ → List ℕ
counts_text settled waiting = codes "settled " ++ (decimal settled ++ byte " " ∷ waiting_text waiting)

-- the reply with each word in front of what stands behind it
word_by_word : (n settled waiting : ℕ) → accepted_text n ++ codes " settled " ++ decimal settled ++ codes " waiting " ++ decimal waiting ≡ codes "accepted " ++ (decimal n ++ byte " " ∷ counts_text settled waiting)
word_by_word n settled waiting =
    let counted : List ℕ = codes " waiting " ++ decimal waiting in
    append_assoc (accepted_text n ++ codes " settled " ++ decimal settled) (codes " waiting ") (decimal waiting)
    ∙ append_assoc (accepted_text n ++ codes " settled ") (decimal settled) counted
    ∙ append_assoc (accepted_text n) (codes " settled ") (decimal settled ++ counted)
    ∙ append_assoc (codes "accepted ") (decimal n) (byte " " ∷ counts_text settled waiting)

-- its words
all_words : (n settled waiting : ℕ) → slice_split is_space (codes "accepted " ++ (decimal n ++ byte " " ∷ counts_text settled waiting)) ≡ codes "accepted" ∷ decimal n ∷ codes "settled" ∷ decimal settled ∷ codes "waiting" ∷ decimal waiting ∷ []
all_words n settled waiting =
    ap (λ w. codes "accepted" ∷ w) (slice_split_at is_space (decimal n) (byte " ") (counts_text settled waiting) (no_space n) refl
    ∙ ap (λ w. decimal n ∷ codes "settled" ∷ w) (slice_split_at is_space (decimal settled) (byte " ") (waiting_text waiting) (no_space settled) refl
    ∙ ap (λ w. decimal settled ∷ codes "waiting" ∷ w) (slice_split_none is_space (decimal waiting) (no_space waiting))))

pub settled_word : (n settled waiting : ℕ) → word_at (accepted_text n ++ codes " settled " ++ decimal settled ++ codes " waiting " ++ decimal waiting) 3 ≡ Some (decimal settled)
unfolding word_at
settled_word n settled waiting = ap (λ text. slice_get (slice_split is_space text) 3) (word_by_word n settled waiting) ∙ ap (λ words. slice_get words 3) (all_words n settled waiting)

pub waiting_word : (n settled waiting : ℕ) → word_at (accepted_text n ++ codes " settled " ++ decimal settled ++ codes " waiting " ++ decimal waiting) 5 ≡ Some (decimal waiting)
unfolding word_at
waiting_word n settled waiting = ap (λ text. slice_get (slice_split is_space text) 5) (word_by_word n settled waiting) ∙ ap (λ words. slice_get words 5) (all_words n settled waiting)
