-- Words that begin with no hyphen, as the parser of words takes them.
use Rattle.std.proofs.Common.{◌≡◌, ◌≢◌, ◌==◌, ℕ, Bool, true, false, List, [], ◌∷◌, None, slice_index, refl, arith}
use Rattle.std.specs.Str.{bytes_eq}
use Rattle.clap.specs.Lexer.{long_of, short_of, without_minus}
use Rattle.desk_words.specs.Words.{IsNoOption}

-- a word that does not begin by a hyphen is no option

pub is_other : (c : ℕ) → c ≢ 45 → (c == 45) ≡ false
is_other c other = go (c == 45) refl
  where
    go : (b : Bool) → (c == 45) ≡ b → (c == 45) ≡ false
    go false e = e
    go true e = grind (arith, other, e)

pub no_dashes : (word : List ℕ) → slice_index word 0 ≢ 45 → bytes_eq word (45 ∷ 45 ∷ []) ≡ false
no_dashes [] other = refl
no_dashes (c ∷ word) other = let e : (c == 45) ≡ false = is_other c other in rw e refl

pub no_long : (word : List ℕ) → slice_index word 0 ≢ 45 → long_of word ≡ None
no_long [] other = refl
no_long (c ∷ word) other = let e : (c == 45) ≡ false = is_other c other in rw e refl

pub no_short : (word : List ℕ) → slice_index word 0 ≢ 45 → short_of word ≡ None
no_short [] other = refl
no_short (c ∷ word) other = let e : (c == 45) ≡ false = is_other c other in rw e refl

pub no_minus : (word : List ℕ) → slice_index word 0 ≢ 45 → without_minus word ≡ word
no_minus [] other = refl
no_minus (c ∷ word) other = let e : (c == 45) ≡ false = is_other c other in rw e refl

-- what the parser finds of a word that begins with no hyphen
pub record IsPlain (text : List ℕ) : Type 0 where
  pub dashes : bytes_eq text (45 ∷ 45 ∷ []) ≡ false
  pub long : long_of text ≡ None
  pub short : short_of text ≡ None

pub plain_word : (text : List ℕ) → IsNoOption text → IsPlain text
plain_word text other = record { dashes = no_dashes text other; long = no_long text other; short = no_short text other }
