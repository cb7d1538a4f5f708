-- The messages as their addressees ask for them, with one message more.
use Rattle.std.proofs.Common.{◌≡◌, ℕ, ◌+◌, ◌^◌, ◌<◌, Bool, true, cond, if◌then◌else◌, List, [], ◌∷◌, ◌++◌, length, take, count_by, Some, sym, ◌∙◌, ap, arith}
use Rattle.std.specs.Prelude.{bytes_eq, slice_get, unwrap_or}
use Rattle.std.specs.BTreeMap.{BTreeMap, get}
use Rattle.std.proofs.lemmas.List.{append-nil, append_assoc, take_more}
use Rattle.std.proofs.lemmas.List.Sums.{count_by-le-length, sum_by-append}
use Rattle.std.proofs.lemmas.Option.{get_or_from_slice_get, slice_get_within}
use Rattle.std.proofs.lemmas.Map.Text.{is_eq-slice_cmp}
use Rattle.desk_rules.specs.declared.answers.reply.Sent.{Sent}
use Rattle.desk_register.proofs.CaseLemmas.{by_bool, same_bytes}
use Rattle.desk_journal.specs.Counting.{AreCounted, CountsMore, bic_cmp}
use Rattle.desk_journal.specs.Messages.{key_after, keys_after}

-- the elements before the next place are those before a place, and the one there
pub one_more : {X : Type 0} (xs : List X) (n : ℕ) (x : X) → slice_get xs n ≡ Some x → take (n + 1) xs ≡ take n xs ++ x ∷ []
one_more xs n x is = take_more xs n x (slice_get_within xs n x is) ∙ ap (λ z. take n xs ++ z ∷ []) (get_or_from_slice_get xs n x x is)

-- the keys of messages, and of one more
pub keys_more : (earlier messages : List Sent) (m : Sent) → keys_after earlier (messages ++ m ∷ []) ≡ keys_after earlier messages ++ key_after (earlier ++ messages) m ∷ []
keys_more earlier [] m = ap (λ z. key_after z m ∷ []) (sym (append-nil earlier))
keys_more earlier (x ∷ messages) m =
    ap (λ z. key_after earlier x ∷ z) (keys_more (earlier ++ x ∷ []) messages m)
    ∙ ap (λ z. key_after earlier x ∷ (keys_after (earlier ++ x ∷ []) messages ++ key_after z m ∷ [])) (append_assoc earlier (x ∷ []) messages)

-- a message to this addressee
abbrev goes_to : List ℕ → Sent → Bool
goes_to bic m = bytes_eq m.bic bic

-- how many messages go to an addressee
abbrev count_to : List ℕ → List Sent → ℕ
count_to bic messages = count_by (goes_to bic) messages

count_more : (bic : List ℕ) (messages : List Sent) (m : Sent) → count_to bic (messages ++ m ∷ []) ≡ count_to bic messages + cond (goes_to bic m) 1 0
count_more bic messages m = let both = sum_by-append (λ x. cond (goes_to bic x) 1 0) messages (m ∷ []) in omega (arith, both)

module _ (old new : BTreeMap (List ℕ) ℕ) (messages : List Sent) (m : Sent) (now : ℕ) (counted : AreCounted old messages) (few : length messages + 1 < 2 ^ 64) (more : CountsMore bic_cmp old m.bic now new) where
  -- the number of the message among those to its addressee
  pub number_more : now ≡ count_to m.bic messages + 1
  number_more =
      let before = counted.each m.bic in
      let le = count_by-le-length (goes_to m.bic) messages in
      let number = more.count (omega (arith, before, le, few)) in
      omega (arith, number, before)

  -- the count of each BIC

  counted_now : (bic : List ℕ) → unwrap_or (get bic_cmp new bic) 0 ≡ unwrap_or (if bytes_eq m.bic bic then Some now else get bic_cmp old bic) 0
  counted_now bic = ap (λ o. unwrap_or o 0) (more.each bic ∙ ap (λ b. if b then Some now else get bic_cmp old bic) (is_eq-slice_cmp m.bic bic))

  its_own : (bic : List ℕ) → bytes_eq m.bic bic ≡ true → now ≡ count_to bic messages + 1
  its_own bic same = number_more ∙ ap (λ z. count_to z messages + 1) (same_bytes m.bic bic same)

  no_more : (n : ℕ) → n ≡ n + 0
  no_more n = omega arith

  counted_each : (bic : List ℕ) → unwrap_or (get bic_cmp new bic) 0 ≡ count_to bic (messages ++ m ∷ [])
  counted_each bic = by_bool (bytes_eq m.bic bic)
      (λ same.
      counted_now bic
      ∙ ap (λ b. unwrap_or (if b then Some now else get bic_cmp old bic) 0) same
      ∙ its_own bic same
      ∙ ap (λ b. count_to bic messages + cond b 1 0) (sym same)
      ∙ sym (count_more bic messages m))
      (λ other.
      counted_now bic
      ∙ ap (λ b. unwrap_or (if b then Some now else get bic_cmp old bic) 0) other
      ∙ counted.each bic
      ∙ no_more (count_to bic messages)
      ∙ ap (λ b. count_to bic messages + cond b 1 0) (sym other)
      ∙ sym (count_more bic messages m))

  pub counted_more : AreCounted new (messages ++ m ∷ [])
  counted_more = record { each = counted_each }
