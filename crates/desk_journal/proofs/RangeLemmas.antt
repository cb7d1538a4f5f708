-- The messages of an entry, among all that was sent.
use Rattle.std.proofs.Common.{◌≡◌, ℕ, zero, suc, true, false, ◌+◌, ◌-◌, ◌<◌, ◌≤◌, List, [], ◌∷◌, ◌++◌, length, map, take, drop, Option, Some, None, refl, sym, ap, ◌∙◌, arith, length-append, append-nil}
use Rattle.std.specs.Prelude.{slice_index_or, slice_range, unwrap_or}
use Rattle.std.specs.Borrow.{Bor}
use Rattle.std.specs.List.{PartBy, flat_map, range_with_len}
use Rattle.desk_rules.specs.declared.answers.reply.Sent.{Sent}
use Rattle.desk_rules.specs.Books.{AreBooks, Books}
use Rattle.desk_rules.specs.Sent.{notices_of, sent_of, told_by}
use Rattle.desk_rules.proofs.SentFronts.{flat-append, range-append}
use Rattle.desk_rules.proofs.SentNumbers.{all_known, sent_length}
use Rattle.desk_journal.specs.declared.rows.journal.MessageKey.{MessageKey}
use Rattle.desk_journal.specs.Messages.{keys_after, keys_of, messages_of, sent_upto}
use Rattle.desk_journal.specs.Sending.{IsSending}
use Rattle.desk_journal.specs.declared.sending.Sending.{Sending}

-- a value of a range, by its place
value_at : {X : Type 0} (f : ℕ → X) (a n k : ℕ) (none : X) → k < n → slice_index_or (map f (range_with_len a n)) k none ≡ f (a + k)
value_at f a zero k none lt = absurd (omega arith)
value_at f a (suc n) zero none lt = let same : a ≡ a + zero = omega arith in ap f same
value_at f a (suc n) (suc k) none lt = let next : a + 1 + k ≡ a + suc k = omega arith in value_at f (a + 1) n k none (omega arith) ∙ ap f next

-- how many messages were sent up to the end of an entry, as it was noted
pub sent_by_noted : (books : Books) (ends : List ℕ) (count number index : ℕ) → ends ≡ map (sent_upto books) (range_with_len 1 count) → 1 ≤ number → number - 1 ≡ index → number ≤ count → slice_index_or ends index 0 ≡ sent_upto books number
sent_by_noted books ends count number index are some is within =
    let below : index < count = omega (arith, some, is, within) in
    let next : 1 + index ≡ number = omega (arith, some, is) in
    ap (λ l. slice_index_or l index 0) are ∙ value_at (sent_upto books) 1 count index 0 below ∙ ap (sent_upto books) next

upto_more : (books : Books) (n : ℕ) → sent_upto books (n + 1) ≡ sent_upto books n + length (told_by books (n + 1))
upto_more books n =
    let next : 1 + n ≡ n + 1 = omega arith in
    let one : flat_map (told_by books) (range_with_len (1 + n) 1) ≡ told_by books (n + 1) = append-nil (told_by books (1 + n)) ∙ ap (told_by books) next in
    ap length (ap (flat_map (told_by books)) (range-append 1 n 1) ∙ flat-append (told_by books) (range_with_len 1 n) (range_with_len (1 + n) 1) ∙ ap (λ z. flat_map (told_by books) (range_with_len 1 n) ++ z) one)
    ∙ length-append (flat_map (told_by books) (range_with_len 1 n)) (told_by books (n + 1))

upto_entry : (books : Books) (n : ℕ) → 0 < n → sent_upto books n ≡ sent_upto books (n - 1) + length (told_by books n)
upto_entry books zero some = absurd (omega arith)
upto_entry books (suc n) some =
    let next : n + 1 ≡ suc n = omega arith in
    let less : n ≡ suc n - 1 = omega arith in
    ap (sent_upto books) (sym next) ∙ upto_more books n ∙ ap (λ k. sent_upto books n + length (told_by books k)) next ∙ ap (λ k. sent_upto books k + length (told_by books (suc n))) less

upto_grows : (books : Books) (n more : ℕ) → sent_upto books n ≤ sent_upto books (n + more)
upto_grows books n zero = let same : n + zero ≡ n = omega arith in let at = ap (sent_upto books) same in omega (arith, at)
upto_grows books n (suc more) =
    let before = upto_grows books n more in
    let step = upto_more books (n + more) in
    let next : n + more + 1 ≡ n + suc more = omega arith in
    let at = ap (sent_upto books) next in
    omega (arith, before, step, at)

keys_long : (earlier messages : List Sent) → length (keys_after earlier messages) ≡ length messages
keys_long earlier [] = refl
keys_long earlier (message ∷ messages) = ap suc (keys_long (earlier ++ message ∷ []) messages)

-- none of them stand behind the last message
upto_most : (books : Books) (n : ℕ) → AreBooks books → n ≤ length books.history → sent_upto books n ≤ length (keys_of books)
upto_most books n are within =
    let all = keys_long [] (sent_of books) ∙ sent_length books.history 1 (notices_of books) (all_known books are) in
    let grows = upto_grows books n (length books.history - n) in
    let whole : n + (length books.history - n) ≡ length books.history = omega (arith, within) in
    let at = ap (sent_upto books) whole in
    omega (arith, all, grows, at)

-- so the entry's own are those between the ends of the one before it and its own
messages_between : (books : Books) (n : ℕ) → 0 < n → take (sent_upto books n - sent_upto books (n - 1)) (drop (sent_upto books (n - 1)) (keys_of books)) ≡ messages_of books n
messages_between books n some =
    let step = upto_entry books n some in
    let size : sent_upto books n - sent_upto books (n - 1) ≡ length (told_by books n) = omega (arith, step) in
    ap (λ k. take k (drop (sent_upto books (n - 1)) (keys_of books))) size

part_found : {X : Type 0} (xs : List X) (from to : ℕ) (r : Option (Bor (List X))) (other : Bor (List X)) → PartBy (λ (x : Bor (List X)). x.now) xs from to r → from ≤ to → to ≤ length xs → (unwrap_or r other).now ≡ slice_range xs from to
part_found xs from to None other part begins ends = (let clash : false ≡ true = part.1 (begins, ends) in absurd (cc))
part_found xs from to (Some x) other part begins ends = part.0.2

messages_found : (books : Books) (n : ℕ) (keys : List MessageKey) (from to : ℕ) (r : Option (Bor (List MessageKey))) (other : Bor (List MessageKey)) → AreBooks books → 0 < n → n ≤ length books.history → keys ≡ keys_of books → from ≡ sent_upto books (n - 1)
    → to ≡ sent_upto books n → PartBy (λ (x : Bor (List MessageKey)). x.now) keys from to r → (unwrap_or r other).now ≡ messages_of books n
messages_found books n keys from to r other are some within same begin end part =
    let step = upto_entry books n some in
    let most = upto_most books n are within in
    let long = ap length same in
    part_found keys from to r other part (omega (arith, step, begin, end)) (omega (arith, most, end, long))
    ∙ ap (λ k. slice_range keys k to) begin ∙ ap (λ k. slice_range keys (sent_upto books (n - 1)) k) end
    ∙ ap (λ l. slice_range l (sent_upto books (n - 1)) (sent_upto books n)) same
    ∙ messages_between books n some

-- how many messages were sent up to the end of an entry, as it was looked up
abbrev TellsEnd : List ℕ → ℕ → ℕ → Type 0
TellsEnd ends n sent = (books : Books) (count : ℕ) → ends ≡ map (sent_upto books) (range_with_len 1 count) → n ≤ count → sent ≡ sent_upto books n

pub messages_told : (sending : Sending) (n less from to : ℕ) (ends others : List ℕ) (keys : List MessageKey) (r : Option (Bor (List MessageKey))) (other result : Bor (List MessageKey)) → result ≡ unwrap_or r other
    → PartBy (λ (x : Bor (List MessageKey)). x.now) keys from to r → keys ≡ sending.keys.items → TellsEnd ends less from → less ≡ n - 1 → ends ≡ sending.ends.items → TellsEnd others n to → others ≡ sending.ends.items
    → (books : Books) → AreBooks books → IsSending books sending → 0 < n → n ≤ length books.history → result.now ≡ messages_of books n
messages_told sending n less from to ends others keys r other result is part same first before those last these books are sent some within =
    let begin = first books (length books.history) (those ∙ sent.ends) (omega (arith, before, within)) ∙ ap (sent_upto books) before in
    let end = last books (length books.history) (these ∙ sent.ends) within in
    ap (λ x. x.now) is ∙ messages_found books n keys from to r other are some within (same ∙ sent.keys) begin end part
