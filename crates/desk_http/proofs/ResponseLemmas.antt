-- Several texts, added one after another.
use Rattle.std.proofs.Common.{◌≡◌, ℕ, true, nat_le, nat_lt, List, [], ◌++◌, Option, unwrap_or, subst, refl, arith}
use Rattle.std.specs.Io.KnownBytes.{Appends, append_known}
use Rattle.std.proofs.KnownBytes.{Appends-trans}
use Rattle.std.proofs.lemmas.Bool.Decides.{nat_tests}
use Rattle.http.specs.StatusCode.{IsStatusCode, reason_phrase}
use Rattle.desk_streams.proofs.OutboxLemmas.{all_written}
use Rattle.desk_http.specs.Response.{phrase}

pub phrase_is : (status : ℕ) → IsStatusCode status → unwrap_or (reason_phrase status) [] ≡ phrase status
phrase_is status is =
    let low : nat_le 100 status ≡ true = let least = is.0 in grind (arith, nat_tests) in
    let high : nat_lt status 1000 ≡ true = let most = is.1 in grind (arith, nat_tests) in
    rw (low, high) refl

pub three : (a b c d : Option (List ℕ)) (p q r : List ℕ) → Appends a b p → Appends b c q → Appends c d r → Appends a d (p ++ (q ++ r))
three a b c d p q r one two last = Appends-trans a b d p (q ++ r) one (Appends-trans b c d q r two last)

-- and five, of which the fourth is known by another name
pub five : (a b c d e f : Option (List ℕ)) (p q r s shown t : List ℕ) → shown ≡ s → Appends a b p → Appends b c q → Appends c d r → Appends d e shown → Appends e f t → Appends a f (p ++ (q ++ (r ++ (s ++ t))))
five a b c d e f p q r s shown t same one two third fourth last =
    let P : List ℕ → Type 0 = λ bytes. Appends d e bytes in
    Appends-trans a b f p (q ++ (r ++ (s ++ t))) one (Appends-trans b c f q (r ++ (s ++ t)) two (three c d e f r s t third (subst P same fourth) last))

-- where nothing waited, a head and a text were added, and what waits then was written
pub whole : (from a old new : Option (List ℕ)) (waited mid waits head text : List ℕ) → waited ≡ [] → Appends (append_known from waited) (append_known a mid) head → Appends (append_known a mid) (append_known old waits) text
    → Appends old new waits → Appends from new (head ++ text)
whole from a old new waited mid waits head text none one two last =
    let P : List ℕ → Type 0 = λ bytes. Appends (append_known from bytes) (append_known old waits) (head ++ text) in
    all_written from old new waits (head ++ text) (subst P none (Appends-trans (append_known from waited) (append_known a mid) (append_known old waits) head text one two)) last
