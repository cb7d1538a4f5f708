-- What was accepted is a repeat ever after.
use Rattle.std.proofs.Common.{◌≡◌, suc, ℕ, ◌+◌, Bool, true, false, List, [], ◌∷◌, ◌++◌, length, inl, inr, refl, sym, ◌∙◌, ap, subst, arith}
use Rattle.std.proofs.lemmas.Bool.{cases_Bool}
use Rattle.std.proofs.lemmas.List.Folds.{list_any-append}
use Rattle.std.proofs.lemmas.Slice.Eq.{bytes_eq-Decides}
use Rattle.std.specs.Prelude.{MatchBool, Option, Some, None, not, bytes_eq, slice_get, option_map}
use Rattle.std.specs.List.{list_any}
use Rattle.desk_rules.specs.declared.history.entry.Entry.{Entry}
use Rattle.desk_rules.specs.declared.history.entry.Sender.{Sender}
use Rattle.desk_rules.specs.declared.history.entry.Sender.TheVariants.{Operator, Participant as FromParticipant}
use Rattle.desk_rules.specs.declared.answers.verdict.Verdict.TheVariants.{Accept, Repeat, Refuse}
use Rattle.desk_rules.specs.declared.answers.verdict.Refusal.TheVariants.{SenderUnknown}
use Rattle.desk_rules.specs.History.{as_asked, entry_at, has_key, number_from, number_of_key, reference_of, same_sender, sender_of}
use Rattle.desk_rules.specs.Books.{Books}
use Rattle.desk_rules.specs.Verdict.{AsksTheSame, IsVerdict, IsVerdictAt, is_from_stranger}
use Rattle.desk_rules.specs.Facts.{adds_participant}

-- an entry behind those that do not have its key is the first that has it

own_bytes : (bytes : List ℕ) → bytes_eq bytes bytes ≡ true
own_bytes bytes = (bytes_eq-Decides bytes bytes).1 refl

own_sender : (sender : Sender) → same_sender sender sender ≡ true
own_sender Operator = refl
own_sender (FromParticipant bic) = own_bytes bic

pub own_key : (entry : Entry) → has_key (sender_of entry) (reference_of entry) entry ≡ true
own_key entry = rw (own_sender (sender_of entry)) (own_bytes (reference_of entry))

number_here : (n : ℕ) (sender : Sender) (reference : List ℕ) (entry : Entry) (rest : List Entry) → has_key sender reference entry ≡ true → number_from n sender reference (entry ∷ rest) ≡ Some n
number_here n sender reference entry rest is = rw is refl

number_later : (n : ℕ) (sender : Sender) (reference : List ℕ) (entry : Entry) (rest : List Entry) → has_key sender reference entry ≡ false
    → number_from n sender reference (entry ∷ rest) ≡ number_from (n + 1) sender reference rest
number_later n sender reference entry rest is = rw is refl

pub number_behind : (n : ℕ) (sender : Sender) (reference : List ℕ) (front : List Entry) (entry : Entry) (rest : List Entry) → number_from n sender reference front ≡ None
    → has_key sender reference entry ≡ true → number_from n sender reference (front ++ entry ∷ rest) ≡ Some (n + length front)
number_behind n sender reference [] entry rest none is =
    let e : n ≡ n + 0 = omega arith in
    number_here n sender reference entry rest is ∙ ap Some e
number_behind n sender reference (first ∷ front) entry rest none is = elim (cases_Bool (has_key sender reference first)) [
  | inl same ↦ let found : Some n ≡ None = sym (number_here n sender reference first front same) ∙ none in cc
  | inr other ↦
      let none_later = sym (number_later n sender reference first front other) ∙ none in
      let later = number_behind (n + 1) sender reference front entry rest none_later is in
      let e : n + 1 + length front ≡ n + suc (length front) = omega arith in
      number_later n sender reference first (front ++ entry ∷ rest) other ∙ later ∙ ap Some e
]

pub get_behind : (front : List Entry) (entry : Entry) (rest : List Entry) → slice_get (front ++ entry ∷ rest) (length front) ≡ Some entry
get_behind [] entry rest = refl
get_behind (first ∷ front) entry rest = get_behind front entry rest

-- who is a participant stays one

known_still : (bic : List ℕ) (front rest : List Entry) → list_any (adds_participant bic) front ≡ true → list_any (adds_participant bic) (front ++ rest) ≡ true
known_still bic front rest known = list_any-append (adds_participant bic) front rest ∙ rw known refl

pub never : (b : Bool) → not b ≡ false → b ≡ true
never true e = refl
never false e = cc

pub no_stranger : (sender : Sender) (front rest : List Entry) → is_from_stranger front sender ≡ false → is_from_stranger (front ++ rest) sender ≡ false
no_stranger Operator front rest e = refl
no_stranger (FromParticipant bic) front rest e = ap not (known_still bic front rest (never (list_any (adds_participant bic) front) e))

-- an entry that is accepted comes from no stranger, with a key that is new

pub record IsNew (history : List Entry) (entry : Entry) : Type 0 where
  pub known : is_from_stranger history (sender_of entry) ≡ false
  pub key : number_of_key history (sender_of entry) (reference_of entry) ≡ None

new_key : (limit : ℕ) (books : Books) (entry : Entry) (number : Option ℕ) → IsVerdictAt limit books entry number Accept → number ≡ None
new_key limit books entry None is = refl
new_key limit books entry (Some n) is = absurd is

new_by : (limit : ℕ) (books : Books) (entry : Entry) (stranger : Bool) (number : Option ℕ) → MatchBool stranger (Accept ≡ Refuse SenderUnknown) (IsVerdictAt limit books entry number Accept)
    → (stranger ≡ false) × (number ≡ None)
new_by limit books entry true number is = cc
new_by limit books entry false number is = (refl, new_key limit books entry number is)

pub is_new : (limit : ℕ) (books : Books) (entry : Entry) → IsVerdict limit books entry Accept → IsNew books.history entry
is_new limit books entry is =
    let both = new_by limit books entry (is_from_stranger books.history (sender_of entry)) (number_of_key books.history (sender_of entry) (reference_of entry)) is in
    record { known = both.0; key = both.1 }

repeat_by : (limit : ℕ) (books : Books) (entry : Entry) (stranger : Bool) (number : Option ℕ) (n : ℕ) → stranger ≡ false → number ≡ Some n → AsksTheSame books.history n entry
    → MatchBool stranger (Repeat n ≡ Refuse SenderUnknown) (IsVerdictAt limit books entry number (Repeat n))
repeat_by limit books entry stranger number n known same at =
    let P : Bool → Type 0 = λ b. MatchBool b (Repeat n ≡ Refuse SenderUnknown) (IsVerdictAt limit books entry number (Repeat n)) in
    let Q : Option ℕ → Type 0 = λ o. IsVerdictAt limit books entry o (Repeat n) in
    subst P (sym known) (subst Q (sym same) (refl, at))

pub accepted_once : (limit : ℕ) (books after : Books) (entry : Entry) (rest : List Entry) → IsVerdict limit books entry Accept → after.history ≡ books.history ++ entry ∷ rest
    → IsVerdict limit after entry (Repeat (suc (length books.history)))
accepted_once limit books after entry rest accepted grown =
    let new = is_new limit books entry accepted in
    let n = suc (length books.history) in
    let known = ap (λ h. is_from_stranger h (sender_of entry)) grown ∙ no_stranger (sender_of entry) books.history (entry ∷ rest) new.known in
    let number = number_behind 1 (sender_of entry) (reference_of entry) books.history entry rest new.key (own_key entry) in
    let e : 1 + length books.history ≡ suc (length books.history) = omega arith in
    let key = ap (λ h. number_of_key h (sender_of entry) (reference_of entry)) grown ∙ number ∙ ap Some e in
    let at = ap (λ h. option_map as_asked (entry_at h n)) grown ∙ ap (λ o. option_map as_asked o) (get_behind books.history entry rest) in
    repeat_by limit after entry (is_from_stranger after.history (sender_of entry)) (number_of_key after.history (sender_of entry) (reference_of entry)) n known key at
