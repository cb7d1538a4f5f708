-- A reply to an entry has a known status, and a refusal a number of the catalogue.
use Rattle.std.proofs.Common.{◌≡◌, ℕ, ◌⊎◌, inl, inr, take, Option, Some, None, refl, sym, ◌∙◌, ap, if◌then◌else◌, ◌==◌}
use Rattle.std.specs.Prelude.{option_map}
use Rattle.desk_rules.specs.declared.history.entry.Entry.{Entry}
use Rattle.desk_rules.specs.declared.history.entry.Entry.TheVariants.{Participant, Account, Security, Issue, Redeem, PayIn, PayOut, Instruct, Cancel, Run}
use Rattle.desk_rules.specs.declared.answers.reply.Reply.{Reply}
use Rattle.desk_rules.specs.declared.answers.verdict.Refusal.{Refusal}
use Rattle.desk_rules.specs.declared.answers.verdict.Refusal.TheVariants.{SenderUnknown, ReferenceReused, PlaceNotUs, UnknownSecurity, KindDiffers, AccountNotSenders, CounterpartyUnknown, NoSuchInstruction, AlreadyCancelled, AlreadySettled, Full, CancellationWaits, CommandReused, Exists, ParticipantUnknown, AccountUnknown, SecurityUnknown, OverLimit, NotEnough, DayGoesBack}
use Rattle.desk_rules.specs.declared.answers.verdict.Verdict.{Verdict}
use Rattle.desk_rules.specs.declared.answers.verdict.Verdict.TheVariants.{Accept, Repeat, Refuse}
use Rattle.desk_rules.specs.History.{as_asked, entry_at}
use Rattle.desk_rules.specs.Refusals.{number_of_refusal}
use Rattle.desk_rules.specs.Books.{Books}
use Rattle.desk_rules.specs.Reply.{reply_to, refused_reply, IsReply, TellsRefusal}
use Rattle.desk_rules.proofs.Existence.{books_exist}

accepted_status : (books : Books) (entry : Entry) → (reply_to books entry).status ≡ 200
accepted_status books (Participant reference bic) = refl
accepted_status books (Account reference bic account) = refl
accepted_status books (Security reference isin kind) = refl
accepted_status books (Issue movement) = refl
accepted_status books (Redeem movement) = refl
accepted_status books (PayIn payment) = refl
accepted_status books (PayOut payment) = refl
accepted_status books (Instruct sender instruction) = refl
accepted_status books (Cancel sender order) = refl
accepted_status books (Run reference day rule) = refl

refused_status : (books : Books) (entry : Entry) (number : ℕ) → (refused_reply books entry number).status ≡ 422
refused_status books (Participant reference bic) number = refl
refused_status books (Account reference bic account) number = refl
refused_status books (Security reference isin kind) number = refl
refused_status books (Issue movement) number = refl
refused_status books (Redeem movement) number = refl
refused_status books (PayIn payment) number = refl
refused_status books (PayOut payment) number = refl
refused_status books (Instruct sender instruction) number = refl
refused_status books (Cancel sender order) number = refl
refused_status books (Run reference day rule) number = refl

some_asked : (o : Option Entry) (e : Entry) → option_map as_asked o ≡ Some e → (x : Entry) × (o ≡ Some x)
some_asked None e is = absurd (cc)
some_asked (Some x) e is = (x, refl)

pub known_reply : (books after : Books) (entry : Entry) (verdict : Verdict) (reply : Reply) → IsReply books entry verdict after reply
    → (reply.status ≡ 200) ⊎ ((reply.status ≡ 422) × TellsRefusal books entry reply)
known_reply books after entry Accept reply is = inl (ap (λ (r : Reply). r.status) is.1 ∙ accepted_status after entry)
known_reply books after entry (Repeat n) reply is =
    let found = some_asked (entry_at books.history n) (as_asked entry) is.0 in
    let all = books_exist (take n books.history) in
    let front : Books = record { history = take n books.history; pairs = all.0; settled = all.1 } in
    let first = is.1.is front found.0 refl (record { pairing = all.2.pairing; settlement = all.2.settlement }) found.1 in
    inl (ap (λ (r : Reply). r.status) first ∙ accepted_status front found.0)
known_reply books after entry (Refuse refusal) reply is =
    inr (ap (λ (r : Reply). r.status) is ∙ refused_status books entry (number_of_refusal refusal), record { number = number_of_refusal refusal; known = (refusal, refl); is = is })

-- The refusal of a number.
refusal_of : ℕ → Option Refusal
refusal_of n =
    if n == 10 then Some SenderUnknown
    else (if n == 11 then Some ReferenceReused
    else (if n == 12 then Some PlaceNotUs
    else (if n == 13 then Some UnknownSecurity
    else (if n == 14 then Some KindDiffers
    else (if n == 15 then Some AccountNotSenders
    else (if n == 16 then Some CounterpartyUnknown
    else (if n == 17 then Some NoSuchInstruction
    else (if n == 18 then Some AlreadyCancelled
    else (if n == 19 then Some AlreadySettled
    else (if n == 21 then Some Full
    else (if n == 22 then Some CancellationWaits
    else (if n == 31 then Some CommandReused
    else (if n == 32 then Some Exists
    else (if n == 33 then Some ParticipantUnknown
    else (if n == 34 then Some AccountUnknown
    else (if n == 35 then Some SecurityUnknown
    else (if n == 36 then Some OverLimit
    else (if n == 37 then Some NotEnough
    else (if n == 38 then Some DayGoesBack else None)))))))))))))))))))

of_number : (r : Refusal) → refusal_of (number_of_refusal r) ≡ Some r
unfolding refusal_of
of_number SenderUnknown = refl
of_number ReferenceReused = refl
of_number PlaceNotUs = refl
of_number UnknownSecurity = refl
of_number KindDiffers = refl
of_number AccountNotSenders = refl
of_number CounterpartyUnknown = refl
of_number NoSuchInstruction = refl
of_number AlreadyCancelled = refl
of_number AlreadySettled = refl
of_number Full = refl
of_number CancellationWaits = refl
of_number CommandReused = refl
of_number Exists = refl
of_number ParticipantUnknown = refl
of_number AccountUnknown = refl
of_number SecurityUnknown = refl
of_number OverLimit = refl
of_number NotEnough = refl
of_number DayGoesBack = refl

pub one_meaning : (a b : Refusal) → number_of_refusal a ≡ number_of_refusal b → a ≡ b
one_meaning a b e =
    let same : Some a ≡ Some b = sym (of_number a) ∙ ap refusal_of e ∙ of_number b in
    some_same a b same
  where
    some_same : (x y : Refusal) → Some x ≡ Some y → x ≡ y
    some_same x y f = cc
