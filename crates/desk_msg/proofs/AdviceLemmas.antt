-- The parts of an advice are right.
use Rattle.std.proofs.Common.{◌≡◌, ℕ, List, [], ◌∷◌, ◌++◌, codes, refl, IsTrue, lit<, ◌∙◌, ap}
use Rattle.desk_text.specs.BlockGrammar.{is_first}
use Rattle.desk_text.specs.Written.{Part, field_part, close_part, is_value, AreParts}
use Rattle.desk_text.proofs.LawLemmas.{value-right}
use Rattle.desk_msg.specs.declared.mt.Mt.{Mt}
use Rattle.desk_msg.specs.declared.writing.status.Own.{Own}
use Rattle.desk_msg.specs.declared.writing.status.Own.TheVariants.{Answer, Sent}
use Rattle.desk_msg.specs.declared.writing.status.Reason.{Reason}
use Rattle.desk_msg.specs.declared.writing.status.Reason.TheVariants.{Future, Lack, Money}
use Rattle.desk_msg.specs.declared.writing.status.Case.{Case}
use Rattle.desk_msg.specs.declared.writing.status.Case.TheVariants.{Unmatched, Matched, Cancelled, CancelDone, CancelWaits, NewRefused, CancelRefused}
use Rattle.desk_msg.specs.OwnText.{last_digits, own_reference}
use Rattle.desk_msg.specs.MessageType.{digits_of_type}
use Rattle.desk_msg.specs.StatusText.{code_of_reason, statuses_of, function_of_advice, advice_parts}
use Rattle.desk_msg.specs.AdviceParts.{status_with, reason_with, parts_of}
use Rattle.desk_msg.proofs.PrintableLemmas.{digits-printable}

-- the sequence that an advice is in
abbrev general : List (List ℕ)
general = codes "GENL" ∷ []

status_right : (status : List ℕ) (rest : List Part) → IsTrue (is_value status) → AreParts general rest → AreParts general (status_with status [] ++ rest)
status_right status rest v h = (refl, lit< tt, (refl, v, (refl, h)))

reasoned_right : (status reason : List ℕ) (rest : List Part) → IsTrue (is_value status) → IsTrue (is_value reason) → AreParts general rest → AreParts general (status_with status (reason_with reason []) ++ rest)
reasoned_right status reason rest v w h = (refl, lit< tt, (refl, v, (refl, lit< tt, (refl, w, (refl, (refl, h))))))

refusal_right : (status : List ℕ) (number : ℕ) (rest : List Part) → IsTrue (is_value status) → AreParts general rest → AreParts general (status_with status (reason_with (codes ":REJT//NARR") (field_part (codes "70D") (codes ":REAS//DESK " ++ last_digits 2 number) ∷ [])) ++ rest)
refusal_right status number rest v h =
    (refl, lit< tt, (refl, v, (refl, lit< tt, (refl, refl, (refl, value-right (codes ":REAS//DESK " ++ last_digits 2 number) (digits-printable 2 number), (refl, (refl, h)))))))

pending_right : (reason : Reason) → IsTrue (is_value (codes ":PEND//" ++ code_of_reason reason))
pending_right Future = refl
pending_right Lack = refl
pending_right Money = refl

closed : AreParts general (close_part (codes "GENL") ∷ [])
closed = (refl, refl)

-- the closing of the whole
last : List Part
last = close_part (codes "GENL") ∷ []

pub statuses_right : (about : Case) → AreParts general (statuses_of about ++ close_part (codes "GENL") ∷ [])
unfolding last
statuses_right Unmatched =
    status_right (codes ":IPRC//PACK") (status_with (codes ":MTCH//NMAT") (reason_with (codes ":NMAT//CMIS") []) ++ last) refl
    (reasoned_right (codes ":MTCH//NMAT") (codes ":NMAT//CMIS") last refl refl closed)
statuses_right (Matched reason) =
    let pending : List Part = status_with (codes ":SETT//PEND") (reason_with (codes ":PEND//" ++ code_of_reason reason) []) ++ last in
    status_right (codes ":IPRC//PACK") (status_with (codes ":MTCH//MACH") [] ++ pending) refl
    (status_right (codes ":MTCH//MACH") pending refl (reasoned_right (codes ":SETT//PEND") (codes ":PEND//" ++ code_of_reason reason) last refl (pending_right reason) closed))
statuses_right Cancelled = status_right (codes ":IPRC//CAND") last refl closed
statuses_right CancelDone = status_right (codes ":CPRC//CAND") last refl closed
statuses_right CancelWaits = status_right (codes ":CPRC//PACK") last refl closed
statuses_right (NewRefused number) = refusal_right (codes ":IPRC//REJT") number last refl closed
statuses_right (CancelRefused number) = refusal_right (codes ":CPRC//REJT") number last refl closed

function_right : (about : Case) → IsTrue (is_value (function_of_advice about))
function_right Unmatched = refl
function_right (Matched reason) = refl
function_right Cancelled = refl
function_right CancelDone = refl
function_right CancelWaits = refl
function_right (NewRefused number) = refl
function_right (CancelRefused number) = refl

pub parts_right : (own link related : List ℕ) (about : Case) → IsTrue (is_value own) → IsTrue (is_value link) → IsTrue (is_value related) → AreParts [] (parts_of own link related about)
parts_right own link related about o l r =
    (refl, lit< tt, (refl, o, (refl, function_right about, (refl, lit< tt, (refl, l, (refl, r, (refl, statuses_right about)))))))

pub own_first : (own : Own) → IsTrue (is_first (codes ":SEME//" ++ own_reference own))
own_first (Answer entries) = digits-printable 15 entries
own_first (Sent n) = digits-printable 15 n

pub own_right : (own : Own) → IsTrue (is_value (codes ":SEME//" ++ own_reference own))
own_right own = value-right (codes ":SEME//" ++ own_reference own) (own_first own)

-- the parts of these values are those of the advice
pub advice_values : (own : Own) (mt : Mt) (reference : List ℕ) (about : Case) (o l r : List ℕ) → o ≡ codes ":SEME//" ++ own_reference own → l ≡ codes ":LINK//" ++ digits_of_type mt → r ≡ codes ":RELA//" ++ reference → parts_of o l r about ≡ advice_parts own mt reference about
unfolding advice_parts
advice_values own mt reference about o l r eo el er =
    ap (λ v. parts_of v l r about) eo
    ∙ ap (λ v. parts_of (codes ":SEME//" ++ own_reference own) v r about) el
    ∙ ap (λ v. parts_of (codes ":SEME//" ++ own_reference own) (codes ":LINK//" ++ digits_of_type mt) v about) er
