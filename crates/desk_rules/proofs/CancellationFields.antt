-- The fields of a message that cancels an instruction.
use Rattle.std.proofs.Common.{List, [], ◌∷◌, ◌++◌, codes, refl, inl}
use Rattle.desk_codes.specs.Reference.{IsReference}
use Rattle.desk_text.specs.Fields.{Found}
use Rattle.desk_msg.specs.declared.instruction.CancelOrder.{CancelOrder}
use Rattle.desk_msg.specs.declared.instruction.Message.TheVariants.{Cancel}
use Rattle.desk_msg.specs.Profile.{text_said, function_row, seme_row, prev_row}
use Rattle.desk_msg.specs.Reads.{Gives}
use Rattle.desk_msg.proofs.ConfirmedFields.{at, general, linked}
use Rattle.desk_rules.specs.WellFormed.{IsReadable}
use Rattle.desk_rules.proofs.PartLemmas.{canc_code}

cancelling_fields : CancelOrder → List Found
cancelling_fields order =
    at general (codes "20C") ((codes ":SEME//" ++ order.reference) ∷ []) 3
    ∷ at general (codes "23G") (codes "CANC" ∷ []) 4
    ∷ at linked (codes "20C") ((codes ":PREV//" ++ order.previous) ∷ []) 6
    ∷ []

function_given : (order : CancelOrder) → Gives (cancelling_fields order) function_row (text_said (codes "CANC"))
unfolding cancelling_fields
function_given order = record { field = at general (codes "23G") (codes "CANC" ∷ []) 4; only = refl; says = (codes "CANC", refl, (canc_code, inl refl)) }

seme_given : (order : CancelOrder) → IsReference order.reference → Gives (cancelling_fields order) seme_row (text_said order.reference)
unfolding cancelling_fields
seme_given order is = record { field = at general (codes "20C") ((codes ":SEME//" ++ order.reference) ∷ []) 3; only = refl; says = (order.reference, refl, (is, refl)) }

prev_given : (order : CancelOrder) → IsReference order.previous → Gives (cancelling_fields order) prev_row (text_said order.previous)
unfolding cancelling_fields
prev_given order is = record { field = at linked (codes "20C") ((codes ":PREV//" ++ order.previous) ∷ []) 6; only = refl; says = (order.previous, refl, (is, refl)) }

-- they read as the cancellation
pub readable_cancellation : (order : CancelOrder) → IsReference order.reference × IsReference order.previous → IsReadable order.mt (Cancel order)
readable_cancellation order is =
    (cancelling_fields order, (refl, (function_given order, (seme_given order is.0, (prev_given order is.1, tt)))))

-- and the references of a cancellation that fields read as are codes
pub cancellation_spelt : (order : CancelOrder) → IsReadable order.mt (Cancel order) → IsReference order.reference × IsReference order.previous
cancellation_spelt order (fields, reads) = let all = reads.1 in (all.1.0.says.2.0, all.1.1.0.says.2.0)
