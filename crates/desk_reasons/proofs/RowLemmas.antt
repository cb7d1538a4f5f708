-- The rows that fields fail by are those of their words.
use Rattle.std.proofs.Common.{◌≡◌, ◌<◌, List, [], ◌∷◌, length, refl, sym, ap, ◌∙◌, subst, inl, inr, Result, Ok, Err}
use Rattle.desk_text.specs.Fields.{Found}
use Rattle.desk_msg.specs.declared.mt.Mt.{Mt}
use Rattle.desk_msg.specs.declared.mt.Mt.TheVariants.{Mt540, Mt541, Mt542, Mt543, Mt544, Mt545, Mt546, Mt547}
use Rattle.desk_msg.specs.declared.reading.function.FunctionCode.{FunctionCode}
use Rattle.desk_msg.specs.declared.reading.function.FunctionCode.TheVariants.{Newm, Canc}
use Rattle.desk_msg.specs.declared.fault.MsgFault.{MsgFault}
use Rattle.desk_msg.specs.declared.fault.MsgFault.TheVariants.{Missing, Repeated, BadValue, Function}
use Rattle.desk_msg.specs.Profile.{Row, function_row, rows_of}
use Rattle.desk_msg.specs.Reads.{belonging, Fails, FailsFirst, ReadsFields}
use Rattle.desk_reasons.specs.Rows.{row_of}
use Rattle.desk_reasons.specs.FieldFaults.{FailsSo}
use Rattle.desk_reasons.specs.Told.{FailsRead}
use Rattle.desk_msg.specs.declared.instruction.Message.{Message}

fails_so : (fields : List Found) (row : Row) (fault : MsgFault) → row_of row.word ≡ row → Fails fields row fault → FailsSo fields fault
fails_so fields row (Missing word) own fails =
    let P : Row → Type 0 = λ r. belonging r fields ≡ [] in subst P (sym own ∙ ap row_of (sym fails.0)) fails.1
fails_so fields row (Repeated word) own fails =
    let P : Row → Type 0 = λ r. 1 < length (belonging r fields) in subst P (sym own ∙ ap row_of (sym fails.0)) fails.1
fails_so fields row (BadValue word) own fails =
    let P : Row → Type 0 = λ r. (field : Found) × (belonging r fields ≡ field ∷ []) in
    subst P (sym own ∙ ap row_of (sym fails.0)) (fails.1.field, fails.1.only)
fails_so fields row Function own fails =
    let P : Row → Type 0 = λ r. (field : Found) × (belonging r fields ≡ field ∷ []) in
    subst P (sym own ∙ ap row_of fails.0) (fails.1.gives.field, fails.1.gives.only)

abbrev AreOwn : List Row → Type 0
AreOwn [] = Unit {0}
AreOwn (row ∷ rows) = (row_of row.word ≡ row) × AreOwn rows

first_fails_so : (fields : List Found) (rows : List Row) (fault : MsgFault) → AreOwn rows → FailsFirst fields rows fault → FailsSo fields fault
first_fails_so fields [] fault own fails = absurd fails
first_fails_so fields (row ∷ rows) fault own (inl fails) = fails_so fields row fault own.0 fails
first_fails_so fields (row ∷ rows) fault own (inr fails) = first_fails_so fields rows fault own.1 fails.1

are_own : (mt : Mt) (function : FunctionCode) → AreOwn (rows_of mt function)
are_own mt Canc = (refl, (refl, tt))
are_own Mt540 Newm = (refl, (refl, (refl, (refl, (refl, (refl, (refl, (refl, tt))))))))
are_own Mt541 Newm = (refl, (refl, (refl, (refl, (refl, (refl, (refl, (refl, (refl, tt)))))))))
are_own Mt542 Newm = (refl, (refl, (refl, (refl, (refl, (refl, (refl, (refl, tt))))))))
are_own Mt543 Newm = (refl, (refl, (refl, (refl, (refl, (refl, (refl, (refl, (refl, tt)))))))))
are_own Mt544 Newm = (refl, (refl, (refl, (refl, (refl, (refl, (refl, (refl, tt))))))))
are_own Mt545 Newm = (refl, (refl, (refl, (refl, (refl, (refl, (refl, (refl, (refl, tt)))))))))
are_own Mt546 Newm = (refl, (refl, (refl, (refl, (refl, (refl, (refl, (refl, tt))))))))
are_own Mt547 Newm = (refl, (refl, (refl, (refl, (refl, (refl, (refl, (refl, (refl, tt)))))))))

fields_fail : (mt : Mt) (fields : List Found) (fault : MsgFault) → ReadsFields mt fields (Err fault) → FailsSo fields fault
fields_fail mt fields fault (inl fails) = fails_so fields function_row fault refl fails
fields_fail mt fields fault (inr fails) = first_fails_so fields (rows_of mt fails.0) fault (are_own mt fails.0) fails.2

pub read_fails : (mt : Mt) (fields : List Found) (read : Result Message MsgFault) → ReadsFields mt fields read → FailsRead fields read
read_fails mt fields (Ok message) reads = tt
read_fails mt fields (Err fault) reads = fields_fail mt fields fault reads
