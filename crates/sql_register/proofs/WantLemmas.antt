-- Want of memory is never told as the device's failure.
use Rattle.std.proofs.Common.{◌≡◌, Result, Err}
use Rattle.sqlite.specs.declared.error.Error.{Error}
use Rattle.sqlite.specs.declared.error.Error.TheVariants.{SqliteFailure, SqlInputError, InvalidColumnIndex, IntegralValueOutOfRange, Utf8Error, InvalidParameterCount, InvalidColumnType, ExecuteReturnedResults, InvalidQuery, MultipleStatement, QueryReturnedNoRows}
use Rattle.sqlite.specs.declared.error.ErrorCode.TheVariants.{ConstraintViolation, NoRowid, OutOfMemory, TooBig, TypeMismatch, IntegerOverflow, ForeignKeyMismatch, TooDeep, NoClock, NameTaken, BadName, BadKey, BadText, SchemaTooBig, TransactionState, NoSuchSavepoint, OperationInterrupted, NotADatabase, DatabaseCorrupt, CannotOpen, DatabaseBusy, SystemIoFailure, DiskFull, Closed}
use Rattle.desk_register.specs.declared.register.Fault.{Fault}
use Rattle.desk_register.specs.declared.register.Fault.TheVariants.{Memory, Storage}
use Rattle.sql_tables.specs.Ends.{IsWant}
use Rattle.sql_register.specs.Told.{fault_for}

abbrev Same : (X : Type 0) → Result X Fault → Result X Fault → Type 0
Same X r s = r ≡ s

abbrev IsError : (X : Type 0) → Fault → Fault → Type 0
IsError X a b = Same X (Err a) (Err b)

differ : (X : Type 0) → IsError X Memory Storage → ⊥
differ X e = (let same : Memory ≡ Storage = cc in cc)

pub want_is_memory : (X : Type 0) (e : Error) → IsWant e → IsError X (fault_for e) Storage → ⊥
want_is_memory X (SqliteFailure OutOfMemory) want named = differ X named
want_is_memory X (SqliteFailure TooBig) want named = differ X named
want_is_memory X (SqliteFailure NoRowid) want named = differ X named
want_is_memory X (SqliteFailure (ConstraintViolation constraint)) want named = want
want_is_memory X (SqliteFailure TypeMismatch) want named = want
want_is_memory X (SqliteFailure IntegerOverflow) want named = want
want_is_memory X (SqliteFailure ForeignKeyMismatch) want named = want
want_is_memory X (SqliteFailure TooDeep) want named = want
want_is_memory X (SqliteFailure NoClock) want named = want
want_is_memory X (SqliteFailure NameTaken) want named = want
want_is_memory X (SqliteFailure BadName) want named = want
want_is_memory X (SqliteFailure BadKey) want named = want
want_is_memory X (SqliteFailure BadText) want named = want
want_is_memory X (SqliteFailure SchemaTooBig) want named = want
want_is_memory X (SqliteFailure TransactionState) want named = want
want_is_memory X (SqliteFailure NoSuchSavepoint) want named = want
want_is_memory X (SqliteFailure OperationInterrupted) want named = want
want_is_memory X (SqliteFailure NotADatabase) want named = want
want_is_memory X (SqliteFailure DatabaseCorrupt) want named = want
want_is_memory X (SqliteFailure CannotOpen) want named = want
want_is_memory X (SqliteFailure DatabaseBusy) want named = want
want_is_memory X (SqliteFailure SystemIoFailure) want named = want
want_is_memory X (SqliteFailure DiskFull) want named = want
want_is_memory X (SqliteFailure Closed) want named = want
want_is_memory X (SqlInputError a) want named = want
want_is_memory X (InvalidColumnIndex a) want named = want
want_is_memory X (IntegralValueOutOfRange a) want named = want
want_is_memory X (Utf8Error a) want named = want
want_is_memory X (InvalidParameterCount a b) want named = want
want_is_memory X (InvalidColumnType a b) want named = want
want_is_memory X ExecuteReturnedResults want named = want
want_is_memory X InvalidQuery want named = want
want_is_memory X MultipleStatement want named = want
want_is_memory X QueryReturnedNoRows want named = want
