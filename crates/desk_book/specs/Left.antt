-- The desk's promise for its calls: what each of them leaves of a desk, and what its answers tell of it. It holds of every
-- register, also of one whose device answered wrongly.
use Rattle.std.specs.Prelude.{◌≡◌, ◌↔◌, Bool, true, false, Result, Err}
use Rattle.desk_rules.specs.declared.answers.reply.Reply.{Reply}
use Rattle.desk_register.specs.View.{View, IsLater}
use Rattle.desk_book.specs.declared.fault.Fault.{Fault}
use Rattle.desk_book.specs.declared.fault.ToFault.{ToFault}
use Rattle.desk_book.specs.declared.fault.ToFault.TheVariants.{WriteFailed, Closed}
use Rattle.desk_book.specs.declared.answers.head.Head.{Head}
use Rattle.desk_book.specs.Answered.{BlamesRequest, says_closed}
use Rattle.desk_book.specs.DeskValue.{DeskValue}
use Rattle.desk_book.specs.WrittenTo.{BlamesDevice, leaves_closed}

-- What contracts see of the register of a desk is told by `view`.
module _ {R : Type 0} (view : R → View) (is_in_memory : Bool) where
  -- What any call leaves of a desk.
  pub record LeavesDesk (old new : DeskValue R) : Type 0 where
    -- a closed one stays closed, and all of it as it was
    pub untouched : old.is_closed ≡ true → new ≡ old
    -- its register has the room that it had, and no count or doubt of it is taken back
    pub later : IsLater (view old.register) (view new.register)
    -- only a device closes a desk: an open one in memory stays open
    pub in_memory : is_in_memory ≡ true → old.is_closed ≡ false → new.is_closed ≡ false

  -- A request got this answer.
  pub record AnswersRequest (result : Result Reply Fault) (old new : DeskValue R) : Type 0 where
    pub left : LeavesDesk old new
    -- the desk says that it is closed where it is, and nowhere else
    pub closed : new.is_closed ≡ says_closed result
    pub blame : BlamesRequest result (view old.register) (view new.register)

  -- A report was written to a writer, which may fail or not, or was not written to its end. Of the writer its value before
  -- and after is told.
  pub record EndsReport {W : Type 0} (may_fail : Bool) (result : Result Head ToFault) (old new : DeskValue R) (before after : W) : Type 0 where
    pub left : LeavesDesk old new
    -- who finds the desk closed is told so, and no other is; nothing is written then
    pub closed : result ≡ Err Closed ↔ old.is_closed ≡ true
    pub untouched : old.is_closed ≡ true → after ≡ before
    -- that it is closed is told where it is, and nowhere else
    pub told : new.is_closed ≡ leaves_closed result
    pub blame : BlamesDevice result (view old.register) (view new.register)
    pub unwritten : result ≡ Err WriteFailed → may_fail ≡ true
