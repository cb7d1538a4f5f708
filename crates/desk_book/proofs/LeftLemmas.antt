-- What calls leave of a desk.
use Rattle.std.proofs.Common.{◌≡◌, Bool, true, refl, sym, ap, ◌∙◌}
use Rattle.std.specs.Prelude.{Result}
use Rattle.desk_rules.specs.declared.answers.reply.Reply.{Reply}
use Rattle.desk_register.specs.View.{View}
use Rattle.desk_book.specs.declared.fault.Fault.{Fault}
use Rattle.desk_book.specs.Answered.{says_closed}
use Rattle.desk_book.specs.DeskValue.{DeskValue}
use Rattle.desk_book.specs.Left.{AnswersRequest, LeavesDesk}
use Rattle.desk_book.proofs.RunLemmas.{later_on, never_later}

module _ {R : Type 0} (view : R → View) (is_in_memory : Bool) where
  -- no call
  pub leaves_all : (desk : DeskValue R) → LeavesDesk view is_in_memory desk desk
  leaves_all desk = record { untouched = λ was. refl; later = never_later (view desk.register); in_memory = λ is still. still }

  -- a call, and one more
  pub leaves_on : (first next last : DeskValue R) → LeavesDesk view is_in_memory first next → LeavesDesk view is_in_memory next last → LeavesDesk view is_in_memory first last
  leaves_on first next last before now = record {
    untouched = λ was. (let same = before.untouched was in now.untouched (ap (λ desk. desk.is_closed) same ∙ was) ∙ same);
    later = later_on (view first.register) (view next.register) (view last.register) before.later now.later;
    in_memory = λ is still. now.in_memory is (before.in_memory is still);
  }

  -- one that was closed is
  pub stays_closed : (old new : DeskValue R) → LeavesDesk view is_in_memory old new → old.is_closed ≡ true → new.is_closed ≡ true
  stays_closed old new left was = ap (λ desk. desk.is_closed) (left.untouched was) ∙ was

  -- and says so
  pub says_so : (answer : Result Reply Fault) (old new : DeskValue R) → AnswersRequest view is_in_memory answer old new → old.is_closed ≡ true → says_closed answer ≡ true
  says_so answer old new answers was = sym answers.closed ∙ stays_closed old new answers.left was
