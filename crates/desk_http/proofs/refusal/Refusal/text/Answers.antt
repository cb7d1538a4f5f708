use Rattle.std.proofs.Common.{refl}
use Rattle.std.specs.Fmt.{digits}
use Rattle.desk_http.proofs.refusal.Refusal.text.Goals as goal

pub returns-in-BadRequest : goal.returns-in-BadRequest
unfolding digits
returns-in-BadRequest c = rw c.in-BadRequest.is refl

pub returns-in-NotFound : goal.returns-in-NotFound
unfolding digits
returns-in-NotFound c = rw c.in-NotFound.is refl

pub returns-in-MethodNotAllowed : goal.returns-in-MethodNotAllowed
unfolding digits
returns-in-MethodNotAllowed c = rw c.in-MethodNotAllowed.is refl

pub returns-in-LengthRequired : goal.returns-in-LengthRequired
unfolding digits
returns-in-LengthRequired c = rw c.in-LengthRequired.is refl

pub returns-in-PayloadTooLarge : goal.returns-in-PayloadTooLarge
unfolding digits
returns-in-PayloadTooLarge c = rw c.in-PayloadTooLarge.is refl

pub returns-in-HeaderFieldsTooLarge : goal.returns-in-HeaderFieldsTooLarge
unfolding digits
returns-in-HeaderFieldsTooLarge c = rw c.in-HeaderFieldsTooLarge.is refl
