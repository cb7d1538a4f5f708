-- HTTP's own refusals.
use Rattle.std.specs.Prelude.{ℕ, List, ◌++◌, codes, decimal}
use Rattle.httparse.specs.declared.Error.{Error}
use Rattle.httparse.specs.declared.Error.TheVariants.{HeaderName, HeaderValue, NewLine, Status, Token, TooManyHeaders, Version}
use Rattle.desk_http.specs.declared.refusal.Refusal.{Refusal}
use Rattle.desk_http.specs.declared.refusal.Refusal.TheVariants.{BadRequest, NotFound, MethodNotAllowed, LengthRequired, PayloadTooLarge, HeaderFieldsTooLarge}

-- their status codes (RFC 9110, section 15.5; RFC 6585, section 5)
abbrev pub status_of_refusal : Refusal → ℕ
status_of_refusal BadRequest = 400
status_of_refusal NotFound = 404
status_of_refusal MethodNotAllowed = 405
status_of_refusal LengthRequired = 411
status_of_refusal PayloadTooLarge = 413
status_of_refusal HeaderFieldsTooLarge = 431

-- their texts
abbrev pub refusal_text : Refusal → List ℕ
refusal_text refusal = codes "refused " ++ decimal (status_of_refusal refusal)

-- the refusal of a head that the parser refuses with this error
abbrev pub refusal_of_error : Error → Refusal
refusal_of_error TooManyHeaders = HeaderFieldsTooLarge
refusal_of_error HeaderName = BadRequest
refusal_of_error HeaderValue = BadRequest
refusal_of_error NewLine = BadRequest
refusal_of_error Status = BadRequest
refusal_of_error Token = BadRequest
refusal_of_error Version = BadRequest
