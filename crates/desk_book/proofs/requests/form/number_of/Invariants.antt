use Rattle.std.proofs.Common.{◌≡◌, take}
use Rattle.desk_codes.specs.Number.{number_of}
use Rattle.desk_book.proofs.requests.form.number_of.Given as goal

abbrev pub invariant-loop-c : goal.invariant-loop-c
invariant-loop-c l = l.number ≡ number_of (take l.c-index l.digits)
