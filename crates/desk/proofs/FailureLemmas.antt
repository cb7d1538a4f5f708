-- What the program tells of its own failures.
use Rattle.std.proofs.Common.{◌≢◌, [], refl}
use Rattle.std.specs.Fmt.{digits}
use Rattle.desk_words.specs.Causes.{TellsCause, catalogue}
use Rattle.desk.specs.Status.{failure_line}
use Rattle.desk.specs.declared.status.Failure.{Failure}
use Rattle.desk.specs.declared.status.Failure.TheVariants.{NotOurFile, OtherVersion, Memory, Storage, Closed, Input}

pub failure_told : (failure : Failure) → failure ≢ Input → TellsCause (failure_line failure)
unfolding catalogue digits
failure_told NotOurFile other = record { number = 50; rest = []; is_explained = refl; begins = refl }
failure_told OtherVersion other = record { number = 51; rest = []; is_explained = refl; begins = refl }
failure_told Memory other = record { number = 60; rest = []; is_explained = refl; begins = refl }
failure_told Storage other = record { number = 61; rest = []; is_explained = refl; begins = refl }
failure_told Closed other = record { number = 62; rest = []; is_explained = refl; begins = refl }
failure_told Input other = absurd (other refl)
