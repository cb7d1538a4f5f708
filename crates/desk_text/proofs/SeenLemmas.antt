-- What was returned, and what reading gives.
use Rattle.std.proofs.Common.{◌≡◌, refl, ℕ, List, [], Result, Ok, Err}
use Rattle.desk_text.specs.declared.fields.Block.{Block}
use Rattle.desk_text.specs.declared.faults.TextFault.{TextFault}
use Rattle.desk_text.specs.declared.faults.TextFault.TheVariants.{NotBlock, BadLine, BadNesting, TooLong, Memory}
use Rattle.desk_text.specs.Reading.{read_text}
use Rattle.desk_text.specs.Seen.{Reads, MayBeBlock, found_in}
use Rattle.desk_text.specs.Steps.{Returns}
use Rattle.desk_text.proofs.ExactLemmas.{reads_exactly}

pub reads_from_gives : (text : List ℕ) (r : Result Block TextFault) → Returns r (read_text text) → (r ≡ Err Memory → MayBeBlock text) → Reads text r
reads_from_gives text (Ok block) e m = reads_exactly text (Ok (record { values = []; fields = found_in block })) e
reads_from_gives text (Err NotBlock) e m = reads_exactly text (Err NotBlock) e
reads_from_gives text (Err (BadLine k)) e m = reads_exactly text (Err (BadLine k)) e
reads_from_gives text (Err (BadNesting k)) e m = reads_exactly text (Err (BadNesting k)) e
reads_from_gives text (Err TooLong) e m = reads_exactly text (Err TooLong) e
reads_from_gives text (Err Memory) e m = m refl
