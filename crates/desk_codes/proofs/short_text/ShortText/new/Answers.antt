use Rattle.desk_codes.proofs.StoredLemmas.{stored}
use Rattle.desk_codes.proofs.short_text.ShortText.new.Goals as goal

pub invariant_of-result : goal.invariant_of-result
invariant_of-result g c = rw c.copy_from_slice.ensures.after (stored g.row.N c.args.text.now c.requires)
