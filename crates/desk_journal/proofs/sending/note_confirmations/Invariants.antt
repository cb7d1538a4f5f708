use Rattle.std.specs.Prelude.{◌≡◌, ◌*◌, ◌++◌, replicate, Some}
use Rattle.desk_journal.proofs.sending.note_confirmations.Given as goal

abbrev pub invariant-pairs : goal.invariant-pairs
invariant-pairs l = l.notices.items ≡ l.fn.notices.items ++ replicate (2 * l._pair) (record { about = 0; run = Some l.number })
