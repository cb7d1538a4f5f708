use Rattle.desk_text.specs.Scanning.{NoFeed}
use Rattle.desk_text.proofs.scanning.find_feed_by_one.Given as goal

abbrev pub invariant-loop-index : goal.invariant-loop-index
invariant-loop-index l = NoFeed l.text l.index
