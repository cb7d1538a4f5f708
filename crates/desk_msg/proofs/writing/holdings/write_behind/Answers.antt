use Rattle.std.proofs.Common.{append-nil}
use Rattle.desk_msg.proofs.writing.holdings.write_behind.Goals as goal

pub returns : goal.returns
returns c = rw (← append-nil c.args.pieces.now.end.now) c.joined.ensures
