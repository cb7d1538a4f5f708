-- A load, compared with the byte.
use Rattle.std.proofs.Common.{arith}
use Rattle.desk_book.proofs.RunLanes.{byte_run}
use Rattle.desk_book.proofs.requests.lanes.before_byte.Goals as goal

pub returns : goal.returns
returns c = byte_run c.args.text.now c.args.at 16 c.args.byte c.lowest_or.result c.requires (omega arith) c.lowest_or.ensures
