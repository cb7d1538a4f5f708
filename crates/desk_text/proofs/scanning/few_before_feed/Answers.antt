use Rattle.std.proofs.Common.{arith}
use Rattle.desk_text.proofs.FeedLemmas.{feed_run}
use Rattle.desk_text.proofs.scanning.few_before_feed.Goals as goal

pub returns : goal.returns
returns c = feed_run c.args.text.now c.args.at 8 c.lowest_or.result c.requires (omega arith) c.lowest_or.ensures
