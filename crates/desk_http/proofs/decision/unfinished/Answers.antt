use Rattle.desk_http.proofs.DecisionLemmas.{may_end, too_long}
use Rattle.desk_http.proofs.decision.unfinished.Goals as goal

pub returns-then-bytes-lt-LONGEST_HEAD : goal.returns-then-bytes-lt-LONGEST_HEAD
returns-then-bytes-lt-LONGEST_HEAD c = may_end c.args.bytes.now c.requires.none c.if-bytes-lt-LONGEST_HEAD.true

pub returns-else-bytes-lt-LONGEST_HEAD : goal.returns-else-bytes-lt-LONGEST_HEAD
returns-else-bytes-lt-LONGEST_HEAD c = too_long c.args.bytes.now c.requires.none c.requires.begins c.if-bytes-lt-LONGEST_HEAD.false
