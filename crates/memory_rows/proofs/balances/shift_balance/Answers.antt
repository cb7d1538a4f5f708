use Rattle.memory_rows.specs.Lists.{balance_in, listed}
use Rattle.memory_rows.specs.Shifts.{shifted}
use Rattle.memory_rows.proofs.BalanceLemmas.{put_well}
use Rattle.memory_rows.proofs.balances.shift_balance.Goals as goal

pub returns-clause-put : goal.returns-clause-put
returns-clause-put c = put_well c.put_balance.result (listed c.put_balance.new.lists) (listed c.args.lists.now) c.args.key (shifted (balance_in (listed c.args.lists.now) c.args.key) c.args.shift) c.put_balance.ensures.put
