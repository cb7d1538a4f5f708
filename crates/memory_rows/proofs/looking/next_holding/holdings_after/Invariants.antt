use Rattle.std.proofs.Common.{◌≡◌, ◌-◌, None, Some, get_or}
use Rattle.std.specs.Prelude.{IfSome}
use Rattle.desk_register.specs.Looked.{IsHoldingAfter}
use Rattle.memory_rows.specs.Lists.{content_in, listed}
use Rattle.memory_rows.specs.Walk.{AreNextHoldings, Walks}
use Rattle.memory_rows.proofs.looking.next_holding.holdings_after.Given as goal

abbrev pub invariant-loop-count : goal.invariant-loop-count
invariant-loop-count l = record {
  first : IsHoldingAfter (content_in (listed l.lists)) l.account l.above (get_or l.rows 0 None);
  further : AreNextHoldings (content_in (listed l.lists)) l.account l.rows l.count;
  last : get_or l.rows (l.count - 1) None ≡ l.found;
  walks : IfSome l.found (λ holding. Walks (listed l.lists) l.account (Some holding.isin) l.walk);
}
