use Rattle.std.proofs.Common.{◌≡◌, ◌-◌, None, get_or}
use Rattle.std.specs.Prelude.{IfSome}
use Rattle.std.proofs.Common.{Some}
use Rattle.memory_rows.specs.FollowOn.{FollowOn}
use Rattle.memory_register.specs.SecurityRows.{IsNextSecurity, Walks}
use Rattle.memory_register.proofs.entries.next_securities.securities_after.Given as goal

abbrev pub invariant-loop-count : goal.invariant-loop-count
invariant-loop-count l = record {
  first : IsNextSecurity l.securities l.above (get_or l.rows 0 None);
  further : FollowOn (IsNextSecurity l.securities) l.rows l.count;
  last : get_or l.rows (l.count - 1) None ≡ l.last;
  walks : IfSome l.last (λ isin. Walks l.securities (Some isin) l.walk);
}
