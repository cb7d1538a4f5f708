-- A call that failed committed nothing; and what is made is a desk's.
use Rattle.std.proofs.Common.{inl, inr, IsTrue, subst}
use Rattle.sqlite.specs.State.{State}
use Rattle.sql_tables.specs.Ends.{FellLooking, FellWriting}
use Rattle.sql_tables.specs.Making.{KeepsCommitted}
use Rattle.desk_register.specs.declared.register.Stage.TheVariants.{Idle}
use Rattle.sql_register.specs.Holds.{IsDesk}
use Rattle.sql_register.specs.Kept.{IsOpenDesk}
use Rattle.sql_register.specs.Made.{IsMade}

pub fallen_kept : (a b : State) → FellLooking a b → KeepsCommitted a b
fallen_kept a b fell = λ now. elim fell [ inl same ↦ same.committed | inr undone ↦ undone.committed now ]

pub written_kept : (a b : State) → IsTrue a.in_transaction → FellWriting a b → KeepsCommitted a b
written_kept a b inside fell = λ now. elim (fell inside) [ inl stays ↦ stays.committed inside | inr undone ↦ undone.committed now ]

-- what was made is kept, with no `begin` open
pub made_kept : (s : State) → IsMade s → IsOpenDesk s Idle
made_kept s made = record {
  committed = subst IsDesk made.settled made.empty.desk;
  schema = made.empty.desk.schema;
  now = λ goes. made.empty.desk;
  idle = λ e. made.settled;
  closed = λ e. made.mode;
  begun = λ e. absurd (cc);
  unmarked = λ e. absurd (cc);
  outside = λ out. made.marks;
}
