mod NameLemmas
pub mod ObjectLemmas
pub mod NumberedLemmas
mod StepLemmas
mod EndLemmas
pub mod DayLemmas
pub mod GatheringLemmas
pub mod MatchedLemmas
pub mod OnePending
pub mod PendingReadLemmas
pub mod PendingRowLemmas
pub mod TablesLemmas
pub mod PendingWalkLemmas
pub mod AloneLemmas
pub mod DifferLemmas
pub mod FirstLemmas
pub mod KnownFirstLemmas
pub mod FoundLemmas
pub mod NearLemmas
pub mod NearestLemmas
pub mod UnmatchedWritingLemmas
pub mod RowsLemmas
pub mod LoopLemmas
mod CashLemmas
pub mod AccountLemmas
mod HoldingLemmas
mod NextLemmas
mod MemberLemmas
mod PieceLemmas
mod PartLemmas
mod SumLemmas
mod TotalLemmas
