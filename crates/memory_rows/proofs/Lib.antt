mod AppendLemmas
pub mod BalanceLemmas
mod BalancedLemmas
mod FloorLemmas
pub mod FollowLemmas
mod HoldingLemmas
mod KeepLemmas
mod ListsLemmas
mod LookingLemmas
mod RowLemmas
mod SearchLemmas
mod SettleLemmas
mod SoundLemmas
