pub mod AgainLemmas
pub mod AloneLemmas
pub mod BothLemmas
pub mod ChangeLemmas
mod CheckLemmas
pub mod ContentFacts
mod FormLemmas
pub mod FoundLemmas
mod FrontLemmas
pub mod GoneLemmas
pub mod HandedLemmas
pub mod HistoryFacts
pub mod KeptLemmas
pub mod LeftLemmas
mod LimitLemmas
pub mod OpenedLemmas
pub mod OrderLemmas
pub mod PartLemmas
pub mod ReadLemmas
pub mod ReadableFacts
pub mod ReadingLemmas
pub mod ReadyLemmas
pub mod ReopenLemmas
pub mod RestLemmas
mod TakingLemmas
pub mod ToldLemmas
pub mod TriedLemmas
pub mod VersionLemmas
pub mod WaitingLemmas
pub mod WritableFacts
pub mod RegisterTables
