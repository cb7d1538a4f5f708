pub mod AddLemmas
pub mod CauseLemmas
mod ComparedRows
pub mod EffectLemmas
pub mod EntryLemmas
mod ExactLemmas
pub mod FindingTexts
pub mod FormedLemmas
pub mod KeyLemmas
pub mod LookLemmas
pub mod NumberedLemmas
pub mod OppositeLemmas
pub mod ReadingLemmas
pub mod RegisterLemmas
pub mod RowLemmas
pub mod SameLemmas
pub mod SecurityLemmas
pub mod SpeltLemmas
pub mod TextLemmas
mod ToldLemmas
