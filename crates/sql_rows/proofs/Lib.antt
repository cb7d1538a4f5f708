mod StepLemmas
pub mod CauseLemmas
pub mod AmountMeanings
pub mod AmountRowLemmas
pub mod EffectLemmas
pub mod HoldingLemmas
pub mod HeldLemmas
pub mod AmountLemmas
pub mod ClauseLemmas
pub mod PermutationLemmas
pub mod AmountCauses
pub mod TrueLemmas
mod EntryLemmas
mod FormLemmas
mod AmountComparedRows
mod SaidLemmas
mod AmountTextLemmas
pub mod AmountWalkLemmas
pub mod StandingMeanings
pub mod NextLemmas
mod OrderedRows
mod SaidRows
pub mod StandingCalls
pub mod StandingCauses
pub mod StandingLemmas
mod StandingRows
mod StandingTable
pub mod SentCauses
mod SentComparedRows
mod SentComparedTable
pub mod InsertLemmas
pub mod LookedLemmas
pub mod MessageLemmas
pub mod SentRowLemmas
pub mod SentTableLemmas
pub mod SentMeanings
pub mod SentWalkLemmas
