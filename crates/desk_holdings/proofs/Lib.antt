pub mod AboveLemmas
pub mod GatheringLemmas
pub mod OneStatement
pub mod OneDay
pub mod RegisteredLemmas
pub mod StatementLemmas
pub mod WalkingLemmas
