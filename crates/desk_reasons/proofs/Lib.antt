pub mod CharacterLemmas
pub mod ValueLemmas
pub mod RowLemmas
pub mod BlockLemmas
pub mod WritingLemmas
