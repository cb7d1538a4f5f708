pub mod DueLemmas
pub mod PlaceCases
pub mod ResultLemmas
pub mod ShortageLemmas
pub mod StandingLemmas
mod TryLemmas
mod WaitsLemmas
pub mod WakeLemmas
mod WantLemmas
mod WantOrder
