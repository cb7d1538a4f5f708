pub mod DuePlaces
pub mod OneShortage
pub mod PlacesByKey
pub mod Shortages
pub mod Wants
