pub mod Seen
pub mod Claims
pub mod Views
pub mod Entering
pub mod Leaving
pub mod Sharing
pub mod Crossing
pub mod OwnTurns
