-- The lemmas of this crate, from the bottom up.
pub mod LowWater
pub mod Growing
pub mod Stepping
pub mod Destinations
pub mod Changing
pub mod Pasts
pub mod Queueing
pub mod Deferring
pub mod SchemaSites
pub mod DeclaredSites
pub mod PastLimits
pub mod FittingBlocks
pub mod FittingSites
pub mod WorkedSites
mod WorkedAnswers
pub mod Waited
