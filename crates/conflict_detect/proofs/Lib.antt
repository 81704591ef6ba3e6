-- The lemmas of this crate, from the bottom up.
mod FitWalk
mod PartFit
pub mod FitTested
mod Gathered
pub mod FewParts
pub mod RowAfter
pub mod CallFit
pub mod LedCalls
pub mod OwnCall
pub mod FoundGroups
mod OneMore
mod WorkedCalls
