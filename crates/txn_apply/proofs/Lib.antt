-- The lemmas of this crate, from the bottom up.
mod Written
mod GroupsInRange
mod PartSteps
mod CallOutcomes
mod Stepping
mod NamedRows
mod NamedTokens
mod PlainTokens
mod Ends
pub mod Room
mod Outlasting
pub mod FewChanges
