-- The lemmas of this crate, from the bottom up.
mod Places
mod Over
mod InRange
pub mod TakenNumber
mod Orders
pub mod Sequences
mod NewRanks
mod WorkedDecisions
