-- The lemmas of this crate, from the bottom up.
pub mod Carrying
pub mod CallTables
pub mod Commuting
pub mod Ordering
pub mod Passing
pub mod Names
pub mod Fitting
pub mod CallLaws
pub mod Depending
pub mod Sending
mod WorkedProcedures
mod WorkedCalls
mod WorkedPushes
