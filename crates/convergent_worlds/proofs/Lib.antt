-- The lemmas of this crate, from the bottom up.
mod ConvergenceHolds
mod Histories
pub mod Scripts
mod WorkedConvergence
mod WorkedEdges
