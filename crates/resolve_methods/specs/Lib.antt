-- The definitions of this crate.
pub mod PartValues
pub mod Ranks
pub mod Decide
pub mod OrderCases
pub mod Written
pub mod Laws
pub mod SequenceLaws
