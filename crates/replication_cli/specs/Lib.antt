-- The definitions of this crate.
pub mod Texts
pub mod Words
pub mod Tallies
pub mod Runs
pub mod Stocks
pub mod Lines
pub mod Summary
pub mod Outcome
