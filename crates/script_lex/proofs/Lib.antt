-- The lemmas of this crate.
pub mod Runs
pub mod Longest
pub mod TextBytes
pub mod Fronts
pub mod SpansAt
pub mod Steps
pub mod Readings
mod WorkedLines
