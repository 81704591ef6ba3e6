-- The lemmas of this crate, from the bottom up.
pub mod Marks
pub mod Counts
pub mod Flips
pub mod Low
mod LowUpTo
mod Highest
mod MarkExamples
