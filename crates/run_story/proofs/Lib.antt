-- The lemmas of this crate.
mod Ranges
mod Lanes
mod Spans
pub mod Stories
mod Scripts
mod Steps
mod LineSteps
mod Runs
mod PartEnds
mod Sound
