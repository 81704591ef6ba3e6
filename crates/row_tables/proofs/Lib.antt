-- The lemmas of this crate.
mod OneTable
pub mod Crossing
