-- The lemmas of this crate, from the bottom up.
mod Sides
mod Bounds
mod Found
pub mod Crossing
