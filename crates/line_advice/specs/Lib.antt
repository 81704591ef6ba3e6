-- The definitions of this crate.
pub mod Fronts
pub mod Mistakes
