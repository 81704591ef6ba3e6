-- The definitions of this crate.
pub mod Parts
pub mod Passing
pub mod NewErrors
