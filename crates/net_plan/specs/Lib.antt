-- The definitions of this crate.
pub mod Directions
pub mod Calls
pub mod Laws
