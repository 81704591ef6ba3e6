-- The definitions of this crate.
pub mod Checking
pub mod Adding
pub mod Laws
