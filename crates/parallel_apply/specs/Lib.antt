-- The definitions of this crate.
pub mod Turns
pub mod Crews
