-- The definitions of this crate.
pub mod Lanes
pub mod Telling
pub mod Running
