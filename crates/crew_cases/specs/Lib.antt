-- The specs of this crate.
pub mod Runs
pub mod Turns
