-- The definitions of this crate.
pub mod Faults
pub mod Transfer
pub mod Memory
