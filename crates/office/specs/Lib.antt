-- The definitions of this crate.
pub mod Lines
pub mod Refused
pub mod Founding
pub mod Blocks
pub mod Stops
pub mod Letters
pub mod Working
pub mod Owed
pub mod Rows
