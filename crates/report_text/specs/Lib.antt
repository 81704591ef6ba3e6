-- The definitions of this crate.
pub mod Sheet
pub mod Texts
pub mod Refusals
pub mod Calls
