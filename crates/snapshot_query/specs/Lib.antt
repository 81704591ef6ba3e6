-- The definitions of this crate.
pub mod Queries
pub mod Parents
