-- The definitions of this crate.
pub mod Numerals
pub mod Words
pub mod Forms
pub mod Command
