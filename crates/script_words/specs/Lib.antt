-- The definitions of this crate.
pub mod Words
pub mod Reading
pub mod Parts
pub mod Readers
pub mod Spelled
