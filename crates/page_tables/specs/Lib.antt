-- The definitions of this crate.
pub mod Pages
pub mod Directory
pub mod Slots
pub mod Index
pub mod Stored
pub mod Changes
