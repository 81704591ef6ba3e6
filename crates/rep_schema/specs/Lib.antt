-- The definitions of this crate.
pub mod Limits
pub mod Tables
pub mod Shown
pub mod Fitting
pub mod Kinds
pub mod Checks
pub mod Entries
pub mod Levels
pub mod Shape
pub mod Groups
pub mod Named
pub mod Sites
pub mod Changes
pub mod Putting
