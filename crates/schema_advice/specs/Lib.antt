-- The definitions of this crate.
pub mod Parts
pub mod Methods
pub mod Broken
pub mod Remarks
