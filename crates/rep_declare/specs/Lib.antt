-- The definitions of this crate.
pub mod Refusals
pub mod Additions
pub mod Shaping
pub mod Laws
