-- The definitions of this crate.
pub mod Numbers
pub mod Appending
pub mod Settling
pub mod Trying
pub mod Laws
