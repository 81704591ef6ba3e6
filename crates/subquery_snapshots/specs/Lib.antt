-- The definitions of this crate.
pub mod Rules
pub mod Children
pub mod Renewing
pub mod Laws
