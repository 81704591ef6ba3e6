-- The definitions of this crate.
pub mod Newest
pub mod Quiet
pub mod Crews
pub mod Shared
