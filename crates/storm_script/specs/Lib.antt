-- The definitions of this crate.
pub mod Draws
pub mod Sites
pub mod Opening
pub mod Rounds
pub mod Closing
pub mod Storm
pub mod Laws
