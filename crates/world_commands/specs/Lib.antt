-- The definitions of this crate.
pub mod Declaring
pub mod Ruled
pub mod Refreshing
pub mod Joining
