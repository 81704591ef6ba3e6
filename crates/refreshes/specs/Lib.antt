-- The definitions of this crate.
pub mod Views
pub mod Showing
pub mod Planned
pub mod Refreshed
pub mod Refreshing
pub mod Done
