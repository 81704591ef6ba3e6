-- The definitions of this crate.
pub mod Cluster
pub mod Quiet
pub mod Joins
pub mod Rules
pub mod Events
