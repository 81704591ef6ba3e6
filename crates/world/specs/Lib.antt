-- The definitions of this crate.
pub mod Finding
pub mod Joining
pub mod Procedures
pub mod Following
pub mod Calling
pub mod Precheck
pub mod Texts
pub mod Outcomes
pub mod Doing
pub mod BuiltWorlds
