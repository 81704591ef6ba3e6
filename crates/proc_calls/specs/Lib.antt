-- The definitions of this crate.
pub mod Trails
pub mod Raising
pub mod Stops
pub mod Carrying
pub mod Outcomes
pub mod Outgoing
pub mod ProcSiteInvariant
