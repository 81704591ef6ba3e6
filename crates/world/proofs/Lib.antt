-- The lemmas of this crate, from the bottom up.
pub mod Places
pub mod Going
pub mod ProcPlaces
pub mod ProcSites
pub mod Directions
pub mod Apart
pub mod PassParts
pub mod Following
pub mod CallsFollowing
mod CallsBuilt
mod Queued
mod Young
pub mod Written
pub mod Masters
mod Quiet
pub mod TwoMasters
pub mod Joining
pub mod BuiltWorlds
pub mod Prechecks
