-- The proofs of this crate.
pub mod Trails
pub mod AtPlace
pub mod Raising
pub mod Dropping
pub mod Carried
pub mod PlainCarriers
pub mod Apart
pub mod Noting
pub mod Queued
pub mod Reading
pub mod Sending
pub mod ProcSiteSteps
pub mod Passing
pub mod NewSite
