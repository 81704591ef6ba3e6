-- The definitions of this crate.
pub mod SiteInvariant
pub mod Seen
pub mod Applying
pub mod Noting
pub mod Outcomes
pub mod Committing
pub mod Working
pub mod Ordering
pub mod Looking
