-- The lemmas of this crate.
pub mod FirstLines
pub mod Limits
pub mod Worlds
mod Schemas
