-- The lemmas of this crate.
pub mod Making
pub mod Marking
