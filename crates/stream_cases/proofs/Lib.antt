-- The lemmas of this crate, from the bottom up.
pub mod Keyed
