-- The lemmas of this crate.
mod Runs
