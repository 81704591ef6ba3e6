-- The lemmas of this crate.
mod Lines
mod Ends
