-- The lemmas of this crate.
mod Newest
mod Quiet
mod Crews
mod Crossing
