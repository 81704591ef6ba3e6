-- The lemmas of this crate.
mod RunLemmas
