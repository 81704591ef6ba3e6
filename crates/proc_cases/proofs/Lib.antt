-- The lemmas of this crate.
mod Others
