-- The lemmas of this crate.
mod Listed
