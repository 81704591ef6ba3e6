-- The lemmas of this crate.
mod AllRows
