-- The lemmas of this crate.
mod Pieces
mod Ends
