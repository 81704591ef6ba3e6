-- The lemmas of this crate.
pub mod Putting
mod Texts
mod Pages
