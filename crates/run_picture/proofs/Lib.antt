-- The lemmas of this crate.
mod Journals
mod Entries
mod Shown
mod Drawn
