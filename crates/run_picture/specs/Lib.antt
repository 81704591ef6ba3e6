-- The definitions of this crate.
pub mod Marks
pub mod Folding
pub mod Drawn
