-- The definitions of this crate.
pub mod Edges
pub mod Marks
pub mod MarkLaws
