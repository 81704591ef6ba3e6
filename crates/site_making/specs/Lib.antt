-- The definitions of this crate.
pub mod Masters
