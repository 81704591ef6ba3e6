-- The definitions of this crate.
pub mod Travelling
pub mod Repeats
pub mod Applying
pub mod Lending
