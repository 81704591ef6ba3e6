-- The definitions of this crate.
pub mod Sending
pub mod Repeats
pub mod Travelling
pub mod Applying
