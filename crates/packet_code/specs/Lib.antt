-- The definitions of this crate.
pub mod Limits
pub mod Texts
pub mod Spelling
pub mod Route
pub mod Bodies
pub mod Laws
pub mod Reading
pub mod Forms
pub mod Heads
pub mod Readers
pub mod Sealing
