-- The definitions of this crate.
pub mod Joins
pub mod Collections
pub mod Journals
pub mod Laws
pub mod Agreement
pub mod Faults
pub mod Onward
pub mod Beginning
pub mod Pairs
pub mod Latest
pub mod QuietAgreement
pub mod Between
