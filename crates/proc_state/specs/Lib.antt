-- The definitions of this crate.
pub mod Actions
pub mod Calls
pub mod Carriers
pub mod State
pub mod Calling
pub mod Packets
pub mod Passes
pub mod Errors
pub mod Fits
pub mod Events
pub mod Laws
