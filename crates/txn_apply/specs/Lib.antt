-- The definitions of this crate.
pub mod Stops
pub mod Putting
pub mod Naming
pub mod Works
pub mod Endings
pub mod Making
pub mod Laws
