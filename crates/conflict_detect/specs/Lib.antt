-- The definitions of this crate.
pub mod Fits
pub mod KeysNamed
pub mod FitTests
pub mod Differing
pub mod ChangeCalls
pub mod Laws
