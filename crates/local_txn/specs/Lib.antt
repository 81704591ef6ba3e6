-- The definitions of this crate.
pub mod BaseRows
pub mod BaseSteps
pub mod Laws
pub mod Running
