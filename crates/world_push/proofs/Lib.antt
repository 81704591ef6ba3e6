-- The lemmas of this crate, from the bottom up.
pub mod Travelling
pub mod Sending
pub mod Repeats
pub mod Delivering
pub mod Applied
pub mod Masters
pub mod Whole
pub mod PartlyPushed
pub mod LiveParts
pub mod OneAfterAnother
mod WorkedLendings
