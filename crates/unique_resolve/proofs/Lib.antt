-- The lemmas of this crate, from the bottom up.
pub mod HeldValues
pub mod AppendedTexts
pub mod Settlements
pub mod FreeSettlements
pub mod RisingCounters
mod TextBytes
mod Tries
mod EachConstraint
mod TableCounters
mod SettlingExamples
