-- The definitions of this crate.
pub mod Turns
pub mod RisingNumbers
pub mod RunLaws
pub mod FullRuns
pub mod Printed
