-- The definitions of this crate.
pub mod Columns
pub mod Parts
pub mod Methods
pub mod Actions
pub mod Declarations
pub mod Rows
pub mod ProcRows
pub mod Heads
pub mod Named
pub mod Parsed
pub mod Spelled
pub mod Laws
pub mod LiveLines
pub mod LiveLaws
