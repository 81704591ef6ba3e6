-- The proofs of this crate.
mod DecimalTexts
mod Pushes
mod RoundCases
pub mod Lines
mod Worked
