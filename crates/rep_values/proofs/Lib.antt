-- The lemmas of this crate.
pub mod RefusalSteps
mod NameTexts
