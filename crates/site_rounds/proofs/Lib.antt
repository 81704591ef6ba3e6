-- The lemmas of this crate, from the bottom up.
pub mod Parts
pub mod Growing
pub mod NoErrors
mod Quiet
mod Newest
mod ErrorTexts
