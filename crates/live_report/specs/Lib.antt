-- The definitions of this crate.
pub mod PartTexts
pub mod PartLaws
