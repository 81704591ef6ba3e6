-- The lemmas of this crate.
pub mod PartsAgain
pub mod ProcPartsAgain
pub mod ReadAgain
pub mod ParsedLines
mod WorkedLines
pub mod LiveLinesAgain
mod WorkedLiveLines
pub mod NamedLines
