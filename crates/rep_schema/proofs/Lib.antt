-- The lemmas of this crate, from the bottom up.
pub mod KeyWalk
pub mod RowFit
pub mod SameValues
pub mod TableSteps
pub mod FittingTests
pub mod FoundRows
pub mod FilteredRows
pub mod ValuesAt
mod RowWalk
pub mod WithValues
pub mod PartFit
pub mod TakingBack
pub mod Leading
pub mod Making
pub mod Shapes
pub mod Levels
mod FewNumbers
pub mod GroupShapes
pub mod Coverage
mod TableMarks
mod CheckExamples
mod ShapeExamples
mod GroupExamples
mod ChangeExamples
