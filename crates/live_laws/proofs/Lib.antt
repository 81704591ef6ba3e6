-- The lemmas of this crate, from the bottom up.
pub mod TurnSteps
pub mod MadeTurns
pub mod BlockNumbers
pub mod RunParts
pub mod Readiness
pub mod RisingNumbers
pub mod EqualCounts
pub mod FullRuns
pub mod RunCounts
pub mod Order
pub mod Journals
pub mod TurnEvents
pub mod ReadyTurns
pub mod Completion
pub mod OneTurnMore
pub mod Printed
pub mod TurnLines
mod WorkedTurns
mod WorkedNumbers
