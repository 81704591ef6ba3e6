-- Worked worlds, and what it tells that no rule is broken.
pub mod LowestRules
pub mod WorkedScripts
mod WorkedSetups
mod WorkedPushes
mod WorkedRounds
mod WorkedErrors
pub mod WorkedRefusals
mod WorkedSnapshots
mod WorkedJoins
pub mod WorkedCalls
mod WorkedCallRefusals
