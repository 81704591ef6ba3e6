-- The definitions of this crate.
pub mod Procs
pub mod World
pub mod Declaring
pub mod ProcDeclaring
pub mod Testing
pub mod Making
pub mod Pushes
pub mod PushAnswers
pub mod CallPushes
pub mod Blocks
pub mod CallBlocks
pub mod Phases
pub mod ProcRefusals
pub mod Refusals
pub mod Answers
pub mod ProcSteps
pub mod Steps
