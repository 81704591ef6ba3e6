-- The lemmas of this crate, from the bottom up.
pub mod Outcomes
pub mod Printing
mod Unbroken
mod FewTables
mod DeclaredApart
mod GivenRows
mod NoParents
mod RuledRows
mod ShownRows
mod Parts
mod RefreshedSites
mod RefreshSteps
mod QueueCounts
mod OpenedSites
mod JoinSteps
pub mod TakenOver
