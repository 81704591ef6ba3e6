-- The lemmas of this crate, from the bottom up.
mod WorkedLogs
pub mod KeysLeft
mod LastMoments
pub mod LogsCross
pub mod RisingKeys
mod WorkedNotes
mod Parts
mod Room
mod RisingNotes
mod Merging
mod NotedChanges
mod TableLogs
mod TablesIn
pub mod Lending
pub mod Crossing
