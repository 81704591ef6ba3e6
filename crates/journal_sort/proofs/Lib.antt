-- The lemmas of this crate, from the bottom up.
pub mod Selecting
pub mod SortedJournals
pub mod SortedSites
pub mod Waited
mod SortedEntries
mod WorkedJournals
