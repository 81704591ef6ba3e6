-- The definitions of this crate.
pub mod ErrorLists
pub mod ErrorQueueState
