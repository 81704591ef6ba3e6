-- The lemmas of this crate, from the bottom up.
pub mod Sites
pub mod Positions
pub mod Numbers
mod Places
pub mod QueueStreams
mod Found
mod Room
mod Extending
mod Raising
pub mod QueuedTxns
mod Sweeping
mod Purging
mod StreamLaws
