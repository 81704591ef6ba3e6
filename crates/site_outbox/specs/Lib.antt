-- The definitions of this crate.
pub mod Outgoing
pub mod DestinationEntries
pub mod Noting
pub mod OutboxInvariant
