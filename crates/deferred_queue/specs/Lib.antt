-- The definitions of this crate.
pub mod Streams
pub mod QueueState
pub mod Spans
pub mod Laws
