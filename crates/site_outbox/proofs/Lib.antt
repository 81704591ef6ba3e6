-- The lemmas of this crate, from the bottom up.
pub mod Joined
pub mod Noting
pub mod Places
pub mod OutboxSteps
pub mod Opening
