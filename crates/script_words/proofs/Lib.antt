-- The lemmas of this crate.
pub mod Repeats
pub mod ReadAgain
pub mod Again
