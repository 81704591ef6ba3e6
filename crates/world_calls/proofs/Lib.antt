-- The lemmas of this crate, from the bottom up.
pub mod Travelling
pub mod SentCalls
pub mod Repeats
pub mod Delivering
pub mod Passing
pub mod Applied
pub mod LiteralWalk
pub mod CallWalk
pub mod DeclaredTables
pub mod BlockCalls
pub mod Whole
