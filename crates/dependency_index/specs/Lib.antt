-- The definitions of this crate.
pub mod Tokens
pub mod SameTokens
pub mod Dependencies
pub mod Noting
pub mod Columns
pub mod Laws
