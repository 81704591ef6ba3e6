-- The definitions of this crate.
pub mod Bytes
pub mod Forms
pub mod Tokens
pub mod Lexemes
pub mod Spans
pub mod Stop
pub mod Lines
pub mod Laws
