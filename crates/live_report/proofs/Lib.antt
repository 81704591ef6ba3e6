-- The lemmas of this crate, from the bottom up.
pub mod Pieces
pub mod TurnWords
pub mod ListedTexts
pub mod KnownParts
mod WorkedParts
