-- The lemmas of this crate, from the bottom up.
pub mod Rising
pub mod Places
pub mod Each
pub mod FoundByKey
pub mod InPlace
