-- The definitions of this crate.
pub mod Excuses
pub mod Laws
pub mod LostInserts
pub mod LostInsertLaws
