-- The definitions of this crate.
pub mod SoundSchemas
pub mod Commuting
pub mod Packets
pub mod GroupForms
