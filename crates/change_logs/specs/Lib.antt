-- The definitions of this crate.
pub mod LogState
pub mod Noting
pub mod Logs
pub mod LogLaws
pub mod RoomyNotes
pub mod Noted
