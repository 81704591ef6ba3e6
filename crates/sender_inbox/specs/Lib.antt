-- The definitions of this crate.
pub mod Incoming
pub mod Reaching
pub mod InboxState
pub mod Inboxes
pub mod Steps
