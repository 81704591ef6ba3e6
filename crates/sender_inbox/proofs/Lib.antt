-- The lemmas of this crate, from the bottom up.
mod Above
mod Greatest
mod LastPlaces
pub mod Places
pub mod RisingPasts
mod InboxSteps
pub mod SenderInboxes
pub mod StandingErrors
pub mod ChangedInbox
