-- The definitions of this crate.
pub mod Padded
pub mod Bytes
pub mod Text
pub mod Name
pub mod Number
pub mod Literal
pub mod Equality
pub mod Order
pub mod OrderLaws
pub mod Refusal
pub mod RefusalSteps
pub mod SiteNames
