-- The definitions of this crate.
pub mod Looks
pub mod Markup
pub mod Shapes
pub mod Pages
pub mod Laws
