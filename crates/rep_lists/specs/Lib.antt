-- The definitions of this crate.
pub mod Rising
pub mod RisingLaws
pub mod Roomy
pub mod Lends
pub mod Counting
