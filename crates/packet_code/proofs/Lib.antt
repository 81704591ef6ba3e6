-- The lemmas of this crate.
mod Exact
mod Numbers
mod FormsExact
mod CallsExact
mod PastsExact
mod PacketsExact
mod Repeats
mod Behind
mod Lengths
mod Decoded
mod Sealing
mod Bodies
mod Heads
pub mod WorkedPackets
