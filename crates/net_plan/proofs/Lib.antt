-- The lemmas of this crate, from the bottom up.
mod WorkedNets
mod Places
mod Pairs
mod Deliveries
mod Stays
mod InOrder
