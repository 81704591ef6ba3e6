-- The lemmas of this crate.
mod FirstLists
mod Counts
mod Room
mod InPlaces
