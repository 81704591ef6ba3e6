-- The lemmas of this crate, from the bottom up.
mod MappedMore
mod TablesMarked
mod EarlySites
mod EarlyMasters
pub mod SenderDirections
