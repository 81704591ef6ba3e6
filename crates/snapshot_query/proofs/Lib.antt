-- The lemmas of this crate.
mod WorkedQueries
mod WorkedParents
