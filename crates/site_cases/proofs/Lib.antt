-- The lemmas of this crate, and blocks worked out by hand over the definitions of local transactions.
mod Newest
mod WorkedStatements
mod WorkedStamps
