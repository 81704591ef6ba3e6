-- The lemmas of this crate, from the bottom up.
mod UnfinishedPositions
mod SetFirsts
mod CopiedRows
mod CopiedTables
mod WorkedCopies
