-- The lemmas of this crate, from the bottom up.
mod NamedSets
mod ManySets
mod SetWalk
mod FilledRows
mod LiteralWalk
mod ConstraintSteps
mod StampedRows
mod StampedKeys
mod ApartGroups
pub mod ModifiedRows
mod StatementSteps
pub mod BlockSteps
pub mod RisingStamps
mod BaseRefusals
mod BaseFilling
mod BaseTables
mod SoundFilling
