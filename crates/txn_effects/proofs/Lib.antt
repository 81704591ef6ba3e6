-- The lemmas of this crate, from the bottom up.
pub mod Results
pub mod PartEffects
pub mod CallEffects
pub mod TransactionEffects
pub mod RoomForChanges
pub mod OwnParts
pub mod OwnCalls
mod WorkedTransactions
pub mod KindRows
mod ModifiedColumns
mod FreeRows
pub mod NewRows
pub mod StatementRows
pub mod StatementEffects
pub mod StatementsApplied
