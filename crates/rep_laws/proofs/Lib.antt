-- The lemmas of this crate, from the bottom up.
pub mod SoundSchemas
pub mod TokenTests
pub mod ConstrainedValues
pub mod RowsAlike
pub mod SettledAlike
pub mod SettledFree
pub mod ChangedRows
pub mod RowEffects
pub mod RowsEndAlike
pub mod CallTouches
pub mod TransactionTouches
pub mod SharedTokens
pub mod SameContent
pub mod ContentAfter
pub mod EitherOrder
mod WorkedIndependence
mod PlainCalls
pub mod FormShapes
pub mod ConvergentRows
pub mod SiteColumns
