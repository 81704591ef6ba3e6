-- The lemmas of this crate.
mod Parted
mod InPages
mod Close
mod PageSteps
mod InStarts
mod InIndex
mod InSlots
mod InRows
mod RowSteps
mod RoomyIndexes
mod PutRows
mod OneTable
mod Declarations
