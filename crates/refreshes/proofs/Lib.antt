-- The lemmas of this crate, from the bottom up.
mod KeysAmong
mod RowsFound
mod FewerRows
mod ShownRows
mod PlannedKeys
mod Replacing
mod ChangesMade
mod StepTables
mod AsRefreshed
mod WorkedRefreshes
pub mod Taking
mod AtPlace
mod ManyChanges
mod OneMore
mod Left
mod Outcomes
