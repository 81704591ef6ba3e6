-- The lemmas of this crate, from the bottom up.
mod Sharing
mod InTurn
mod Outlasting
mod MadeEntries
mod SortedPass
mod TurnLogs
mod Crews
mod CrewPass
mod Crossing
