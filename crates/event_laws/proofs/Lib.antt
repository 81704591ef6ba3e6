-- The lemmas of this crate, from the bottom up.
pub mod Sites
pub mod Runs
pub mod Happening
pub mod NewSites
pub mod RunInvariants
pub mod MarkLaws
pub mod OrderLaws
pub mod ErrorLaws
pub mod PassLaws
pub mod DeclaredSites
pub mod Passing
pub mod Meeting
pub mod JoinedMeets
pub mod Waiting
pub mod WaitingCounts
pub mod QueryTables
pub mod FittingSites
pub mod AnyOrder
pub mod NotesInAnyOrder
pub mod MasterArrivals
pub mod Confluence
pub mod WorkedRuns
mod WorkedDeliveries
mod WorkedOrders
mod WorkedErrors
mod WorkedPasts
mod WorkedSnapshots
mod WorkedJoins
mod WorkedStarts
pub mod RoundsEnd
pub mod PushCounts
pub mod OpenMasters
pub mod JoinedSites
pub mod LinkedSites
pub mod RefreshedRows
pub mod Names
pub mod Streams
pub mod Openings
pub mod LateMasters
pub mod Copies
pub mod Joined
mod WorkedJoined
pub mod Keys
pub mod RowsFromKeys
pub mod ChangedRows
pub mod Moves
pub mod Parents
pub mod ParentKeys
pub mod SnapshotsKeepUp
pub mod UpToDate
pub mod Calls
pub mod SitesKeepUp
pub mod Begun
pub mod Refreshing
pub mod RunsFit
pub mod SnapshotEvents
pub mod Joining
pub mod Starting
pub mod Events
pub mod SnapshotLaws
pub mod LogLaws
pub mod RisingKeys
mod WorkedRefreshes
mod WorkedSnapshotStarts
mod WorkedSubqueries
mod WorkedSubqueryStarts
