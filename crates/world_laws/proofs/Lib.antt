-- The lemmas of this crate, from the bottom up.
pub mod Finding
pub mod Links
pub mod SiteSteps
pub mod Pieces
pub mod Pushes
pub mod Sending
pub mod Starting
pub mod Failures
pub mod StandingErrors
pub mod WorldLaws
pub mod Calling
pub mod Reached
pub mod RefusedLines
pub mod Scripts
pub mod FittingWorlds
pub mod UnrefusedLines
mod Each
mod WrittenRows
mod FilledTables
mod Entries
mod Logging
mod DeclaredSnapshots
pub mod SnapshotStarting
mod SnapshotsHold
pub mod DeclaredStays
mod Declaring
pub mod SnapshotScripts
mod WorkedSnapshots
pub mod Growing
pub mod Sites
pub mod Nets
pub mod SiteStreams
pub mod Made
pub mod CallSending
pub mod Declared
pub mod ProceduresStay
pub mod QuietPushes
pub mod ProceduresHold
mod FilledRows
mod MadeMasters
mod SetupEnds
pub mod AlikeMasters
pub mod AlikeWorlds
