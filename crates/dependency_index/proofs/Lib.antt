-- The lemmas of this crate, from the bottom up.
pub mod TouchedColumns
pub mod NotedTokens
mod LastPositions
mod LodgedStreams
pub mod FoundStreams
pub mod FirstStreams
pub mod Destinations
mod NotedColumns
mod NotedNext
mod DependencyLaws
