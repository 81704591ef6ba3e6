-- The lemmas of this crate.
pub mod NamedColumns
mod Changed
mod ChangedTables
mod PriorityNames
mod ListNames
mod SiteShapes
mod TableShapes
mod PriorityShapes
mod PutLevels
mod DeclaredLevels
mod PlacesNamed
mod LinesOfColumns
mod GroupShapes
mod MethodShapes
mod UniqueMethodShapes
mod CheckShapes
pub mod DeclaredShapes
pub mod DeclaredTables
mod WorkedDeclarations
