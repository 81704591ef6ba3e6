-- The lemmas of this crate, from the bottom up.
mod Renewing
mod Walking
mod Searching
mod NoParent
mod Families
mod UpToDate
mod WorkedRules
mod WorkedChildren
