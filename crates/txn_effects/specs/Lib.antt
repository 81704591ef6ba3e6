-- The definitions of this crate.
pub mod Stamps
pub mod Parts
pub mod Calls
pub mod Transactions
pub mod Contents
pub mod Laws
pub mod NewRows
pub mod Sets
pub mod ByColumn
pub mod Chosen
pub mod Convergent
pub mod Filled
pub mod Held
pub mod Literals
pub mod Statements
pub mod Locals
