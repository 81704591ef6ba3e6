-- The definitions of this crate, from the bottom up.
pub mod KeyRules
pub mod MethodRules
pub mod ConstraintRules
pub mod Forms
pub mod ConvergentRules
pub mod CheckRules
pub mod Rules
pub mod Soundness
