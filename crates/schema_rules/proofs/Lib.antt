-- The worked examples of this crate.
mod RuleExamples
pub mod SoundRules
