-- The lemmas of this crate.
mod NumeralLemmas
mod WordLemmas
mod FormLemmas
mod WalkLemmas
mod ReadLemmas
mod AskedLemmas
mod WorkedWords
