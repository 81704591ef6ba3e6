-- The lemmas of this crate, from the bottom up.
mod TotalLemmas
mod SameRows
mod WordsOfLines
mod NamedBlocks
mod TextsTell
mod Room
mod Fronts
mod Stepping
mod Counting
mod Summed
mod Rounds
mod Worked
mod AskedLive
