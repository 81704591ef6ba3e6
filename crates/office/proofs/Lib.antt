-- The lemmas of this crate, from the bottom up.
mod FirstLines
mod StoppedLines
mod TakenLines
mod StatedLines
mod NoLetters
mod MadePasses
mod QuietSites
