-- The lemmas of this crate.
mod StillThere
