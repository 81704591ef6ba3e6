-- The key of a row that fits.
use Rattle.rep_schema.proofs.RowFit.{length-key_of}
use Rattle.rep_schema.proofs.compare.key_in.Goals as goal

-- a row that fits has a value for each key column
pub key_of-requires : goal.key_of-requires
key_of-requires c = rw (c.columns_of.ensures, c.values.ensures.value, length-key_of _ _ c.requires.fits) c.requires.keyed
