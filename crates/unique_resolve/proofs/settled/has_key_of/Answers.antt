use Rattle.rep_schema.proofs.RowFit.{length-key_of}
use Rattle.unique_resolve.proofs.settled.has_key_of.Goals as goal

-- a row that fits has a value for each key column
pub key_of-key-requires : goal.key_of-key-requires
key_of-key-requires g c = rw (c.columns_of.ensures, c.schema.ensures.value, c.values.ensures.value, length-key_of _ _ c.requires.fits) c.requires.keyed
