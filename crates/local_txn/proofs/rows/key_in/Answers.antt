use Rattle.local_txn.proofs.ConstraintSteps.{length-key_of_long}
use Rattle.local_txn.proofs.rows.key_in.Goals as goal

pub key_of-requires : goal.key_of-requires
key_of-requires g c = rw (c.columns_of.ensures, c.schema.ensures.value, c.values.ensures.value, length-key_of_long _ _ c.requires.long) (c.requires.able.keyed)
