use Rattle.unique_resolve.proofs.TextBytes.{decimal_bytes}
use Rattle.unique_resolve.proofs.trying.Settling.append_number.Goals as goal

pub append_helps-requires-clause-bytes : goal.append_helps-requires-clause-bytes
append_helps-requires-clause-bytes g c κs within = rw (c.as_bytes.ensures.value, c.format.ensures.text) (decimal_bytes c.args.number c.ranges.number.fits)
