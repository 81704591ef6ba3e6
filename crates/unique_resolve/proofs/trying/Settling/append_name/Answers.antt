use Rattle.unique_resolve.proofs.TextBytes.{name_bytes}
use Rattle.unique_resolve.proofs.trying.Settling.append_name.Goals as goal

pub append_helps-requires-clause-bytes : goal.append_helps-requires-clause-bytes
append_helps-requires-clause-bytes g c κs within = rw c.bytes.ensures.value (name_bytes c.args.self.now.origin.now.0 c.bytes.ensures.form)
