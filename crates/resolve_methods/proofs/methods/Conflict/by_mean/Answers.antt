-- The numbers of parts and rows that fit lie within ±10^15.
use Rattle.resolve_methods.proofs.InRange.{IsInRange-only, IsInRange-only_group}
use Rattle.resolve_methods.proofs.methods.Conflict.by_mean.Goals as goal

pub averaged-requires-clause-new : goal.averaged-requires-clause-new
averaged-requires-clause-new c = rw (c.number_of-new.ensures, c.only.ensures, c.as_slice.ensures) (IsInRange-only _ _ c.requires.values.new)

pub averaged-requires-clause-current : goal.averaged-requires-clause-current
averaged-requires-clause-current c = rw (c.number_of-now.ensures, c.current_in.ensures) (IsInRange-only_group c.args.self.now.schema.now c.args.self.now.table c.args.self.now.part.now.group c.args.self.now.current.now c.requires.row)
