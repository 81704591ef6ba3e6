-- The numbers of parts and rows that fit lie within ±10^15.
use Rattle.resolve_methods.proofs.InRange.{IsInRange-only, IsInRange-only_group}
use Rattle.resolve_methods.proofs.methods.Conflict.by_amount.Goals as goal

pub added-requires-clause-old : goal.added-requires-clause-old
added-requires-clause-old c = rw (c.number_of-old.ensures, c.only.ensures, c.as_slice.ensures) (IsInRange-only _ _ c.requires.values.old)

pub added-requires-clause-new : goal.added-requires-clause-new
added-requires-clause-new c = rw (c.number_of-new.ensures, c.only-2.ensures, c.as_slice-2.ensures) (IsInRange-only _ _ c.requires.values.new)

pub added-requires-clause-current : goal.added-requires-clause-current
added-requires-clause-current c = rw (c.number_of-now.ensures, c.current_in.ensures) (IsInRange-only_group c.args.self.now.schema.now c.args.self.now.table c.args.self.now.part.now.group c.args.self.now.current.now c.requires.row)
