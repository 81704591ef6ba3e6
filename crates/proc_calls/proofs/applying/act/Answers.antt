use Rattle.rep_schema.proofs.FittingTests.{row_test}
use Rattle.proc_calls.proofs.applying.act.Goals as goal

pub put_values-requires-clause-fits : goal.put_values-requires-clause-fits
put_values-requires-clause-fits g c κs within = (row_test _ c.args.values.now).0 (rw c.in-Put.is at c.requires.form)
