use Rattle.rep_schema.specs.Tables.{key_of}
use Rattle.rep_schema.proofs.SameValues.{is_eq-beside}
use Rattle.rep_schema.proofs.compare.have_one_key.Goals as goal

pub returns : goal.returns
returns c = rw (c.is_eq.ensures, c.compare_rows.ensures) (is_eq-beside c.args.columns.now (key_of c.args.columns.now c.args.b.now) c.args.a.now)
