-- A call on a table without constraints.
use Rattle.std.proofs.Common.{sym, ◌∙◌}
use Rattle.dependency_index.proofs.TouchedColumns.{touches_none}
use Rattle.dependency_index.proofs.touched.touches_constraints.Goals as goal

pub returns-then-constraint_count-eq0 : goal.returns-then-constraint_count-eq0
returns-then-constraint_count-eq0 c =
    let none = rw c.table_of.ensures at (sym c.constraint_count.ensures ∙ c.if-constraint_count-eq0.true) in
    sym (touches_none c.args.schema.now c.args.call.now none)
