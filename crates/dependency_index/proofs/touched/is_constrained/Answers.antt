-- A constrained column.
use Rattle.std.proofs.Common.{ℕ, ◌==◌, sym, ◌∙◌}
use Rattle.rep_schema.specs.declared.schema.Constraint.{Constraint}
use Rattle.rep_schema.specs.Tables.{constraints_of}
use Rattle.dependency_index.proofs.TouchedColumns.{list_any-flat_map}
use Rattle.dependency_index.proofs.touched.is_constrained.Goals as goal

pub returns : goal.returns
returns c =
    c.is_taken.ensures ∙ rw c.constraints_of.ensures (sym (list_any-flat_map (λ (n : ℕ). n == c.args.column) (λ (constraint : Constraint). constraint.columns) (constraints_of c.args.schema.now c.args.table)))
