-- The columns that a constraint names.
use Rattle.std.proofs.Common.{◌∙◌, ap, []}
use Rattle.rep_declare.specs.Refusals.{columns_step}
use Rattle.rep_schema.specs.Named.{is_constrained}
use Rattle.rep_declare.proofs.refusals.constraint_columns_refusal.Goals as goal

pub returns : goal.returns
returns c = c.columns_refusal.ensures
    ∙ ap (λ columns. columns_step columns (is_constrained c.as_slice-2.result.now) [] c.args.names.now) c.as_slice.ensures
    ∙ ap (λ others. columns_step c.args.table.now.columns (is_constrained others) [] c.args.names.now) c.as_slice-2.ensures
