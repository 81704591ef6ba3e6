use Rattle.std.specs.Bool.{one_answer}
use Rattle.rep_schema.specs.Groups.{values_at}
use Rattle.rep_schema.proofs.ValuesAt.{are_same-Decides}
use Rattle.subquery_snapshots.proofs.search.is_child.Goals as goal

pub returns : goal.returns
returns c =
    let same = rw (c.values.ensures.value, c.values-2.ensures.value) at c.has_values.ensures in
    one_answer _ _ same (are_same-Decides (values_at c.args.columns.now c.args.row.now) c.args.parent.now)
