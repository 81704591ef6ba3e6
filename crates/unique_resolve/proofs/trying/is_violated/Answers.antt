use Rattle.std.proofs.Common.{sym, ap, ◌∙◌}
use Rattle.std.specs.Prelude.{not, option_copied}
use Rattle.unique_resolve.proofs.Tries.{is_held-before}
use Rattle.unique_resolve.proofs.trying.is_violated.Goals as goal

pub returns-else-not-is_kept : goal.returns-else-not-is_kept
returns-else-not-is_kept g c =
    let places = rw c.schema.ensures.value at c.constraint_columns-places.ensures in
    let kept = rw places at (c.is_kept.ensures c.if-not-is_kept.false) in
    ap not c.if-not-is_kept.false
    ∙ sym (is_held-before (g.R.RowStore.schema c.args.store.now) (g.R.RowStore.tables c.args.store.now) c.args.at.table c.args.at.place c.args.row.now c.requires.testable (option_copied c.args.before) c.requires.before kept)
