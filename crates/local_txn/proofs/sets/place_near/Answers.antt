use Rattle.std.proofs.Common.{sym, ◌∙◌}
use Rattle.local_txn.proofs.NamedSets.{position-column}
use Rattle.local_txn.proofs.sets.place_near.Goals as goal

-- no other column has the name
pub returns-then-is_same : goal.returns-then-is_same
returns-then-is_same c =
    sym (position-column c.args.columns.now c.args.name.now c.args.near c.index-columns-near.result c.requires c.if-near-columns.true
    (sym c.is_same.ensures.value ∙ c.if-is_same.true))
