use Rattle.std.proofs.Common.{true, ◌∙◌, arith, zero-add}
use Rattle.std.specs.Prelude.{replicate}
use Rattle.txn_effects.specs.Filled.{everywhere}
use Rattle.txn_effects.specs.Chosen.{chosen_at}
use Rattle.local_txn.proofs.FilledRows.{filled_from-same, chosen_at-all}
use Rattle.local_txn.proofs.filled.fill_everywhere.Goals as goal

-- at the columns' places all are marked
pub returns : goal.returns
returns c =
    c.fill.ensures ∙ filled_from-same (chosen_at (replicate 32 true)) everywhere (record { stamp = 0; site = c.args.site.now }) 0 c.args.columns.now c.args.row.now
    (λ k below. rw zero-add (chosen_at-all 32 k (omega (arith, below, c.requires.few))))
