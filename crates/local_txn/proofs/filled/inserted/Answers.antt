use Rattle.std.proofs.Common.{true, sym, ◌∙◌, arith}
use Rattle.std.specs.Prelude.{replicate}
use Rattle.txn_effects.specs.Filled.{everywhere, next_stamp}
use Rattle.txn_effects.specs.Stamps.{capped}
use Rattle.txn_effects.specs.Chosen.{chosen_at}
use Rattle.local_txn.proofs.FilledRows.{made_with-none, made_with-same, chosen_at-all}
use Rattle.local_txn.proofs.filled.inserted.Goals as goal

pub returns-then-not-has_filled : goal.returns-then-not-has_filled
returns-then-not-has_filled c =
    sym (made_with-none c.args.columns.now c.args.site.now c.args.stamps.now.last everywhere (capped (next_stamp c.args.stamps.now 0)) c.args.row (sym c.has_filled.ensures ∙ c.if-not-has_filled.true) c.requires.long)

-- at the columns' places all are marked
pub returns : goal.returns
returns c =
    c.made_with.ensures
    ∙ made_with-same (chosen_at (replicate 32 true)) everywhere c.args.columns.now c.args.site.now c.args.stamps.now.last (capped (next_stamp c.args.stamps.now 0)) c.args.row
    (λ k below. chosen_at-all 32 k (omega (arith, below, c.requires.few)))
