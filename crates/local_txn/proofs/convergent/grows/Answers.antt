use Rattle.std.proofs.Common.{◌==◌, sym, ap, ◌∙◌}
use Rattle.std.specs.Prelude.{slice_get}
use Rattle.std.specs.Ordering.{ordering_index, is_lt}
use Rattle.rep_schema.specs.Tables.{cell_cmp}
use Rattle.txn_effects.specs.ByColumn.{row_by}
use Rattle.local_txn.proofs.SetWalk.{cell_cmp-turned, is_lt-reversed}
use Rattle.local_txn.proofs.convergent.grows.Goals as goal

pub returns : goal.returns
returns c =
    let before = slice_get c.args.before.now c.args.column in
    let after = slice_get (row_by c.args.sets.now c.args.before.now) c.args.column in
    c.eq.ensures ∙ ap (λ o. ordering_index o == 2) c.order_at.ensures ∙ sym (ap is_lt (cell_cmp-turned before after) ∙ is_lt-reversed (cell_cmp after before))
