use Rattle.std.proofs.Common.{◌≡◌, length, ap, sym, ◌∙◌}
use Rattle.std.proofs.lemmas.List.{drop_all, append-nil}
use Rattle.std.proofs.lemmas.Bool.{false≢true}
use Rattle.rep_values.specs.Number.{IsRowLen}
use Rattle.txn_effects.specs.Filled.{row_written}
use Rattle.txn_effects.specs.Literals.{values_of}
use Rattle.local_txn.proofs.LiteralWalk.{length-row_written}
use Rattle.local_txn.proofs.literals.row_written.Goals as goal

-- the row is as long as there are columns
pub unreachable-requires : goal.unreachable-requires
unreachable-requires c =
    let columns = c.args.columns.now in
    let none = drop_all c.loop-column.column-index columns c.loop-column-test.false in
    let all : row_written columns (values_of c.args.literals.now) ≡ c.loop-column.cells = c.loop-column.invariant.rest ∙ rw none (append-nil c.loop-column.cells) in
    let long : length c.loop-column.cells ≡ length columns = ap length (sym all) ∙ length-row_written columns c.args.literals.now c.requires.long in
    let some : IsRowLen (length c.loop-column.cells) = rw long c.requires.some in
    let made = c.from_items.ensures.variant.1 some in
    false≢true (rw c.in-None.is at made)
