use Rattle.std.proofs.Common.{◌≡◌, ◌-◌, sym, ◌∙◌, arith}
use Rattle.std.proofs.lemmas.List.{append-nil}
use Rattle.rep_schema.specs.Sites.{has_table}
use Rattle.change_logs.proofs.TablesIn.{left_from, tables_in-below}
use Rattle.change_logs.proofs.tables.tables_of.Goals as goal

pub loop-table-preserved : goal.loop-table-preserved
loop-table-preserved c = record {
  within = omega (arith, c.loop-table-test.true);
  all = rw c.in_ok-push_if_in.ensures (left_from (has_table c.args.set.now) c.args.number c.loop-table.table c.loop-table.tables c.loop-table-test.true ∙ c.loop-table.invariant.all);
}

-- none is left
pub returns : goal.returns
returns c =
    let none : c.args.number - c.loop-table.table ≡ 0 = omega (arith, c.loop-table-test.false) in
    sym (append-nil c.loop-table.tables) ∙ (rw none at c.loop-table.invariant.all) ∙ tables_in-below c.args.set.now c.args.number c.requires
