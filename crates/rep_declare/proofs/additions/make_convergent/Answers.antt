-- The table of a name becomes convergent.
use Rattle.std.proofs.Common.{refl}
use Rattle.rep_declare.specs.Additions.{made_convergent}
use Rattle.rep_declare.proofs.ChangedTables.{table_changed, no_table_changed}
use Rattle.rep_declare.proofs.additions.make_convergent.Goals as goal

pub returns-in-Some : goal.returns-in-Some
returns-in-Some c =
    table_changed c.args.schema.now c.args.table.now made_convergent c.table_place.result c.as_slice.result.now c.as_slice.ensures c.table_place.ensures
    c.in-Some.place c.at_mut.result.now (made_convergent c.at_mut.result.now) c.in-Some.is c.at_mut.ensures.value refl

pub returns-in_default : goal.returns-in_default
returns-in_default c =
    no_table_changed c.args.schema.now c.args.table.now made_convergent c.table_place.result c.as_slice.result.now c.as_slice.ensures c.table_place.ensures c.in_default.is
