use Rattle.std.proofs.Common.{◌≡◌, length, ap, arith}
use Rattle.rep_schema.proofs.TableSteps.{AreTables-empty}
use Rattle.row_tables.proofs.list_tables.ListTables.sharing.Goals as goal

pub invariant_of-result : goal.invariant_of-result
invariant_of-result c =
    let all : c.loop.counter ≡ length c.args.schema.tables = omega (arith, ap (λ s. length s.tables) c.as_schema.ensures) in
    rw (c.loop.invariant, all) (AreTables-empty c.args.schema)
