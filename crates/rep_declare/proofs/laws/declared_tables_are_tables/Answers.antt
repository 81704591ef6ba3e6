use Rattle.rep_declare.proofs.DeclaredTables.{AreTables-declared}
use Rattle.rep_declare.proofs.laws.declared_tables_are_tables.Goals as goal

pub returns : goal.returns
returns c = AreTables-declared
