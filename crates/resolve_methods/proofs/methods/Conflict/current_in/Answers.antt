use Rattle.rep_schema.proofs.RowFit.{length-fits}
use Rattle.rep_schema.proofs.Coverage.{group_columns_of-below}
use Rattle.resolve_methods.proofs.methods.Conflict.current_in.Goals as goal

-- the group's columns are the table's, and the row has a value for each
pub only_at-requires : goal.only_at-requires
only_at-requires c =
    rw (c.as_slice.ensures, c.group_columns-columns.ensures, ← length-fits _ c.args.self.now.current.now c.requires.row)
    (group_columns_of-below c.args.self.now.schema.now c.requires.shape c.args.self.now.table c.args.self.now.part.now.group)
