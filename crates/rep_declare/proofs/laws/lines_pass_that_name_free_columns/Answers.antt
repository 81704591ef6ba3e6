use Rattle.rep_declare.proofs.LinesOfColumns.{lines_pass_that_name_free_columns}
use Rattle.rep_declare.proofs.laws.lines_pass_that_name_free_columns.Goals as goal

pub returns : goal.returns
returns c = lines_pass_that_name_free_columns
