use Rattle.rep_declare.proofs.LinesOfColumns.{places_are_those_of_named_columns}
use Rattle.rep_declare.proofs.laws.places_are_those_of_named_columns.Goals as goal

pub returns : goal.returns
returns c = places_are_those_of_named_columns
