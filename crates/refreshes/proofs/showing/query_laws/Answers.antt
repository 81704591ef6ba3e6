use Rattle.rep_schema.proofs.FilteredRows.{find_row-filter, IsTable-filter}
use Rattle.refreshes.proofs.showing.query_laws.Goals as goal

pub returns-clause-finds : goal.returns-clause-finds
returns-clause-finds c = find_row-filter

pub returns-clause-tables : goal.returns-clause-tables
returns-clause-tables c = IsTable-filter
