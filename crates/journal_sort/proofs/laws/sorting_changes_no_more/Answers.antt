-- The law of sorted journals.
use Rattle.journal_sort.proofs.SortedSites.{sorting_changes_no_more}
use Rattle.journal_sort.proofs.laws.sorting_changes_no_more.Goals as goal

pub returns : goal.returns
returns c = sorting_changes_no_more
