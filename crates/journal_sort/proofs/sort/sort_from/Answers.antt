-- The sorted entries are those from the place on, and they rise since their positions differ.
use Rattle.std.proofs.Common.{rules}
use Rattle.std.proofs.lemmas.List.Sorted.{IsNonDecreasingBy-from_sort_by_key}
use Rattle.journal_sort.specs.Sorting.{finish_position}
use Rattle.journal_sort.proofs.SortedEntries.{sorted_by_sort}
use Rattle.journal_sort.proofs.sort.sort_from.Goals as goal

pub returns-clause-ok : goal.returns-clause-ok
returns-clause-ok c = sorted_by_sort c.args.place _ c.take_from.new.journal.items c.in_ok-entries.entries.items c.sort_unstable_by_key.new.self.items c.put_back.new.journal.items
    c.in_ok-entries.ensures.items c.in_ok-entries.ensures.place c.put_back.ensures.items c.requires.positions c.sort_unstable_by_key.ensures.permutation
    (IsNonDecreasingBy-from_sort_by_key finish_position c.sort_unstable_by_key.new.self.items c.sort_unstable_by_key.ensures.sorted (λ a r q k. search rules))
