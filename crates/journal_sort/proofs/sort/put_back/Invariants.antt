-- What is left to put stands behind what is put, and there is room for it.
use Rattle.std.proofs.Common.{◌≡◌, ◌+◌, ◌++◌, length}
use Rattle.std.specs.Vec.Iter.{into_iter_items}
use Rattle.journal_sort.proofs.sort.put_back.Given as goal

abbrev pub invariant-loop-entry : goal.invariant-loop-entry
invariant-loop-entry l =
    (goal.iterator-loop-entry).can_next l.entry-iterator ×
    (goal.iterator-loop-entry).is_finite l.entry-iterator ×
    (l.journal.items ++ into_iter_items l.entry-iterator ≡ l.initial.journal.items ++ into_iter_items l.initial.entry-iterator) ×
    (length (into_iter_items l.entry-iterator) + l.initial.journal.spare ≡ l.journal.spare + length (into_iter_items l.initial.entry-iterator))
