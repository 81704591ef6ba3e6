-- What is taken stands behind what is left, the last first.
use Rattle.std.proofs.Common.{◌≡◌, ◌+◌, ◌≤◌, ◌++◌, length, reverse, vec_len, vec_capacity}
use Rattle.journal_sort.proofs.sort.take_from.Given as goal

abbrev pub invariant-loop-journal : goal.invariant-loop-journal
invariant-loop-journal l =
    (l.journal.items ++ reverse l.taken.items ≡ l.initial.journal.items) ×
    (l.place ≤ length l.journal.items) ×
    (l.journal.spare + (length l.journal.items) ≡ l.initial.journal.spare + (length l.initial.journal.items)) ×
    (vec_len l.taken + (length l.journal.items) ≤ vec_capacity l.taken + l.place)

abbrev pub decreases-loop-journal : goal.decreases-loop-journal
decreases-loop-journal l = length l.journal.items
