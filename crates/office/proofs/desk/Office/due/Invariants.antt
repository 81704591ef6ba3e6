-- Those in front that are behind, and those to come.
use Rattle.std.proofs.Common.{◌≡◌, ◌++◌, drop, filter, map}
use Rattle.office.specs.Owed.{due_to, is_behind}
use Rattle.office.proofs.desk.Office.due.Given as goal

abbrev pub invariant-loop-to : goal.invariant-loop-to
invariant-loop-to l = filter is_behind (map (due_to l.self) l.to-items) ≡ l.due.items ++ filter is_behind (map (due_to l.self) (drop l.to-index l.to-items))
