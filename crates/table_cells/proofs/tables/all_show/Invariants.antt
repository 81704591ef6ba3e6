-- Looking at masters one by one.
use Rattle.std.proofs.Common.{◌≡◌, drop, map}
use Rattle.std.specs.List.{list_all}
use Rattle.table_cells.specs.Cells.{shows}
use Rattle.table_cells.proofs.tables.all_show.Given as goal

-- those so far show the value
abbrev pub invariant-loop-master : goal.invariant-loop-master
invariant-loop-master l = list_all (shows l.table l.key l.column l.value) (map (λ master. master.now) (drop l.master-index l.masters)) ≡ list_all (shows l.table l.key l.column l.value) (map (λ master. master.now) l.masters)
