-- The commands so far are those of the directions so far.
use Rattle.std.proofs.Common.{◌≡◌, ◌++◌, map, take}
use Rattle.storm_script.specs.Closing.{push_line}
use Rattle.storm_script.proofs.last.add_pushes.Given as goal

abbrev pub invariant-loop-way : goal.invariant-loop-way
invariant-loop-way l = l.commands.items ≡ l.initial.commands.items ++ map push_line (take l.way-index l.ways)
