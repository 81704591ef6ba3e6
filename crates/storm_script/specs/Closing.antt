-- How a storm ends: no fates are left, and each site pushes to each other one.
use Rattle.std.specs.Prelude.{None, List, ◌++◌, map}
use Rattle.script_parse.specs.declared.command.Command.{Command}
use Rattle.script_parse.specs.declared.command.Command.TheVariants as command
use Rattle.storm_script.specs.declared.ways.Way.{Way}
use Rattle.storm_script.specs.Sites.{ways}

-- fate NAME NAME clear
abbrev pub clear_line : Way → Command
clear_line w = command.ClearFates w.from w.to

-- push NAME NAME
abbrev pub push_line : Way → Command
push_line w = command.Push w.from w.to None

-- each direction's fates are cleared, and then there is a push in each
unfoldable pub closing : List Command
closing = map clear_line ways ++ map push_line ways
