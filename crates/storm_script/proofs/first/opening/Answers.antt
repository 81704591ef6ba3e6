-- The declarations, the rows and the end of Setup follow one another.
use Rattle.std.proofs.Common.{[], ◌∷◌}
use Rattle.script_parse.specs.declared.command.Command.TheVariants as command
use Rattle.storm_script.specs.Opening.{declarations, row_lines, opening}
use Rattle.storm_script.proofs.Pushes.{three_pieces}
use Rattle.storm_script.proofs.first.opening.Goals as goal

pub returns : goal.returns
unfolding opening
returns c =
    three_pieces declarations (row_lines 100) (command.Resume ∷ []) c.new-commands.result.items c.add_declarations.new.commands.items c.add_rows.new.commands.items c.push.new.self.items
    c.new-commands.ensures.items c.in_ok-add_declarations.ensures c.in_ok-add_rows.ensures c.in_ok-push.ensures.items
