-- The pushes follow the cleared fates.
use Rattle.std.proofs.Common.{map}
use Rattle.storm_script.specs.Sites.{ways}
use Rattle.storm_script.specs.Closing.{clear_line, push_line, closing}
use Rattle.storm_script.proofs.Pushes.{two_pieces}
use Rattle.storm_script.proofs.last.closing.Goals as goal

pub returns : goal.returns
unfolding closing
returns c =
    two_pieces (map clear_line ways) (map push_line ways) c.new-commands.result.items c.add_clears.new.commands.items c.add_pushes.new.commands.items
    c.new-commands.ensures.items (rw c.ways-ways.ensures at c.in_ok-add_clears.ensures) (rw c.ways-ways.ensures at c.in_ok-add_pushes.ensures)
