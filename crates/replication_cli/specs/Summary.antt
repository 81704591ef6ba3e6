-- What a storm prints: nine lines.
use Rattle.std.specs.Prelude.{ℕ, List, ◌++◌}
use Rattle.world_state.specs.World.{WorldState, first_world}
use Rattle.world_state.specs.Steps.{world_steps}
use Rattle.storm_script.specs.Sites.{site_a}
use Rattle.storm_script.specs.Storm.{storm_commands}
use Rattle.replication_cli.specs.declared.tally.Tally.{Tally}
use Rattle.replication_cli.specs.Texts.{texts}
use Rattle.replication_cli.specs.Tallies.{tally_of}
use Rattle.replication_cli.specs.Stocks.{stock_rows, totals_of, masters_agree}
use Rattle.replication_cli.specs.Lines.{storm_line, tally_lines, totals_lines, agree_line}

-- of a seed and a number of rounds, by what was told and by the last world
abbrev pub summary_text : ℕ → ℕ → Tally → WorldState → List ℕ
summary_text seed count t w = storm_line seed count ++ (tally_lines t ++ (totals_lines (totals_of (stock_rows site_a w)) ++ agree_line (masters_agree w)))

-- the summary of the storm of a seed and a number of rounds: of the texts that its commands print, the first of which has
-- number 1, and of the world behind them
unfoldable pub storm_summary : ℕ → ℕ → List ℕ
storm_summary seed count =
    summary_text seed count
    (tally_of (texts 1 (storm_commands seed count) first_world))
    (world_steps 1 (storm_commands seed count) first_world)
