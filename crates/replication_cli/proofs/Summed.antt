-- The lines that are added one after another are the summary.
use Rattle.std.proofs.Common.{◌≡◌, ℕ, Bool, List, [], ◌++◌, ap, ◌∙◌, append_assoc}
use Rattle.script_parse.specs.declared.command.Command.{Command}
use Rattle.world_state.specs.World.{WorldState, first_world}
use Rattle.world_state.specs.Steps.{world_steps}
use Rattle.storm_script.specs.Sites.{site_a}
use Rattle.storm_script.specs.Storm.{storm_commands}
use Rattle.replication_cli.specs.declared.tally.Tally.{Tally}
use Rattle.replication_cli.specs.declared.stocks.Totals.{Totals}
use Rattle.replication_cli.specs.Texts.{texts}
use Rattle.replication_cli.specs.Tallies.{tally_of}
use Rattle.replication_cli.specs.Runs.{Running, storm_beginning, with_commands}
use Rattle.replication_cli.specs.Stocks.{stock_rows, totals_of, masters_agree}
use Rattle.replication_cli.specs.Lines.{storm_line, tally_lines, totals_lines, agree_line}
use Rattle.replication_cli.specs.Summary.{summary_text, storm_summary}
use Rattle.replication_cli.proofs.Counting.{world_behind, tally_behind}

added : (a b c d : List ℕ) → ((a ++ b) ++ c) ++ d ≡ a ++ (b ++ (c ++ d))
added a b c d = append_assoc (a ++ b) c d ∙ append_assoc a b (c ++ d)

-- the summary of what a run of the storm's commands told, and of its world
summary_of : (seed count : ℕ) (r : Running) → r ≡ with_commands storm_beginning (storm_commands seed count) → summary_text seed count r.tally r.world ≡ storm_summary seed count
unfolding storm_summary
summary_of seed count r is =
    let cs : List Command = storm_commands seed count in
    let world : r.world ≡ world_steps 1 cs first_world = ap (λ (x : Running). x.world) is ∙ world_behind cs in
    let tally : r.tally ≡ tally_of (texts 1 cs first_world) = ap (λ (x : Running). x.tally) is ∙ tally_behind cs in
    ap (λ (t : Tally). summary_text seed count t r.world) tally ∙ ap (λ (w : WorldState). summary_text seed count (tally_of (texts 1 cs first_world)) w) world

-- lines that are added one after another
pub lines_added : (seed count : ℕ) (none first second third all : List ℕ) (t : Tally) (totals : Totals) (agree : Bool) → none ≡ [] → first ≡ none ++ storm_line seed count
    → second ≡ first ++ tally_lines t → third ≡ second ++ totals_lines totals → all ≡ third ++ agree_line agree
    → all ≡ storm_line seed count ++ (tally_lines t ++ (totals_lines totals ++ agree_line agree))
lines_added seed count none first second third all t totals agree none_is first_is second_is third_is all_is =
    let lines : List ℕ = (storm_line seed count ++ tally_lines t) ++ totals_lines totals in
    let front : first ≡ storm_line seed count = first_is ∙ ap (λ (l : List ℕ). l ++ storm_line seed count) none_is in
    let told : second ≡ storm_line seed count ++ tally_lines t = second_is ∙ ap (λ (l : List ℕ). l ++ tally_lines t) front in
    let summed_up : third ≡ lines = third_is ∙ ap (λ (l : List ℕ). l ++ totals_lines totals) told in
    all_is ∙ ap (λ (l : List ℕ). l ++ agree_line agree) summed_up ∙ added (storm_line seed count) (tally_lines t) (totals_lines totals) (agree_line agree)

module _ (seed count : ℕ) (r : Running) (is : r ≡ with_commands storm_beginning (storm_commands seed count)) where
  -- they are the summary, where they are of the run and of its world
  pub summed : (t : Tally) (totals : Totals) (agree : Bool) → t ≡ r.tally → totals ≡ totals_of (stock_rows site_a r.world) → agree ≡ masters_agree r.world
      → storm_line seed count ++ (tally_lines t ++ (totals_lines totals ++ agree_line agree)) ≡ storm_summary seed count
  summed t totals agree t_is totals_is agree_is =
      ap (λ (u : Tally). storm_line seed count ++ (tally_lines u ++ (totals_lines totals ++ agree_line agree))) t_is
      ∙ ap (λ (u : Totals). storm_line seed count ++ (tally_lines r.tally ++ (totals_lines u ++ agree_line agree))) totals_is
      ∙ ap (λ (b : Bool). storm_line seed count ++ (tally_lines r.tally ++ (totals_lines (totals_of (stock_rows site_a r.world)) ++ agree_line b))) agree_is
      ∙ summary_of seed count r is
