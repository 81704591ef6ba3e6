use Rattle.std.proofs.Common.{arith, length, sym, ap, ◌∙◌, subst}
use Rattle.std.specs.Prelude.{All}
use Rattle.storm_script.specs.Laws.{IsLine}
use Rattle.storm_script.specs.Rounds.{storm_rounds}
use Rattle.replication_cli.specs.Runs.{Running}
use Rattle.replication_cli.proofs.Counting.{number-with_commands}
use Rattle.replication_cli.proofs.Rounds.{opening_lines, closing_lines, length-opening, length-closing, length-rounds-le}
use Rattle.replication_cli.proofs.run.Run.storm.Goals as goal

-- each command of the opening is one of a line
pub run_all-requires-clause-lines : goal.run_all-requires-clause-lines
run_all-requires-clause-lines g c κs within = subst (All IsLine) (sym (c.deref.ensures.value ∙ c.in_ok-opening.ensures)) opening_lines

pub run_all-requires-clause-room : goal.run_all-requires-clause-room
run_all-requires-clause-room g c =
    let size = ap length (c.deref.ensures.value ∙ c.in_ok-opening.ensures) ∙ length-opening in
    omega (arith, c.requires.first, size)

pub run_rounds-requires-clause-room : goal.run_rounds-requires-clause-room
run_rounds-requires-clause-room g c =
    let size = ap length (c.deref.ensures.value ∙ c.in_ok-opening.ensures) ∙ length-opening in
    let opened = ap (λ (r : Running). r.number) c.in_ok-run_all.ensures ∙ number-with_commands c.args.self.now c.deref.result.now in
    omega (arith, c.requires.first, size, opened)

-- and so is each of the closing
pub run_all-requires-2-clause-lines : goal.run_all-requires-2-clause-lines
run_all-requires-2-clause-lines g c κs within = subst (All IsLine) (sym (c.deref-2.ensures.value ∙ c.in_ok-closing.ensures)) closing_lines

pub run_all-requires-2-clause-room : goal.run_all-requires-2-clause-room
run_all-requires-2-clause-room g c =
    let size = ap length (c.deref.ensures.value ∙ c.in_ok-opening.ensures) ∙ length-opening in
    let opened = ap (λ (r : Running). r.number) c.in_ok-run_all.ensures ∙ number-with_commands c.args.self.now c.deref.result.now in
    let ran = ap (λ (r : Running). r.number) c.in_ok-run_rounds.ensures ∙ number-with_commands c.run_all.new.self (storm_rounds c.args.count 1 c.args.seed) in
    let closing_size = ap length (c.deref-2.ensures.value ∙ c.in_ok-closing.ensures) ∙ length-closing in
    omega (arith, c.requires.first, size, opened, ran, length-rounds-le c.args.count 1 c.args.seed, closing_size)
