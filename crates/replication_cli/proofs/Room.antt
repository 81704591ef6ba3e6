-- No more is told than commands are run, so the counts have room.
use Rattle.std.proofs.Common.{ℕ, ◌+◌, ◌^◌, ◌<◌, arith}
use Rattle.world.specs.declared.answer.Outcome.{Outcome}
use Rattle.world.specs.declared.answer.Outcome.TheVariants as outcome
use Rattle.replication_cli.specs.declared.tally.Tally.{Tally}
use Rattle.replication_cli.specs.Tallies.{with_refusal, with_outcome, HasRoom, NumbersFit}
use Rattle.replication_cli.specs.Runs.{IsCounted}

-- there is room for one command more
pub HasRoom-IsCounted : (number : ℕ) (t : Tally) → IsCounted number t → number < 2 ^ 32 → HasRoom t
HasRoom-IsCounted number t counted few = record { commits = omega arith; refused = omega arith; pushes = omega arith; errors = omega arith }

-- one command more
pub IsCounted-more : (number : ℕ) (t : Tally) → IsCounted number t → IsCounted (number + 1) t
IsCounted-more number t counted = record { commits = omega arith; refused = omega arith; pushes = omega arith; errors = omega arith }

-- one command more, and what came of it
pub IsCounted-with_outcome : (number : ℕ) (t : Tally) (came : Outcome) → NumbersFit came → IsCounted number t → IsCounted (number + 1) (with_outcome t came)
IsCounted-with_outcome number t (outcome.Committed n) fits counted = record { commits = omega arith; refused = omega arith; pushes = omega arith; errors = omega arith }
IsCounted-with_outcome number t (outcome.Pushed count) fits counted = record { commits = omega arith; refused = omega arith; pushes = omega arith; errors = omega (arith, fits.2) }
IsCounted-with_outcome number t outcome.NothingCommitted fits counted = IsCounted-more number t counted
IsCounted-with_outcome number t outcome.Done fits counted = IsCounted-more number t counted

-- one command more, and one refused
pub IsCounted-with_refusal : (number : ℕ) (t : Tally) → IsCounted number t → IsCounted (number + 1) (with_refusal t)
IsCounted-with_refusal number t counted = record { commits = omega arith; refused = omega arith; pushes = omega arith; errors = omega arith }
