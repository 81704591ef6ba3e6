-- Declarations added one by one.
use Rattle.rep_schema.specs.Shape.{HasShape}
use Rattle.benchmarks.proofs.stock.stock.Given as goal

-- the schema has its shape
abbrev pub invariant-loop-line : goal.invariant-loop-line
invariant-loop-line l = HasShape l.schema
