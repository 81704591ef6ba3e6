-- Making the counters table by table.
use Rattle.std.proofs.Common.{◌≡◌, map, take, length, replicate}
use Rattle.rep_schema.specs.declared.schema.TableEntry.{TableEntry}
use Rattle.unique_resolve.proofs.counters.Counters.make.Given as goal

-- the tables so far have a 0 for each constraint
abbrev pub invariant-loop-entry : goal.invariant-loop-entry
invariant-loop-entry l = map (λ t. t.items) l.tables.items ≡ map (λ (entry : TableEntry). replicate (length entry.constraints) 0) (take l.entry-index l.entry-items)
