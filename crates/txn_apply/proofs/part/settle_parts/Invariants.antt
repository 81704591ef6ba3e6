-- Settling one part after the other.
use Rattle.std.proofs.Common.{◌≡◌, drop}
use Rattle.rep_schema.specs.Tables.{columns_of, RowFits}
use Rattle.txn_effects.specs.Parts.{settled_parts}
use Rattle.txn_apply.proofs.part.settle_parts.Given as goal

-- the parts that are left decide
abbrev pub invariant-loop-part : goal.invariant-loop-part
invariant-loop-part l = record {
  fits : RowFits (columns_of l.schema l.table) l.row;
  rest : settled_parts l.schema l.table (drop l.part-index l.parts) l.row ≡ settled_parts l.schema l.table l.parts l.initial.row;
}
