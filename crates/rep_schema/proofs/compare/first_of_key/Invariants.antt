-- Looking for the first column of the key.
use Rattle.std.proofs.Common.{◌≡◌}
use Rattle.rep_schema.specs.Tables.{key_of}
use Rattle.rep_schema.proofs.KeyWalk.{key_from}
use Rattle.rep_schema.proofs.compare.first_of_key.Given as goal

-- the columns so far give nothing
abbrev pub invariant-loop-i : goal.invariant-loop-i
invariant-loop-i l = key_from l.columns l.row l.i ≡ key_of l.columns l.row
