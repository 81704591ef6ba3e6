-- The numbers of the constraints' counters, what raises one, and what is kept so that they can be put back.
use Rattle.std.specs.Prelude.{◌≡◌, ℕ, ◌+◌, min, Bool, true, false, cond, List, length, map, replicate, Option, Some, None}
use Rattle.std.specs.List.{list_any}
use Rattle.rep_schema.specs.declared.schema.Schema.{Schema}
use Rattle.rep_schema.specs.declared.schema.TableEntry.{TableEntry}
use Rattle.rep_schema.specs.declared.schema.Constraint.{Constraint}
use Rattle.rep_schema.specs.declared.schema.UniqueMethod.{UniqueMethod}
use Rattle.rep_schema.specs.declared.schema.UniqueMethod.TheVariants as method

-- a number for each secondary constraint of each table
abbrev pub Numbers : Type 0
Numbers = List (List ℕ)

-- they are the counters of this schema's constraints
abbrev pub AreCounters : Schema → Numbers → Type 0
AreCounters schema numbers = map length numbers ≡ map (λ table. length table.constraints) schema.tables

-- at first each is 0
abbrev pub first_numbers : Schema → Numbers
first_numbers schema = map (λ table. replicate (length table.constraints) 0) schema.tables

-- one more; the last number stands still
abbrev pub number_raised : ℕ → ℕ
number_raised number = min (number + 1) 18446744073709551615

-- append-sequence, which alone raises a counter
abbrev pub is_sequence : UniqueMethod → Bool
is_sequence (method.AppendSite column) = false
is_sequence (method.AppendSequence column) = true
is_sequence method.Discard = false

abbrev pub has_sequence : Constraint → Bool
has_sequence constraint = list_any is_sequence constraint.methods

abbrev pub has_sequence_in : TableEntry → Bool
has_sequence_in entry = list_any has_sequence entry.constraints

-- some constraint of some table has append-sequence among its methods
abbrev pub has_sequences : Schema → Bool
has_sequences schema = list_any has_sequence_in schema.tables

-- what is kept of the counters before a transaction: nothing where none can be raised
abbrev pub kept_numbers : Schema → Numbers → Option Numbers
kept_numbers schema numbers = cond (has_sequences schema) (Some numbers) None

-- the counters that were kept, or those that are there where nothing was
abbrev pub put_back : Option Numbers → Numbers → Numbers
put_back None now = now
put_back (Some kept) now = kept
