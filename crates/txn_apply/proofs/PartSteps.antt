-- One part after the other.
use Rattle.std.proofs.Common.{◌≡◌, ℕ, ◌+◌, ◌<◌, List, length, get_or, drop, Ok, ap}
use Rattle.std.proofs.lemmas.List.{drop_more}
use Rattle.rep_schema.specs.declared.schema.Schema.{Schema}
use Rattle.rep_schema.specs.Tables.{Cells}
use Rattle.rep_calls.specs.declared.call.Part.{Part}
use Rattle.txn_effects.specs.Parts.{result_then, settled_part, settled_parts}

-- where a part is settled, the others go on with the row after it
pub settled_parts-more : (schema : Schema) (table : ℕ) (parts : List Part) (i : ℕ) (part : Part) (row after : Cells) → i < length parts → part ≡ get_or parts i part
    → settled_part schema table part row ≡ Ok after → settled_parts schema table (drop i parts) row ≡ settled_parts schema table (drop (i + 1) parts) after
settled_parts-more schema table parts i part row after within is gives =
    rw (drop_more parts i part within, ← is) (ap (λ r. result_then r (settled_parts schema table (drop (i + 1) parts))) gives)
