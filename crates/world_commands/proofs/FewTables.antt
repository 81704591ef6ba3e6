-- How many tables a site of procedures has.
use Rattle.std.proofs.Common.{◌≡◌, ◌≤◌, length, sym, subst}
use Rattle.rep_schema.specs.declared.schema.Schema.{Schema}
use Rattle.proc_state.specs.State.{ProcState}
use Rattle.proc_state.specs.Fits.{ProcFits}

-- a schema that is its schema has at most 32
pub few_tables : (x : ProcState) (schema : Schema) → schema ≡ x.schema → ProcFits x → length schema.tables ≤ 32
few_tables x schema is fits = subst (λ (s : Schema). length s.tables ≤ 32) (sym is) fits.keyed.shape.table_number
