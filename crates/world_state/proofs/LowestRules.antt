-- What it tells that no rule is broken, by a schema and by tables of procedures.
use Rattle.std.proofs.Common.{◌≡◌, ℕ, Bool, true, false, Some, None, cond, refl}
use Rattle.std.specs.Prelude.{List, Option}
use Rattle.std.specs.List.{list_all}
use Rattle.rep_schema.specs.declared.schema.TableEntry.{TableEntry}
use Rattle.schema_rules.specs.KeyRules.{is_well_keyed}
use Rattle.world_state.specs.Phases.{lower, broken_by}

-- neither rule is broken
pub lower-None : (one other : Option ℕ) → lower one other ≡ None → (one ≡ None) × (other ≡ None)
lower-None None other is = (refl, is)
lower-None (Some rule) None is = absurd (cc is)
lower-None (Some rule) (Some other) is = absurd (cc is)

-- each table of procedures has a key
pub broken_by-None : (tables : List TableEntry) → broken_by tables ≡ None → list_all is_well_keyed tables ≡ true
broken_by-None tables is = go (list_all is_well_keyed tables) is
  where
    go : (b : Bool) → cond {A = Option ℕ} b None (Some 2) ≡ None → b ≡ true
    go true is = refl
    go false is = absurd (cc is)
