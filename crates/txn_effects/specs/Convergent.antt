-- What convergent tables bar.
use Rattle.std.specs.Prelude.{ℕ, Bool, true, false, cond, not, ◌&&◌, ◌||◌, [], ◌∷◌, Option, Some, None, slice_get}
use Rattle.std.specs.Option.{option_map}
use Rattle.std.specs.Ordering.{is_lt}
use Rattle.std.specs.List.{find}
use Rattle.rep_values.specs.declared.value.Value.{Value}
use Rattle.rep_values.specs.declared.value.Value.TheVariants.{Words}
use Rattle.rep_values.specs.declared.refusal.Refusal.{Refusal}
use Rattle.rep_values.specs.declared.refusal.Refusal.TheVariants as refusal
use Rattle.rep_values.specs.Equality.{value_eq}
use Rattle.rep_values.specs.RefusalSteps.{refused}
use Rattle.rep_schema.specs.declared.schema.Schema.{Schema}
use Rattle.rep_schema.specs.declared.schema.TableEntry.{TableEntry}
use Rattle.rep_schema.specs.declared.schema.Group.{Group}
use Rattle.rep_schema.specs.Tables.{Cells, columns_of, key_of, cell_cmp}
use Rattle.rep_schema.specs.Groups.{groups_of}
use Rattle.schema_rules.specs.declared.forms.Form.{Form}
use Rattle.schema_rules.specs.declared.forms.Form.TheVariants as form
use Rattle.schema_rules.specs.Forms.{form_of}
use Rattle.txn_effects.specs.declared.local.Here.{Here}
use Rattle.txn_effects.specs.declared.side.Side.{Side}
use Rattle.txn_effects.specs.declared.side.Side.TheVariants.{Convergent, Ordinary}

abbrev pub convergent_in : Option TableEntry → Bool
convergent_in None = false
convergent_in (Some entry) = entry.convergent

-- a table is convergent
abbrev pub is_convergent : Schema → ℕ → Bool
is_convergent schema table = convergent_in (slice_get schema.tables table)

-- which tables a statement is on: the convergent ones, or the others
abbrev pub side_of : Schema → ℕ → Side
side_of schema table = cond (is_convergent schema table) Convergent Ordinary

abbrev pub is_other : Side → Side → Bool
is_other Convergent Convergent = false
is_other Convergent Ordinary = true
is_other Ordinary Convergent = true
is_other Ordinary Ordinary = false

-- the statements before are on the other tables
abbrev pub mixes : Option Side → Side → Bool
mixes None side = false
mixes (Some before) side = is_other before side

-- barred in a convergent table, or by the tables that the block is on so far
abbrev pub barred : Schema → Option Side → ℕ → Bool → Option Refusal
barred schema side table bars = refused ((is_convergent schema table && bars) || mixes side (side_of schema table)) refusal.Barred

abbrev pub begins_with : Value → Cells → Bool
begins_with value [] = false
begins_with value (v ∷ vs) = value_eq v value

-- the first key value of a new row in a convergent table has to be the site's name
abbrev pub own_key_step : Schema → Here → ℕ → Cells → Option Refusal
own_key_step schema here table row = refused (is_convergent schema table && not (begins_with (Words here.site.0) (key_of (columns_of schema table) row))) refusal.KeyNotOwn

-- a number that only grows becomes less, or one that only becomes less grows
abbrev pub breaks : Option Form → Cells → Cells → Bool
breaks None before after = false
breaks (Some form.Sum) before after = false
breaks (Some (form.Greatest column)) before after = is_lt (cell_cmp (slice_get after column) (slice_get before column))
breaks (Some (form.Least column)) before after = is_lt (cell_cmp (slice_get before column) (slice_get after column))
breaks (Some (form.Latest stamp site)) before after = false

-- the first group of a table whose form a changed row breaks
abbrev pub broken_group : Schema → ℕ → Cells → Cells → Option Group
broken_group schema table before after = find (λ group. breaks (form_of (columns_of schema table) group) before after) (groups_of schema table)

-- a changed row in a convergent table has to keep the forms of its groups
abbrev pub rule_step : Schema → ℕ → Cells → Cells → Option Refusal
rule_step schema table before after = cond (is_convergent schema table)
    (option_map (λ group. refusal.RuleBroken group.name) (broken_group schema table before after)) None
