-- The world as Setup's end makes it: which sites are there, with which rows and logs, and between which there are links.
use Rattle.std.specs.Prelude.{◌≡◌, refl, ℕ, codes, pos, true, false, Bool, List, [], ◌∷◌, map, take, length, Some, None}
use Rattle.rep_values.specs.declared.literal.Literal.TheVariants as literal
use Rattle.rep_values.specs.declared.value.Value.TheVariants as value
use Rattle.rep_values.specs.declared.refusal.Refusal.TheVariants as refusal
use Rattle.rep_schema.specs.declared.schema.Column.{Column}
use Rattle.rep_schema.specs.declared.schema.Kind.{Kind}
use Rattle.rep_schema.specs.declared.schema.Kind.TheVariants as kind
use Rattle.rep_schema.specs.Groups.{group_columns_of}
use Rattle.rep_declare.specs.Refusals.{columns_step}
use Rattle.schema_rules.specs.Rules.{broken_rule}
use Rattle.net_plan.specs.Directions.{is_up}
use Rattle.site_state.specs.State.{SiteState, opened_of}
use Rattle.change_logs.specs.LogState.{LogState}
use Rattle.site_state.proofs.WorkedSites.{a, b, d, s, row}
use Rattle.script_parse.specs.declared.command.Command.{Command}
use Rattle.script_parse.specs.declared.command.Command.TheVariants as command
use Rattle.world_state.specs.World.{WorldState, first_world}
use Rattle.world_state.specs.Refusals.{world_refusal}
use Rattle.world_state.proofs.WorkedScripts.{t, master_line, late_line, snapshot_site_line, table_line, id_and_q, row_line, resume, push, after, told, shown, rows_at}

-- two masters, a snapshot site of the first, and a late master
abbrev setup_lines : List Command
setup_lines = master_line a ∷ late_line d ∷ master_line b ∷ snapshot_site_line s a ∷ id_and_q ∷ command.Snapshot s t None None ∷ row_line 1 10 ∷ resume ∷ []

abbrev made : WorldState
made = after setup_lines

none_is_refused : told 1 setup_lines first_world ≡ []
unfolding group_columns_of columns_step broken_rule
none_is_refused = refl

late_master_is_not_there : map (λ (x : SiteState). x.here.site) made.sites ≡ a ∷ b ∷ s ∷ []
unfolding group_columns_of columns_step broken_rule
late_master_is_not_there = refl

all_have_the_row : map (λ site. rows_at site made) (a ∷ b ∷ s ∷ []) ≡ ((row 1 10 ∷ []) ∷ []) ∷ ((row 1 10 ∷ []) ∷ []) ∷ ((row 1 10 ∷ []) ∷ []) ∷ []
unfolding group_columns_of columns_step broken_rule
all_have_the_row = refl

-- the master of a snapshot logs its table
logs_where_a_snapshot_is : map (λ site. shown [] (λ x. map (λ (log : LogState). log.table) x.logs) site made) (a ∷ b ∷ s ∷ []) ≡ (0 ∷ []) ∷ [] ∷ [] ∷ []
unfolding group_columns_of columns_step broken_rule
logs_where_a_snapshot_is = refl

snapshot_site_holds_its_table : shown [] (λ x. take 2 x.here.tables) s made ≡ true ∷ false ∷ []
unfolding group_columns_of columns_step broken_rule
snapshot_site_holds_its_table = refl

-- masters, late ones among them, are linked with each other, and a snapshot site with its master, both ways
eight_directions : length made.net ≡ 8
unfolding group_columns_of columns_step broken_rule
eight_directions = refl

which_are_linked : is_up a s made.net ∷ is_up s a made.net ∷ is_up a d made.net ∷ is_up d b made.net ∷ is_up b s made.net ∷ is_up a a made.net ∷ [] ≡ true ∷ true ∷ true ∷ true ∷ false ∷ false ∷ []
unfolding group_columns_of columns_step broken_rule
which_are_linked = refl

nobody_pushes_to_a_late_master : world_refusal (push a d) made ≡ Some refusal.UnknownName
unfolding group_columns_of columns_step broken_rule
nobody_pushes_to_a_late_master = refl

nothing_is_open_to_it : shown (Some 9) (opened_of d) a made ≡ None
unfolding group_columns_of columns_step broken_rule
nothing_is_open_to_it = refl

-- ---- rows whose filled columns are filled in

abbrev column : List ℕ → Kind → Bool → Column
column name of key = record { name = name; kind = of; key = key }

abbrev stamped : WorldState
stamped = after (
    master_line a ∷ master_line b
    ∷ table_line (column (codes "HOME") kind.Site true ∷ column (codes "ID") kind.Number true ∷ column (codes "TOP") kind.Number false ∷ column (codes "CHG") kind.Stamp false ∷ column (codes "BY") kind.Site false ∷ [])
    ∷ command.Row t (literal.Words (codes "B") ∷ literal.Num (pos 1) ∷ literal.Num (pos 5) ∷ []) ∷ resume ∷ []
    )

-- with stamp 0 and the name of the first declared master
filled_in : rows_at b stamped ≡ ((value.Words (codes "B") ∷ value.Num (pos 1) ∷ value.Num (pos 5) ∷ value.Num (pos 0) ∷ value.Words (codes "A") ∷ []) ∷ []) ∷ []
unfolding group_columns_of columns_step broken_rule
filled_in = refl
