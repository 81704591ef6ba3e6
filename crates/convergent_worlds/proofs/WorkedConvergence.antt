-- A script with a convergent table: its masters begin alike, and once they are quiet they agree.
use Rattle.std.specs.Prelude.{◌≡◌, refl, ℕ, codes, pos, true, false, List, [], ◌∷◌, ◌++◌}
use Rattle.std.specs.List.{list_any}
use Rattle.rep_values.specs.declared.name.SiteName.{SiteName}
use Rattle.rep_values.specs.declared.literal.Literal.TheVariants as literal
use Rattle.rep_values.specs.declared.value.Value.TheVariants.{Words}
use Rattle.rep_schema.specs.declared.schema.Column.{Column}
use Rattle.rep_schema.specs.declared.schema.Kind.{Kind}
use Rattle.rep_schema.specs.declared.schema.Kind.TheVariants as kind
use Rattle.rep_schema.specs.Tables.{Cells}
use Rattle.rep_schema.specs.Groups.{group_columns_of}
use Rattle.rep_declare.specs.declared.declaration.Declare.TheVariants as declare
use Rattle.rep_declare.specs.declared.declaration.MethodWords.TheVariants as words
use Rattle.rep_declare.specs.Refusals.{columns_step}
use Rattle.schema_rules.specs.Rules.{broken_rule}
use Rattle.rep_calls.specs.declared.statement.Statement.{Statement}
use Rattle.rep_calls.specs.declared.statement.Statement.TheVariants.{Update}
use Rattle.rep_calls.specs.declared.statement.How.TheVariants.{To}
use Rattle.site_state.specs.State.{SiteState}
use Rattle.site_state.proofs.WorkedSites.{a, b, n}
use Rattle.site_events.specs.Quiet.{are_quiet}
use Rattle.event_laws.proofs.Sites.{found_all}
use Rattle.convergence_laws.specs.QuietAgreement.{drops_of_master, NothingWasDropped}
use Rattle.script_parse.specs.declared.command.Command.{Command}
use Rattle.script_parse.specs.declared.command.Command.TheVariants as command
use Rattle.world_state.proofs.WorkedScripts.{t, master_line, table_line, resume, block, push, rows_at}
use Rattle.world_laws.specs.Scripts.{script_world}

-- ---- what is declared

abbrev column_of : List ℕ → Kind → Column
column_of name kind = record { name = name; kind = kind; key = false }

abbrev level_line : SiteName → ℕ → Command
level_line site level = command.Declare (declare.SiteLevel site (pos level))

-- a row for each site: a text, whose latest value stays
abbrev declared_lines : List Command
declared_lines =
    master_line a ∷ master_line b ∷ level_line a 1 ∷ level_line b 2 ∷
    table_line (record { name = codes "HOME"; kind = kind.Site; key = true } ∷ column_of (codes "W") kind.Words ∷ column_of (codes "C") kind.Stamp ∷ column_of (codes "BY") kind.Site ∷ []) ∷
    command.Declare (declare.Group t (codes "w") (codes "W" ∷ codes "C" ∷ codes "BY" ∷ [])) ∷
    command.Declare (declare.Method t (codes "w") (words.Latest (codes "C"))) ∷
    command.Declare (declare.Method t (codes "w") (words.SitePriority (codes "BY"))) ∷
    command.Declare (declare.Convergent t) ∷
    command.Row t (literal.Words b.0 ∷ literal.Words (codes "x") ∷ []) ∷
    resume ∷ []

-- B's row
abbrev row_of_b : List ℕ → ℕ → SiteName → Cells
row_of_b text stamp site = Words b.0 ∷ Words text ∷ n stamp ∷ Words site.0 ∷ []

begins_filled : rows_at b (script_world declared_lines) ≡ (row_of_b (codes "x") 0 a ∷ []) ∷ []
unfolding group_columns_of columns_step broken_rule
begins_filled = refl

-- ---- a change of B's that comes to A

abbrev set_to : List ℕ → Statement
set_to text = Update t (literal.Words b.0 ∷ []) (record { column = codes "W"; how = To (literal.Words text) } ∷ [])

abbrev changed : List Command
changed = declared_lines ++ block b (set_to (codes "y") ∷ [])

abbrev pushed : List Command
pushed = changed ++ push b a ∷ []

-- before the push they differ, and aren't quiet
are_not_quiet : are_quiet (script_world changed).sites ≡ false
unfolding group_columns_of columns_step broken_rule
are_not_quiet = refl

-- behind it they are, and they agree
quiet : are_quiet (script_world pushed).sites ≡ true
unfolding group_columns_of columns_step broken_rule
quiet = refl

row_at_a : rows_at a (script_world pushed) ≡ (row_of_b (codes "y") 1 b ∷ []) ∷ []
unfolding group_columns_of columns_step broken_rule
row_at_a = refl

row_at_b : rows_at b (script_world pushed) ≡ (row_of_b (codes "y") 1 b ∷ []) ∷ []
unfolding group_columns_of columns_step broken_rule
row_at_b = refl

-- ---- by the law

nothing_was_dropped : NothingWasDropped (script_world pushed).schema (script_world pushed).sites
unfolding group_columns_of columns_step broken_rule
nothing_was_dropped site x found master =
    found_all (λ (y : SiteState). list_any (drops_of_master (script_world pushed).schema) y.journal ≡ false) site (script_world pushed).sites x (refl, (refl, tt)) found
