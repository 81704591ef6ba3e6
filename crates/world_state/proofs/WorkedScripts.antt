-- What worked worlds have in common: the lines of scripts about a table T, and what is shown of a world after them.
use Rattle.std.specs.Prelude.{ℕ, suc, codes, pos, List, [], ◌∷◌, ◌++◌, map, Option, Some, None}
use Rattle.rep_values.specs.declared.name.SiteName.{SiteName}
use Rattle.rep_values.specs.declared.name.TableName.{TableName}
use Rattle.rep_values.specs.declared.literal.Literal.TheVariants as literal
use Rattle.rep_schema.specs.declared.schema.Column.{Column}
use Rattle.rep_schema.specs.Tables.{Rows}
use Rattle.rep_declare.specs.declared.declaration.Declare.TheVariants as declare
use Rattle.rep_declare.specs.declared.declaration.MethodWords.TheVariants as words
use Rattle.rep_calls.specs.declared.statement.Statement.{Statement}
use Rattle.site_state.specs.declared.entry.Entry.{Entry}
use Rattle.site_state.specs.State.{SiteState}
use Rattle.site_state.specs.Contents.{tables_of}
use Rattle.site_state.proofs.WorkedSites.{key_column, number_column}
use Rattle.site_events.specs.Cluster.{site_of}
use Rattle.report_text.specs.declared.printed.PushCount.{PushCount}
use Rattle.world_state.specs.declared.refused.Refused.{Refused}
use Rattle.script_parse.specs.declared.command.Command.{Command}
use Rattle.script_parse.specs.declared.command.Command.TheVariants as command
use Rattle.script_parse.specs.declared.command.Link.TheVariants as link_word
use Rattle.world_state.specs.World.{WorldState, first_world}
use Rattle.world_state.specs.Steps.{world_done, world_step, world_steps, step_refused}

-- ---- Setup's lines

abbrev pub t : TableName
t = record { 0 = codes "T" }

abbrev pub master_line : SiteName → Command
master_line site = command.Declare (declare.Site site)

abbrev pub late_line : SiteName → Command
late_line site = command.Declare (declare.LateSite site)

abbrev pub snapshot_site_line : SiteName → SiteName → Command
snapshot_site_line site master = command.Declare (declare.SnapSite site master)

abbrev pub table_line : List Column → Command
table_line columns = command.Declare (declare.Table t columns)

-- T has a key ID and a number Q
abbrev pub id_and_q : Command
id_and_q = table_line (key_column (codes "ID") ∷ number_column (codes "Q") ∷ [])

-- Q is a group of its own, and its amounts are added up
abbrev pub added_up : List Command
added_up = command.Declare (declare.Group t (codes "q") (codes "Q" ∷ [])) ∷ command.Declare (declare.Method t (codes "q") words.Additive) ∷ []

abbrev pub row_line : ℕ → ℕ → Command
row_line k q = command.Row t (literal.Num (pos k) ∷ literal.Num (pos q) ∷ [])

abbrev pub resume : Command
resume = command.Resume

-- ---- the other lines

abbrev pub suspend : Command
suspend = command.Suspend

abbrev pub txn : SiteName → Command
txn site = command.Txn site

abbrev pub commit : Command
commit = command.Commit

abbrev pub statement : Statement → Command
statement s = command.Statement s

-- a block at a site
abbrev pub block : SiteName → List Statement → List Command
block site statements = txn site ∷ map statement statements ++ commit ∷ []

abbrev pub push : SiteName → SiteName → Command
push from to = command.Push from to None

abbrev pub push_some : SiteName → SiteName → ℕ → Command
push_some from to count = command.Push from to (Some count)

abbrev pub link : SiteName → SiteName → Command
link from to = command.Link from to link_word.Up

abbrev pub link_down : SiteName → SiteName → Command
link_down from to = command.Link from to link_word.Down

abbrev pub execute : SiteName → SiteName → ℕ → Command
execute site origin position = command.Execute site origin position

abbrev pub drop_error : SiteName → SiteName → ℕ → Command
drop_error site origin position = command.DropError site origin position

-- ---- what is shown

-- the world after lines of which none is refused
abbrev pub then_lines : List Command → WorldState → WorldState
then_lines [] w = w
then_lines (command ∷ more) w = then_lines more (world_done 1 command w)

-- so a script begins
abbrev pub after : List Command → WorldState
after lines = then_lines lines first_world

-- the world after the lines from a number on, whether they are refused or not
abbrev pub stepped : ℕ → List Command → WorldState → WorldState
stepped number lines w = world_steps number lines w

abbrev pub told_before : Option Refused → List Refused → List Refused
told_before None more = more
told_before (Some refused) more = refused ∷ more

-- what is told of the lines that are refused
abbrev pub told : ℕ → List Command → WorldState → List Refused
told number [] w = []
told number (command ∷ more) w = told_before (step_refused number command w) (told (suc number) more (world_step number command w))

abbrev pub counted : ℕ → ℕ → ℕ → ℕ → PushCount
counted sent done errors low = record { sent = sent; done = done; errors = errors; low = low }

abbrev pub of_site : {X : Type 0} → X → (SiteState → X) → Option SiteState → X
of_site other f None = other
of_site other f (Some x) = f x

-- something of the site of a name, where it is there
abbrev pub shown : {X : Type 0} → X → (SiteState → X) → SiteName → WorldState → X
shown other f site w = of_site other f (site_of site w.sites)

abbrev pub journal_at : SiteName → WorldState → List Entry
journal_at site w = shown [] (λ x. x.journal) site w

abbrev pub rows_at : SiteName → WorldState → List Rows
rows_at site w = shown [] tables_of site w
