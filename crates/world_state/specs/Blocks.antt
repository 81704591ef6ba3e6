-- The block of a transaction.
use Rattle.std.specs.Prelude.{ℕ, ◌-◌, Bool, true, false, nat_lt, cond, List, [], ◌∷◌, ◌++◌, length, Option, Some, None, Result, Ok, Err, slice_get}
use Rattle.rep_values.specs.declared.name.SiteName.{SiteName}
use Rattle.rep_values.specs.declared.refusal.Refusal.{Refusal}
use Rattle.rep_calls.specs.declared.statement.Statement.{Statement}
use Rattle.txn_effects.specs.declared.local.LocalStop.{LocalStop}
use Rattle.txn_effects.specs.Locals.{most_statements}
use Rattle.script_parse.specs.declared.command.Command.{Command}
use Rattle.script_parse.specs.declared.command.Command.TheVariants as command
use Rattle.site_state.specs.State.{SiteState}
use Rattle.site_state.specs.Commits.{site_commit, commit_answer}
use Rattle.site_events.specs.Cluster.{site_of}
use Rattle.world_state.specs.declared.block.Block.{Block}
use Rattle.world_state.specs.World.{WorldState, with_site}

-- a block is opened at a site
abbrev pub block_opened : SiteName → WorldState → WorldState
block_opened site w = record w { block = Some (record { site = site; lines = []; statements = [] }) }

-- no block is open
abbrev pub closed : WorldState → WorldState
closed w = record w { block = None }

-- a statement more; one behind the first that is too many isn't kept
abbrev pub stated_more : ℕ → Statement → Block → Block
stated_more line statement block =
    cond (nat_lt most_statements (length block.statements)) block (record block { lines = block.lines ++ line ∷ []; statements = block.statements ++ statement ∷ [] })

abbrev pub block_with : ℕ → Statement → Option Block → Option Block
block_with line statement None = None
block_with line statement (Some block) = Some (stated_more line statement block)

-- a statement of a line, in the open block
abbrev pub with_statement : ℕ → Statement → WorldState → WorldState
with_statement line statement w = record w { block = block_with line statement w.block }

abbrev pub committed_block : Option Block → WorldState → WorldState
committed_block None w = w
committed_block (Some block) w = closed (with_site block.site (site_commit block.statements) w)

-- the open block is committed at its site, and closed
abbrev pub world_commit : WorldState → WorldState
world_commit w = committed_block w.block w

-- a line commits the open block
abbrev pub is_commit : Command → Bool
is_commit command.Commit = true
is_commit _ = false

-- ---- what a commit is refused for

abbrev pub stop_in : Result ℕ LocalStop → Option LocalStop
stop_in (Ok number) = None
stop_in (Err stop) = Some stop

abbrev pub stop_at_site : List Statement → Option SiteState → Option LocalStop
stop_at_site statements None = None
stop_at_site statements (Some x) = stop_in (commit_answer statements x)

abbrev pub block_stop : Option Block → WorldState → Option LocalStop
block_stop None w = None
block_stop (Some block) w = stop_at_site block.statements (site_of block.site w.sites)

-- the first statement of the open block that is refused, from 1, and why
abbrev pub commit_stop : WorldState → Option LocalStop
commit_stop w = block_stop w.block w

abbrev pub refusal_in : Option LocalStop → Option Refusal
refusal_in None = None
refusal_in (Some stop) = Some stop.refusal

-- why the open block isn't committed, if it isn't
abbrev pub commit_refusal : WorldState → Option Refusal
commit_refusal w = refusal_in (commit_stop w)

abbrev pub line_in : ℕ → Option ℕ → ℕ
line_in line None = line
line_in line (Some stated) = stated

abbrev pub stated_line : ℕ → Option Block → Option LocalStop → ℕ
stated_line line None stop = line
stated_line line (Some block) None = line
stated_line line (Some block) (Some stop) = line_in line (slice_get block.lines (stop.statement - 1))

-- the line that a refused commit of a line tells: that of the refused statement
abbrev pub commit_line : ℕ → WorldState → ℕ
commit_line line w = stated_line line w.block (commit_stop w)
