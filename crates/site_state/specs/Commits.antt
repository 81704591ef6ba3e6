-- A block of statements at a site, and its clock.
use Rattle.std.specs.Prelude.{ℕ, ◌+◌, cond, List, Result, Ok, Err}
use Rattle.rep_calls.specs.declared.statement.Statement.{Statement}
use Rattle.txn_effects.specs.declared.local.LocalStop.{LocalStop}
use Rattle.txn_effects.specs.Locals.{BlockEffect, local_effect}
use Rattle.site_state.specs.declared.entry.Entry.TheVariants.{Local}
use Rattle.site_state.specs.State.{SiteState}
use Rattle.site_state.specs.Contents.{tables_of, txn_of}
use Rattle.site_state.specs.Streams.{count_of}
use Rattle.site_state.specs.Notes.{noted}
use Rattle.site_state.specs.Steps.{is_empty, journalled, begun}

-- what a block does at a site, or the first of its statements that is refused
abbrev pub block_at : List Statement → SiteState → Result BlockEffect LocalStop
block_at statements x = local_effect x.schema x.here x.stamps statements (tables_of x)

-- the moment rises, the changes are queued as a transaction of the site's own, and the changed rows are noted
abbrev pub committed : BlockEffect → SiteState → SiteState
committed block x = noted block.changes (record (begun (journalled (Local (count_of x + 1) (txn_of x.schema block.changes)) x)) { stamps = block.stamps })

abbrev pub committed_by : Result BlockEffect LocalStop → SiteState → SiteState
committed_by (Ok block) x = cond (is_empty block.changes) x (committed block x)
committed_by (Err stop) x = x

-- a block is committed; where a statement is refused or no row changes, all is as before
abbrev pub site_commit : List Statement → SiteState → SiteState
site_commit statements x = committed_by (block_at statements x) x

abbrev pub commit_answer_by : Result BlockEffect LocalStop → SiteState → Result ℕ LocalStop
commit_answer_by (Ok block) x = Ok (cond (is_empty block.changes) 0 (count_of x + 1))
commit_answer_by (Err stop) x = Err stop

-- the number under which a block is queued, 0 where no row changes; or the refused statement
abbrev pub commit_answer : List Statement → SiteState → Result ℕ LocalStop
commit_answer statements x = commit_answer_by (block_at statements x) x

-- the clock is set
abbrev pub site_clock : ℕ → SiteState → SiteState
site_clock clock x = record x { stamps = record { clock = clock; last = x.stamps.last } }
