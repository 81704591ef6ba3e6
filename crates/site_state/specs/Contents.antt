-- The tables and counters of a site: the transactions of its journal, one after the other, on its base rows.
use Rattle.std.specs.Prelude.{List, [], ◌∷◌, map, Result, Ok, Err}
use Rattle.rep_values.specs.declared.name.SiteName.{SiteName}
use Rattle.rep_schema.specs.declared.schema.Schema.{Schema}
use Rattle.rep_schema.specs.declared.change.Change.{Change}
use Rattle.rep_schema.specs.Tables.{Rows}
use Rattle.rep_calls.specs.declared.call.Txn.{Txn}
use Rattle.conflict_detect.specs.ChangeCalls.{call_of}
use Rattle.unique_resolve.specs.Numbers.{first_numbers}
use Rattle.txn_effects.specs.Calls.{Effect}
use Rattle.txn_effects.specs.Transactions.{Failure}
use Rattle.txn_effects.specs.Contents.{Content, content_after}
use Rattle.site_state.specs.declared.entry.Entry.{Entry}
use Rattle.site_state.specs.declared.entry.Entry.TheVariants.{Local, Done, Error, Executed, Dropped, Refreshed}
use Rattle.site_state.specs.State.{SiteState}

-- the base rows, and every counter at 0
abbrev pub first_content : Schema → List Rows → Content
first_content schema base = record { tables = base; numbers = first_numbers schema }

-- tables and counters after one entry more: a transaction is applied; an error changes nothing, nor does a drop; a refresh
-- begins anew with the base rows, which it made
abbrev pub content_with : Schema → SiteName → List Rows → Entry → Content → Content
content_with schema site base (Local number txn) content = content_after schema site txn content
content_with schema site base (Done origin position onward txn) content = content_after schema origin txn content
content_with schema site base (Error origin position call error txn) content = content
content_with schema site base (Executed origin position onward txn) content = content_after schema origin txn content
content_with schema site base (Dropped origin position) content = content
content_with schema site base (Refreshed moment) content = first_content schema base

-- tables and counters of a site of this name with these base rows, after a journal
abbrev pub journal_content : Schema → SiteName → List Rows → List Entry → Content
journal_content schema site base [] = first_content schema base
journal_content schema site base (e ∷ es) = content_with schema site base e (journal_content schema site base es)

-- a site's tables and counters
abbrev pub content_of : SiteState → Content
content_of x = journal_content x.schema x.here.site x.base x.journal

-- a site's tables
abbrev pub tables_of : SiteState → List Rows
tables_of x = (content_of x).tables

-- the transaction of row changes: the call of each
abbrev pub txn_of : Schema → List Change → Txn
txn_of schema changes = record { calls = map (call_of schema) changes }

-- the row changes of a transaction, none where it fails
abbrev pub changes_by : Result Effect Failure → List Change
changes_by (Ok effect) = effect.changes
changes_by (Err failure) = []
