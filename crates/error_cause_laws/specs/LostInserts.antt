-- Where the insert of a missing row is: in error, or dropped.
use Rattle.std.specs.Prelude.{◌≡◌, ℕ, ◌-◌, ◌&&◌, ◌||◌, Bool, true, false, not, cond, List, [], ◌∷◌, Some, is_some, slice_get}
use Rattle.std.specs.List.{list_any}
use Rattle.rep_values.specs.declared.name.SiteName.{SiteName}
use Rattle.rep_values.specs.declared.refusal.ApplyError.TheVariants as error
use Rattle.rep_schema.specs.declared.schema.Schema.{Schema}
use Rattle.rep_schema.specs.Tables.{Cells}
use Rattle.rep_calls.specs.declared.call.Call.{Call}
use Rattle.rep_calls.specs.declared.call.Txn.{Txn}
use Rattle.conflict_detect.specs.Fits.{table_of}
use Rattle.conflict_detect.specs.KeysNamed.{key_named}
use Rattle.txn_effects.specs.Convergent.{is_convergent}
use Rattle.rep_values.specs.SiteNames.{is_same_site}
use Rattle.site_state.specs.declared.entry.Entry.{Entry}
use Rattle.site_state.specs.declared.entry.Entry.TheVariants.{Local, Done, Error, Executed, Dropped, Refreshed}
use Rattle.site_state.specs.Journal.{is_position, error_at}
use Rattle.site_state.specs.Steps.{is_empty}
use Rattle.site_events.specs.Cluster.{Cluster, site_of}
use Rattle.site_events.specs.Events.{Event, Join, run}
use Rattle.event_laws.specs.Marks.{journal_in}
use Rattle.convergence_laws.specs.Joins.{inserts_in}
use Rattle.error_cause_laws.specs.Excuses.{OfFailures}

-- ---- what a journal says of an error

-- an entry drops the error of a position
abbrev pub drops : SiteName → ℕ → Entry → Bool
drops origin position (Local number txn) = false
drops origin position (Done o p onward txn) = false
drops origin position (Error o p call why txn) = false
drops origin position (Executed o p onward txn) = false
drops origin position (Dropped o p) = is_position origin position o p
drops origin position (Refreshed moment) = false

-- the error of a position was dropped
abbrev pub was_dropped : SiteName → ℕ → List Entry → Bool
was_dropped origin position journal = list_any (drops origin position) journal

-- the error of a position stands or was dropped: it wasn't executed
abbrev pub stands_or_was_dropped : SiteName → ℕ → List Entry → Bool
stands_or_was_dropped origin position journal = is_some (error_at origin position journal) || was_dropped origin position journal

-- ---- the insert of a row

-- a transaction inserts a row
abbrev pub inserts_row : Schema → ℕ → Cells → Txn → Bool
inserts_row schema table key txn = not (is_empty (inserts_in schema table key txn.calls))

-- an entry is the error of a transaction that inserts a row, at a position that passes a test
abbrev pub is_failed_insert : Schema → ℕ → Cells → (SiteName → ℕ → Bool) → Entry → Bool
is_failed_insert schema table key passes (Local number txn) = false
is_failed_insert schema table key passes (Done o p onward txn) = false
is_failed_insert schema table key passes (Error o p call why txn) = inserts_row schema table key txn && passes o p
is_failed_insert schema table key passes (Executed o p onward txn) = false
is_failed_insert schema table key passes (Dropped o p) = false
is_failed_insert schema table key passes (Refreshed moment) = false

-- a row's insert is lost in a journal: the transaction that inserts it was in error, and its error stands or was dropped
abbrev pub insert_is_lost : Schema → ℕ → Cells → List Entry → Bool
insert_is_lost schema table key journal = list_any (is_failed_insert schema table key (λ o p. stands_or_was_dropped o p journal)) journal

-- a row's insert was dropped in a journal
abbrev pub insert_was_dropped : Schema → ℕ → Cells → List Entry → Bool
insert_was_dropped schema table key journal = list_any (is_failed_insert schema table key (λ o p. was_dropped o p journal)) journal

-- ---- before a master joined

-- of the site from which a master is copied, where an event is the join of that master
abbrev pub of_source : SiteName → Event → (SiteName → Bool) → Bool
of_source site (Join joins source) test = is_same_site joins site && test source
of_source site e test = false

-- a row's insert was dropped before a master joined: at the site from which it was copied; or, where that one had joined
-- itself, before that one joined, and so on back
abbrev pub dropped_before : Schema → ℕ → Cells → List Event → Cluster → SiteName → Bool
dropped_before schema table key [] start site = false
dropped_before schema table key (e ∷ es) start site = cond (is_some (site_of site (run es start).sites)) (dropped_before schema table key es start site)
    (of_source site e (λ source. insert_was_dropped schema table key (journal_in (site_of source (run es start).sites)) || dropped_before schema table key es start source))

-- ---- what is said of a failure

-- where there is no row for a call on a convergent table, the row's insert is lost in the journal behind it, or was lost before
abbrev pub NoRowIsOfALostInsert : Schema → (ℕ → Cells → Bool) → OfFailures
NoRowIsOfALostInsert schema before behind number why txn = why ≡ error.NoRow → (call : Call) → slice_get txn.calls (number - 1) ≡ Some call → is_convergent schema (table_of call) ≡ true
    → (insert_is_lost schema (table_of call) (key_named schema call) behind || before (table_of call) (key_named schema call)) ≡ true
