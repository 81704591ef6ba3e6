-- What the show commands print of a site.
use Rattle.std.specs.Prelude.{ℕ, ◌==◌, nat_le, cond, Option, None, Some, List, [], ◌∷◌, ◌++◌, length, reverse, flat_map, decimal, codes}
use Rattle.rep_values.specs.declared.name.SiteName.{SiteName}
use Rattle.rep_schema.specs.declared.schema.Schema.{Schema}
use Rattle.error_queue.specs.declared.entry.ErrorEntry.{ErrorEntry}
use Rattle.rep_calls.specs.declared.past.PastEntry.{PastEntry}
use Rattle.report_text.specs.Sheet.{line}
use Rattle.report_text.specs.Refusals.{error_text}
use Rattle.report_text.specs.Texts.{logged_key_text}
use Rattle.report_text.specs.Calls.{table_name, calls_text}
use Rattle.site_state.specs.declared.entry.Entry.{Entry}
use Rattle.site_state.specs.declared.entry.Entry.TheVariants.{Local, Done, Error, Executed, Dropped, Refreshed}
use Rattle.site_state.specs.State.{SiteState, arrivals}
use Rattle.change_logs.specs.LogState.{LoggedKey, LogState}
use Rattle.site_state.specs.Journal.{low_water}
use Rattle.site_state.specs.Errors.{errors_of}
use Rattle.site_state.specs.Deferrals.{deferred_of, deferred_marks}
use Rattle.deferred_queue.specs.declared.destination.Place.{Place}
use Rattle.deferred_queue.specs.Streams.{Numbered, queue_stream_to, stream_place, last_position, acked_by, numbered}

-- ---- errors

-- an error that stands, and its calls
abbrev pub standing_text : Schema → ErrorEntry → List ℕ
standing_text schema e = error_text e.origin.0 e.position e.call e.error ++ calls_text schema e.txn.calls

-- errors SITE, and each error in order
abbrev pub errors_text : List ℕ → SiteState → List ℕ
errors_text name x = line (codes "errors") (name ∷ []) ++ flat_map (standing_text x.schema) (errors_of x)

-- ---- the journal

-- onward NUMBER, where the changed rows were queued
abbrev pub onward_words : ℕ → List (List ℕ)
onward_words number = cond (number == 0) [] (codes "onward" ∷ decimal number ∷ [])

-- an entry of a journal
abbrev pub entry_text : Entry → List ℕ
entry_text (Local number txn) = line (codes "local") (decimal number ∷ [])
entry_text (Done origin position onward txn) = line (codes "done") (origin.0 ∷ decimal position ∷ onward_words onward)
entry_text (Error origin position call error txn) = error_text origin.0 position call error
entry_text (Executed origin position onward txn) = line (codes "executed") (origin.0 ∷ decimal position ∷ onward_words onward)
entry_text (Dropped origin position) = line (codes "dropped") (origin.0 ∷ decimal position ∷ [])
entry_text (Refreshed moment) = line (codes "refreshed") (decimal moment ∷ [])

-- journal SITE, and each entry, the oldest first
abbrev pub journal_text : List ℕ → SiteState → List ℕ
journal_text name x = line (codes "journal") (name ∷ []) ++ flat_map entry_text (reverse x.journal)

-- ---- marks

-- from O arrived N low M
abbrev pub sender_text : SiteState → SiteName → List ℕ
sender_text x origin = line (codes "from") (origin.0 ∷ codes "arrived" ∷ decimal (length (arrivals origin x)) ∷ codes "low" ∷ decimal (low_water origin x.journal) ∷ [])

-- to D queued N acked M
abbrev pub destination_text : SiteState → SiteName → List ℕ
destination_text x to =
    line (codes "to") (to.0 ∷ codes "queued" ∷ decimal (last_position to (deferred_of x)) ∷ codes "acked" ∷ decimal (acked_by to (deferred_marks x)) ∷ [])

-- marks SITE, and each of these senders and destinations
abbrev pub marks_text : List ℕ → List SiteName → List SiteName → SiteState → List ℕ
marks_text name senders destinations x =
    line (codes "marks") (name ∷ []) ++ (flat_map (sender_text x) senders ++ flat_map (destination_text x) destinations)

-- ---- the queue

-- acked where a destination has acknowledged so far
abbrev pub state_word : ℕ → ℕ → List ℕ
state_word acked position = cond (nat_le position acked) (codes "acked") (codes "waiting")

-- to D position P dep N, and how far it is; nothing where the transaction doesn't go there
abbrev pub place_text : SiteName → ℕ → Option Place → List ℕ
place_text to acked None = []
place_text to acked (Some p) =
    line (codes "to") (to.0 ∷ codes "position" ∷ decimal p.position ∷ codes "dep" ∷ decimal p.dep ∷ state_word acked p.position ∷ [])

-- where a number stands in the stream to a destination
abbrev pub stream_place_of : SiteState → ℕ → SiteName → List ℕ
stream_place_of x number to = place_text to (acked_by to (deferred_marks x)) (stream_place number (queue_stream_to to (deferred_of x)))

-- past ORIGIN NUMBER
abbrev pub past_text : PastEntry → List ℕ
past_text p = line (codes "past") (p.origin.0 ∷ decimal p.number ∷ [])

-- txn NUMBER calls C, where it goes, what was seen before it, and its calls
abbrev pub queued_text : List SiteName → SiteState → Numbered → List ℕ
queued_text destinations x n =
    line (codes "txn") (decimal n.number ∷ codes "calls" ∷ decimal (length n.cargo.txn.calls) ∷ [])
    ++ (flat_map (stream_place_of x n.number) destinations ++ (flat_map past_text n.cargo.past ++ calls_text x.schema n.cargo.txn.calls))

-- queue SITE, and each transaction that isn't purged, in rising number, with these destinations
abbrev pub queue_text : List ℕ → List SiteName → SiteState → List ℕ
queue_text name destinations x = line (codes "queue") (name ∷ []) ++ flat_map (queued_text destinations x) (reverse (numbered (deferred_of x)))

-- ---- logs

-- key VALUES moment M
abbrev pub noted_text : LoggedKey → List ℕ
noted_text k = logged_key_text k.key k.moment

-- table T purged P, and its keys in rising order
abbrev pub table_log_text : Schema → LogState → List ℕ
table_log_text schema log = line (codes "table") (table_name schema log.table ∷ codes "purged" ∷ decimal log.purged ∷ []) ++ flat_map noted_text log.keys

-- log SITE, and the log of each table that has one, as declared
abbrev pub log_text : List ℕ → SiteState → List ℕ
log_text name x = line (codes "log") (name ∷ []) ++ flat_map (table_log_text x.schema) x.logs
