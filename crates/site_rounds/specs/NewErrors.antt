-- The errors that stand and that the newest entries of a journal brought.
use Rattle.std.specs.Prelude.{◌≡◌, ℕ, ◌-◌, Bool, false, cond, List, [], length, take, flat_map, Option, Some, None, is_some}
use Rattle.rep_lists.specs.Rising.{find_at}
use Rattle.rep_values.specs.declared.name.SiteName.{SiteName}
use Rattle.rep_values.specs.SiteNames.{is_same_site}
use Rattle.error_queue.specs.declared.entry.ErrorEntry.{ErrorEntry}
use Rattle.error_queue.specs.ErrorLists.{error_beside}
use Rattle.report_text.specs.Refusals.{error_text}
use Rattle.site_state.specs.declared.entry.Entry.{Entry}
use Rattle.site_state.specs.declared.entry.Entry.TheVariants.{Local, Done, Error, Executed, Dropped, Refreshed}
use Rattle.site_state.specs.State.{SiteState}
use Rattle.site_state.specs.Journal.{is_position, error_at}
use Rattle.site_state.specs.Errors.{errors_from}

-- the line of an error
abbrev pub error_entry_text : ErrorEntry → List ℕ
error_entry_text e = error_text e.origin.0 e.position e.call e.error

-- the errors that stand by the entries behind the first, so many, by sender as declared, then by position
abbrev pub new_errors : ℕ → SiteState → List ErrorEntry
new_errors before x = flat_map (errors_from (take (length x.journal - before) x.journal)) x.senders

-- an entry brings the error of a position
abbrev pub brings : SiteName → ℕ → Entry → Bool
brings origin position (Local number txn) = false
brings origin position (Done o p onward txn) = false
brings origin position (Error o p call error txn) = is_position origin position o p
brings origin position (Executed o p onward txn) = false
brings origin position (Dropped o p) = false
brings origin position (Refreshed moment) = false

-- the line of an error, where it stands by these entries alone
abbrev pub text_where_new : List Entry → ErrorEntry → List ℕ
text_where_new entries e = cond (is_some (error_at e.origin e.position entries)) (error_entry_text e) []

-- the position of a sender whose error an entry brings
abbrev pub brought_of : SiteName → Entry → Option ℕ
brought_of origin (Local number txn) = None
brought_of origin (Done o p onward txn) = None
brought_of origin (Error o p call error txn) = cond (is_same_site o origin) (Some p) None
brought_of origin (Executed o p onward txn) = None
brought_of origin (Dropped o p) = None
brought_of origin (Refreshed moment) = None

abbrev pub text_found : Option ErrorEntry → List ℕ
text_found None = []
text_found (Some e) = error_entry_text e

-- the line of the error of a position, if one stands
abbrev pub text_at : List ErrorEntry → ℕ → List ℕ
text_at errors position = text_found (find_at (error_beside position) errors)

-- an error stands by these entries
abbrev pub StandsBy : List Entry → ErrorEntry → Type 0
StandsBy entries e = error_at e.origin e.position entries ≡ Some e
