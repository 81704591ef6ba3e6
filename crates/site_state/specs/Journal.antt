-- What a journal tells of a sender's positions: which are finished, up to where all are, and which errors stand.
use Rattle.std.specs.Prelude.{ℕ, ◌==◌, ◌&&◌, Bool, false, cond, max, List, [], ◌∷◌, Option, Some, None}
use Rattle.std.specs.List.{list_any}
use Rattle.rep_values.specs.declared.name.SiteName.{SiteName}
use Rattle.rep_values.specs.SiteNames.{is_same_site}
use Rattle.origin_marks.specs.Marks.{low_up_to}
use Rattle.site_state.specs.declared.entry.Entry.{Entry}
use Rattle.site_state.specs.declared.entry.Entry.TheVariants.{Local, Done, Error, Executed, Dropped, Refreshed}
use Rattle.error_queue.specs.declared.entry.ErrorEntry.{ErrorEntry}

-- the same sender and position
abbrev pub is_position : SiteName → ℕ → SiteName → ℕ → Bool
is_position origin position o p = is_same_site o origin && p == position

-- an entry finishes a position: its transaction is done or in error
abbrev pub finishes : SiteName → ℕ → Entry → Bool
finishes origin position (Local number txn) = false
finishes origin position (Done o p onward txn) = is_position origin position o p
finishes origin position (Error o p call error txn) = is_position origin position o p
finishes origin position (Executed o p onward txn) = false
finishes origin position (Dropped o p) = false
finishes origin position (Refreshed moment) = false

-- an entry clears the error of a position: it is executed or dropped
abbrev pub clears_error : SiteName → ℕ → Entry → Bool
clears_error origin position (Local number txn) = false
clears_error origin position (Done o p onward txn) = false
clears_error origin position (Error o p call error txn) = false
clears_error origin position (Executed o p onward txn) = is_position origin position o p
clears_error origin position (Dropped o p) = is_position origin position o p
clears_error origin position (Refreshed moment) = false

-- a position of a sender is finished
abbrev pub finished : SiteName → List Entry → ℕ → Bool
finished origin journal position = list_any (finishes origin position) journal

abbrev pub position_in : SiteName → SiteName → ℕ → ℕ
position_in origin o p = cond (is_same_site o origin) p 0

-- the position of a sender that an entry finishes, 0 where it finishes none
abbrev pub position_by : SiteName → Entry → ℕ
position_by origin (Local number txn) = 0
position_by origin (Done o p onward txn) = position_in origin o p
position_by origin (Error o p call error txn) = position_in origin o p
position_by origin (Executed o p onward txn) = 0
position_by origin (Dropped o p) = 0
position_by origin (Refreshed moment) = 0

-- the greatest finished position of a sender, 0 where there is none
abbrev pub last_finished : SiteName → List Entry → ℕ
last_finished origin [] = 0
last_finished origin (e ∷ es) = max (position_by origin e) (last_finished origin es)

-- the low-water mark of a sender: the greatest n with all of 1 to n finished
abbrev pub low_water : SiteName → List Entry → ℕ
low_water origin journal = low_up_to (finished origin journal) (last_finished origin journal)

-- the error of a position that stands: it was neither executed nor dropped since
abbrev pub error_at : SiteName → ℕ → List Entry → Option ErrorEntry
error_at origin position [] = None
error_at origin position (Local number txn ∷ es) = error_at origin position es
error_at origin position (Done o p onward txn ∷ es) = error_at origin position es
error_at origin position (Error o p call error txn ∷ es) = cond (is_position origin position o p)
    (Some (record { origin = o; position = p; call = call; error = error; txn = txn })) (error_at origin position es)
error_at origin position (Executed o p onward txn ∷ es) = cond (is_position origin position o p) None (error_at origin position es)
error_at origin position (Dropped o p ∷ es) = cond (is_position origin position o p) None (error_at origin position es)
error_at origin position (Refreshed moment ∷ es) = error_at origin position es
