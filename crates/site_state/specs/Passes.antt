-- What arrived is applied: one position, or a whole pass.
use Rattle.std.specs.Prelude.{ℕ, ◌-◌, Bool, true, false, List, [], ◌∷◌, Option, Some, None, Result, Ok, Err}
use Rattle.rep_values.specs.declared.name.SiteName.{SiteName}
use Rattle.txn_effects.specs.Calls.{Effect}
use Rattle.txn_effects.specs.Transactions.{Failure}
use Rattle.txn_effects.specs.Contents.{effect_on}
use Rattle.site_state.specs.declared.entry.Entry.{Entry}
use Rattle.site_state.specs.declared.entry.Entry.TheVariants.{Local, Done, Error, Executed, Dropped, Refreshed}
use Rattle.site_state.specs.declared.answers.PassCount.{PassCount}
use Rattle.site_state.specs.declared.answers.Applied.{Applied}
use Rattle.site_state.specs.declared.answers.Applied.TheVariants as applied
use Rattle.site_state.specs.declared.answers.Why.{Why}
use Rattle.site_state.specs.declared.answers.Why.TheVariants as why
use Rattle.site_state.specs.declared.arrival.Arrival.{Arrival}
use Rattle.site_state.specs.State.{SiteState, arrived_at, arrivals}
use Rattle.site_state.specs.Contents.{content_of}
use Rattle.site_state.specs.Ready.{stale_of}
use Rattle.site_state.specs.Notes.{noted}
use Rattle.site_state.specs.Steps.{journalled, begun, onward_number}
use Rattle.rep_lists.specs.Counting.{count_where}

-- what an arrival does to the site's tables now
abbrev pub effect_here : SiteName → Arrival → SiteState → Result Effect Failure
effect_here origin a x = effect_on x.schema origin a.txn (content_of x)

-- an arrival is done and its changed rows are noted, or it is in error
abbrev pub finished_by : SiteName → Arrival → Result Effect Failure → SiteState → SiteState
finished_by origin a (Ok effect) x = noted effect.changes (journalled (Done origin a.position (onward_number origin effect.changes x) a.txn) x)
finished_by origin a (Err failure) x = journalled (Error origin a.position failure.call failure.error a.txn) x

abbrev pub applied_unless : Option Why → SiteName → Option Arrival → SiteState → SiteState
applied_unless (Some why) origin found x = x
applied_unless None origin None x = x
applied_unless None origin (Some a) x = finished_by origin a (effect_here origin a x) x

-- a position is applied, where it is ready
abbrev pub site_apply : SiteName → ℕ → SiteState → SiteState
site_apply origin position x = applied_unless (stale_of origin position x) origin (arrived_at origin position x.senders) x

abbrev pub apply_answer_by : Result Effect Failure → Applied
apply_answer_by (Ok effect) = applied.Done
apply_answer_by (Err failure) = applied.Error failure.error

abbrev pub apply_answer_unless : Option Why → SiteName → Option Arrival → SiteState → Applied
apply_answer_unless (Some why) origin found x = applied.Stale why
apply_answer_unless None origin None x = applied.Stale why.NotArrived
apply_answer_unless None origin (Some a) x = apply_answer_by (effect_here origin a x)

-- what becomes of a position
abbrev pub apply_answer : SiteName → ℕ → SiteState → Applied
apply_answer origin position x = apply_answer_unless (stale_of origin position x) origin (arrived_at origin position x.senders) x

-- the positions of arrivals one after the other, each where it is ready then
abbrev pub apply_each : SiteName → List Arrival → SiteState → SiteState
apply_each origin [] x = x
apply_each origin (a ∷ arrived) x = apply_each origin arrived (site_apply origin a.position x)

-- a pass for a sender: the moment rises, then each position that arrived, in rising order
abbrev pub site_pass : SiteName → SiteState → SiteState
site_pass origin x = apply_each origin (arrivals origin x) (begun x)

abbrev pub is_done : Entry → Bool
is_done (Local number txn) = false
is_done (Done origin position onward txn) = true
is_done (Error origin position call error txn) = false
is_done (Executed origin position onward txn) = false
is_done (Dropped origin position) = false
is_done (Refreshed moment) = false

abbrev pub is_error : Entry → Bool
is_error (Local number txn) = false
is_error (Done origin position onward txn) = false
is_error (Error origin position call error txn) = true
is_error (Executed origin position onward txn) = false
is_error (Dropped origin position) = false
is_error (Refreshed moment) = false

-- how many more entries of a kind a later journal has
abbrev pub added_count : (Entry → Bool) → SiteState → SiteState → ℕ
added_count test before after = count_where test after.journal - count_where test before.journal

-- how many entries of each kind a pass adds
abbrev pub pass_answer : SiteName → SiteState → PassCount
pass_answer origin x = record { done = added_count is_done x (site_pass origin x); errors = added_count is_error x (site_pass origin x) }
