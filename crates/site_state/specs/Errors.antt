-- Errors that stand: all of them in order, one executed, one dropped.
use Rattle.std.specs.Prelude.{ℕ, List, flat_map, filter_map, Option, Some, None, Result, Ok, Err, cond, is_some}
use Rattle.rep_values.specs.declared.name.SiteName.{SiteName}
use Rattle.rep_values.specs.declared.refusal.Refusal.{Refusal}
use Rattle.rep_values.specs.declared.refusal.Refusal.TheVariants as refusal
use Rattle.txn_effects.specs.Calls.{Effect}
use Rattle.txn_effects.specs.Transactions.{Failure}
use Rattle.txn_effects.specs.Contents.{effect_on}
use Rattle.site_state.specs.declared.entry.Entry.{Entry}
use Rattle.site_state.specs.declared.entry.Entry.TheVariants.{Executed, Dropped}
use Rattle.error_queue.specs.declared.entry.ErrorEntry.{ErrorEntry}
use Rattle.site_state.specs.declared.arrival.Arrival.{Arrival}
use Rattle.site_state.specs.State.{SenderState, SiteState}
use Rattle.site_state.specs.Journal.{error_at}
use Rattle.site_state.specs.Contents.{content_of}
use Rattle.site_state.specs.Notes.{noted}
use Rattle.site_state.specs.Steps.{journalled, begun, onward_number}

-- the errors of a sender that stand, in rising order of position
abbrev pub errors_from : List Entry → SenderState → List ErrorEntry
errors_from journal s = filter_map (λ (a : Arrival). error_at s.origin a.position journal) s.arrived

-- the error queue: the errors that stand, by sender as declared, then by position
abbrev pub errors_of : SiteState → List ErrorEntry
errors_of x = flat_map (errors_from x.journal) x.senders

-- what the transaction of an error does to the site's tables now
abbrev pub effect_of_error : ErrorEntry → SiteState → Result Effect Failure
effect_of_error e x = effect_on x.schema e.origin e.txn (content_of x)

-- the moment rises, the error is executed, and its changed rows are noted; where it still fails, all is as before
abbrev pub executed_by : ErrorEntry → Result Effect Failure → SiteState → SiteState
executed_by e (Ok effect) x = noted effect.changes (begun (journalled (Executed e.origin e.position (onward_number e.origin effect.changes x) e.txn) x))
executed_by e (Err failure) x = x

abbrev pub executed_found : Option ErrorEntry → SiteState → SiteState
executed_found None x = x
executed_found (Some e) x = executed_by e (effect_of_error e x) x

-- the error of a position is executed again, where it stands and no longer fails
abbrev pub site_execute : SiteName → ℕ → SiteState → SiteState
site_execute origin position x = executed_found (error_at origin position x.journal) x

abbrev pub execute_refusal_by : Result Effect Failure → Option Refusal
execute_refusal_by (Ok effect) = None
execute_refusal_by (Err failure) = Some (refusal.StillFails failure.error)

abbrev pub execute_refusal_found : Option ErrorEntry → SiteState → Option Refusal
execute_refusal_found None x = Some refusal.NoSuchError
execute_refusal_found (Some e) x = execute_refusal_by (effect_of_error e x)

-- why an error isn't executed, if it isn't
abbrev pub execute_refusal : SiteName → ℕ → SiteState → Option Refusal
execute_refusal origin position x = execute_refusal_found (error_at origin position x.journal) x

abbrev pub dropped_found : Option ErrorEntry → SiteState → SiteState
dropped_found None x = x
dropped_found (Some e) x = begun (journalled (Dropped e.origin e.position) x)

-- the error of a position is dropped, where it stands; the moment rises
abbrev pub site_drop : SiteName → ℕ → SiteState → SiteState
site_drop origin position x = dropped_found (error_at origin position x.journal) x

-- why an error isn't dropped, if it isn't
abbrev pub drop_refusal : SiteName → ℕ → SiteState → Option Refusal
drop_refusal origin position x = cond (is_some (error_at origin position x.journal)) None (Some refusal.NoSuchError)
