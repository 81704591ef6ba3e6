-- What errors and executions leave, at any site.
use Rattle.std.specs.Prelude.{◌≡◌, ℕ, Some, None}
use Rattle.rep_values.specs.declared.name.SiteName.{SiteName}
use Rattle.rep_values.specs.declared.refusal.ApplyError.{ApplyError}
use Rattle.rep_values.specs.declared.refusal.Refusal.{Refusal}
use Rattle.txn_effects.specs.Contents.{content_after}
use Rattle.site_state.specs.declared.answers.Applied.TheVariants as applied
use Rattle.error_queue.specs.declared.entry.ErrorEntry.{ErrorEntry}
use Rattle.site_state.specs.declared.arrival.Arrival.{Arrival}
use Rattle.site_state.specs.State.{SiteState, arrived_at}
use Rattle.site_state.specs.Journal.{error_at}
use Rattle.site_state.specs.Contents.{content_of}
use Rattle.site_state.specs.Streams.{queue_of}
use Rattle.site_state.specs.Passes.{site_apply, apply_answer}
use Rattle.site_state.specs.Errors.{site_execute, execute_refusal, site_drop, drop_refusal}

-- tables, counters and queue are as before, and the error stands with the transaction as it arrived
pub record StandsWhole (x y : SiteState) (origin : SiteName) (position : ℕ) (error : ApplyError) : Type 0 where
  pub content : content_of y ≡ content_of x
  pub queue : queue_of y ≡ queue_of x
  pub arrival : Arrival
  pub arrived : arrived_at origin position x.senders ≡ Some arrival
  pub entry : ErrorEntry
  pub stands : error_at origin position y.journal ≡ Some entry
  pub why : entry.error ≡ error
  pub whole : entry.txn ≡ arrival.txn

-- a position that is applied and fails changes no table, and stands whole
abbrev pub ErrorsStandWhole : Type 0
ErrorsStandWhole = (x : SiteState) (origin : SiteName) (position : ℕ) (error : ApplyError) → apply_answer origin position x ≡ applied.Error error
    → StandsWhole x (site_apply origin position x) origin position error

-- an execution that is refused changes nothing
abbrev pub RefusedExecutionsChangeNothing : Type 0
RefusedExecutionsChangeNothing = (x : SiteState) (origin : SiteName) (position : ℕ) (refusal : Refusal) → execute_refusal origin position x ≡ Some refusal
    → site_execute origin position x ≡ x

-- the transaction of an error was applied to the tables as they were, and the error no longer stands
pub record IsExecuted (x y : SiteState) (origin : SiteName) (position : ℕ) : Type 0 where
  pub entry : ErrorEntry
  pub stood : error_at origin position x.journal ≡ Some entry
  pub content : content_of y ≡ content_after x.schema entry.origin entry.txn (content_of x)
  pub cleared : error_at origin position y.journal ≡ None

-- any other one does that
abbrev pub ExecutionsApplyAnew : Type 0
ExecutionsApplyAnew = (x : SiteState) (origin : SiteName) (position : ℕ) → execute_refusal origin position x ≡ None
    → IsExecuted x (site_execute origin position x) origin position

-- tables, counters and queue are as before, and the error no longer stands
pub record IsDropped (x y : SiteState) (origin : SiteName) (position : ℕ) : Type 0 where
  pub content : content_of y ≡ content_of x
  pub queue : queue_of y ≡ queue_of x
  pub cleared : error_at origin position y.journal ≡ None

-- a drop that isn't refused does that
abbrev pub DropsClear : Type 0
DropsClear = (x : SiteState) (origin : SiteName) (position : ℕ) → drop_refusal origin position x ≡ None → IsDropped x (site_drop origin position x) origin position
