-- What a site's calls say of transactions that are evaluated away from it.
use Rattle.std.specs.Prelude.{◌≡◌, ℕ, Bool, false, Option, Some, None}
use Rattle.std.specs.List.{list_any}
use Rattle.rep_values.specs.declared.name.SiteName.{SiteName}
use Rattle.rep_schema.specs.declared.schema.Schema.{Schema}
use Rattle.txn_effects.specs.Contents.{Content}
use Rattle.dependency_index.specs.Tokens.{txn_tokens, is_unique_token}
use Rattle.site_state.specs.declared.arrival.Arrival.{Arrival}
use Rattle.site_state.specs.State.{SiteState, arrived_at}
use Rattle.site_state.specs.Contents.{content_of}
use Rattle.site_state.specs.Passes.{effect_here}
use Rattle.txn_apply.specs.declared.outcome.Ending.{Ending}
use Rattle.txn_apply.specs.Works.{WorkState, Supports}
use Rattle.txn_apply.specs.Endings.{effect_of, EndsSo}

-- the transaction of an arrival touches a constraint of a table
abbrev pub touches_unique : Schema → Option Arrival → Bool
touches_unique schema None = false
touches_unique schema (Some a) = list_any is_unique_token (txn_tokens schema a.txn)

-- so does what arrived from a sender at a position
abbrev pub has_unique : SiteName → ℕ → SiteState → Bool
has_unique origin position x = touches_unique x.schema (arrived_at origin position x.senders)

-- a work is that of what arrived at a position, with copies of the rows that it names as they are at the site
pub record IsWorkOf (origin : SiteName) (position : ℕ) (x : SiteState) (work : WorkState) : Type 0 where
  pub origin_is : work.origin ≡ origin
  pub position_is : work.position ≡ position
  pub schema_is : work.schema ≡ x.schema
  pub txn_is : (a : Arrival) → arrived_at origin position x.senders ≡ Some a → work.txn ≡ a.txn
  pub supports : Supports work (content_of x)

-- what arrived at a position ends so on the site's tables and counters of now, and moves no counter
abbrev pub EndsHere : SiteName → ℕ → SiteState → Ending → Type 0
EndsHere origin position x ending = (a : Arrival) → arrived_at origin position x.senders ≡ Some a → effect_here origin a x ≡ effect_of ending (content_of x).numbers

-- an ending holds wherever the work's rows are: a transaction ends so on all that agrees with them
abbrev pub HoldsWhereAlike : WorkState → Ending → Type 0
HoldsWhereAlike work ending = (content : Content) → Supports work content → EndsSo work ending content

-- as a work ended, so it ends at a later site at which the same arrived and its rows are as they were
abbrev pub OutcomesHoldWhereRowsAreAsTheyWere : Type 0
OutcomesHoldWhereRowsAreAsTheyWere = (origin : SiteName) (position : ℕ) (x y : SiteState) (work : WorkState) (ending : Ending)
    → IsWorkOf origin position x work → HoldsWhereAlike work ending
    → y.schema ≡ x.schema → arrived_at origin position y.senders ≡ arrived_at origin position x.senders → Supports work (content_of y)
    → EndsHere origin position y ending
