-- What a site keeps. All else of a site is computed from it.
use Rattle.std.specs.Prelude.{ℕ, ◌&&◌, cond, List, [], ◌∷◌, Option, Some, None}
use Rattle.std.specs.Ordering.{nat_cmp}
use Rattle.std.specs.declared.cmp.Ordering.{Ordering}
use Rattle.rep_lists.specs.Rising.{find_at}
use Rattle.rep_values.specs.declared.name.SiteName.{SiteName}
use Rattle.rep_schema.specs.declared.schema.Schema.{Schema}
use Rattle.rep_schema.specs.Tables.{Rows}
use Rattle.rep_values.specs.SiteNames.{is_same_site}
use Rattle.txn_effects.specs.declared.local.Here.{Here}
use Rattle.txn_effects.specs.declared.local.Stamps.{Stamps}
use Rattle.snapshot_query.specs.declared.snapshot.Snapshot.{Snapshot}
use Rattle.site_state.specs.declared.arrival.Arrival.{Arrival}
use Rattle.site_state.specs.declared.entry.Entry.{Entry}
use Rattle.change_logs.specs.LogState.{LogState}

-- a sender: its queue count when this site joined, 0 where the site was there from the start; and what arrived from it, in
-- rising order of position
pub record SenderState : Type 0 where
  pub origin : SiteName
  pub first : ℕ
  pub arrived : List Arrival

-- a destination: the queue count at which it was opened, none as long as it isn't open, and how far it has acknowledged
-- its stream
pub record DestinationState : Type 0 where
  pub site : SiteName
  pub opened : Option ℕ
  pub acked : ℕ

-- a site: the journal stands newest first, senders and destinations as declared; the queue's numbers up to `purged` are
-- purged; the moment counts commits, passes, executions and drops
pub record SiteState : Type 0 where
  pub schema : Schema
  pub here : Here
  pub base : List Rows
  pub journal : List Entry
  pub senders : List SenderState
  pub destinations : List DestinationState
  pub purged : ℕ
  pub stamps : Stamps
  pub logs : List LogState
  pub snapshots : List Snapshot
  pub moment : ℕ

-- ---- senders

-- the sender of a name
abbrev pub sender_of : SiteName → List SenderState → Option SenderState
sender_of origin [] = None
sender_of origin (s ∷ ss) = cond (is_same_site s.origin origin) (Some s) (sender_of origin ss)

-- the sender of a name changes
abbrev pub at_sender : SiteName → (SenderState → SenderState) → List SenderState → List SenderState
at_sender origin change [] = []
at_sender origin change (s ∷ ss) = cond (is_same_site s.origin origin) (change s ∷ ss) (s ∷ at_sender origin change ss)

-- where an arrival stands beside a position
abbrev pub arrival_beside : ℕ → Arrival → Ordering
arrival_beside position a = nat_cmp a.position position

abbrev pub arrived_in : Option SenderState → List Arrival
arrived_in None = []
arrived_in (Some s) = s.arrived

abbrev pub first_in : Option SenderState → ℕ
first_in None = 0
first_in (Some s) = s.first

-- what arrived from a sender at a position
abbrev pub arrived_at : SiteName → ℕ → List SenderState → Option Arrival
arrived_at origin position senders = find_at (arrival_beside position) (arrived_in (sender_of origin senders))

-- what arrived from a sender, in rising order of position
abbrev pub arrivals : SiteName → SiteState → List Arrival
arrivals origin x = arrived_in (sender_of origin x.senders)

-- the first number of a sender
abbrev pub first_number : SiteName → SiteState → ℕ
first_number origin x = first_in (sender_of origin x.senders)

-- ---- destinations

-- the destination of a name
abbrev pub destination_of : SiteName → List DestinationState → Option DestinationState
destination_of site [] = None
destination_of site (d ∷ ds) = cond (is_same_site d.site site) (Some d) (destination_of site ds)

-- the destination of a name changes
abbrev pub at_destination : SiteName → (DestinationState → DestinationState) → List DestinationState → List DestinationState
at_destination site change [] = []
at_destination site change (d ∷ ds) = cond (is_same_site d.site site) (change d ∷ ds) (d ∷ at_destination site change ds)

abbrev pub opened_in : Option DestinationState → Option ℕ
opened_in None = None
opened_in (Some d) = d.opened

abbrev pub acked_in : Option DestinationState → ℕ
acked_in None = 0
acked_in (Some d) = d.acked

-- the opening count of a destination: the queue count at which it was opened, where it is open
abbrev pub opened_of : SiteName → SiteState → Option ℕ
opened_of site x = opened_in (destination_of site x.destinations)

-- how far a destination has acknowledged its stream
abbrev pub acked_of : SiteName → SiteState → ℕ
acked_of site x = acked_in (destination_of site x.destinations)
