-- The destinations of an outbox, of which it keeps since when they are open, and its queue how far they have acknowledged.
use Rattle.std.specs.Prelude.{◌≡◌, ℕ, false, cond, List, [], ◌∷◌, Some, None}
use Rattle.std.specs.List.{AllByRecursion}
use Rattle.rep_values.specs.declared.name.SiteName.{SiteName}
use Rattle.rep_schema.specs.declared.schema.Schema.{Schema}
use Rattle.deferred_queue.specs.Streams.{Mark, acked_by}
use Rattle.rep_values.specs.SiteNames.{is_same_site}
use Rattle.site_state.specs.State.{DestinationState}
use Rattle.rep_schema.specs.Sites.{is_late_master}
use Rattle.site_state.specs.Joining.{opened_from}
use Rattle.site_outbox.specs.declared.destination_entry.DestinationEntry.{DestinationEntry}

-- how far the first of these has acknowledged
abbrev pub first_acked : List Mark → ℕ
first_acked [] = 0
first_acked (m ∷ ms) = m.acked

-- the marks behind the first
abbrev pub later_marks : List Mark → List Mark
later_marks [] = []
later_marks (m ∷ ms) = ms

-- the destinations, where their marks stand in the same order
abbrev pub with_marks : List DestinationEntry → List Mark → List DestinationState
with_marks [] ms = []
with_marks (o ∷ os) ms = record { site = o.site; opened = o.opened; acked = first_acked ms } ∷ with_marks os (later_marks ms)

-- a destination, whose mark is found by its site
abbrev pub with_mark : List Mark → DestinationEntry → DestinationState
with_mark ms o = record { site = o.site; opened = o.opened; acked = acked_by o.site ms }

-- the mark of a destination
abbrev pub destination_mark : DestinationState → Mark
destination_mark d = record { site = d.site; acked = d.acked }

-- it is open at first, unless it is a late master
abbrev pub new_destination_entry : Schema → SiteName → DestinationEntry
new_destination_entry schema site = record { site = site; opened = cond (is_late_master schema site) None (Some 0) }

-- it is open from a count on, where it is to a site and wasn't open before
abbrev pub destination_entry_opened : SiteName → ℕ → DestinationEntry → DestinationEntry
destination_entry_opened site count o = record { site = o.site; opened = cond (is_same_site o.site site) (opened_from o.opened count) o.opened }

-- no two of these are to the same site
abbrev pub EntriesApart : List DestinationEntry → Type 0
EntriesApart [] = Unit {0}
EntriesApart (o ∷ os) = AllByRecursion (λ (other : DestinationEntry). is_same_site o.site other.site ≡ false) os × EntriesApart os
