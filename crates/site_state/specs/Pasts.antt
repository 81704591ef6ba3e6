-- What a site has seen of the other masters, and what it had seen when it queued a transaction.
use Rattle.std.specs.Prelude.{ℕ, ◌&&◌, Bool, true, false, nat_lt, cond, max, List, [], ◌∷◌}
use Rattle.std.specs.declared.cmp.Ordering.{Ordering}
use Rattle.rep_lists.specs.Rising.{put_at}
use Rattle.rep_values.specs.declared.name.SiteName.{SiteName}
use Rattle.rep_values.specs.Order.{name_cmp}
use Rattle.rep_schema.specs.declared.schema.Schema.{Schema}
use Rattle.rep_calls.specs.declared.past.PastEntry.{PastEntry}
use Rattle.txn_effects.specs.declared.local.Here.{Here}
use Rattle.site_state.specs.declared.entry.Entry.{Entry}
use Rattle.site_state.specs.declared.entry.Entry.TheVariants.{Local, Done, Error, Executed, Dropped, Refreshed}
use Rattle.site_state.specs.declared.arrival.Arrival.{Arrival}
use Rattle.site_state.specs.State.{SenderState, SiteState}
use Rattle.rep_schema.specs.Sites.{is_master_site}
use Rattle.site_state.specs.Journal.{finished}
use Rattle.site_state.specs.Streams.{with_one, went_onward}

-- the greatest number among the arrivals that are finished, 0 where none is
abbrev pub greatest_finished : SiteName → List Entry → List Arrival → ℕ
greatest_finished origin journal [] = 0
greatest_finished origin journal (a ∷ arrived) = max (cond (finished origin journal a.position) a.number 0) (greatest_finished origin journal arrived)

-- how far a sender's queue is seen: the greatest number among its finished positions, its first number among them
abbrev pub seen_of : List Entry → SenderState → ℕ
seen_of journal s = max s.first (greatest_finished s.origin journal s.arrived)

-- where what is seen of one master stands beside a name
abbrev pub beside_name : SiteName → PastEntry → Ordering
beside_name site seen = name_cmp seen.origin.0 site.0

abbrev pub with_seen : Bool → SiteName → ℕ → List PastEntry → List PastEntry
with_seen true site number past = put_at (beside_name site) (record { origin = site; number = number }) past
with_seen false site number past = past

-- what a site with this journal has seen of the masters among its senders, in rising order of names; a master of which it
-- has seen nothing is left out
abbrev pub past_at : Schema → List Entry → List SenderState → List PastEntry
past_at schema journal [] = []
past_at schema journal (s ∷ ss) = with_seen (is_master_site schema s.origin && nat_lt 0 (seen_of journal s)) s.origin (seen_of journal s) (past_at schema journal ss)

-- what a site has seen of the masters among its senders
abbrev pub past_of : SiteState → List PastEntry
past_of x = past_at x.schema x.journal x.senders

-- what a site had seen before each transaction that a journal queued, the newest first
abbrev pub pasts_after : Schema → Here → List SenderState → List Entry → List (List PastEntry)
pasts_after schema here senders [] = []
pasts_after schema here senders (Local number txn ∷ es) = past_at schema es senders ∷ pasts_after schema here senders es
pasts_after schema here senders (Done origin position onward txn ∷ es) =
    with_one (went_onward here onward) (past_at schema es senders) (pasts_after schema here senders es)
pasts_after schema here senders (Error origin position call error txn ∷ es) = pasts_after schema here senders es
pasts_after schema here senders (Executed origin position onward txn ∷ es) =
    with_one (went_onward here onward) (past_at schema es senders) (pasts_after schema here senders es)
pasts_after schema here senders (Dropped origin position ∷ es) = pasts_after schema here senders es
pasts_after schema here senders (Refreshed moment ∷ es) = pasts_after schema here senders es

-- what a site had seen before each transaction that it ever queued, in the order of its queue
abbrev pub pasts_of : SiteState → List (List PastEntry)
pasts_of x = pasts_after x.schema x.here x.senders x.journal
