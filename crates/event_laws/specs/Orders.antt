-- How often and in which order positions are finished.
use Rattle.std.specs.Prelude.{◌≡◌, ℕ, ◌<◌, ◌≤◌, true, List, [], ◌∷◌, Option, Some, None}
use Rattle.rep_values.specs.declared.name.SiteName.{SiteName}
use Rattle.rep_calls.specs.declared.call.Txn.{Txn}
use Rattle.deferred_queue.specs.Streams.{at_position}
use Rattle.site_state.specs.declared.entry.Entry.{Entry}
use Rattle.site_state.specs.declared.entry.Entry.TheVariants.{Local, Done, Error, Executed, Dropped, Refreshed}
use Rattle.site_state.specs.State.{SiteState}
use Rattle.site_state.specs.Journal.{finishes, clears_error, finished}
use Rattle.site_state.specs.Streams.{stream_to, shares}
use Rattle.rep_lists.specs.Counting.{count_where}
use Rattle.site_events.specs.Cluster.{site_of}
use Rattle.event_laws.specs.Marks.{journal_in}

-- at each site each position is finished at most once
abbrev pub AreFinishedOnce : List SiteState → Type 0
AreFinishedOnce sites = (site origin : SiteName) (position : ℕ) → count_where (finishes origin position) (journal_in (site_of site sites)) ≤ 1

-- and its error is executed or dropped at most once
abbrev pub AreClearedOnce : List SiteState → Type 0
AreClearedOnce sites = (site origin : SiteName) (position : ℕ) → count_where (clears_error origin position) (journal_in (site_of site sites)) ≤ 1

-- a transaction that was finished is the one that its origin has at the position, and of the earlier ones there, those that
-- share a token with it were finished before
pub record FollowsEarlier (o : SiteState) (site origin : SiteName) (position : ℕ) (txn : Txn) (before : List Entry) : Type 0 where
  pub sent : at_position position (stream_to site o) ≡ Some txn
  pub earlier : (p : ℕ) (t : Txn) → p < position → at_position p (stream_to site o) ≡ Some t → shares o.schema txn t ≡ true → finished origin before p ≡ true

abbrev pub FollowsIn : Option SiteState → SiteName → SiteName → ℕ → Txn → List Entry → Type 0
FollowsIn None site origin position txn before = ⊥
FollowsIn (Some o) site origin position txn before = FollowsEarlier o site origin position txn before

abbrev pub EntryFollows : List SiteState → SiteName → Entry → List Entry → Type 0
EntryFollows sites site (Local number txn) before = Unit {0}
EntryFollows sites site (Done origin position onward txn) before = FollowsIn (site_of origin sites) site origin position txn before
EntryFollows sites site (Error origin position call error txn) before = FollowsIn (site_of origin sites) site origin position txn before
EntryFollows sites site (Executed origin position onward txn) before = Unit {0}
EntryFollows sites site (Dropped origin position) before = Unit {0}
EntryFollows sites site (Refreshed moment) before = Unit {0}

-- so it is with each entry of a site's journal and those before it
abbrev pub IsInOrder : List SiteState → SiteName → List Entry → Type 0
IsInOrder sites site [] = Unit {0}
IsInOrder sites site (e ∷ es) = EntryFollows sites site e es × IsInOrder sites site es

-- at every site the earlier of two transactions of a stream that share a token is finished first
abbrev pub EarlierComesFirst : List SiteState → Type 0
EarlierComesFirst sites = (site : SiteName) → IsInOrder sites site (journal_in (site_of site sites))
