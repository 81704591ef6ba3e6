-- What a packet, a purge, a refresh and an opening leave of a site.
use Rattle.std.proofs.Common.{◌≡◌, ℕ, ◌+◌, ◌≤◌, List, [], ◌∷◌, Bool, true, false, min, cond, Some, None, refl, sym, ◌∙◌, arith, inl, inr, length-append}
use Rattle.std.specs.Prelude.{Option}
use Rattle.rep_values.specs.declared.name.SiteName.{SiteName}
use Rattle.rep_values.specs.SiteNames.{is_same_site}
use Rattle.packet_code.specs.declared.packet.Packet.{Packet}
use Rattle.packet_code.specs.declared.packet.Packet.TheVariants.{Carry, Mark}
use Rattle.site_state.specs.declared.rows.TableRows.{TableRows}
use Rattle.site_state.specs.declared.arrival.Arrival.{Arrival}
use Rattle.site_state.specs.State.{DestinationState, SiteState, arrived_at, destination_of, opened_in, acked_in, opened_of, acked_of}
use Rattle.site_state.specs.Streams.{queue_of, count_of}
use Rattle.site_state.specs.Packets.{arrived_by, taken_unless, is_foreign, site_accept}
use Rattle.site_state.specs.Purges.{acknowledged_by, acknowledged_by_all, site_purge}
use Rattle.site_state.specs.Refreshes.{site_refresh}
use Rattle.site_state.specs.Joining.{site_open}
use Rattle.site_state.proofs.Growing.{queue_after-rebased}
use Rattle.site_state.proofs.Stepping.{Later, later_same}
use Rattle.site_state.proofs.Destinations.{opened_in-acknowledged, acked_in-rises, acked_in-opened, IsOpenedFrom, opened_in-opened, opened_from_stays}

-- ---- a site later

-- with the same journal and queue, and destinations that are open where they were
later_with : (x y : SiteState) → y.schema ≡ x.schema → y.here ≡ x.here → y.base ≡ x.base → y.journal ≡ x.journal
    → ((site : SiteName) (count : ℕ) → opened_of site x ≡ Some count → opened_of site y ≡ Some count) → Later x y
later_with x y schema here base journal opened = record {
  schema = schema;
  here = here;
  journal = record { front = []; is = journal };
  queue = record { front = []; is = rw (schema, here, base, journal) refl };
  opened = opened;
}

pub accept_later : (packet : Packet) (x : SiteState) → Later x (site_accept packet x)
accept_later packet x = go packet (is_foreign packet x)
  where
    by : (found : Option Arrival) (from : SiteName) (a : Arrival) → Later x (arrived_by found from a x)
    by None from a = later_with x _ refl refl refl refl (λ site count is. is)
    by (Some b) from a = later_same x

    go : (packet : Packet) (b : Bool) → Later x (taken_unless b packet x)
    go packet true = later_same x
    go (Carry from to number position dep past txn) false = by (arrived_at from position x.senders) from _
    go (Mark from to mark) false = later_with x _ refl refl refl refl (λ site count is. opened_in-acknowledged site from mark x.destinations ∙ is)

pub purge_later : (x : SiteState) → Later x (site_purge x)
purge_later x = later_with x _ refl refl refl refl (λ site count is. is)

-- a site that is no master may be refreshed
pub refresh_later : (rows : List TableRows) (moment : ℕ) (x : SiteState) → x.here.is_master ≡ false → Later x (site_refresh rows moment x)
refresh_later rows moment x is = record {
  schema = refl;
  here = refl;
  journal = record { front = _ ∷ []; is = refl };
  queue = record { front = []; is = queue_after-rebased x.schema x.here _ x.base x.journal is };
  opened = λ site count open_before. open_before;
}

pub open_later : (site : SiteName) (x : SiteState) → Later x (site_open site x)
open_later site x = later_with x _ refl refl refl refl
    (λ s count is. opened_from_stays (count_of x) (opened_of s x) (opened_of s (site_open site x)) count (opened_in-opened s site (count_of x) x.destinations) is)

-- ---- what is purged is acknowledged

-- nothing is purged that wasn't queued, nor what an open destination hasn't acknowledged
pub record PurgedIsAcked (x : SiteState) : Type 0 where
  pub within : x.purged ≤ count_of x
  pub acked : (site : SiteName) (count : ℕ) → opened_of site x ≡ Some count → x.purged ≤ count + acked_of site x

-- a queue never gets shorter
pub count_of-later : (x y : SiteState) → Later x y → count_of x ≤ count_of y
count_of-later x y later = rw later.queue.is (omega (arith, length-append later.queue.front (queue_of x)))

pub purged_kept : (x y : SiteState) → Later x y → y.purged ≡ x.purged → y.destinations ≡ x.destinations → PurgedIsAcked x → PurgedIsAcked y
purged_kept x y later purged destinations is = record {
  within = omega (arith, is.within, count_of-later x y later, purged);
  acked = λ site count opened. rw (purged, destinations) (is.acked site count (rw destinations at opened));
}

pub accept_purged : (packet : Packet) (x : SiteState) → PurgedIsAcked x → PurgedIsAcked (site_accept packet x)
accept_purged packet x is = go packet (is_foreign packet x)
  where
    by : (found : Option Arrival) (from : SiteName) (a : Arrival) → PurgedIsAcked (arrived_by found from a x)
    by None from a = record { within = is.within; acked = is.acked }
    by (Some b) from a = is

    go : (packet : Packet) (b : Bool) → PurgedIsAcked (taken_unless b packet x)
    go packet true = is
    go (Carry from to number position dep past txn) false = by (arrived_at from position x.senders) from _
    go (Mark from to mark) false = record {
      within = is.within;
      acked = λ site count opened.
          omega (arith, is.acked site count (sym (opened_in-acknowledged site from mark x.destinations) ∙ opened), acked_in-rises site from mark x.destinations);
    }

all_acknowledged : (site : SiteName) (count opened : ℕ) (ds : List DestinationState) → opened_in (destination_of site ds) ≡ Some opened → acknowledged_by_all count ds ≤ opened + acked_in (destination_of site ds)
all_acknowledged site count opened [] is = absurd (cc is)
all_acknowledged site count opened (d ∷ ds) is = go (is_same_site d.site site) (all_acknowledged site count opened ds) is
  where
    go : (c : Bool) → (opened_in (destination_of site ds) ≡ Some opened → acknowledged_by_all count ds ≤ opened + acked_in (destination_of site ds))
        → opened_in (cond c (Some d) (destination_of site ds)) ≡ Some opened
        → min (acknowledged_by count d.acked d.opened) (acknowledged_by_all count ds) ≤ opened + acked_in (cond c (Some d) (destination_of site ds))
    go true later is = rw is (omega arith)
    go false later is = omega (arith, later is)

acknowledged_within : (count : ℕ) (ds : List DestinationState) → acknowledged_by_all count ds ≤ count
acknowledged_within count [] = omega arith
acknowledged_within count (d ∷ ds) = omega (arith, acknowledged_within count ds)

pub purge_purged : (x : SiteState) → PurgedIsAcked x → PurgedIsAcked (site_purge x)
purge_purged x is = record {
  within = omega (arith, is.within, acknowledged_within (count_of x) x.destinations);
  acked = λ site count opened. omega (arith, is.acked site count opened, all_acknowledged site (count_of x) count x.destinations opened);
}

pub open_purged : (site : SiteName) (x : SiteState) → PurgedIsAcked x → PurgedIsAcked (site_open site x)
open_purged site x is = record {
  within = is.within;
  acked = λ s count opened. rw (acked_in-opened s site (count_of x) x.destinations) (by s count opened (opened_in-opened s site (count_of x) x.destinations));
}
  where
    by : (s : SiteName) (count : ℕ) → opened_of s (site_open site x) ≡ Some count → IsOpenedFrom (count_of x) (opened_of s x) (opened_of s (site_open site x)) → x.purged ≤ count + acked_of s x
    by s count opened from = elim from [
      | inl same ↦ is.acked s count (sym same ∙ opened)
      | inr now ↦ let here : count_of x ≡ count = cc (now.1, opened) in omega (arith, is.within, here)
    ]
