-- What each call queues, with what past, and which destinations it opens.
use Rattle.std.proofs.Common.{◌≡◌, ℕ, List, [], Bool, true, false, Some, None, refl}
use Rattle.std.specs.Prelude.{◌⊎◌, Option}
use Rattle.rep_values.specs.declared.name.SiteName.{SiteName}
use Rattle.rep_schema.specs.declared.schema.Schema.{Schema}
use Rattle.rep_schema.specs.Tables.{Rows}
use Rattle.rep_calls.specs.declared.call.Txn.{Txn}
use Rattle.txn_effects.specs.declared.local.Here.{Here}
use Rattle.packet_code.specs.declared.packet.Packet.{Packet}
use Rattle.packet_code.specs.declared.packet.Packet.TheVariants.{Carry, Mark}
use Rattle.site_state.specs.declared.entry.Entry.{Entry}
use Rattle.site_state.specs.declared.entry.Entry.TheVariants.{Local, Done, Error, Executed, Dropped, Refreshed}
use Rattle.site_state.specs.declared.rows.TableRows.{TableRows}
use Rattle.site_state.specs.declared.arrival.Arrival.{Arrival}
use Rattle.site_state.specs.State.{SenderState, SiteState, arrived_at, opened_of}
use Rattle.site_state.specs.Journal.{finished}
use Rattle.site_state.specs.Streams.{with_one, went_onward, onward_txn, queue_after, queue_of, count_of}
use Rattle.site_state.specs.Pasts.{past_at, past_of, pasts_after, pasts_of}
use Rattle.site_state.specs.Packets.{arrived_by, taken_unless, is_foreign, site_accept}
use Rattle.site_state.specs.Purges.{site_purge}
use Rattle.site_state.specs.Refreshes.{site_refresh}
use Rattle.site_state.specs.Joining.{site_open}
use Rattle.site_state.proofs.Growing.{queue_after-rebased}
use Rattle.site_state.proofs.Stepping.{with_entry, Steps}
use Rattle.site_state.proofs.Destinations.{opened_in-acknowledged, IsOpenedFrom, opened_in-opened}
use Rattle.site_state.specs.Fits.{FinishedHaveArrived}
use Rattle.site_state.proofs.Pasts.{pasts_after-put}

-- at most one transaction is queued, with what the site had seen before it, and destinations are open as they were
pub record Adds (x y : SiteState) : Type 0 where
  pub queues : Bool
  pub txn : Txn
  pub queue : queue_of y ≡ with_one queues txn (queue_of x)
  pub pasts : pasts_of y ≡ with_one queues (past_of x) (pasts_of x)
  pub opened : (site : SiteName) → opened_of site y ≡ opened_of site x

-- nothing is queued, and destinations that weren't open may be so from now on
pub record Opens (x y : SiteState) : Type 0 where
  pub queue : queue_of y ≡ queue_of x
  pub pasts : pasts_of y ≡ pasts_of x
  pub opened : (site : SiteName) → IsOpenedFrom (count_of x) (opened_of site x) (opened_of site y)

-- one of both
abbrev pub Queues : SiteState → SiteState → Type 0
Queues x y = Adds x y ⊎ Opens x y

no_txn : Txn
no_txn = record { calls = [] }

-- with the same queue
adds_none : (x y : SiteState) → queue_of y ≡ queue_of x → pasts_of y ≡ pasts_of x → ((site : SiteName) → opened_of site y ≡ opened_of site x) → Adds x y
adds_none x y queue pasts opened = record { queues = false; txn = no_txn; queue = queue; pasts = pasts; opened = opened }

pub adds_nothing : (x : SiteState) → Adds x x
adds_nothing x = adds_none x x refl refl (λ site. refl)

-- ---- an entry

record Queued (schema : Schema) (here : Here) (base : List Rows) (ss : List SenderState) (journal : List Entry) (e : Option Entry) : Type 0 where
  queues : Bool
  txn : Txn
  queue : queue_after schema here base (with_entry e journal) ≡ with_one queues txn (queue_after schema here base journal)
  pasts : pasts_after schema here ss (with_entry e journal) ≡ with_one queues (past_at schema journal ss) (pasts_after schema here ss journal)

queued_by : (schema : Schema) (here : Here) (base : List Rows) (ss : List SenderState) (journal : List Entry) (e : Option Entry) → Queued schema here base ss journal e
queued_by schema here base ss journal None = record { queues = false; txn = no_txn; queue = refl; pasts = refl }
queued_by schema here base ss journal (Some (Local number txn)) = record { queues = true; txn = txn; queue = refl; pasts = refl }
queued_by schema here base ss journal (Some (Done o p onward txn)) = record { queues = went_onward here onward; txn = onward_txn schema here base journal o txn; queue = refl; pasts = refl }
queued_by schema here base ss journal (Some (Error o p call error txn)) = record { queues = false; txn = no_txn; queue = refl; pasts = refl }
queued_by schema here base ss journal (Some (Executed o p onward txn)) = record { queues = went_onward here onward; txn = onward_txn schema here base journal o txn; queue = refl; pasts = refl }
queued_by schema here base ss journal (Some (Dropped o p)) = record { queues = false; txn = no_txn; queue = refl; pasts = refl }
queued_by schema here base ss journal (Some (Refreshed moment)) = record { queues = false; txn = no_txn; queue = refl; pasts = refl }

pub steps_add : (x y : SiteState) → Steps x y → Adds x y
steps_add x y s =
    let q = queued_by x.schema x.here x.base x.senders x.journal s.journals.entry in
    record {
      queues = q.queues;
      txn = q.txn;
      queue = rw (s.schema, s.here, s.base, s.journals.journal) q.queue;
      pasts = rw (s.schema, s.here, s.senders, s.journals.journal) q.pasts;
      opened = λ site. rw s.destinations refl;
    }

-- ---- a packet, a purge, a refresh and an opening

pub accept_adds : (packet : Packet) (x : SiteState) → FinishedHaveArrived x.journal x.senders → Adds x (site_accept packet x)
accept_adds packet x arrived = go packet (is_foreign packet x)
  where
    unfinished : (from : SiteName) (p : ℕ) → arrived_at from p x.senders ≡ None → (b : Bool) → finished from x.journal p ≡ b → b ≡ false
    unfinished from p none true is = absurd (arrived from p is none)
    unfinished from p none false is = refl

    by : (from : SiteName) (a : Arrival) (found : Option Arrival) → arrived_at from a.position x.senders ≡ found → Adds x (arrived_by found from a x)
    by from a None is = adds_none x _ refl (pasts_after-put x.schema x.here from a x.senders x.journal (unfinished from a.position is (finished from x.journal a.position) refl)) (λ site. refl)
    by from a (Some b) is = adds_nothing x

    go : (packet : Packet) (b : Bool) → Adds x (taken_unless b packet x)
    go packet true = adds_nothing x
    go (Carry from to number position dep past txn) false = by from (record { position = position; number = number; dep = dep; past = past; txn = txn }) (arrived_at from position x.senders) refl
    go (Mark from to mark) false = adds_none x _ refl refl (λ site. opened_in-acknowledged site from mark x.destinations)

pub purge_adds : (x : SiteState) → Adds x (site_purge x)
purge_adds x = adds_none x _ refl refl (λ site. refl)

pub refresh_adds : (rows : List TableRows) (moment : ℕ) (x : SiteState) → x.here.is_master ≡ false → Adds x (site_refresh rows moment x)
refresh_adds rows moment x is = adds_none x _ (queue_after-rebased x.schema x.here _ x.base x.journal is) refl (λ site. refl)

pub open_opens : (site : SiteName) (x : SiteState) → Opens x (site_open site x)
open_opens site x = record { queue = refl; pasts = refl; opened = λ s. opened_in-opened s site (count_of x) x.destinations }
