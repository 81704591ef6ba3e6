-- What a site finds to send in its outbox is what the site's state says.
use Rattle.std.proofs.Common.{◌≡◌, ℕ, ◌+◌, ◌==◌, List, [], ◌∷◌, length, Bool, true, false, cond, not, Some, None, refl, sym, ap, ◌∙◌, subst}
use Rattle.std.specs.Prelude.{Option, option_map, IfSome, is_some, is_none, nat_le}
use Rattle.std.specs.List.{AllByRecursion}
use Rattle.rep_values.specs.declared.name.SiteName.{SiteName}
use Rattle.rep_schema.specs.declared.schema.Schema.{Schema}
use Rattle.rep_calls.specs.declared.call.Txn.{Txn}
use Rattle.rep_calls.specs.declared.past.PastEntry.{PastEntry}
use Rattle.deferred_queue.specs.declared.queued_txn.QueuedTxn.{QueuedTxn}
use Rattle.deferred_queue.specs.declared.destination.Destination.{Destination}
use Rattle.deferred_queue.specs.Streams.{Deferred, InStream, destination_to, queue_stream_to, at_position, unpurged, last_position}
use Rattle.rep_values.specs.SiteNames.{is_same_site}
use Rattle.deferred_queue.specs.Streams as queue
use Rattle.packet_code.specs.declared.packet.Packet.TheVariants.{Carry}
use Rattle.site_state.specs.State.{DestinationState, SiteState, opened_of}
use Rattle.site_state.specs.Streams.{queue_of, queued_behind}
use Rattle.site_state.specs.Streams as state
use Rattle.site_state.specs.Pasts.{pasts_of}
use Rattle.site_state.specs.Packets.{past_in, site_packet}
use Rattle.site_state.specs.Deferrals.{queued_txn_kept, deferred_in, deferred_of, StandApart}
use Rattle.site_state.proofs.Deferring.{stream_to-closed, length-stream_to, packet_of, packet_of-deferred_of}

-- the last position that the queue's crate has of a stream is how long the site's stream is
pub last_is : (site : SiteName) (x : SiteState) → StandApart x.destinations → last_position site (deferred_of x) ≡ length (state.stream_to site x)
last_is site x apart = go (opened_of site x) refl
  where
    go : (o : Option ℕ) → opened_of site x ≡ o → last_position site (deferred_of x) ≡ length (state.stream_to site x)
    go None is = rw (stream_to-closed x.schema site x.destinations x.purged (pasts_of x) (queue_of x) apart is, is) refl
    go (Some opened) is = rw (length-stream_to x.schema site opened x.destinations x.purged (pasts_of x) (queue_of x) apart is, is) refl

pub not_some : {X : Type 0} (o : Option X) → not (is_some o) ≡ is_none o
not_some None = refl
not_some (Some x) = refl

-- ---- what is found

module _ (P : Txn → Type 0) (Q : List PastEntry → Type 0) (none : Q []) where
  abbrev CargoHas : Option QueuedTxn → Type 0
  CargoHas cargo = IfSome cargo (λ (c : QueuedTxn). P c.txn × Q c.past)

  past_has : (p : ℕ) (pasts : List (List PastEntry)) → AllByRecursion Q pasts → Q (past_in (at_position p pasts))
  past_has p [] all = none
  past_has p (past ∷ pasts) all = go (p == length pasts + 1) (past_has p pasts all.1)
    where
      go : (b : Bool) → Q (past_in (at_position p pasts)) → Q (past_in (cond b (Some past) (at_position p pasts)))
      go true later = all.0
      go false later = later

  kept_has : (gone number : ℕ) (txn : Txn) (past : Option (List PastEntry)) → P txn → Q (past_in past) → CargoHas (queued_txn_kept gone number txn past)
  kept_has gone number txn past has seen = go (nat_le number gone)
    where
      go : (b : Bool) → CargoHas (cond b None (Some (record { txn = txn; past = past_in past })))
      go true = tt
      go false = (has, seen)

  -- what a queue keeps has what all that was queued has
  deferred_has : (schema : Schema) (ds : List DestinationState) (gone : ℕ) (pasts : List (List PastEntry)) (txns : List Txn) → AllByRecursion P txns → AllByRecursion Q pasts
      → AllByRecursion (λ (d : Deferred). CargoHas d.cargo) (deferred_in schema ds gone pasts txns)
  deferred_has schema ds gone pasts [] has seen = tt
  deferred_has schema ds gone pasts (txn ∷ older) has seen =
      (kept_has gone (length older + 1) txn (at_position (length older + 1) pasts) has.0 (past_has (length older + 1) pasts seen), deferred_has schema ds gone pasts older has.1 seen)

  stream_has : (site : SiteName) (deferred : List Deferred) → AllByRecursion (λ (d : Deferred). CargoHas d.cargo) deferred → AllByRecursion (λ (a : InStream). CargoHas a.cargo) (queue_stream_to site deferred)
  stream_has site [] all = tt
  stream_has site (d ∷ older) all = go (destination_to site d.to) (stream_has site older all.1)
    where
      go : (to : Option Destination) → AllByRecursion (λ (a : InStream). CargoHas a.cargo) (queue_stream_to site older)
          → AllByRecursion (λ (a : InStream). CargoHas a.cargo) (queue.with_one to (length older + 1) d.cargo (queue_stream_to site older))
      go None later = later
      go (Some to) later = (all.0, later)

  found_has : (p : ℕ) (stream : List InStream) (a : InStream) → AllByRecursion (λ (a : InStream). CargoHas a.cargo) stream → at_position p stream ≡ Some a → CargoHas a.cargo
  found_has p [] a all found = absurd (cc found)
  found_has p (b ∷ older) a all found = go (p == length older + 1) found (found_has p older a all.1)
    where
      go : (c : Bool) → cond c (Some b) (at_position p older) ≡ Some a → (at_position p older ≡ Some a → CargoHas a.cargo) → CargoHas a.cargo
      go true found later = let same : b ≡ a = cc found in subst (λ (s : InStream). CargoHas s.cargo) same all.0
      go false found later = later found

-- what is found at a position of a stream, and isn't purged
pub record IsSent (deferred : List Deferred) (to : SiteName) (p number dep : ℕ) (past : List PastEntry) (txn : Txn) : Type 0 where
  pub found : at_position p (queue_stream_to to deferred) ≡ Some (record { number = number; dep = dep; cargo = Some (record { txn = txn; past = past }) })

unpurged_is : (found : Option InStream) (a : InStream) → unpurged found ≡ Some a → found ≡ Some a
unpurged_is None a is = absurd (cc is)
unpurged_is (Some b) a is = go b.cargo is
  where
    go : (cargo : Option QueuedTxn) → option_map (λ (c : QueuedTxn). b) cargo ≡ Some a → Some b ≡ Some a
    go None is = absurd (cc is)
    go (Some c) is = is

none_is : (here to : SiteName) (p : ℕ) (found : Option InStream) → unpurged found ≡ None → packet_of here to p found ≡ None
none_is here to p None is = refl
none_is here to p (Some b) is = go b.cargo is
  where
    go : (cargo : Option QueuedTxn) → option_map (λ (c : QueuedTxn). b) cargo ≡ None → option_map (λ (c : QueuedTxn). Carry here to b.number p b.dep c.past c.txn) cargo ≡ None
    go None is = refl
    go (Some c) is = absurd (cc is)

module _ (x : SiteState) (apart : StandApart x.destinations) (to : SiteName) (p : ℕ) where
  -- nothing is found: there is no packet
  pub no_packet : unpurged (at_position p (queue_stream_to to (deferred_of x))) ≡ None → None ≡ site_packet to p x
  no_packet none = sym (none_is x.here.site to p (at_position p (queue_stream_to to (deferred_of x))) none) ∙ packet_of-deferred_of to p x apart

  module _ (number dep : ℕ) (past : List PastEntry) (txn : Txn) (is : unpurged (at_position p (queue_stream_to to (deferred_of x))) ≡ Some (record { number = number; dep = dep; cargo = Some (record { txn = txn; past = past }) })) where
    here_found : at_position p (queue_stream_to to (deferred_of x)) ≡ Some (record { number = number; dep = dep; cargo = Some (record { txn = txn; past = past }) })
    here_found = unpurged_is (at_position p (queue_stream_to to (deferred_of x))) _ is

    -- what is found is the packet
    pub packet_is : Some (Carry x.here.site to number p dep past txn) ≡ site_packet to p x
    packet_is = sym (ap (packet_of x.here.site to p) here_found) ∙ packet_of-deferred_of to p x apart

    -- and has what all that was queued has
    pub sent_has : (P : Txn → Type 0) (Q : List PastEntry → Type 0) → Q [] → AllByRecursion P (queue_of x) → AllByRecursion Q (pasts_of x) → P txn × Q past
    sent_has P Q none has seen =
        found_has P Q none p (queue_stream_to to (deferred_of x)) _ (stream_has P Q none to (deferred_of x) (deferred_has P Q none x.schema x.destinations x.purged (pasts_of x) (queue_of x) has seen)) here_found
