-- Each call leaves a site as the schema declares it.
use Rattle.std.proofs.Common.{◌≡◌, List, [], ◌∷◌, map, Bool, true, false, cond, Some, None, refl, sym, ap, ◌∙◌}
use Rattle.std.specs.Prelude.{Option}
use Rattle.rep_values.specs.declared.name.SiteName.{SiteName}
use Rattle.rep_schema.specs.declared.schema.Schema.{Schema}
use Rattle.rep_schema.specs.Sites.{senders_of, destinations_of}
use Rattle.rep_values.specs.SiteNames.{is_same_site}
use Rattle.txn_effects.specs.declared.local.Here.{Here}
use Rattle.packet_code.specs.declared.packet.Packet.{Packet}
use Rattle.packet_code.specs.declared.packet.Packet.TheVariants.{Carry, Mark}
use Rattle.site_state.specs.declared.arrival.Arrival.{Arrival}
use Rattle.site_state.specs.State.{SenderState, DestinationState, SiteState, at_sender, at_destination, arrived_at}
use Rattle.site_state.specs.Packets.{with_arrival, arrived_by, acknowledged, taken_unless, is_foreign, site_accept}
use Rattle.site_state.specs.Streams.{count_of}
use Rattle.site_state.specs.Purges.{site_purge}
use Rattle.site_state.specs.Joining.{opened_at, site_open}
use Rattle.site_state.specs.DeclaredSites.{IsDeclared}
use Rattle.site_state.proofs.Stepping.{Steps}

-- the names of senders
abbrev pub origins : List SenderState → List SiteName
origins ss = map (λ (s : SenderState). s.origin) ss

-- the names of destinations
abbrev pub sites_in : List DestinationState → List SiteName
sites_in ds = map (λ (d : DestinationState). d.site) ds

-- a change leaves what a site is, and the names of its senders and destinations
pub record KeepsNames (x y : SiteState) : Type 0 where
  pub here : y.here ≡ x.here
  pub senders : origins y.senders ≡ origins x.senders
  pub destinations : sites_in y.destinations ≡ sites_in x.destinations

pub names_same : (x : SiteState) → KeepsNames x x
names_same x = record { here = refl; senders = refl; destinations = refl }

pub steps_names : (x y : SiteState) → Steps x y → KeepsNames x y
steps_names x y s = record { here = s.here; senders = rw s.senders refl; destinations = rw s.destinations refl }

pub origins-at_sender : (change : SenderState → SenderState) → ((s : SenderState) → (change s).origin ≡ s.origin) → (origin : SiteName) (ss : List SenderState) → origins (at_sender origin change ss) ≡ origins ss
origins-at_sender change keeps origin [] = refl
origins-at_sender change keeps origin (s ∷ ss) = go (is_same_site s.origin origin) (origins-at_sender change keeps origin ss)
  where
    go : (b : Bool) → origins (at_sender origin change ss) ≡ origins ss → origins (cond b (change s ∷ ss) (s ∷ at_sender origin change ss)) ≡ s.origin ∷ origins ss
    go true later = rw (keeps s) refl
    go false later = ap (λ names. s.origin ∷ names) later

pub sites_in-at_destination : (change : DestinationState → DestinationState) → ((d : DestinationState) → (change d).site ≡ d.site) → (site : SiteName) (ds : List DestinationState)
    → sites_in (at_destination site change ds) ≡ sites_in ds
sites_in-at_destination change keeps site [] = refl
sites_in-at_destination change keeps site (d ∷ ds) = go (is_same_site d.site site) (sites_in-at_destination change keeps site ds)
  where
    go : (b : Bool) → sites_in (at_destination site change ds) ≡ sites_in ds → sites_in (cond b (change d ∷ ds) (d ∷ at_destination site change ds)) ≡ d.site ∷ sites_in ds
    go true later = rw (keeps d) refl
    go false later = ap (λ names. d.site ∷ names) later

pub accept_names : (packet : Packet) (x : SiteState) → KeepsNames x (site_accept packet x)
accept_names packet x = go packet (is_foreign packet x)
  where
    by : (found : Option Arrival) (from : SiteName) (a : Arrival) → KeepsNames x (arrived_by found from a x)
    by None from a = record { here = refl; senders = origins-at_sender (with_arrival a) (λ s. refl) from x.senders; destinations = refl }
    by (Some before) from a = names_same x

    go : (packet : Packet) (b : Bool) → KeepsNames x (taken_unless b packet x)
    go packet true = names_same x
    go (Carry from to number position dep past txn) false = by (arrived_at from position x.senders) from _
    go (Mark from to mark) false = record { here = refl; senders = refl; destinations = sites_in-at_destination (acknowledged mark) (λ d. refl) from x.destinations }

pub purge_names : (x : SiteState) → KeepsNames x (site_purge x)
purge_names x = record { here = refl; senders = refl; destinations = refl }

pub open_names : (site : SiteName) (x : SiteState) → KeepsNames x (site_open site x)
open_names site x = record { here = refl; senders = refl; destinations = sites_in-at_destination (opened_at (count_of x)) (λ d. refl) site x.destinations }

-- so a declared site stays declared
pub still_declared : (schema : Schema) (x y : SiteState) → KeepsNames x y → IsDeclared schema x → IsDeclared schema y
still_declared schema x y keeps is = record {
  is_master = rw keeps.here is.is_master;
  senders = keeps.senders ∙ is.senders ∙ ap (λ (h : Here). senders_of schema h.site) (sym keeps.here);
  destinations = keeps.destinations ∙ is.destinations ∙ ap (λ (h : Here). destinations_of schema h.site) (sym keeps.here);
}
