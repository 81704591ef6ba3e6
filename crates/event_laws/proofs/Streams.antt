-- What has arrived is what the streams have, and meshed sites stay meshed.
use Rattle.std.proofs.Common.{◌≡◌, ℕ, List, [], ◌∷◌, Some, None, refl, ap, ◌∙◌, arith, subst}
use Rattle.std.specs.Prelude.{Option}
use Rattle.std.specs.List.{AllByRecursion}
use Rattle.rep_lists.specs.Rising.{find_at}
use Rattle.rep_values.specs.declared.name.SiteName.{SiteName}
use Rattle.rep_schema.specs.declared.schema.Schema.{Schema}
use Rattle.deferred_queue.specs.Streams.{at_position}
use Rattle.packet_code.specs.declared.packet.Packet.{Packet}
use Rattle.site_state.specs.declared.arrival.Arrival.{Arrival}
use Rattle.site_state.specs.State.{SenderState, SiteState, sender_of, arrival_beside, arrived_in, arrived_at, first_in, first_number}
use Rattle.site_state.specs.Streams.{stream_to, dep_at}
use Rattle.site_state.specs.DeclaredSites.{IsDeclared}
use Rattle.site_state.proofs.Stepping.{arrived_has}
use Rattle.site_events.specs.Cluster.{site_of}
use Rattle.site_events.specs.Events.{run}
use Rattle.event_laws.specs.Waiting.{IsFirstNumber, AreFirsts, StreamsMeet}
use Rattle.event_laws.proofs.RunInvariants.{SentBy, SiteHolds, HoldsAt}
use Rattle.event_laws.proofs.MarkLaws.{arrived_was_sent}
use Rattle.event_laws.proofs.DeclaredSites.{IsSiteOf}
use Rattle.event_laws.proofs.Meeting.{PastIs, SiteMeets, MeetsAt}
use Rattle.event_laws.proofs.Waiting.{AreMet, first_of_sender, arrival_holds, run_met}
use Rattle.event_laws.specs.Streams.{IsSentBy, ArrivalsAreOfStreams, InEveryLinkedRun, LinksStay}

-- ---- what has arrived

is_sent_by : (o : Option SiteState) (site : SiteName) (first position : ℕ) (a : Arrival) → a.position ≡ position → SentBy o site a.number a.position a.dep a.txn → PastIs o a.number a.past → IsFirstNumber o site first
    → IsSentBy o site first position a
is_sent_by None site first position a place sent past begins = absurd sent
is_sent_by (Some o) site first position a place sent past begins =
    let same : sent.count ≡ first = cc (sent.opened, begins.0) in
    record {
      place = place;
      txn = subst (λ (p : ℕ). at_position p (stream_to site o) ≡ Some a.txn) place sent.there;
      dep = sent.dep_is ∙ ap (λ (p : ℕ). dep_at o.schema p (stream_to site o)) place;
      number = omega (arith, sent.number_is, same, place);
      past = past;
    }

-- the first number of a sender of which something has arrived is where its stream begins
first_there : (sites : List SiteState) (site origin : SiteName) (ss : List SenderState) (p : ℕ) (a : Arrival) → AllByRecursion (λ (s : SenderState). IsFirstNumber (site_of s.origin sites) site s.first) ss
    → arrived_at origin p ss ≡ Some a → IsFirstNumber (site_of origin sites) site (first_in (sender_of origin ss))
first_there sites site origin ss p a firsts found = go (sender_of origin ss) refl found
  where
    go : (o : Option SenderState) → sender_of origin ss ≡ o → find_at (arrival_beside p) (arrived_in o) ≡ Some a → IsFirstNumber (site_of origin sites) site (first_in o)
    go None is found = absurd (cc found)
    go (Some s) is found = first_of_sender sites site origin ss s firsts is

pub met_arrivals : (schema : Schema) (sites : List SiteState) (sent : List Packet) → AreMet schema sites sent → ArrivalsAreOfStreams sites
met_arrivals schema sites sent met site origin x position a found there =
    let held : SiteHolds sites site x = subst (HoldsAt sites site) found (met.holds.each site) in
    let meets : SiteMeets sites site x = subst (MeetsAt sites site) found (met.meets.each site) in
    is_sent_by (site_of origin sites) site (first_number origin x) position a (arrived_has origin position x a there)
    (arrived_was_sent sites site origin x.senders position a held.senders there)
    (arrival_holds (λ (o : SiteName) (b : Arrival). PastIs (site_of o sites) b.number b.past) origin position x.senders a meets.pasts there)
    (first_there sites site origin x.senders position a meets.firsts there)

pub arrivals_are_of_streams : InEveryLinkedRun ArrivalsAreOfStreams
arrivals_are_of_streams schema start events is meshed = met_arrivals schema (run events start).sites (run events start).sent (run_met schema start events is meshed)

-- ---- meshed sites

firsts_at : (sites : List SiteState) (site : SiteName) (o : Option SiteState) → MeetsAt sites site o → AreFirsts sites site o
firsts_at sites site None meets = tt
firsts_at sites site (Some x) meets = meets.firsts

each_declared : (schema : Schema) (xs : List SiteState) → AllByRecursion (IsSiteOf schema) xs → AllByRecursion (IsDeclared schema) xs
each_declared schema [] all = tt
each_declared schema (x ∷ xs) all = (all.0.declared, each_declared schema xs all.1)

pub streams_meet : InEveryLinkedRun StreamsMeet
streams_meet schema start events is meshed site = firsts_at (run events start).sites site (site_of site (run events start).sites) ((run_met schema start events is meshed).meets.each site)

pub links_stay : LinksStay
links_stay schema start events is meshed =
    let met = run_met schema start events is meshed in
    record {
      declared = record { shape = meshed.declared.shape; each = each_declared schema (run events start).sites met.sites_of };
      streams = streams_meet schema start events is meshed;
      closed = met.closed;
    }
