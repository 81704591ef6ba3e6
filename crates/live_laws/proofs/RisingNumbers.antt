-- Queue numbers rise with positions at every site.
use Rattle.std.proofs.Common.{◌≡◌, ℕ, ◌≤◌, List, Some, None, refl, arith, subst}
use Rattle.std.specs.Prelude.{Option}
use Rattle.std.specs.List.{AllByRecursion}
use Rattle.rep_lists.specs.Rising.{find_at}
use Rattle.rep_values.specs.declared.name.SiteName.{SiteName}
use Rattle.site_state.specs.declared.arrival.Arrival.{Arrival}
use Rattle.site_state.specs.State.{SenderState, SiteState, sender_of, arrived_in, first_in, arrived_at, arrival_beside}
use Rattle.site_state.proofs.Stepping.{arrived_has}
use Rattle.site_events.specs.Cluster.{site_of}
use Rattle.site_events.specs.Events.{run}
use Rattle.event_laws.specs.Waiting.{IsFirstNumber}
use Rattle.event_laws.proofs.RunInvariants.{SentBy, SiteHolds, HoldsAt}
use Rattle.event_laws.proofs.MarkLaws.{arrived_was_sent}
use Rattle.event_laws.proofs.Meeting.{SiteMeets, MeetsAt}
use Rattle.event_laws.proofs.Waiting.{run_met, first_of_sender}
use Rattle.live_laws.specs.RisingNumbers.{HasRisingNumbers, EverySiteHasRisingNumbers}

-- what a sender that has the site open sent has numbers from its first number on
first_by : (site : SiteName) (o : Option SiteState) (s : SenderState) (a : Arrival) → IsFirstNumber o site s.first → SentBy o site a.number a.position a.dep a.txn → s.first ≤ a.number
first_by site None s a first sent = absurd sent
first_by site (Some y) s a first sent = let same : sent.count ≡ s.first = cc (sent.opened, first.0) in omega (arith, same, sent.number_is)

rising_by : (site : SiteName) (o : Option SiteState) (a b : Arrival) → a.position ≤ b.position → SentBy o site a.number a.position a.dep a.txn → SentBy o site b.number b.position b.dep b.txn → a.number ≤ b.number
rising_by site None a b up sent later = absurd sent
rising_by site (Some y) a b up sent later = let same : sent.count ≡ later.count = cc (sent.opened, later.opened) in omega (arith, same, sent.number_is, later.number_is, up)

first_at : (sites : List SiteState) (site origin : SiteName) (ss : List SenderState) (p : ℕ) (a : Arrival) → AllByRecursion (λ (s : SenderState). IsFirstNumber (site_of s.origin sites) site s.first) ss
    → SentBy (site_of origin sites) site a.number a.position a.dep a.txn → arrived_at origin p ss ≡ Some a → first_in (sender_of origin ss) ≤ a.number
first_at sites site origin ss p a firsts sent there = go (sender_of origin ss) refl there
  where
    go : (s : Option SenderState) → sender_of origin ss ≡ s → find_at (arrival_beside p) (arrived_in s) ≡ Some a → first_in s ≤ a.number
    go None is found = absurd (cc found)
    go (Some s) is found = first_by site (site_of origin sites) s a (first_of_sender sites site origin ss s firsts is) sent

site_has_rising_numbers : (sites : List SiteState) (site : SiteName) (x : SiteState) → SiteHolds sites site x → SiteMeets sites site x → HasRisingNumbers x
site_has_rising_numbers sites site x holds meets = record {
  arrived = meets.arrived;
  first = λ origin p a there. first_at sites site origin x.senders p a meets.firsts (arrived_was_sent sites site origin x.senders p a holds.senders there) there;
  rising = λ origin p q a b there_p there_q up. rising_by site (site_of origin sites) a b (omega (arith, up, arrived_has origin p x a there_p, arrived_has origin q x b there_q))
      (arrived_was_sent sites site origin x.senders p a holds.senders there_p) (arrived_was_sent sites site origin x.senders q b holds.senders there_q);
}

pub every_site_has_rising_numbers : EverySiteHasRisingNumbers
every_site_has_rising_numbers schema start events is meshed site x found =
    let met = run_met schema start events is meshed in
    site_has_rising_numbers (run events start).sites site x
    (subst (HoldsAt (run events start).sites site) found (met.holds.each site))
    (subst (MeetsAt (run events start).sites site) found (met.meets.each site))
