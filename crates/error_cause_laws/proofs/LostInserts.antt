-- Where a transaction of one master is tried at another, and a row that it needs isn't there, the row's insert is lost.
use Rattle.std.proofs.Common.{◌≡◌, ◌≢◌, ℕ, ◌+◌, ◌-◌, ◌<◌, ◌≤◌, Bool, true, false, List, length, map, Some, None, refl, sym, ap, ◌∙◌, subst, inl, inr, arith}
use Rattle.std.specs.Prelude.{◌⊎◌, ◌||◌, Option, nat_lt}
use Rattle.std.proofs.lemmas.Bool.{or_left, or_right}
use Rattle.std.proofs.lemmas.Bool.Decides.{nat_tests}
use Rattle.rep_values.specs.declared.name.SiteName.{SiteName}
use Rattle.rep_calls.specs.declared.past.PastEntry.{PastEntry}
use Rattle.rep_calls.specs.declared.call.Txn.{Txn}
use Rattle.deferred_queue.specs.Streams.{at_position}
use Rattle.deferred_queue.proofs.Positions.{at_position-within, found_position}
use Rattle.site_state.specs.State.{SenderState, SiteState, sender_of, first_in, opened_of}
use Rattle.rep_schema.specs.Sites.{is_master_site, is_among}
use Rattle.site_state.specs.Journal.{finished}
use Rattle.site_state.specs.Streams.{queue_of, stream_in, stream_to, shares}
use Rattle.site_state.specs.Pasts.{pasts_of}
use Rattle.site_state.specs.Packets.{count_opened}
use Rattle.site_events.specs.Cluster.{site_of}
use Rattle.site_events.specs.Events.{Event, run}
use Rattle.event_laws.specs.Marks.{journal_in}
use Rattle.event_laws.specs.Orders.{IsInOrder}
use Rattle.event_laws.specs.Waiting.{IsFirstNumber}
use Rattle.event_laws.proofs.Sites.{found_all, found_name}
use Rattle.event_laws.proofs.DeclaredSites.{IsSiteOf}
use Rattle.event_laws.proofs.OrderLaws.{earlier_comes_first}
use Rattle.event_laws.proofs.Waiting.{AreMet, run_met}
use Rattle.convergence_laws.specs.Collections.{Among}
use Rattle.event_laws.proofs.OpenMasters.{IsOpenTo, masters_send}
use Rattle.convergence_laws.proofs.Families.{at_position-behind}
use Rattle.error_cause_laws.specs.LostInserts.{insert_is_lost, dropped_before}
use Rattle.error_cause_laws.proofs.NeededRows.{Needs, needs_shares}
use Rattle.error_cause_laws.proofs.FinishedPasts.{meets_at}
use Rattle.error_cause_laws.proofs.Outcomes.{ExecuteTheirOwn, executions_are_own, became, lost_there}
use Rattle.error_cause_laws.proofs.SeenNumbers.{Seen, first_found}
use Rattle.error_cause_laws.proofs.QueueNumbers.{position_behind}
use Rattle.error_cause_laws.proofs.OneRow.{Setting, Sites, sign, Has, IsOwner}
use Rattle.error_cause_laws.proofs.QueuedNeeds.{Made, made_owner, NeedIsMet, needs_are_met, as_many}
use Rattle.error_cause_laws.proofs.SharedRows.{is_made_or_shared}
use Rattle.error_cause_laws.proofs.BeforeJoins.{makes_inserts, applied_has, open_to, has_or_was_dropped}

module _ (g : Setting) where
  abbrev After : List Event → List SiteState
  After events = Sites g events

  abbrev owner : SiteName
  owner = (sign g).owner

  abbrev dropped : List Event → SiteName → Bool
  dropped events site = dropped_before g.schema g.table g.key events g.start site

  -- a position of another master is tried at a master, where what it depends on is finished, and all that was seen before it
  pub record IsTried (events : List Event) (site : SiteName) (x o : SiteState) (position : ℕ) (txn : Txn) : Type 0 where
    pub found : site_of site (After events) ≡ Some x
    pub on : x.here.is_master ≡ true
    pub there : site_of o.here.site (After events) ≡ Some o
    pub sent : at_position position (stream_to site o) ≡ Some txn
    pub earlier : (p : ℕ) (t : Txn) → p < position → at_position p (stream_to site o) ≡ Some t → shares g.schema txn t ≡ true → finished o.here.site x.journal p ≡ true
    pub seen : (past : List PastEntry) → at_position (count_opened (opened_of site o) + position) (pasts_of o) ≡ Some past → (s : PastEntry) → Among s past → s.origin ≢ x.here.site
        → (q : ℕ) → 0 < q → q + first_in (sender_of s.origin x.senders) ≤ s.number → finished s.origin x.journal q ≡ true

  -- a position of a stream is a number of the queue
  pub number_of : (opened : Option ℕ) (queue : List Txn) (position : ℕ) (txn : Txn) → at_position position (stream_in opened queue) ≡ Some txn → at_position (count_opened opened + position) queue ≡ Some txn
  number_of None queue position txn at = cc
  number_of (Some n) queue position txn at = at_position-behind n position queue txn at

  module _ (events : List Event) (site : SiteName) (x o : SiteState) (position : ℕ) (txn : Txn) (tried : IsTried events site x o position txn) (o_on : o.here.is_master ≡ true) (needs : Needs g.schema g.table g.key txn)
      (hasnt : Has g x → ⊥) where
    abbrev IsLost : Type 0
    IsLost = (insert_is_lost g.schema g.table g.key x.journal || dropped events site) ≡ true

    abbrev n : ℕ
    n = count_opened (opened_of site o) + position

    in_queue : at_position n (queue_of o) ≡ Some txn
    in_queue = number_of (opened_of site o) (queue_of o) position txn tried.sent

    named : x.here.site ≡ site
    named = found_name site (After events) x tried.found

    -- the insert stands in its owner's queue at a number
    module _ (past : List PastEntry) (past_at : at_position n (pasts_of o) ≡ Some past) (need : NeedIsMet g (After events) o n past) (h : SiteState) (m : ℕ) (u : Txn) (made : Made g (After events) h m u) where
      is : IsOwner g (After events) h
      is = made_owner g events h m u made

      apart : site ≢ owner
      apart same =
          let one : Some x ≡ Some h = sym tried.found ∙ ap (λ (k : SiteName). site_of k (After events)) same ∙ made.there in
          let alike : x ≡ h = cc in
          hasnt (subst (Has g) (sym alike) is.has)

      wide : IsOpenTo site h
      wide = open_to g events site x h tried.found tried.on apart is

      -- it was queued behind where the master was open
      behind : wide.0 < m → IsLost
      behind less = elim (became g.schema g.table g.key (After events) site owner (m - wide.0) u (makes_inserts g u made.makes_it) h made.there sent x.journal order own done) [
        | inl applied ↦ absurd (hasnt (applied_has g events site x tried.found tried.on applied))
        | inr left ↦ or_left (insert_is_lost g.schema g.table g.key x.journal) (dropped events site)
            (lost_there g.schema g.table g.key (After events) site owner (m - wide.0) u (makes_inserts g u made.makes_it) h made.there sent x.journal left.0 left.1)
      ]
        where
          sent : at_position (m - wide.0) (stream_to site h) ≡ Some u
          sent = subst (λ (k : Option ℕ). at_position (m - wide.0) (stream_in k (queue_of h)) ≡ Some u) (sym wide.1) (position_behind wide.0 m (queue_of h) u made.at less)

          order : IsInOrder (After events) site x.journal
          order = subst (λ (v : Option SiteState). IsInOrder (After events) site (journal_in v)) tried.found (earlier_comes_first g.schema g.start events g.fit.start site)

          own : ExecuteTheirOwn x.journal
          own = executions_are_own g.schema g.start g.fit.start events site x tried.found

          -- the stream of its owner begins behind the first number that the master has of it
          first_is : first_in (sender_of owner x.senders) ≡ wide.0
          first_is = ap first_in first.1 ∙ same
            where
              met : AreMet g.schema (After events) (run events g.start).sent
              met = run_met g.schema g.start events g.fit.start g.meshed

              of : IsSiteOf g.schema x
              of = found_all (IsSiteOf g.schema) site (After events) x met.sites_of tried.found

              declared : is_master_site g.schema x.here.site ≡ true
              declared = sym of.declared.is_master ∙ tried.on

              among : is_among (map (λ (s : SenderState). s.origin) x.senders) owner ≡ true
              among = rw of.declared.senders (masters_send g.schema g.meshed.declared.shape x.here.site owner declared is.declared (λ same. apart (sym named ∙ sym same)))

              first : (f : SenderState) × (sender_of owner x.senders ≡ Some f) × IsFirstNumber (site_of owner (After events)) site f.first
              first = first_found (After events) site owner x.senders among (meets_at g.schema (After events) (run events g.start).sent met site x tried.found).firsts

              is_first : IsFirstNumber (Some h) site first.0.first
              is_first = subst (λ (v : Option SiteState). IsFirstNumber v site first.0.first) made.there first.2

              same : first.0.first ≡ wide.0
              same = cc (is_first.0, wide.1)

          done : finished owner x.journal (m - wide.0) ≡ true
          done = by (need.before h m u made)
            where
              by : ((o.here.site ≡ owner) × (m < n)) ⊎ Seen owner past m → finished owner x.journal (m - wide.0) ≡ true
              by (inl here) =
                  let one : Some o ≡ Some h = sym tried.there ∙ ap (λ (k : SiteName). site_of k (After events)) here.0 ∙ made.there in
                  let alike : o ≡ h = cc in
                  let count : count_opened (opened_of site o) ≡ wide.0 = ap (λ (v : SiteState). count_opened (opened_of site v)) alike ∙ ap count_opened wide.1 in
                  let at : at_position (m - wide.0) (stream_to site o) ≡ Some u = subst (λ (v : SiteState). at_position (m - wide.0) (stream_to site v) ≡ Some u) (sym alike) sent in
                  let below : m < count_opened (opened_of site o) + position = here.1 in
                  subst (λ (k : SiteName). finished k x.journal (m - wide.0) ≡ true) here.0
                  (tried.earlier (m - wide.0) u (omega (arith, count, below, less)) at (needs_shares g.schema g.table g.key txn u needs (makes_inserts g u made.makes_it)))
              by (inr seen) =
                  let first : first_in (sender_of seen.0.origin x.senders) ≡ wide.0 = ap (λ (k : SiteName). first_in (sender_of k x.senders)) seen.2 ∙ first_is in
                  subst (λ (k : SiteName). finished k x.journal (m - wide.0) ≡ true) seen.2
                  (tried.seen past past_at seen.0 seen.1 (λ same. apart (sym named ∙ sym same ∙ seen.2)) (m - wide.0) (omega (arith, less)) (omega (arith, first, seen.3, less)))

      lost_by : (b : Bool) → nat_lt wide.0 m ≡ b → IsLost
      lost_by true less = behind (grind (arith, nat_tests))
      lost_by false le = elim (has_or_was_dropped g events site x tried.found tried.on apart h m u made wide.0 wide.1 (grind (arith, nat_tests))) [
        | inl has ↦ absurd (hasnt has)
        | inr was ↦ or_right (insert_is_lost g.schema g.table g.key x.journal) (dropped events site) was
      ]

    pub is_lost : IsLost
    is_lost = go (at_position n (pasts_of o)) refl
      where
        place : (1 ≤ n) × (n ≤ length (queue_of o))
        place = found_position n (queue_of o) txn in_queue

        go : (past : Option (List PastEntry)) → at_position n (pasts_of o) ≡ past → IsLost
        go None none = absurd (at_position-within n (pasts_of o) place.0 (omega (arith, place.1, as_many g o)) none)
        go (Some past) at =
            let need = needs_are_met g events o.here.site o tried.there o_on n txn past in_queue at needs in
            elim (is_made_or_shared g events o.here.site site o x tried.there tried.found o_on tried.on need.has) [
              | inl made ↦ let less = nat_lt (wide past at need made.0 made.1 made.2 made.3).0 made.1 in lost_by past at need made.0 made.1 made.2 made.3 less refl
              | inr has ↦ absurd (hasnt has)
            ]
