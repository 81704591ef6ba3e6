-- The rows that a master's queued transaction needs: they are there, and their inserts stand before it in the queue or were
-- seen before it.
use Rattle.std.proofs.Common.{◌≡◌, ◌≢◌, ℕ, ◌+◌, ◌-◌, ◌<◌, ◌≤◌, Bool, true, false, List, [], ◌∷◌, length, map, Some, None, Ok, refl, sym, ap, ◌∙◌, subst, inl, inr, arith}
use mathlib.Core.Bool.{true≢false}
use Rattle.std.specs.Prelude.{◌⊎◌, Option, nat_lt}
use Rattle.std.specs.List.{AllByRecursion}
use Rattle.std.proofs.lemmas.Bool.Decides.{nat_tests}
use Rattle.rep_lists.specs.Rising.{find_at}
use Rattle.rep_values.specs.declared.name.SiteName.{SiteName}
use Rattle.rep_schema.specs.declared.schema.Schema.{Schema}
use Rattle.rep_calls.specs.declared.past.PastEntry.{PastEntry}
use Rattle.rep_calls.specs.declared.call.Txn.{Txn}
use Rattle.txn_effects.specs.Contents.{effect_on}
use Rattle.txn_effects.specs.declared.local.Here.{Here}
use Rattle.txn_effects.specs.Locals.{local_effect}
use Rattle.deferred_queue.specs.Streams.{at_position}
use Rattle.rep_values.specs.SiteNames.{is_same_site}
use Rattle.deferred_queue.proofs.Sites.{is_same_site-true, is_same_site-refl}
use Rattle.deferred_queue.proofs.Positions.{found_position}
use Rattle.packet_code.specs.declared.packet.Packet.{Packet}
use Rattle.site_state.specs.declared.arrival.Arrival.{Arrival}
use Rattle.site_state.specs.State.{SenderState, SiteState, sender_of, arrived_in, arrival_beside, arrived_at, opened_of}
use Rattle.rep_schema.specs.Sites.{is_master_site, is_among}
use Rattle.site_state.specs.Journal.{finished}
use Rattle.site_state.specs.Contents.{content_of, tables_of, txn_of}
use Rattle.site_state.specs.Streams.{with_one, queue_of, stream_in, stream_to}
use Rattle.site_state.specs.Pasts.{seen_of, past_of, pasts_of}
use Rattle.site_state.specs.Joining.{site_open}
use Rattle.site_state.proofs.Stepping.{IsSent, arrived_has}
use Rattle.site_state.proofs.Pasts.{length-pasts_after}
use Rattle.site_state.proofs.Queueing.{Adds}
use Rattle.site_events.specs.Cluster.{site_of}
use Rattle.site_events.specs.Joins.{copied, with_joined}
use Rattle.site_events.specs.Events.{Event, run}
use Rattle.event_laws.specs.Starts.{IsNewSite}
use Rattle.event_laws.specs.Waiting.{IsFirstNumber}
use Rattle.event_laws.proofs.Sites.{found_all, found_name, all_at_place}
use Rattle.event_laws.proofs.Happening.{Becomes, happens_becomes}
use Rattle.event_laws.proofs.Happening as happening
use Rattle.event_laws.proofs.DeclaredSites.{IsSiteOf}
use Rattle.event_laws.proofs.RunInvariants.{SentBy}
use Rattle.event_laws.proofs.MarkLaws.{arrived_was_sent}
use Rattle.event_laws.proofs.Meeting.{PacketPast, SiteMeets, AddsIn, AllAdd, all_add_same, at_adds, steps_meet, accept_meets, purge_meets, refreshed_meets}
use Rattle.event_laws.proofs.Waiting.{AreMet, run_met}
use Rattle.convergence_laws.specs.Journals.{IsSoundTxn}
use Rattle.event_laws.proofs.OpenMasters.{masters_send}
use Rattle.convergence_laws.proofs.SitesAt.{WasJoined, was_joined}
use Rattle.convergence_laws.proofs.SitesAt as joining
use Rattle.error_cause_laws.proofs.OneTimeWrites.{position_few, stream_few}
use Rattle.error_cause_laws.proofs.WritingOnce.{DecidedBy, HasPassed}
use Rattle.error_cause_laws.proofs.Moving.{Moves, Happened, Stayed, Erred, Committed, Applied, Commits, Applies}
use Rattle.error_cause_laws.proofs.Turning.{Turns}
use Rattle.event_laws.proofs.JoinedSites.{copied_queue}
use Rattle.error_cause_laws.proofs.Turning as turning
use Rattle.error_cause_laws.proofs.WritesStep.{IsWell}
use Rattle.error_cause_laws.proofs.NeededRows.{Needs, needs_row, onward_gives}
use Rattle.error_cause_laws.proofs.FinishedPasts.{held_at, meets_at}
use Rattle.error_cause_laws.proofs.SeenNumbers.{Seen, past_has, finished_within, sender_named, first_found}
use Rattle.error_cause_laws.proofs.QueueNumbers.{position_behind, Stands, Older, Newest, stands}
use Rattle.error_cause_laws.proofs.OneRow.{Setting, Was, was, Changed, Other, Puts, commit_queue, commit_puts, apply_queue, apply_puts, Sites, sign, Has, makes_of, well, signed, turned, IsOwner, owner_of, makes_no_more, keeps_row}

-- ---- pasts, event by event

-- one past more, of what is seen now, or none
pub record Grows (x y : SiteState) : Type 0 where
  pub more : Bool
  pub pasts : pasts_of y ≡ with_one more (past_of x) (pasts_of x)

module _ (schema : Schema) (xs : List SiteState) (sent : List Packet) (met : AreMet schema xs sent) (name : SiteName) (x y : SiteState) (x_found : site_of name xs ≡ Some x) where
  added : (ys : List SiteState) → AllAdd xs ys → site_of name ys ≡ Some y → Grows x y
  added ys adds found =
      let a : Adds x y = subst (λ (o : Option SiteState). AddsIn o (Some y)) x_found (subst (AddsIn (site_of name xs)) found (adds name)) in
      record { more = a.queues; pasts = a.pasts }

  becomes_grows : (ys : List SiteState) (more : List Packet) → Becomes xs sent ys more → site_of name ys ≡ Some y → Grows x y
  becomes_grows _ _ happening.Stays found = added xs (all_add_same xs) found
  becomes_grows _ _ (happening.Journalled at change steps) found = added _ (at_adds xs at change (steps_meet xs at change steps) met.meets.each) found
  becomes_grows _ _ (happening.Sends from to position) found = added xs (all_add_same xs) found
  becomes_grows _ _ (happening.Marks from to) found = added xs (all_add_same xs) found
  becomes_grows _ _ (happening.Delivers packet which is) found = added _ (at_adds xs _ _ (accept_meets xs packet (all_at_place (PacketPast xs) sent which packet met.meets.packets is)) met.meets.each) found
  becomes_grows _ _ (happening.Purges at) found = added _ (at_adds xs at _ (purge_meets xs at) met.meets.each) found
  becomes_grows _ _ (happening.Refreshes at change refreshed) found = added _ (at_adds xs at change (refreshed_meets xs at change refreshed) met.meets.each) found
  becomes_grows _ _ (happening.Joins site from source absent there may) found = go y (was_joined xs source site name y found)
    where
      go : (w : SiteState) → WasJoined xs source site name w → Grows x w
      go _ (joining.Old z is) = let same : z ≡ x = cc (is, x_found) in record { more = false; pasts = ap pasts_of same }
      go _ (joining.New named) = let none : site_of name xs ≡ None = ap (λ (n : SiteName). site_of n xs) named ∙ absent in absurd (cc (none, x_found))

-- ---- the row

module _ (g : Setting) where
  abbrev After : List Event → List SiteState
  After events = Sites g events

  abbrev owner : SiteName
  owner = (sign g).owner

  abbrev HasIt : SiteState → Type 0
  HasIt x = Has g x

  abbrev makes : Txn → ℕ
  makes txn = makes_of g txn

  met_after : (events : List Event) → AreMet g.schema (After events) (run events g.start).sent
  met_after events = run_met g.schema g.start events g.fit.start g.meshed

  -- the row's insert stands at a number of its owner's queue
  pub record Made (sites : List SiteState) (o : SiteState) (m : ℕ) (u : Txn) : Type 0 where
    pub there : site_of owner sites ≡ Some o
    pub at : at_position m (queue_of o) ≡ Some u
    pub makes_it : 1 ≤ makes u

  pub made_owner : (events : List Event) (o : SiteState) (m : ℕ) (u : Txn) → Made (After events) o m u → IsOwner g (After events) o
  made_owner events o m u made =
      owner_of g events owner o made.there
      (omega (arith, made.makes_it, position_few (sign g).count m (queue_of o) u made.at))

  -- ---- what a master that has the row has seen

  pub has_seen : (events : List Event) (site : SiteName) (s o : SiteState) (m : ℕ) (u : Txn) → site_of site (After events) ≡ Some s → s.here.is_master ≡ true → HasIt s → Made (After events) o m u → s.here.site ≢ owner
      → Seen owner (past_of s) m
  has_seen events site s o m u found master has made apart = ended
    where
      sites : List SiteState
      sites = After events

      met : AreMet g.schema sites (run events g.start).sent
      met = met_after events

      is_owner : IsOwner g sites o
      is_owner = made_owner events o m u made

      of : IsSiteOf g.schema s
      of = found_all (IsSiteOf g.schema) site sites s met.sites_of found

      site_meets : SiteMeets sites site s
      site_meets = meets_at g.schema sites (run events g.start).sent met site s found

      named : s.here.site ≡ site
      named = found_name site sites s found

      declared : is_master_site g.schema s.here.site ≡ true
      declared = sym of.declared.is_master ∙ master

      among : is_among (map (λ (s : SenderState). s.origin) s.senders) owner ≡ true
      among = rw of.declared.senders (masters_send g.schema g.meshed.declared.shape s.here.site owner declared is_owner.declared (λ same. apart (sym same)))

      first : (f : SenderState) × (sender_of owner s.senders ≡ Some f) × IsFirstNumber (site_of owner sites) site f.first
      first = first_found sites site owner s.senders among site_meets.firsts

      is_first : IsFirstNumber (Some o) site first.0.first
      is_first = subst (λ (u : Option SiteState). IsFirstNumber u site first.0.first) made.there first.2

      place : 1 ≤ m
      place = (found_position m (queue_of o) u made.at).0

      -- it is behind the first number: so its position has passed
      behind : first.0.first < m → m ≤ seen_of s.journal first.0
      behind less = by (arrived_at owner q s.senders) refl
        where
          q : ℕ
          q = m - first.0.first

          sent : at_position q (stream_to s.here.site o) ≡ Some u
          sent = subst (λ (n : SiteName). at_position q (stream_to n o) ≡ Some u) (sym named)
              (subst (λ (c : Option ℕ). at_position q (stream_in c (queue_of o)) ≡ Some u) (sym is_first.0) (position_behind first.0.first m (queue_of o) u made.at less))

          passed : HasPassed o.here.site q s
          passed = (signed g events).known site owner s o found made.there master is_owner.master has q u sent made.makes_it

          done : finished owner s.journal q ≡ true
          done = subst (λ (n : SiteName). finished n s.journal q ≡ true) is_owner.named passed.finished_there

          by : (a : Option Arrival) → arrived_at owner q s.senders ≡ a → m ≤ seen_of s.journal first.0
          by None none = absurd (site_meets.arrived owner q done none)
          by (Some a) there =
              let was_sent : IsSent o site a.number a.position a.dep a.txn =
              subst (λ (v : Option SiteState). SentBy v site a.number a.position a.dep a.txn) made.there (arrived_was_sent sites site owner s.senders q a (held_at g.schema sites (run events g.start).sent met site s found).senders there) in
              let same : was_sent.count ≡ first.0.first = cc (was_sent.opened, is_first.0) in
              let at : a.position ≡ q = arrived_has owner q s a there in
              let here : find_at (arrival_beside q) first.0.arrived ≡ Some a = subst (λ (v : Option SenderState). find_at (arrival_beside q) (arrived_in v) ≡ Some a) first.1 there in
              let origin : first.0.origin ≡ owner = sender_named owner s.senders first.0 first.1 in
              let within = finished_within first.0.origin s.journal q first.0.arrived a here (rw origin done) in
              omega (arith, was_sent.number_is, same, at, within, less)

      enough : m ≤ seen_of s.journal first.0
      enough = go (nat_lt first.0.first m) refl
        where
          go : (b : Bool) → nat_lt first.0.first m ≡ b → m ≤ seen_of s.journal first.0
          go true is = behind (grind (arith, nat_tests))
          go false is = let within : m ≤ first.0.first = grind (arith, nat_tests) in omega (arith, within)

      ended : Seen owner (past_of s) m
      ended =
          let seen = past_has g.schema s.journal owner s.senders first.0 first.1 is_owner.declared (omega (arith, enough, place)) in
          rw of.of_schema (seen.0, seen.1, seen.2, omega (arith, seen.3, enough))

  -- ---- the newest of a queue

  module _ (e : Event) (events : List Event) (x y : SiteState) (x_found : site_of x.here.site (After events) ≡ Some x) (y_found : site_of x.here.site (After (e ∷ events)) ≡ Some y) (moves : Moves (After events) x y) where
    x_well : IsWell g.schema x
    x_well = well g events x.here.site x x_found

    y_well : IsWell g.schema y
    y_well = well g (e ∷ events) x.here.site y y_found

    -- it is of the site's own block, or is sent on of what it applied
    pub data NewIs (txn : Txn) : Type 0 where
      Own : (c : Commits x y moves.entry) → txn ≡ txn_of g.schema c.block.changes → NewIs txn
      Sent : (a : Applies (After events) x y moves.entry) → a.queues ≡ true → txn ≡ txn_of g.schema a.effect.changes → NewIs txn

    pub data Placed (n : ℕ) (txn : Txn) : Type 0 where
      Before : at_position n (queue_of x) ≡ Some txn → Placed n txn
      New : n ≡ length (queue_of x) + 1 → NewIs txn → Placed n txn

    pub placed : (n : ℕ) (txn : Txn) → at_position n (queue_of y) ≡ Some txn → Placed n txn
    placed n txn at = go moves.what
      where
        own : (c : Commits x y moves.entry) → Stands true (txn_of g.schema c.block.changes) (queue_of x) n txn → Placed n txn
        own c (Older there) = Before there
        own c (Newest now place same) = New place (Own c same)

        sent : (a : Applies (After events) x y moves.entry) → Stands a.queues (txn_of g.schema a.effect.changes) (queue_of x) n txn → Placed n txn
        sent a (Older there) = Before there
        sent a (Newest now place same) = New place (Sent a now same)

        go : Happened (After events) x y moves.entry → Placed n txn
        go (Stayed s) = Before (subst (λ (q : List Txn). at_position n q ≡ Some txn) s.queue at)
        go (Erred f) = Before (subst (λ (q : List Txn). at_position n q ≡ Some txn) f.queue at)
        go (Committed c) =
            let queue = commit_queue g.schema (After events) x y moves.entry x_well y_well c in
            own c (stands true (txn_of g.schema c.block.changes) (queue_of x) n txn (subst (λ (q : List Txn). at_position n q ≡ Some txn) queue at))
        go (Applied a) =
            let queue = apply_queue g.schema (After events) x y moves.entry x_well y_well a in
            sent a (stands a.queues (txn_of g.schema a.effect.changes) (queue_of x) n txn (subst (λ (q : List Txn). at_position n q ≡ Some txn) queue at))

    pub applied_puts : (a : Applies (After events) x y moves.entry) → Puts g.schema x y a.origin.here.site a.txn
    applied_puts a = apply_puts g.schema (After events) x y moves.entry x_well y_well a (well g events a.origin.here.site a.origin a.comes.there)

    -- what it needs is there
    pub new_needs : (txn : Txn) → NewIs txn → Needs g.schema g.table g.key txn → HasIt x
    new_needs txn (Own c same) needs =
        let puts = commit_puts g.schema (After events) x y moves.entry x_well y_well c in
        needs_row g.schema g.fit.sound g.decides g.table g.convergent g.key x.here.site (txn_of g.schema c.block.changes) (content_of x) puts.effect puts.content puts.sound puts.gives
        (subst (Needs g.schema g.table g.key) same needs)
    new_needs txn (Sent a now same) needs =
        let puts = applied_puts a in
        let queue : queue_of y ≡ txn_of g.schema a.effect.changes ∷ queue_of x =
        apply_queue g.schema (After events) x y moves.entry x_well y_well a ∙ ap (λ (b : Bool). with_one b (txn_of g.schema a.effect.changes) (queue_of x)) now in
        let sound : IsSoundTxn g.schema (txn_of g.schema a.effect.changes) = (subst (AllByRecursion (IsSoundTxn g.schema)) queue y_well.queued).0 in
        needs_row g.schema g.fit.sound g.decides g.table g.convergent g.key a.origin.here.site (txn_of g.schema a.effect.changes) (content_of x)
        (record { changes = a.effect.changes; numbers = (content_of x).numbers }) puts.content sound
        (onward_gives g.schema g.fit.sound g.decides g.table g.convergent g.key a.origin.here.site a.txn (content_of x) a.effect puts.content puts.sound
        (subst (λ (s : Schema). effect_on s a.origin.here.site a.txn (content_of x) ≡ Ok a.effect) x_well.of_schema a.gives))
        (subst (Needs g.schema g.table g.key) same needs)

    -- where the row is there, it doesn't insert it
    pub new_makes_none : (txn : Txn) → NewIs txn → 1 ≤ makes txn → HasIt x → ⊥
    new_makes_none txn (Own c same) some has =
        makes_no_more g events x.here.site x c.statements c.block x_found has
        (subst (λ (s : Schema). local_effect s x.here x.stamps c.statements (tables_of x) ≡ Ok c.block) x_well.of_schema c.makes)
        (subst (λ (t : Txn). 1 ≤ makes t) same some)
    new_makes_none txn (Sent a now same) some has =
        let puts = applied_puts a in
        let fewer = (sign g).onward a.origin.here.site a.txn (content_of x) a.effect puts.content puts.sound
        (subst (λ (s : Schema). effect_on s a.origin.here.site a.txn (content_of x) ≡ Ok a.effect) x_well.of_schema a.gives) in
        let more : 1 ≤ makes (txn_of g.schema a.effect.changes) = subst (λ (t : Txn). 1 ≤ makes t) same some in
        let by : 1 ≤ makes a.txn = omega (arith, fewer, more) in
        let o = owner_of g events a.origin.here.site a.origin a.comes.there
        (omega (arith, by, position_few (sign g).count a.position (stream_to x.here.site a.origin) a.txn a.comes.sent, stream_few (sign g).count (opened_of x.here.site a.origin) (queue_of a.origin))) in
        let off = a.onward (ap (λ (s : Schema). is_master_site s a.origin.here.site) x_well.of_schema ∙ ap (is_master_site g.schema) o.named ∙ o.declared) in
        true≢false (sym now ∙ off)

  -- ---- what stands in queues

  -- where the row's insert is queued, it stands before a transaction in the queue, or was seen before it
  abbrev pub IsBefore : List SiteState → SiteState → ℕ → List PastEntry → Type 0
  IsBefore sites s n past = (o : SiteState) (m : ℕ) (u : Txn) → Made sites o m u → ((s.here.site ≡ owner) × (m < n)) ⊎ Seen owner past m

  pub record NeedIsMet (sites : List SiteState) (s : SiteState) (n : ℕ) (past : List PastEntry) : Type 0 where
    pub has : HasIt s
    pub before : IsBefore sites s n past

  abbrev pub NeedsAreMet : List SiteState → Type 0
  NeedsAreMet sites = (site : SiteName) (s : SiteState) → site_of site sites ≡ Some s → s.here.is_master ≡ true → (n : ℕ) (txn : Txn) (past : List PastEntry)
      → at_position n (queue_of s) ≡ Some txn → at_position n (pasts_of s) ≡ Some past → Needs g.schema g.table g.key txn → NeedIsMet sites s n past

  pub as_many : (x : SiteState) → length (pasts_of x) ≡ length (queue_of x)
  as_many x = length-pasts_after x.schema x.here x.base x.senders x.journal

  module _ (e : Event) (events : List Event) (x y : SiteState) (x_found : site_of x.here.site (After events) ≡ Some x) (y_found : site_of x.here.site (After (e ∷ events)) ≡ Some y)
      (rest : (site : SiteName) → site ≢ x.here.site → site_of site (After (e ∷ events)) ≡ site_of site (After events)) (moves : Moves (After events) x y) where
    -- where some master has the row, its insert was queued before
    pub made_before : (site : SiteName) (s : SiteState) → site_of site (After events) ≡ Some s → s.here.is_master ≡ true → HasIt s → (o : SiteState) (m : ℕ) (u : Txn) → Made (After (e ∷ events)) o m u
        → (z : SiteState) × Made (After events) z m u
    made_before site s found master has o m u made = go (was (After events) (After (e ∷ events)) x y x_found y_found rest owner o made.there)
      where
        by : owner ≡ x.here.site → o ≡ y → Placed e events x y x_found y_found moves m u → (z : SiteState) × Made (After events) z m u
        by own same (Before at) = (x, record { there = ap (λ (n : SiteName). site_of n (After events)) own ∙ x_found; at = at; makes_it = made.makes_it })
        by own same (New place new) =
            let is_owner = made_owner (e ∷ events) o m u made in
            let there : site_of owner (After events) ≡ Some x = ap (λ (n : SiteName). site_of n (After events)) own ∙ x_found in
            let already : x.here.is_master ≡ true → HasIt x = subst (DecidedBy g.schema (sign g) (After events)) there ((signed g events).settled site s found master has) in
            let on : x.here.is_master ≡ true = ap (λ (h : Here). h.is_master) (sym moves.here) ∙ ap (λ (v : SiteState). v.here.is_master) (sym same) ∙ is_owner.master in
            absurd (new_makes_none e events x y x_found y_found moves u new made.makes_it (already on))

        go : Was (After events) (After (e ∷ events)) x y x_found y_found rest owner o → (z : SiteState) × Made (After events) z m u
        go (Other apart there) = (o, record { there = there; at = made.at; makes_it = made.makes_it })
        go (Changed own same) = by own same (placed e events x y x_found y_found moves m u (subst (λ (v : SiteState). at_position m (queue_of v) ≡ Some u) same made.at))

    x_on : y.here.is_master ≡ true → x.here.is_master ≡ true
    x_on on = ap (λ (h : Here). h.is_master) (sym moves.here) ∙ on

    changed_met : NeedsAreMet (After events) → y.here.is_master ≡ true → (n : ℕ) (txn : Txn) (past : List PastEntry) → at_position n (queue_of y) ≡ Some txn → at_position n (pasts_of y) ≡ Some past → Needs g.schema g.table g.key txn
        → NeedIsMet (After (e ∷ events)) y n past
    changed_met before on n txn past at past_at needs = go (placed e events x y x_found y_found moves n txn at)
      where
        grows : Grows x y
        grows = becomes_grows g.schema (After events) (run events g.start).sent (met_after events) x.here.site x y x_found _ _ (happens_becomes e (run events g.start)) y_found

        named : y.here.site ≡ x.here.site
        named = ap (λ (h : Here). h.site) moves.here

        -- it stood there
        older : at_position n (queue_of x) ≡ Some txn → Stands grows.more (past_of x) (pasts_of x) n past → NeedIsMet (After (e ∷ events)) y n past
        older at (Older past_at) =
            let b = before x.here.site x x_found (x_on on) n txn past at past_at needs in
            record {
              has = keeps_row g e events x y x_found y_found moves (x_on on) b.has;
              before = λ o m u made. let old = made_before x.here.site x x_found (x_on on) b.has o m u made in elim (b.before old.0 m u old.1) [
                | inl own ↦ inl (named ∙ own.0, own.1)
                | inr seen ↦ inr seen
              ];
            }
        older at (Newest now place same) = absurd (omega (arith, place, as_many x, (found_position n (queue_of x) txn at).1))

        -- it is new
        new : n ≡ length (queue_of x) + 1 → HasIt x → Stands grows.more (past_of x) (pasts_of x) n past → NeedIsMet (After (e ∷ events)) y n past
        new place has (Older past_at) = absurd (omega (arith, place, as_many x, (found_position n (pasts_of x) past past_at).1))
        new place has (Newest now also same) = record {
          has = keeps_row g e events x y x_found y_found moves (x_on on) has;
          before = λ o m u made. let old = made_before x.here.site x x_found (x_on on) has o m u made in by old.0 m u old.1 (is_same_site x.here.site owner) refl;
        }
          where
            by : (o : SiteState) (m : ℕ) (u : Txn) → Made (After events) o m u → (b : Bool) → is_same_site x.here.site owner ≡ b → ((y.here.site ≡ owner) × (m < n)) ⊎ Seen owner past m
            by o m u made true is =
                let own : x.here.site ≡ owner = is_same_site-true x.here.site owner is in
                let both : Some o ≡ Some x = sym made.there ∙ ap (λ (k : SiteName). site_of k (After events)) (sym own) ∙ x_found in
                let one : o ≡ x = cc in
                let within = (found_position m (queue_of x) u (subst (λ (v : SiteState). at_position m (queue_of v) ≡ Some u) one made.at)).1 in
                inl (named ∙ own, omega (arith, place, within))
            by o m u made false is =
                inr (subst (λ (p : List PastEntry). Seen owner p m) (sym same)
                (has_seen events x.here.site x o m u x_found (x_on on) has made (λ own. true≢false (sym (is_same_site-refl owner) ∙ ap (λ (k : SiteName). is_same_site k owner) (sym own) ∙ is))))

        pasts : Stands grows.more (past_of x) (pasts_of x) n past
        pasts = stands grows.more (past_of x) (pasts_of x) n past (subst (λ (ps : List (List PastEntry)). at_position n ps ≡ Some past) grows.pasts past_at)

        go : Placed e events x y x_found y_found moves n txn → NeedIsMet (After (e ∷ events)) y n past
        go (Before at) = older at pasts
        go (New place new_is) = new place (new_needs e events x y x_found y_found moves txn new_is needs) pasts

    pub turned_met : NeedsAreMet (After events) → NeedsAreMet (After (e ∷ events))
    turned_met before site s found on n txn past at past_at needs = go (was (After events) (After (e ∷ events)) x y x_found y_found rest site s found)
      where
        go : Was (After events) (After (e ∷ events)) x y x_found y_found rest site s → NeedIsMet (After (e ∷ events)) s n past
        go (Changed own same) = subst (λ (v : SiteState). NeedIsMet (After (e ∷ events)) v n past) (sym same)
            (changed_met before (subst (λ (v : SiteState). v.here.is_master ≡ true) same on) n txn past (subst (λ (v : SiteState). at_position n (queue_of v) ≡ Some txn) same at)
            (subst (λ (v : SiteState). at_position n (pasts_of v) ≡ Some past) same past_at) needs)
        go (Other apart there) =
            let b = before site s there on n txn past at past_at needs in
            record { has = b.has; before = λ o m u made. let old = made_before site s there on b.has o m u made in b.before old.0 m u old.1 }

  -- a master joins
  pub none_made : (sites : List SiteState) (joins : SiteName) (source : SiteState) (o : SiteState) (m : ℕ) (u : Txn) → Made (with_joined sites source joins) o m u → (z : SiteState) × (o ≡ site_open joins z) × Made sites z m u
  none_made sites joins source o m u made = go o made.at (was_joined sites source joins owner o made.there)
    where
      go : (w : SiteState) → at_position m (queue_of w) ≡ Some u → WasJoined sites source joins owner w → (z : SiteState) × (w ≡ site_open joins z) × Made sites z m u
      go _ at (joining.Old z there) = (z, refl, record { there = there; at = at; makes_it = made.makes_it })
      go _ at (joining.New named) = let none : at_position m (queue_of (copied sites source joins)) ≡ None = ap (at_position m) (copied_queue sites source joins) in absurd (cc (none, at))

  joined_met : (sites : List SiteState) (joins : SiteName) (source : SiteState) → NeedsAreMet sites → NeedsAreMet (with_joined sites source joins)
  joined_met sites joins source before site s found on n txn past at past_at needs = go s on at past_at (was_joined sites source joins site s found)
    where
      go : (w : SiteState) → w.here.is_master ≡ true → at_position n (queue_of w) ≡ Some txn → at_position n (pasts_of w) ≡ Some past → WasJoined sites source joins site w → NeedIsMet (with_joined sites source joins) w n past
      go _ on at past_at (joining.Old z there) =
          let b = before site z there on n txn past at past_at needs in
          record { has = b.has; before = λ o m u made. let old = none_made sites joins source o m u made in b.before old.0 m u old.2 }
      go _ on at past_at (joining.New named) = let none : at_position n (queue_of (copied sites source joins)) ≡ None = ap (at_position n) (copied_queue sites source joins) in absurd (cc (none, at))

  -- after every list of events
  pub needs_are_met : (events : List Event) → NeedsAreMet (After events)
  needs_are_met [] = λ site s found on n txn past at seen needs. nothing site s found n txn at
    where
      nothing : (site : SiteName) (s : SiteState) → site_of site g.start.sites ≡ Some s → (n : ℕ) (txn : Txn) → at_position n (queue_of s) ≡ Some txn → {A : Type 0} → A
      nothing site s found n txn at =
          let none : queue_of s ≡ [] = rw (found_all (IsNewSite g.schema) site g.start.sites s g.fit.start.sites found).journal refl in
          let nothing : at_position n (queue_of s) ≡ None = ap (at_position n) none in
          absurd (cc (nothing, at))
  needs_are_met (e ∷ es) = go (turned g e es) (needs_are_met es)
    where
      go : Turns (After es) (After (e ∷ es)) → NeedsAreMet (After es) → NeedsAreMet (After (e ∷ es))
      go (turning.Same same) before = subst NeedsAreMet (sym same) before
      go (turning.One x y x_found y_found rest moves) before = turned_met e es x y x_found y_found rest moves before
      go (turning.Joins joins source absent source_found may same) before = subst NeedsAreMet (sym same) (joined_met (After es) joins source before)
