-- Places of what arrived at which nothing is ready: what isn't due, and behind it all whose past holds its past.
use Rattle.std.proofs.Common.{◌≡◌, ℕ, zero, suc, ◌+◌, ◌<◌, ◌≤◌, List, [], ◌∷◌, length, take, drop, Bool, true, false, Some, None, refl, sym, ap, subst, ◌∙◌, inl, inr, arith}
use Rattle.std.specs.Prelude.{◌&&◌, ◌||◌, Option, nat_le, is_none, slice_get}
use Rattle.std.specs.List.{list_all}
use Rattle.std.proofs.lemmas.Bool.{and_parts, and_from, and_right, cases_lt}
use Rattle.std.proofs.lemmas.Bool.Decides.{nat_tests}
use Rattle.std.proofs.lemmas.List.{take_all, drop_all}
use Rattle.std.proofs.lemmas.Option.{slice_get_within}
use Rattle.rep_lists.specs.Rising.{IsRising}
use Rattle.rep_lists.proofs.Places.{found_at}
use Rattle.rep_values.specs.declared.name.SiteName.{SiteName}
use Rattle.rep_schema.specs.Tables.{Rows}
use Rattle.rep_calls.specs.declared.past.PastEntry.{PastEntry}
use Rattle.unique_resolve.specs.Numbers.{Numbers}
use Rattle.rep_values.specs.SiteNames.{is_same_site}
use Rattle.deferred_queue.proofs.Sites.{is_same_site-true}
use Rattle.origin_marks.specs.Marks.{IsLowWater}
use Rattle.origin_marks.specs.Marks as marks
use Rattle.error_queue.specs.ErrorLists.{ErrorList}
use Rattle.site_state.specs.declared.arrival.Arrival.{Arrival}
use Rattle.site_state.specs.declared.answers.Why.{Why}
use Rattle.site_state.specs.State.{SiteState, arrived_at, arrivals}
use Rattle.site_state.specs.Journal.{finished, low_water}
use Rattle.site_state.specs.Ready.{covered, is_covered, is_due, stale_of, is_ready, first_ready_in}
use Rattle.site_state.specs.Passes.{applied_unless, site_apply, apply_each}
use Rattle.sender_inbox.specs.Incoming.{Incoming, by_position}
use Rattle.sender_inbox.specs.Reaching.{reaches, is_within, PastsRise}
use Rattle.sender_inbox.proofs.Places.{find_at-own}
use Rattle.sender_inbox.proofs.RisingPasts.{le_through, within_later}
use Rattle.site_outbox.specs.Outgoing.{Outgoing}
use Rattle.sender_inbox.specs.Inboxes.{senders_in, inbox_of}
use Rattle.site_engine.specs.declared.looking.Placed.{Placed}
use Rattle.site_engine.specs.SiteInvariant.{SiteHolds}
use Rattle.site_engine.specs.Looking.{NoneReady, IsReadyAt, IsNextReady}
use Rattle.site_engine.proofs.Reading.{arrived_is, arrivals_are, finished_is, mark_is, stale_ready}
use Rattle.site_engine.proofs.Passing.{finished-not_ready, not_ready_more, first_is, arrivals_stay, pass_goes_on}

-- ---- pasts

module _ (x : SiteState) where
  -- what is covered covers what is seen of the same master up to there
  covered_below : (p q : PastEntry) → is_same_site q.origin p.origin ≡ true → nat_le p.number q.number ≡ true → is_covered x q ≡ true → is_covered x p ≡ true
  covered_below p q same less is = go (is_same_site q.origin x.here.site) refl is
    where
      one : q.origin ≡ p.origin
      one = is_same_site-true q.origin p.origin same

      go : (b : Bool) → is_same_site q.origin x.here.site ≡ b → (b || nat_le q.number (covered q.origin x)) ≡ true → is_covered x p ≡ true
      go true here covers = rw (subst (λ (o : SiteName). is_same_site o x.here.site ≡ true) one here) refl
      go false here covers =
          let reached : nat_le p.number (covered p.origin x) ≡ true = le_through p.number q.number (covered p.origin x) less (subst (λ (o : SiteName). nat_le q.number (covered o x) ≡ true) one covers) in
          rw (subst (λ (o : SiteName). is_same_site o x.here.site ≡ false) one here) reached

  covered_reached : (later : List PastEntry) (p : PastEntry) → reaches later p ≡ true → list_all (is_covered x) later ≡ true → is_covered x p ≡ true
  covered_reached [] p reached all = cc
  covered_reached (q ∷ later) p reached all = go (is_same_site q.origin p.origin && nat_le p.number q.number) refl reached (covered_reached later p)
    where
      parts : (is_covered x q ≡ true) × (list_all (is_covered x) later ≡ true)
      parts = and_parts (is_covered x q) (list_all (is_covered x) later) all

      go : (b : Bool) → (is_same_site q.origin p.origin && nat_le p.number q.number) ≡ b → (b || reaches later p) ≡ true → (reaches later p ≡ true → list_all (is_covered x) later ≡ true → is_covered x p ≡ true) → is_covered x p ≡ true
      go true here is rest = let both = and_parts (is_same_site q.origin p.origin) (nat_le p.number q.number) here in covered_below p q both.0 both.1 parts.0
      go false here is rest = rest is parts.1

  -- where a past is covered, so is each one within it
  covered_within : (past later : List PastEntry) → is_within past later ≡ true → list_all (is_covered x) later ≡ true → list_all (is_covered x) past ≡ true
  covered_within [] later within all = refl
  covered_within (p ∷ past) later within all =
      let parts = and_parts (reaches later p) (is_within past later) within in
      and_from (is_covered x p) (list_all (is_covered x) past) (covered_reached later p parts.0 all) (covered_within past later parts.1 all)

  uncovered_later : (past later : List PastEntry) → is_within past later ≡ true → list_all (is_covered x) past ≡ false → list_all (is_covered x) later ≡ false
  uncovered_later past later within open' = go (list_all (is_covered x) later) refl
    where
      go : (b : Bool) → list_all (is_covered x) later ≡ b → b ≡ false
      go true all = let covers = covered_within past later within all in absurd (cc (covers, open'))
      go false all = refl

-- ---- places

module _ (origin : SiteName) (x : SiteState) where
  -- what isn't due isn't ready, whether it is finished or not
  not_due : (a : Arrival) → arrived_at origin a.position x.senders ≡ Some a → is_due origin x a ≡ false → is_ready origin a.position x ≡ false
  not_due a there due = go (finished origin x.journal a.position) refl
    where
      go : (b : Bool) → finished origin x.journal a.position ≡ b → is_ready origin a.position x ≡ false
      go true done = finished-not_ready origin a.position x done
      go false open' = rw (open', there, due) refl

  -- what isn't ready isn't applied
  not_ready_stays : (p : ℕ) → is_ready origin p x ≡ false → site_apply origin p x ≡ x
  not_ready_stays p not_ready = go (stale_of origin p x) not_ready
    where
      go : (stale : Option Why) → is_none stale ≡ false → applied_unless stale origin (arrived_at origin p x.senders) x ≡ x
      go None is = cc
      go (Some why) is = refl

  at_place : (place : ℕ) (a : Arrival) → slice_get (arrivals origin x) place ≡ Some a → is_ready origin a.position x ≡ false → NoneReady origin x place (place + 1)
  at_place place a there not_ready = λ k b low high at.
      let same : k ≡ place = omega (arith, low, high) in
      let found = rw same at at in
      let one : a ≡ b = cc (found, there) in
      subst (λ (c : Arrival). is_ready origin c.position x ≡ false) one not_ready

  -- up to a place, and from there on
  pub none_then : (low middle high : ℕ) → NoneReady origin x low middle → NoneReady origin x middle high → NoneReady origin x low high
  none_then low middle high first next = λ k a from below there. elim (cases_lt k middle) [
    | inl less ↦ first k a from less there
    | inr ge ↦ next k a ge below there
  ]

  -- at no place
  pub none_yet : (low high : ℕ) → high ≤ low → NoneReady origin x low high
  none_yet low high le = λ k a from below there. absurd (omega (arith, le, from, below))

-- ---- a look at what arrived

module _ (x : SiteState) (rows : List Rows) (numbers : Numbers) (inboxes : List Incoming) (out : Outgoing) (lists : List ErrorList) (room : ℕ) (h : SiteHolds x rows numbers inboxes out lists room) (senders : x.senders ≡ senders_in inboxes)
    (origin : SiteName) (i : Incoming) (found : inbox_of origin inboxes ≡ Some i) (rising : IsRising by_position i.sender.arrived) (place : ℕ) (a : Arrival) (there : slice_get i.sender.arrived place ≡ Some a) where
  in_arrivals : (k : ℕ) (b : Arrival) → slice_get i.sender.arrived k ≡ Some b → slice_get (arrivals origin x) k ≡ Some b
  in_arrivals k b at = rw (arrivals_are x rows numbers inboxes out lists room h senders origin i found) at

  came : (k : ℕ) (b : Arrival) → slice_get i.sender.arrived k ≡ Some b → arrived_at origin b.position x.senders ≡ Some b
  came k b at = sym (arrived_is x rows numbers inboxes out lists room h senders origin i found b.position) ∙ find_at-own i.sender.arrived k b rising at

  waits : is_due origin x a ≡ false → NoneReady origin x place (place + 1)
  waits due = at_place origin x place a (in_arrivals place a there) (not_due origin x a (came place a there) due)

  -- it is finished
  pub looked_finished : marks.finished i.marked a.position ≡ true → NoneReady origin x place (place + 1)
  looked_finished done =
      at_place origin x place a (in_arrivals place a there) (finished-not_ready origin a.position x (sym (finished_is x rows numbers inboxes out lists room h senders origin i found a.position) ∙ done))

  -- its past isn't covered
  pub looked_uncovered : list_all (is_covered x) a.past ≡ false → NoneReady origin x place (place + 1)
  looked_uncovered open' = waits (and_right (nat_le a.dep (low_water origin x.journal)) (list_all (is_covered x) a.past) open')

  -- nor are those of all behind it, where pasts rise from its position on
  pub looked_end : (from : ℕ) → PastsRise from i.sender.arrived → from ≤ a.position → list_all (is_covered x) a.past ≡ false → NoneReady origin x place (length (arrivals origin x))
  looked_end from rise le open' = none_then origin x place (place + 1) (length (arrivals origin x)) (looked_uncovered open') (λ k b low high at.
      let own : slice_get i.sender.arrived k ≡ Some b = rw (arrivals_are x rows numbers inboxes out lists room h senders origin i found) at at in
      let within = within_later from i.sender.arrived place k a b rise there le (omega (arith, low)) own in
      not_due origin x b (came k b own) (and_right (nat_le b.dep (low_water origin x.journal)) (list_all (is_covered x) b.past) (uncovered_later x a.past b.past within open')))

  module _ (low : ℕ) (is_low : IsLowWater (marks.finished i.marked) low) where
    low_is : low ≡ low_water origin x.journal
    low_is = mark_is x rows numbers inboxes out lists room h senders origin i found low is_low

    -- it depends on a position above the low-water mark
    pub looked_early : low < a.dep → NoneReady origin x place (place + 1)
    looked_early less =
        let after : nat_le a.dep low ≡ false = grind (arith, nat_tests, less) in
        waits (rw (← low_is, after) refl)

    -- it is ready
    pub looked_ready : marks.finished i.marked a.position ≡ false → a.dep ≤ low → list_all (is_covered x) a.past ≡ true → IsReadyAt origin x place a.position
    looked_ready open' le covers = record {
      arrival = a;
      there = in_arrivals place a there;
      position_is = refl;
      ready =
          let reached : nat_le a.dep low ≡ true = grind (arith, nat_tests, le) in
          let due : is_due origin x a ≡ true = rw (← low_is, reached, covers) refl in
          sym (stale_ready x rows numbers inboxes out lists room h senders origin i found a.position open' a (find_at-own i.sender.arrived place a rising there) due);
    }

-- ---- from one place to a later one

-- what goes on from each place to the next one goes on all the way
go_on : (P : ℕ → Type 0) (low high : ℕ) → low ≤ high → ((k : ℕ) → low ≤ k → k < high → P k → P (k + 1)) → P low → P high
go_on P low zero le step first = let same : low ≡ 0 = omega (arith, le) in subst P same first
go_on P low (suc high) le step first = elim (cases_lt high low) [
  | inl less ↦ let same : low ≡ suc high = omega (arith, le, less) in subst P same first
  | inr ge ↦
      let next : high + 1 ≡ suc high = omega arith in
      let here = go_on P low high ge (λ k from below. step k from (omega (arith, below))) first in
      subst P next (step high ge (omega arith) here)
]

module _ (origin : SiteName) (x : SiteState) (above : ℕ) where
  -- the least ready position stands behind those that aren't ready
  first_behind : (low high : ℕ) → low ≤ high → high ≤ length (arrivals origin x) → NoneReady origin x low high
      → first_ready_in origin above x (drop low (arrivals origin x)) ≡ first_ready_in origin above x (drop high (arrivals origin x))
  first_behind low high le within none = go_on (λ k. first_ready_in origin above x (drop low (arrivals origin x)) ≡ first_ready_in origin above x (drop k (arrivals origin x))) low high le
      (λ k from below so_far.
      let here = found_at (arrivals origin x) k (omega (arith, below, within)) in
      so_far ∙ not_ready_more origin above x (arrivals origin x) k here.0 here.1 (none k here.0 from below here.1)) refl

  -- so it is the next one that is ready
  pub first_next : (start : ℕ) (next : Placed) → IsNextReady origin x start next → above < next.position → first_ready_in origin above x (drop start (arrivals origin x)) ≡ Some next.position
  first_next start next is more =
      let here = is.here in
      let within = slice_get_within (arrivals origin x) is.place here.arrival here.there in
      let ready : None ≡ stale_of origin here.arrival.position x = sym (rw here.position_is at here.ready) in
      let higher : above < here.arrival.position = omega (arith, more, here.position_is) in
      first_behind start is.place is.after (omega (arith, within)) is.before
      ∙ sym (first_is origin above x (arrivals origin x) is.place here.arrival here.there ready higher) ∙ ap Some (sym here.position_is)

  -- and there is none where no next one is
  pub first_none : (start : ℕ) → start ≤ length (arrivals origin x) → NoneReady origin x start (length (arrivals origin x)) → first_ready_in origin above x (drop start (arrivals origin x)) ≡ None
  first_none start le none = first_behind start (length (arrivals origin x)) le (omega arith) none ∙ ap (first_ready_in origin above x) (drop_all (length (arrivals origin x)) (arrivals origin x) (omega arith))

-- ---- the loop of a pass

module _ (origin : SiteName) (start now : SiteState) where
  -- what isn't ready is passed over
  passed_over : (low high : ℕ) → low ≤ high → high ≤ length (arrivals origin start) → NoneReady origin now low high
      → now ≡ apply_each origin (take low (arrivals origin start)) start → now ≡ apply_each origin (take high (arrivals origin start)) start
  passed_over low high le within none = go_on (λ k. now ≡ apply_each origin (take k (arrivals origin start)) start) low high le (λ k from below so_far.
      let here = found_at (arrivals origin start) k (omega (arith, below, within)) in
      let not_ready = none k here.0 from below (rw (arrivals_stay origin start now k so_far) here.1) in
      pass_goes_on origin start now now k here.0 here.0.position so_far here.1 refl (sym (not_ready_stays origin now here.0.position not_ready)))

  module _ (place : ℕ) (so_far : now ≡ apply_each origin (take place (arrivals origin start)) start) where
    -- where nothing more is ready, all is passed
    pub passed_all : place ≤ length (arrivals origin start) → NoneReady origin now place (length (arrivals origin now)) → now ≡ apply_each origin (arrivals origin start) start
    passed_all le none =
        let rest = subst (λ (high : ℕ). NoneReady origin now place high) (ap length (arrivals_stay origin start now place so_far)) none in
        rw (take_all (length (arrivals origin start)) (arrivals origin start) (omega arith)) at (passed_over place (length (arrivals origin start)) le (omega arith) rest so_far)

    module _ (next : Placed) (is : IsNextReady origin now place next) where
      found : slice_get (arrivals origin start) is.place ≡ Some is.here.arrival
      found = rw (arrivals_stay origin start now place so_far) at is.here.there

      pub next_within : next.behind ≤ length (arrivals origin start)
      next_within = let within = slice_get_within (arrivals origin start) is.place is.here.arrival found in omega (arith, within, is.behind_is)

      -- the next one that is ready is applied
      pub passed_next : (new : SiteState) → new ≡ site_apply origin next.position now → new ≡ apply_each origin (take next.behind (arrivals origin start)) start
      passed_next new more =
          let within = slice_get_within (arrivals origin start) is.place is.here.arrival found in
          let before = passed_over place is.place is.after (omega (arith, within)) is.before so_far in
          rw is.behind_is (pass_goes_on origin start now new is.place is.here.arrival next.position before found is.here.position_is more)
