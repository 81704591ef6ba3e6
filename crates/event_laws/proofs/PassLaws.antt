-- A pass finishes what is ready at its turn, and what isn't ready then isn't so afterwards; and what a purge takes.
use Rattle.std.proofs.Common.{◌≡◌, ℕ, zero, suc, ◌+◌, ◌<◌, ◌≤◌, ◌==◌, List, [], ◌∷◌, Bool, true, false, cond, Some, None, refl, sym, ap, ◌∙◌, arith, subst}
use Rattle.std.specs.Prelude.{◌||◌, ◌&&◌, not, nat_le, nat_lt, Option, Result, Ok, Err}
use Rattle.std.specs.List.{list_all, AllByRecursion}
use Rattle.std.specs.Ordering.{nat_cmp}
use Rattle.std.proofs.lemmas.Bool.Decides.{nat_tests}
use Rattle.std.specs.declared.cmp.Ordering.TheVariants.{Less}
use Rattle.rep_values.specs.declared.name.SiteName.{SiteName}
use Rattle.rep_calls.specs.declared.past.PastEntry.{PastEntry}
use Rattle.txn_effects.specs.Calls.{Effect}
use Rattle.txn_effects.specs.Transactions.{Failure}
use Rattle.rep_values.specs.SiteNames.{is_same_site}
use Rattle.deferred_queue.proofs.Sites.{is_same_site-true, is_same_site-refl}
use Rattle.origin_marks.specs.Marks.{low_up_to}
use Rattle.site_state.specs.declared.entry.Entry.{Entry}
use Rattle.site_state.specs.declared.entry.Entry.TheVariants.{Done, Error}
use Rattle.site_state.specs.declared.answers.Why.{Why}
use Rattle.site_state.specs.declared.arrival.Arrival.{Arrival}
use Rattle.site_state.specs.State.{DestinationState, SiteState, sender_of, arrived_at, arrivals}
use Rattle.site_state.specs.Arrivals.{NamesOthers, CanPass}
use Rattle.site_state.specs.Journal.{finishes, finished, position_by, last_finished, low_water, is_position}
use Rattle.site_state.specs.Streams.{count_of}
use Rattle.site_state.specs.Ready.{covered_at, covered, is_covered, is_due, stale_of, is_ready}
use Rattle.site_state.specs.Steps.{begun}
use Rattle.site_state.specs.Passes.{effect_here, finished_by, applied_unless, site_apply, apply_each, site_pass}
use Rattle.site_state.specs.Purges.{acknowledged_by, acknowledged_by_all}
use Rattle.site_state.proofs.LowWater.{low_water-greatest, low_water-below, low_water-is, finished-append}
use Rattle.site_state.proofs.Stepping.{arrived_has}
use Rattle.event_laws.specs.PassLaws.{PassesLeaveNothingReady, LowWaterIsThatOfTheFinished, AckedSince, HasAcked, PurgesTakeWhatIsAcknowledged}
use Rattle.site_state.proofs.Waited.{is_position-own, and_both, each_found, found_holds}

-- ---- a position is applied: nothing, or one entry that finishes it

-- the journal has at most one entry more, which finishes this position of this sender
pub data Finishes (origin : SiteName) (position : ℕ) (x : SiteState) : SiteState → Type 0 where
  Not : Finishes origin position x x
  By : (y : SiteState) (e : Entry) → y.journal ≡ e ∷ x.journal → y.senders ≡ x.senders → y.here ≡ x.here
      → ((o : SiteName) (p : ℕ) → finishes o p e ≡ is_position o p origin position) → ((o : SiteName) → position_by o e ≡ cond (is_same_site origin o) position 0)
      → Finishes origin position x y

pub apply_finishes : (origin : SiteName) (position : ℕ) (x : SiteState) → Finishes origin position x (site_apply origin position x)
apply_finishes origin position x = go (stale_of origin position x) (arrived_at origin position x.senders) refl
  where
    by : (a : Arrival) → a.position ≡ position → (r : Result Effect Failure) → Finishes origin position x (finished_by origin a r x)
    by a at (Ok effect) = By _ (Done origin a.position _ a.txn) refl refl refl (λ o p. rw at refl) (λ o. rw at refl)
    by a at (Err failure) = By _ (Error origin a.position failure.call failure.error a.txn) refl refl refl (λ o p. rw at refl) (λ o. rw at refl)

    go : (stale : Option Why) (found : Option Arrival) → arrived_at origin position x.senders ≡ found → Finishes origin position x (applied_unless stale origin found x)
    go (Some why) found there = Not
    go None None there = Not
    go None (Some a) there = by a (arrived_has origin position x a there) (effect_here origin a x)

finished-other : (origin : SiteName) (position : ℕ) (x y : SiteState) → Finishes origin position x y → (o : SiteName) (p : ℕ) → is_position o p origin position ≡ false → finished o y.journal p ≡ finished o x.journal p
finished-other origin position x y Not o p off = refl
finished-other origin position x _ (By y e is senders here finishing by) o p off = rw (is, finishing o p, off) refl

low_up_to-same : (f g : ℕ → Bool) (n : ℕ) → ((p : ℕ) → f p ≡ g p) → low_up_to f n ≡ low_up_to g n
low_up_to-same f g zero same = refl
low_up_to-same f g (suc n) same = rw (low_up_to-same f g n same, same (suc n)) refl

low_water-other : (origin : SiteName) (position : ℕ) (x y : SiteState) → Finishes origin position x y → (o : SiteName) → is_same_site origin o ≡ false → low_water o y.journal ≡ low_water o x.journal
low_water-other origin position x y Not o off = refl
low_water-other origin position x _ (By y e is senders here finishing by) o off =
    let last : last_finished o (e ∷ x.journal) ≡ last_finished o x.journal = rw (by o, off) (omega arith) in
    rw (is, last) (low_up_to-same (finished o (e ∷ x.journal)) (finished o x.journal) (last_finished o x.journal) (λ p. rw (finishing o p, off) refl))

-- what applying positions from a bound on leaves of a site
pub record After (origin : SiteName) (bound : ℕ) (x y : SiteState) : Type 0 where
  senders : y.senders ≡ x.senders
  here : y.here ≡ x.here
  others : (o : SiteName) → is_same_site origin o ≡ false → covered o y ≡ covered o x
  older : (q : ℕ) → q < bound → finished origin y.journal q ≡ finished origin x.journal q
  kept : (q : ℕ) → finished origin x.journal q ≡ true → finished origin y.journal q ≡ true

and_false : (b c : Bool) → c ≡ false → (b && c) ≡ false
and_false true c is = is
and_false false c is = refl

pub after_one : (origin : SiteName) (bound position : ℕ) (x y : SiteState) → bound ≤ position → Finishes origin position x y → After origin bound x y
after_one origin bound position x y above Not = record { senders = refl; here = refl; others = λ o off. refl; older = λ q less. refl; kept = λ q is. is }
after_one origin bound position x _ above (By y e is senders here finishing by) = record {
  senders = senders;
  here = here;
  others = λ o off. ap (λ low. covered_at low (sender_of o y.senders)) (low_water-other origin position x y does o off) ∙ ap (λ ss. covered_at (low_water o x.journal) (sender_of o ss)) senders;
  older = λ q less. finished-other origin position x y does origin q (and_false (is_same_site origin origin) (position == q) (grind (arith, nat_tests, less, above)));
  kept = λ q finished_before. rw is (finished-append origin (e ∷ []) x.journal q finished_before);
}
  where
    does : Finishes origin position x y
    does = By y e is senders here finishing by

after_then : (origin : SiteName) (bound : ℕ) (x y z : SiteState) → After origin bound x y → After origin bound y z → After origin bound x z
after_then origin bound x y z first second = record {
  senders = second.senders ∙ first.senders;
  here = second.here ∙ first.here;
  others = λ o off. second.others o off ∙ first.others o off;
  older = λ q less. second.older q less ∙ first.older q less;
  kept = λ q is. second.kept q (first.kept q is);
}

after_each : (origin : SiteName) (bound : ℕ) (arrived : List Arrival) (x : SiteState) → AllByRecursion (λ (b : Arrival). bound ≤ b.position) arrived → After origin bound x (apply_each origin arrived x)
after_each origin bound [] x above = record { senders = refl; here = refl; others = λ o off. refl; older = λ q less. refl; kept = λ q is. is }
after_each origin bound (a ∷ arrived) x above = after_then origin bound x (site_apply origin a.position x) (apply_each origin arrived (site_apply origin a.position x))
    (after_one origin bound a.position x (site_apply origin a.position x) above.0 (apply_finishes origin a.position x)) (after_each origin bound arrived (site_apply origin a.position x) above.1)

-- ---- what isn't due isn't so later

other_way : (origin o : SiteName) → not (is_same_site o origin) ≡ true → is_same_site origin o ≡ false
other_way origin o off = go (is_same_site origin o) refl
  where
    go : (b : Bool) → is_same_site origin o ≡ b → b ≡ false
    go false is = refl
    go true is = let same : origin ≡ o = is_same_site-true origin o is in let own : is_same_site o origin ≡ true = rw same (is_same_site-refl o) in absurd (cc (own, off))

pub past_same : (origin : SiteName) (bound : ℕ) (x y : SiteState) → After origin bound x y → (past : List PastEntry) → NamesOthers origin past → list_all (is_covered y) past ≡ list_all (is_covered x) past
past_same origin bound x y after [] off = refl
past_same origin bound x y after (seen ∷ past) off = go (is_same_site seen.origin origin) refl off (past_same origin bound x y after past)
  where
    go : (b : Bool) → is_same_site seen.origin origin ≡ b → (not b && list_all (λ (q : PastEntry). not (is_same_site q.origin origin)) past) ≡ true
        → (NamesOthers origin past → list_all (is_covered y) past ≡ list_all (is_covered x) past) → (is_covered y seen && list_all (is_covered y) past) ≡ (is_covered x seen && list_all (is_covered x) past)
    go true is off later = cc
    go false is off later =
        let same : covered seen.origin y ≡ covered seen.origin x = after.others seen.origin (other_way origin seen.origin (rw is refl)) in
        rw (later off, same, after.here) refl

due_before : (origin : SiteName) (bound : ℕ) (x y : SiteState) (a : Arrival) → After origin bound x y → a.dep < bound → NamesOthers origin a.past → is_due origin y a ≡ true → is_due origin x a ≡ true
due_before origin bound x y a after less off due =
    let both = and_both (nat_le a.dep (low_water origin y.journal)) (list_all (is_covered y) a.past) due in
    let low_y : a.dep ≤ low_water origin y.journal = grind (arith, nat_tests, both.0) in
    let low_x : a.dep ≤ low_water origin x.journal =
    low_water-greatest origin x.journal a.dep (λ p from_one up_to. sym (after.older p (omega (arith, up_to, less))) ∙ low_water-below origin y.journal p from_one (omega (arith, up_to, low_y))) in
    let past : list_all (is_covered x) a.past ≡ true = sym (past_same origin bound x y after a.past off) ∙ both.1 in
    let within : nat_le a.dep (low_water origin x.journal) ≡ true = grind (arith, nat_tests, low_x) in
    rw (within, past) refl

-- ---- the pass

or_left : (b c : Bool) → b ≡ true → (b || c) ≡ true
or_left true c is = refl
or_left false c is = cc

-- a position that is due and unfinished is finished at its turn
applied_finished : (origin : SiteName) (x : SiteState) (a : Arrival) → arrived_at origin a.position x.senders ≡ Some a → finished origin x.journal a.position ≡ false → is_due origin x a ≡ true
    → finished origin (site_apply origin a.position x).journal a.position ≡ true
applied_finished origin x a at unfinished due = rw (unfinished, at, due) (by (effect_here origin a x))
  where
    by : (r : Result Effect Failure) → finished origin (finished_by origin a r x).journal a.position ≡ true
    by (Ok effect) = or_left (is_position origin a.position origin a.position) _ (is_position-own origin a.position a.position refl)
    by (Err failure) = or_left (is_position origin a.position origin a.position) _ (is_position-own origin a.position a.position refl)

above_head : (a : Arrival) (arrived : List Arrival) → AllByRecursion (λ (b : Arrival). nat_cmp a.position b.position ≡ Less) arrived → AllByRecursion (λ (b : Arrival). a.position ≤ b.position) arrived
above_head a [] less = tt
above_head a (b ∷ bs) less = (grind (arith, nat_tests, less.0), above_head a bs less.1)

-- each of these arrived at its position
abbrev pub AreThere : SiteName → SiteState → List Arrival → Type 0
AreThere origin x arrived = AllByRecursion (λ (a : Arrival). arrived_at origin a.position x.senders ≡ Some a) arrived

all_there : (origin : SiteName) (x y : SiteState) (arrived : List Arrival) → y.senders ≡ x.senders → AreThere origin x arrived → AreThere origin y arrived
all_there origin x y arrived same there = rw same there

finished_not_ready : (origin : SiteName) (position : ℕ) (y : SiteState) → finished origin y.journal position ≡ true → is_ready origin position y ≡ false
finished_not_ready origin position y is = rw is refl

not_due_not_ready : (origin : SiteName) (position : ℕ) (y : SiteState) (a : Arrival) → finished origin y.journal position ≡ false → arrived_at origin position y.senders ≡ Some a → is_due origin y a ≡ false → is_ready origin position y ≡ false
not_due_not_ready origin position y a unfinished at due = rw (unfinished, at, due) refl

absent_not_ready : (origin : SiteName) (position : ℕ) (y : SiteState) → finished origin y.journal position ≡ false → arrived_at origin position y.senders ≡ None → is_ready origin position y ≡ false
absent_not_ready origin position y unfinished at = rw (unfinished, at) refl

pass_each : (origin : SiteName) (arrived : List Arrival) (x : SiteState) → CanPass origin arrived → AreThere origin x arrived → AllByRecursion (λ (a : Arrival). is_ready origin a.position (apply_each origin arrived x) ≡ false) arrived
pass_each origin [] x can there = tt
pass_each origin (a ∷ arrived) x can there = (
  head (finished origin x.journal a.position) refl (is_due origin x a) refl,
  pass_each origin arrived z (record { rising = can.rising.1; earlier = can.earlier.1; others = can.others.1 }) (all_there origin x z arrived one.senders there.1),
)
  where
    z : SiteState
    z = site_apply origin a.position x

    y : SiteState
    y = apply_each origin arrived z

    one : After origin a.position x z
    one = after_one origin a.position a.position x z (omega arith) (apply_finishes origin a.position x)

    rest : After origin a.position z y
    rest = after_each origin a.position arrived z (above_head a arrived can.rising.0)

    whole : After origin a.position x y
    whole = after_then origin a.position x z y one rest

    not_due : (b : Bool) → finished origin y.journal a.position ≡ b → (d : Bool) → is_due origin y a ≡ d → is_due origin x a ≡ false → is_ready origin a.position y ≡ false
    not_due true is d due was = finished_not_ready origin a.position y is
    not_due false is false due was = not_due_not_ready origin a.position y a is (ap (arrived_at origin a.position) whole.senders ∙ there.0) due
    not_due false is true due was = absurd (cc (due_before origin a.position x y a whole can.earlier.0 can.others.0 due, was))

    head : (b : Bool) → finished origin x.journal a.position ≡ b → (d : Bool) → is_due origin x a ≡ d → is_ready origin a.position y ≡ false
    head true is d due = finished_not_ready origin a.position y (whole.kept a.position is)
    head false is true due = finished_not_ready origin a.position y (rest.kept a.position (applied_finished origin x a there.0 is due))
    head false is false due = not_due (finished origin y.journal a.position) refl (is_due origin y a) refl due

-- ---- each arrival is found at its position

from_zero : (arrived : List Arrival) → AllByRecursion (λ (b : Arrival). 0 ≤ b.position) arrived
from_zero [] = tt
from_zero (a ∷ arrived) = (omega arith, from_zero arrived)

pub passes_leave_nothing_ready : PassesLeaveNothingReady
passes_leave_nothing_ready origin x can position = go (finished origin y.journal position) refl (arrived_at origin position x.senders) refl
  where
    y : SiteState
    y = site_pass origin x

    senders : y.senders ≡ x.senders
    senders = (after_each origin 0 (arrivals origin x) (begun x) (from_zero (arrivals origin x))).senders

    each : AllByRecursion (λ (a : Arrival). is_ready origin a.position y ≡ false) (arrivals origin x)
    each = pass_each origin (arrivals origin x) (begun x) can (each_found (arrivals origin x) can.rising)

    go : (b : Bool) → finished origin y.journal position ≡ b → (o : Option Arrival) → arrived_at origin position x.senders ≡ o → is_ready origin position y ≡ false
    go true is o at = finished_not_ready origin position y is
    go false is None at = absent_not_ready origin position y is (ap (arrived_at origin position) senders ∙ at)
    go false is (Some a) at =
        subst (λ (p : ℕ). is_ready origin p y ≡ false) (arrived_has origin position x a at)
        (found_holds (λ a. is_ready origin a.position y ≡ false) position (arrivals origin x) a each at)

pub low_water_is_that_of_the_finished : LowWaterIsThatOfTheFinished
low_water_is_that_of_the_finished origin journal = low_water-is origin journal

-- ---- a purge

acked_to : (count number acked : ℕ) (o : Option ℕ) → number ≤ count → number ≤ acknowledged_by count acked o → AckedSince o acked number
acked_to count number acked None under within = tt
acked_to count number acked (Some opened) under within = λ above. omega (arith, within)

acked_from : (count number acked : ℕ) (o : Option ℕ) → number ≤ count → AckedSince o acked number → number ≤ acknowledged_by count acked o
acked_from count number acked None under since = under
acked_from count number acked (Some opened) under since = go (nat_lt opened number) refl
  where
    go : (b : Bool) → nat_lt opened number ≡ b → number ≤ opened + acked
    go true is = let above : opened < number = grind (arith, nat_tests) in omega (arith, since above)
    go false is = let below : number ≤ opened = grind (arith, nat_tests) in omega (arith, below)

all_acked_to : (count number : ℕ) (ds : List DestinationState) → number ≤ count → number ≤ acknowledged_by_all count ds → AllByRecursion (HasAcked number) ds
all_acked_to count number [] under within = tt
all_acked_to count number (d ∷ ds) under within = (acked_to count number d.acked d.opened under (omega (arith, within)), all_acked_to count number ds under (omega (arith, within)))

all_acked_from : (count number : ℕ) (ds : List DestinationState) → number ≤ count → AllByRecursion (HasAcked number) ds → number ≤ acknowledged_by_all count ds
all_acked_from count number [] under have = under
all_acked_from count number (d ∷ ds) under have =
    let first = acked_from count number d.acked d.opened under have.0 in let rest = all_acked_from count number ds under have.1 in omega (arith, first, rest)

pub purges_take_what_is_acknowledged : PurgesTakeWhatIsAcknowledged
purges_take_what_is_acknowledged x number above under =
    (λ within. all_acked_to (count_of x) number x.destinations under (omega (arith, above, within)), λ have. let all = all_acked_from (count_of x) number x.destinations under have in omega (arith, all))
