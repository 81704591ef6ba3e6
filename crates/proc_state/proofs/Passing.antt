-- After a pass nothing of its sender is ready, and every site can make such a pass.
use Rattle.std.proofs.Common.{◌≡◌, ℕ, ◌<◌, ◌≤◌, ◌==◌, List, [], ◌∷◌, Bool, true, false, Some, None, refl, sym, ap, ◌∙◌, arith, subst}
use Rattle.std.specs.Prelude.{◌&&◌, nat_le, Option, Result, Ok, Err}
use Rattle.std.specs.List.{AllByRecursion}
use Rattle.std.specs.Ordering.{nat_cmp}
use Rattle.std.specs.declared.cmp.Ordering.TheVariants.{Less}
use Rattle.std.proofs.lemmas.Bool.{or_left, or_right}
use Rattle.std.proofs.lemmas.Bool.Decides.{nat_tests}
use Rattle.rep_values.specs.declared.name.SiteName.{SiteName}
use Rattle.rep_schema.specs.Tables.{Rows}
use Rattle.txn_effects.specs.Transactions.{Failure}
use Rattle.rep_values.specs.SiteNames.{is_same_site}
use Rattle.site_state.specs.declared.entry.Entry.{Entry}
use Rattle.site_state.specs.declared.entry.Entry.TheVariants.{Done, Error}
use Rattle.site_state.specs.declared.answers.Why.{Why}
use Rattle.site_state.specs.declared.arrival.Arrival.{Arrival}
use Rattle.site_state.specs.State.{arrived_at, arrivals}
use Rattle.site_state.specs.Journal.{finishes, finished, is_position, low_water}
use Rattle.site_state.specs.Ready.{is_due, stale_of, is_ready}
use Rattle.site_state.proofs.LowWater.{low_water-greatest, low_water-below}
use Rattle.site_state.proofs.Stepping.{arrived_has}
use Rattle.site_state.proofs.Waited.{due_dep, is_position-own, each_found, found_holds}
use Rattle.proc_state.specs.State.{ProcState, as_site}
use Rattle.proc_state.specs.Passes.{txn_here, finished_by, applied_unless, proc_apply, apply_each, proc_pass}
use Rattle.proc_state.specs.Fits.{ArePassable}
use Rattle.proc_state.specs.Laws.{PassesLeaveNothingReady}

-- ---- what applying positions from a bound on leaves of a site

record After (origin : SiteName) (bound : ℕ) (x y : ProcState) : Type 0 where
  senders : y.senders ≡ x.senders
  older : (q : ℕ) → q < bound → finished origin y.journal q ≡ finished origin x.journal q
  kept : (q : ℕ) → finished origin x.journal q ≡ true → finished origin y.journal q ≡ true

off_position : (origin : SiteName) (position q : ℕ) → q < position → is_position origin q origin position ≡ false
off_position origin position q less = go (is_same_site origin origin)
  where
    off : (position == q) ≡ false
    off = grind (arith, nat_tests, less)

    go : (b : Bool) → (b && (position == q)) ≡ false
    go true = off
    go false = refl

after_entry : (origin : SiteName) (bound position : ℕ) (x y : ProcState) (e : Entry) → bound ≤ position → y.journal ≡ e ∷ x.journal → y.senders ≡ x.senders
    → ((q : ℕ) → finishes origin q e ≡ is_position origin q origin position) → After origin bound x y
after_entry origin bound position x y e above journal senders finishing = record {
  senders = senders;
  older = λ q less. rw (journal, finishing q, off_position origin position q (omega (arith, less, above))) refl;
  kept = λ q is. rw journal (or_right (finishes origin q e) (finished origin x.journal q) is);
}

after_same : (origin : SiteName) (bound : ℕ) (x : ProcState) → After origin bound x x
after_same origin bound x = record { senders = refl; older = λ q less. refl; kept = λ q is. is }

after_one : (origin : SiteName) (bound position : ℕ) (x : ProcState) → bound ≤ position → After origin bound x (proc_apply origin position x)
after_one origin bound position x above = go (stale_of origin position (as_site x)) (arrived_at origin position x.senders) refl
  where
    by : (a : Arrival) → a.position ≡ position → (r : Result (List Rows) Failure) → After origin bound x (finished_by origin a r x)
    by a at (Ok tables) = after_entry origin bound position x _ (Done origin a.position 0 a.txn) above refl refl (λ q. rw at refl)
    by a at (Err failure) = after_entry origin bound position x _ (Error origin a.position failure.call failure.error a.txn) above refl refl (λ q. rw at refl)

    go : (stale : Option Why) (found : Option Arrival) → arrived_at origin position x.senders ≡ found → After origin bound x (applied_unless stale origin found x)
    go (Some reason) found there = after_same origin bound x
    go None None there = after_same origin bound x
    go None (Some a) there = by a (arrived_has origin position (as_site x) a there) (txn_here a.txn x)

after_then : (origin : SiteName) (bound : ℕ) (x y z : ProcState) → After origin bound x y → After origin bound y z → After origin bound x z
after_then origin bound x y z first second = record {
  senders = second.senders ∙ first.senders;
  older = λ q less. second.older q less ∙ first.older q less;
  kept = λ q is. second.kept q (first.kept q is);
}

after_each : (origin : SiteName) (bound : ℕ) (arrived : List Arrival) (x : ProcState) → AllByRecursion (λ (b : Arrival). bound ≤ b.position) arrived → After origin bound x (apply_each origin arrived x)
after_each origin bound [] x above = after_same origin bound x
after_each origin bound (a ∷ arrived) x above = after_then origin bound x (proc_apply origin a.position x) (apply_each origin arrived (proc_apply origin a.position x))
    (after_one origin bound a.position x above.0) (after_each origin bound arrived (proc_apply origin a.position x) above.1)

-- ---- what isn't due isn't so later

due_from : (origin : SiteName) (x : ProcState) (a : Arrival) → a.past ≡ [] → a.dep ≤ low_water origin x.journal → is_due origin (as_site x) a ≡ true
due_from origin x a none low =
    let within : nat_le a.dep (low_water origin x.journal) ≡ true = grind (arith, nat_tests, low) in
    rw (within, none) refl

due_before : (origin : SiteName) (bound : ℕ) (x y : ProcState) (a : Arrival) → After origin bound x y → a.dep < bound → a.past ≡ [] → is_due origin (as_site y) a ≡ true → is_due origin (as_site x) a ≡ true
due_before origin bound x y a after less none due =
    let low_y : a.dep ≤ low_water origin y.journal = due_dep origin (as_site y) a due in
    due_from origin x a none (low_water-greatest origin x.journal a.dep
    (λ p from_one up_to. sym (after.older p (omega (arith, up_to, less))) ∙ low_water-below origin y.journal p from_one (omega (arith, up_to, low_y))))

-- ---- the pass

-- a position that is due and unfinished is finished at its turn
applied_finished : (origin : SiteName) (x : ProcState) (a : Arrival) → arrived_at origin a.position x.senders ≡ Some a → finished origin x.journal a.position ≡ false → is_due origin (as_site x) a ≡ true
    → finished origin (proc_apply origin a.position x).journal a.position ≡ true
applied_finished origin x a at unfinished due = rw (unfinished, at, due) (by (txn_here a.txn x))
  where
    by : (r : Result (List Rows) Failure) → finished origin (finished_by origin a r x).journal a.position ≡ true
    by (Ok tables) = or_left (is_position origin a.position origin a.position) (finished origin x.journal a.position) (is_position-own origin a.position a.position refl)
    by (Err failure) = or_left (is_position origin a.position origin a.position) (finished origin x.journal a.position) (is_position-own origin a.position a.position refl)

above_head : (a : Arrival) (arrived : List Arrival) → AllByRecursion (λ (b : Arrival). nat_cmp a.position b.position ≡ Less) arrived → AllByRecursion (λ (b : Arrival). a.position ≤ b.position) arrived
above_head a [] less = tt
above_head a (b ∷ bs) less = (grind (arith, nat_tests, less.0), above_head a bs less.1)

-- each of these arrived at its position
abbrev AreThere : SiteName → ProcState → List Arrival → Type 0
AreThere origin x arrived = AllByRecursion (λ (a : Arrival). arrived_at origin a.position x.senders ≡ Some a) arrived

all_there : (origin : SiteName) (x y : ProcState) (arrived : List Arrival) → y.senders ≡ x.senders → AreThere origin x arrived → AreThere origin y arrived
all_there origin x y arrived same there = rw same there

finished_not_ready : (origin : SiteName) (position : ℕ) (y : ProcState) → finished origin y.journal position ≡ true → is_ready origin position (as_site y) ≡ false
finished_not_ready origin position y is = rw is refl

not_due_not_ready : (origin : SiteName) (position : ℕ) (y : ProcState) (a : Arrival) → finished origin y.journal position ≡ false → arrived_at origin position y.senders ≡ Some a → is_due origin (as_site y) a ≡ false
    → is_ready origin position (as_site y) ≡ false
not_due_not_ready origin position y a unfinished at due = rw (unfinished, at, due) refl

absent_not_ready : (origin : SiteName) (position : ℕ) (y : ProcState) → finished origin y.journal position ≡ false → arrived_at origin position y.senders ≡ None → is_ready origin position (as_site y) ≡ false
absent_not_ready origin position y unfinished at = rw (unfinished, at) refl

pass_each : (origin : SiteName) (arrived : List Arrival) (x : ProcState) → ArePassable arrived → AreThere origin x arrived
    → AllByRecursion (λ (a : Arrival). is_ready origin a.position (as_site (apply_each origin arrived x)) ≡ false) arrived
pass_each origin [] x can there = tt
pass_each origin (a ∷ arrived) x can there = (
  head (finished origin x.journal a.position) refl (is_due origin (as_site x) a) refl,
  pass_each origin arrived z (record { rising = can.rising.1; earlier = can.earlier.1; pasts = can.pasts.1 }) (all_there origin x z arrived one.senders there.1),
)
  where
    z : ProcState
    z = proc_apply origin a.position x

    y : ProcState
    y = apply_each origin arrived z

    one : After origin a.position x z
    one = after_one origin a.position a.position x (omega arith)

    rest : After origin a.position z y
    rest = after_each origin a.position arrived z (above_head a arrived can.rising.0)

    whole : After origin a.position x y
    whole = after_then origin a.position x z y one rest

    not_due : (b : Bool) → finished origin y.journal a.position ≡ b → (d : Bool) → is_due origin (as_site y) a ≡ d → is_due origin (as_site x) a ≡ false → is_ready origin a.position (as_site y) ≡ false
    not_due true is d due was = finished_not_ready origin a.position y is
    not_due false is false due was = not_due_not_ready origin a.position y a is (ap (arrived_at origin a.position) whole.senders ∙ there.0) due
    not_due false is true due was = absurd (cc (due_before origin a.position x y a whole can.earlier.0 can.pasts.0 due, was))

    head : (b : Bool) → finished origin x.journal a.position ≡ b → (d : Bool) → is_due origin (as_site x) a ≡ d → is_ready origin a.position (as_site y) ≡ false
    head true is d due = finished_not_ready origin a.position y (whole.kept a.position is)
    head false is true due = finished_not_ready origin a.position y (rest.kept a.position (applied_finished origin x a there.0 is due))
    head false is false due = not_due (finished origin y.journal a.position) refl (is_due origin (as_site y) a) refl due

from_zero : (arrived : List Arrival) → AllByRecursion (λ (b : Arrival). 0 ≤ b.position) arrived
from_zero [] = tt
from_zero (a ∷ arrived) = (omega arith, from_zero arrived)

pub passes_leave_nothing_ready : PassesLeaveNothingReady
passes_leave_nothing_ready origin x can position = go (finished origin y.journal position) refl (arrived_at origin position x.senders) refl
  where
    y : ProcState
    y = proc_pass origin x

    senders : y.senders ≡ x.senders
    senders = (after_each origin 0 (arrivals origin (as_site x)) x (from_zero (arrivals origin (as_site x)))).senders

    each : AllByRecursion (λ (a : Arrival). is_ready origin a.position (as_site y) ≡ false) (arrivals origin (as_site x))
    each = pass_each origin (arrivals origin (as_site x)) x can (each_found (arrivals origin (as_site x)) can.rising)

    go : (b : Bool) → finished origin y.journal position ≡ b → (o : Option Arrival) → arrived_at origin position x.senders ≡ o → is_ready origin position (as_site y) ≡ false
    go true is o at = finished_not_ready origin position y is
    go false is None at = absent_not_ready origin position y is (ap (arrived_at origin position) senders ∙ at)
    go false is (Some a) at =
        subst (λ (p : ℕ). is_ready origin p (as_site y) ≡ false) (arrived_has origin position (as_site x) a at)
        (found_holds (λ (a : Arrival). is_ready origin a.position (as_site y) ≡ false) position (arrivals origin (as_site x)) a each at)
