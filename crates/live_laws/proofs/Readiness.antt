-- What is ready stays so where more is finished, until it is finished itself.
use Rattle.std.proofs.Common.{◌≡◌, ◌≢◌, ℕ, ◌<◌, ◌≤◌, ◌==◌, List, [], ◌∷◌, Bool, true, false, cond, Some, None, refl, ap, ◌∙◌, arith, subst}
use Rattle.std.specs.Prelude.{◌&&◌, ◌||◌, nat_le, Option}
use Rattle.std.specs.List.{list_all}
use Rattle.std.proofs.lemmas.Bool.{and_parts}
use Rattle.std.proofs.lemmas.Bool.Decides.{nat_tests}
use Rattle.rep_lists.specs.Rising.{find_at}
use Rattle.rep_values.specs.declared.name.SiteName.{SiteName}
use Rattle.rep_calls.specs.declared.past.PastEntry.{PastEntry}
use Rattle.rep_values.specs.SiteNames.{is_same_site}
use Rattle.site_state.specs.declared.arrival.Arrival.{Arrival}
use Rattle.site_state.specs.State.{SenderState, SiteState, sender_of, arrived_in, first_in, arrived_at, arrival_beside}
use Rattle.site_state.specs.Journal.{finished, low_water}
use Rattle.site_state.specs.Ready.{arrival_number, covered_at, covered, is_covered, is_due, is_ready}
use Rattle.site_state.proofs.LowWater.{low_water-below, low_water-greatest}
use Rattle.site_state.proofs.Stepping.{Steps}
use Rattle.site_state.proofs.Pasts.{finished_have_arrived}
use Rattle.event_laws.proofs.MasterArrivals.{ready_at, at_ready}
use Rattle.event_laws.proofs.WaitingCounts.{FinishesMore, steps_finish_more}
use Rattle.live_laws.specs.RisingNumbers.{HasRisingNumbers}

-- the same site with the same senders, at which at least as much is finished
pub record Reaches (x y : SiteState) : Type 0 where
  pub senders : y.senders ≡ x.senders
  pub here : y.here ≡ x.here
  pub more : FinishesMore x.journal y.journal

pub reaches_same : (x : SiteState) → Reaches x x
reaches_same x = record { senders = refl; here = refl; more = λ origin p is. is }

pub reaches_then : (x y z : SiteState) → Reaches x y → Reaches y z → Reaches x z
reaches_then x y z one other = record { senders = other.senders ∙ one.senders; here = other.here ∙ one.here; more = λ origin p is. other.more origin p (one.more origin p is) }

-- a call that only journals leads to such a site
pub steps_reach : (x y : SiteState) → Steps x y → Reaches x y
steps_reach x y steps = record { senders = steps.senders; here = steps.here; more = steps_finish_more x y steps }

low_water-Reaches : (x y : SiteState) → Reaches x y → (origin : SiteName) → low_water origin x.journal ≤ low_water origin y.journal
low_water-Reaches x y reaches origin = low_water-greatest origin y.journal (low_water origin x.journal) (λ p from_one up_to. reaches.more origin p (low_water-below origin x.journal p from_one up_to))

-- a covered number rises with the mark
covered_rises : (low high : ℕ) (s : Option SenderState) → low ≤ high
    → (0 < high → find_at (arrival_beside high) (arrived_in s) ≢ None)
    → ((p : ℕ) (a : Arrival) → find_at (arrival_beside p) (arrived_in s) ≡ Some a → first_in s ≤ a.number)
    → ((p q : ℕ) (a b : Arrival) → find_at (arrival_beside p) (arrived_in s) ≡ Some a → find_at (arrival_beside q) (arrived_in s) ≡ Some b → p ≤ q → a.number ≤ b.number)
    → covered_at low s ≤ covered_at high s
covered_rises low high s up there first rising = go (low == 0) refl (high == 0) refl (find_at (arrival_beside low) (arrived_in s)) refl (find_at (arrival_beside high) (arrived_in s)) refl
  where
    go : (b : Bool) → (low == 0) ≡ b → (c : Bool) → (high == 0) ≡ c → (f : Option Arrival) → find_at (arrival_beside low) (arrived_in s) ≡ f → (g : Option Arrival) → find_at (arrival_beside high) (arrived_in s) ≡ g
        → cond b (first_in s) (arrival_number f) ≤ cond c (first_in s) (arrival_number g)
    go true is true at f here g found = omega arith
    go true is false at f here None found = let from_one : 0 < high = grind (arith, nat_tests, at) in absurd (there from_one found)
    go true is false at f here (Some b) found = first high b found
    go false is true at f here g found = let from_one : 0 < low = grind (arith, nat_tests, is) in let none : high ≡ 0 = grind (arith, nat_tests, at) in absurd (omega (arith, up, from_one, none))
    go false is false at None here g found = omega arith
    go false is false at (Some a) here None found = let from_one : 0 < high = grind (arith, nat_tests, at) in absurd (there from_one found)
    go false is false at (Some a) here (Some b) found = rising low high a b here found up

covered-Reaches : (x y : SiteState) → HasRisingNumbers y → Reaches x y → (origin : SiteName) → covered origin x ≤ covered origin y
covered-Reaches x y numbers reaches origin = subst (λ (ss : List SenderState). covered_at (low_water origin x.journal) (sender_of origin ss) ≤ covered origin y) reaches.senders
    (covered_rises (low_water origin x.journal) (low_water origin y.journal) (sender_of origin y.senders) (low_water-Reaches x y reaches origin)
    (λ from_one. numbers.arrived origin (low_water origin y.journal) (low_water-below origin y.journal (low_water origin y.journal) from_one (omega arith)))
    (numbers.first origin) (numbers.rising origin))

all_covered-Reaches : (x y : SiteState) → HasRisingNumbers y → Reaches x y → (past : List PastEntry) → list_all (is_covered x) past ≡ true → list_all (is_covered y) past ≡ true
all_covered-Reaches x y numbers reaches [] all = refl
all_covered-Reaches x y numbers reaches (seen ∷ past) all = go (is_same_site seen.origin x.here.site) refl (nat_le seen.number (covered seen.origin x)) refl all (all_covered-Reaches x y numbers reaches past)
  where
    here : is_same_site seen.origin y.here.site ≡ is_same_site seen.origin x.here.site
    here = ap (λ h. is_same_site seen.origin h.site) reaches.here

    go : (b : Bool) → is_same_site seen.origin x.here.site ≡ b → (c : Bool) → nat_le seen.number (covered seen.origin x) ≡ c → ((b || c) && list_all (is_covered x) past) ≡ true
        → (list_all (is_covered x) past ≡ true → list_all (is_covered y) past ≡ true) → (is_covered y seen && list_all (is_covered y) past) ≡ true
    go true own c number all later = rw (here, own, later all) refl
    go false own false number all later = absurd (cc all)
    go false own true number all later =
        let up : covered seen.origin x ≤ covered seen.origin y = covered-Reaches x y numbers reaches seen.origin in
        let seen_now : nat_le seen.number (covered seen.origin y) ≡ true = grind (arith, nat_tests, up, number) in
        rw (here, own, seen_now, later all) refl

is_due-Reaches : (x y : SiteState) → HasRisingNumbers y → Reaches x y → (origin : SiteName) (a : Arrival) → is_due origin x a ≡ true → is_due origin y a ≡ true
is_due-Reaches x y numbers reaches origin a due =
    let both = and_parts (nat_le a.dep (low_water origin x.journal)) (list_all (is_covered x) a.past) due in
    let up : low_water origin x.journal ≤ low_water origin y.journal = low_water-Reaches x y reaches origin in
    let within : nat_le a.dep (low_water origin y.journal) ≡ true = grind (arith, nat_tests, up, both.0) in
    let past : list_all (is_covered y) a.past ≡ true = all_covered-Reaches x y numbers reaches a.past both.1 in
    rw (within, past) refl

-- what is ready is ready where more is finished, as long as it isn't itself
pub is_ready-Reaches : (x y : SiteState) → HasRisingNumbers y → Reaches x y → (origin : SiteName) (p : ℕ) → is_ready origin p x ≡ true → finished origin y.journal p ≡ false → is_ready origin p y ≡ true
is_ready-Reaches x y numbers reaches origin p ready unfinished =
    let at = ready_at origin p x ready in
    at_ready origin p y (record {
      arrival = at.arrival;
      there = ap (arrived_at origin p) reaches.senders ∙ at.there;
      unfinished = unfinished;
      due = is_due-Reaches x y numbers reaches origin at.arrival at.due;
    })

-- numbers go on to rise after a call that only journals
pub rising_after_steps : (x y : SiteState) → Steps x y → HasRisingNumbers x → HasRisingNumbers y
rising_after_steps x y s numbers = record {
  arrived = rw (s.senders, s.journals.journal) (finished_have_arrived x s.journals.entry s.journals.follows numbers.arrived);
  first = rw s.senders numbers.first;
  rising = rw s.senders numbers.rising;
}
