-- What arrived from one sender, and which positions of it are finished.
use Rattle.std.specs.Prelude.{◌≡◌, ◌≢◌, ℕ, ◌<◌, ◌≤◌, Bool, true, cond, max, List, [], ◌∷◌, length, None}
use Rattle.std.specs.List.{AllByRecursion, AllWithin}
use Rattle.std.specs.Ordering.{nat_cmp}
use Rattle.std.specs.declared.cmp.Ordering.{Ordering}
use Rattle.rep_lists.specs.Rising.{IsRising, find_at}
use Rattle.rep_values.specs.declared.name.SiteName.{SiteName}
use Rattle.origin_marks.specs.Marks.{Marked, finished}
use Rattle.site_state.specs.declared.arrival.Arrival.{Arrival}
use Rattle.site_state.specs.State.{SenderState, arrival_beside}
use Rattle.site_state.specs.Arrivals.{CanPass}

-- what a contract sees of an inbox: the sender with what arrived, and the positions that are finished
pub record Incoming : Type 0 where
  pub sender : SenderState
  pub marked : Marked

abbrev pub by_position : Arrival → Arrival → Ordering
by_position a b = nat_cmp a.position b.position

-- the greatest number among the arrivals whose position passes a test, 0 where there is none
abbrev pub greatest_where : (ℕ → Bool) → List Arrival → ℕ
greatest_where test [] = 0
greatest_where test (a ∷ arrived) = max (cond (test a.position) a.number 0) (greatest_where test arrived)

-- how far the sender's queue is seen: the greatest number among its finished positions, its first number among them
abbrev pub seen_in : Incoming → ℕ
seen_in i = max i.sender.first (greatest_where (finished i.marked) i.sender.arrived)

-- the place of the first arrival above a number: those before it aren't above, those from it on are
pub record IsFirstAbove (number : ℕ) (arrived : List Arrival) (place : ℕ) : Type 0 where
  pub within : place ≤ length arrived
  pub before : AllWithin (λ (a : Arrival). a.position ≤ number) arrived 0 place
  pub behind : AllWithin (λ (a : Arrival). number < a.position) arrived place (length arrived)

-- what arrived from a site rises from position 1 and can be passed, and what is finished has arrived
pub record IsInbox (origin : SiteName) (arrived : List Arrival) (marked : Marked) : Type 0 where
  pub rising : IsRising by_position arrived
  pub from_one : AllByRecursion (λ (a : Arrival). 1 ≤ a.position) arrived
  pub passes : CanPass origin arrived
  pub come : (position : ℕ) → finished marked position ≡ true → find_at (arrival_beside position) arrived ≢ None
