-- What arrived from a sender, looked at place by place.
use Rattle.std.specs.Prelude.{◌≡◌, ℕ, ◌+◌, ◌<◌, ◌≤◌, false, length, Some, None, slice_get}
use Rattle.rep_values.specs.declared.name.SiteName.{SiteName}
use Rattle.site_state.specs.declared.arrival.Arrival.{Arrival}
use Rattle.site_state.specs.State.{SiteState, arrivals}
use Rattle.site_state.specs.Ready.{stale_of, is_ready}
use Rattle.site_engine.specs.declared.looking.Look.{Look}
use Rattle.site_engine.specs.declared.looking.Look.TheVariants as look
use Rattle.site_engine.specs.declared.looking.Placed.{Placed}

-- nothing is ready from a place on, up to another one
abbrev pub NoneReady : SiteName → SiteState → ℕ → ℕ → Type 0
NoneReady origin x low high = (k : ℕ) (a : Arrival) → low ≤ k → k < high → slice_get (arrivals origin x) k ≡ Some a → is_ready origin a.position x ≡ false

-- the position at a place is ready
pub record IsReadyAt (origin : SiteName) (x : SiteState) (place position : ℕ) : Type 0 where
  pub arrival : Arrival
  pub there : slice_get (arrivals origin x) place ≡ Some arrival
  pub position_is : position ≡ arrival.position
  pub ready : stale_of origin position x ≡ None

-- what a look at a place tells: its position is ready, or it isn't, or nothing from there on is
abbrev pub Tells : SiteName → SiteState → ℕ → Look → Type 0
Tells origin x place (look.Ready position) = IsReadyAt origin x place position
Tells origin x place look.Waits = NoneReady origin x place (place + 1)
Tells origin x place look.Ends = NoneReady origin x place (length (arrivals origin x))

-- the first place from one on whose position is ready
pub record IsNextReady (origin : SiteName) (x : SiteState) (start : ℕ) (next : Placed) : Type 0 where
  pub place : ℕ
  pub behind_is : next.behind ≡ place + 1
  pub after : start ≤ place
  pub before : NoneReady origin x start place
  pub here : IsReadyAt origin x place next.position
