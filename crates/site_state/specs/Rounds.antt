-- What a site does with all that has arrived: a pass for the sender that pushed, then rounds of passes until nothing is ready.
use Rattle.std.specs.Prelude.{ℕ, zero, suc, ◌+◌, Bool, cond, List, [], ◌∷◌, map, length, ◌≡◌, false}
use Rattle.std.specs.List.{list_any}
use Rattle.rep_values.specs.declared.name.SiteName.{SiteName}
use Rattle.site_state.specs.declared.arrival.Arrival.{Arrival}
use Rattle.site_state.specs.State.{SenderState, SiteState, arrivals}
use Rattle.site_state.specs.Ready.{is_ready}
use Rattle.site_state.specs.Passes.{site_pass}

abbrev pub is_ready_here : SiteName → SiteState → Arrival → Bool
is_ready_here origin x a = is_ready origin a.position x

-- some position of a sender is ready
abbrev pub has_ready : SiteName → SiteState → Bool
has_ready origin x = list_any (is_ready_here origin x) (arrivals origin x)

-- a sender of which a position is ready has its pass
abbrev pub passed_where_ready : SiteName → SiteState → SiteState
passed_where_ready origin x = cond (has_ready origin x) (site_pass origin x) x

-- a round: one sender after the other
abbrev pub round : List SiteName → SiteState → SiteState
round [] x = x
round (origin ∷ origins) x = round origins (passed_where_ready origin x)

-- so many rounds; one in which nothing is ready changes nothing
abbrev pub rounds : ℕ → List SiteName → SiteState → SiteState
rounds zero origins x = x
rounds (suc n) origins x = rounds n origins (round origins x)

-- the senders in declared order
abbrev pub sender_names : List SenderState → List SiteName
sender_names senders = map (λ (s : SenderState). s.origin) senders

-- how many positions have arrived in all
abbrev pub arrived_count : List SenderState → ℕ
arrived_count [] = 0
arrived_count (s ∷ ss) = length s.arrived + arrived_count ss

-- rounds until nothing is ready: each but the last finishes a position
abbrev pub site_rounds : SiteState → SiteState
site_rounds x = rounds (arrived_count x.senders) (sender_names x.senders) x

-- a pass for the sender that pushed, and the rounds
abbrev pub site_until_quiet : SiteName → SiteState → SiteState
site_until_quiet origin x = site_rounds (site_pass origin x)

-- no position of any sender is ready at a site
abbrev pub NothingReady : SiteState → Type 0
NothingReady x = (origin : SiteName) (position : ℕ) → is_ready origin position x ≡ false
