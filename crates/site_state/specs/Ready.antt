-- When a position that arrived is ready.
use Rattle.std.specs.Prelude.{ℕ, ◌==◌, ◌&&◌, ◌||◌, Bool, nat_lt, nat_le, cond, List, [], ◌∷◌, Option, Some, None, is_none}
use Rattle.std.specs.List.{list_all}
use Rattle.rep_lists.specs.Rising.{find_at}
use Rattle.rep_values.specs.declared.name.SiteName.{SiteName}
use Rattle.rep_calls.specs.declared.past.PastEntry.{PastEntry}
use Rattle.rep_values.specs.SiteNames.{is_same_site}
use Rattle.site_state.specs.declared.answers.Why.{Why}
use Rattle.site_state.specs.declared.answers.Why.TheVariants as why
use Rattle.site_state.specs.declared.arrival.Arrival.{Arrival}
use Rattle.site_state.specs.State.{SenderState, SiteState, sender_of, arrival_beside, arrived_in, first_in, arrived_at}
use Rattle.site_state.specs.Journal.{finished, low_water}

abbrev pub arrival_number : Option Arrival → ℕ
arrival_number None = 0
arrival_number (Some a) = a.number

abbrev pub covered_at : ℕ → Option SenderState → ℕ
covered_at low sender = cond (low == 0) (first_in sender) (arrival_number (find_at (arrival_beside low) (arrived_in sender)))

-- the covered number of a sender: the queue number of the transaction at its low-water mark, or its first number where
-- that mark is 0
abbrev pub covered : SiteName → SiteState → ℕ
covered origin x = covered_at (low_water origin x.journal) (sender_of origin x.senders)

-- what was seen of a master is covered: it is this site itself, or its covered number is at least that
abbrev pub is_covered : SiteState → PastEntry → Bool
is_covered x seen = is_same_site seen.origin x.here.site || nat_le seen.number (covered seen.origin x)

-- an arrival is due: its dependency number is at most the low-water mark, and all of its past is covered
abbrev pub is_due : SiteName → SiteState → Arrival → Bool
is_due origin x a = nat_le a.dep (low_water origin x.journal) && list_all (is_covered x) a.past

abbrev pub stale_found : SiteName → SiteState → Option Arrival → Option Why
stale_found origin x None = Some why.NotArrived
stale_found origin x (Some a) = cond (is_due origin x a) None (Some why.NotReady)

-- why a position isn't ready, if it isn't: it is finished, it hasn't arrived, or what arrived isn't due
abbrev pub stale_of : SiteName → ℕ → SiteState → Option Why
stale_of origin position x = cond (finished origin x.journal position) (Some why.Finished) (stale_found origin x (arrived_at origin position x.senders))

-- a position is ready: it arrived, isn't finished, and is due
abbrev pub is_ready : SiteName → ℕ → SiteState → Bool
is_ready origin position x = is_none (stale_of origin position x)

abbrev pub first_ready_in : SiteName → ℕ → SiteState → List Arrival → Option ℕ
first_ready_in origin above x [] = None
first_ready_in origin above x (a ∷ arrived) = cond (nat_lt above a.position && is_ready origin a.position x) (Some a.position) (first_ready_in origin above x arrived)

-- the least ready position of a sender above a number
abbrev pub first_ready : SiteName → ℕ → SiteState → Option ℕ
first_ready origin above x = first_ready_in origin above x (arrived_in (sender_of origin x.senders))
