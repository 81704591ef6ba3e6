-- What arrived from a sender, as a pass needs it.
use Rattle.std.specs.Prelude.{◌≡◌, ◌<◌, true, not, List}
use Rattle.std.specs.List.{list_all, AllByRecursion}
use Rattle.std.specs.Ordering.{nat_cmp}
use Rattle.rep_lists.specs.RisingLaws.{RisesBy}
use Rattle.rep_values.specs.declared.name.SiteName.{SiteName}
use Rattle.rep_calls.specs.declared.past.PastEntry.{PastEntry}
use Rattle.rep_values.specs.SiteNames.{is_same_site}
use Rattle.site_state.specs.declared.arrival.Arrival.{Arrival}

-- no past names this site
abbrev pub NamesOthers : SiteName → List PastEntry → Type 0
NamesOthers site past = list_all (λ (seen : PastEntry). not (is_same_site seen.origin site)) past ≡ true

-- what arrived from a sender rises, depends on earlier positions, and has pasts that don't name the sender itself
pub record CanPass (origin : SiteName) (arrived : List Arrival) : Type 0 where
  pub rising : RisesBy (λ (a : Arrival). a.position) nat_cmp arrived
  pub earlier : AllByRecursion (λ (a : Arrival). a.dep < a.position) arrived
  pub others : AllByRecursion (λ (a : Arrival). NamesOthers origin a.past) arrived
