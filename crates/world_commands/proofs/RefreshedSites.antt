-- Sites of which one was refreshed from another one, each at its place.
use Rattle.std.proofs.Common.{◌≡◌, ℕ, List, Some, None, refl}
use Rattle.std.specs.Prelude.{slice_set}
use Rattle.site_state.specs.State.{SiteState}
use Rattle.script_parse.specs.declared.command.Refresh.{Refresh}
use Rattle.world_state.specs.Refusals.{log_step}
use Rattle.world_state.specs.Answers.{refresh_told}
use Rattle.world_laws.specs.Sites.{CanRefreshFrom}
use Rattle.world_commands.specs.Refreshing.{CanRefreshAt, refreshed_by, refreshed_at, refresh_told_at}

module _ (how : Refresh) (sites : List SiteState) (place master : ℕ) (can : CanRefreshAt how sites place master) where
  pub refreshed_at-is : refreshed_at sites place master ≡ slice_set sites place (refreshed_by can.there can.here)
  refreshed_at-is = rw (can.at_place, can.at_master) refl

  pub told_at-is : refresh_told_at how sites place master ≡ Some (refresh_told how can.here can.there)
  told_at-is = rw (can.at_place, can.at_master) refl

  -- the two sites, as they were read
  module _ (x m : SiteState) (own : x ≡ can.here) (its : m ≡ can.there) where
    pub can_be : CanRefreshFrom m x
    can_be = rw (own, its) can.can

    pub reaches_back : log_step how m.logs x.snapshots ≡ None
    reaches_back = rw (own, its) can.reaches

    pub refreshed_so : refreshed_by m x ≡ refreshed_by can.there can.here
    refreshed_so = rw (own, its) refl

    pub told_so : refresh_told how x m ≡ refresh_told how can.here can.there
    told_so = rw (own, its) refl
