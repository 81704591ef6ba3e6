-- A site whose newest entries stand in order.
use Rattle.std.specs.Prelude.{◌≡◌, ℕ}
use Rattle.site_state.specs.State.{SiteState}
use Rattle.journal_sort.specs.Sorting.{IsSorted, IsOneSite}

-- the entries from a place on stand in rising order of position; all else is as before, and so is what is computed of it
pub record IsSortedSite (place : ℕ) (old new : SiteState) : Type 0 where
  pub journal : IsSorted place old.journal new.journal
  pub kept : record old { journal = new.journal } ≡ new
  pub same : IsOneSite old new
