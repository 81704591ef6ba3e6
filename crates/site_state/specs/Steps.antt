-- Words that several calls of a site share.
use Rattle.std.specs.Prelude.{ℕ, ◌+◌, ◌&&◌, Bool, true, false, not, cond, List, [], ◌∷◌, is_some}
use Rattle.std.specs.List.{list_any}
use Rattle.rep_values.specs.declared.name.SiteName.{SiteName}
use Rattle.rep_schema.specs.declared.change.Change.{Change}
use Rattle.site_state.specs.declared.entry.Entry.{Entry}
use Rattle.site_state.specs.State.{DestinationState, SiteState}
use Rattle.rep_schema.specs.Sites.{is_master_site}
use Rattle.site_state.specs.Streams.{count_of}

abbrev pub is_empty : {X : Type 0} → List X → Bool
is_empty [] = true
is_empty (x ∷ xs) = false

-- one entry more
abbrev pub journalled : Entry → SiteState → SiteState
journalled e x = record x { journal = e ∷ x.journal }

-- the moment rises; a pass that is begun does just this
abbrev pub begun : SiteState → SiteState
begun x = record x { moment = x.moment + 1 }

abbrev pub is_open : DestinationState → Bool
is_open d = is_some d.opened

-- a master sends on what came from a snapshot site and changed some row, where another master is there
abbrev pub goes_onward : SiteName → List Change → SiteState → Bool
goes_onward origin changes x = x.here.is_master && not (is_master_site x.schema origin) && not (is_empty changes) && list_any is_open x.destinations

-- the number under which changed rows are queued onward, 0 where they aren't
abbrev pub onward_number : SiteName → List Change → SiteState → ℕ
onward_number origin changes x = cond (goes_onward origin changes x) (count_of x + 1) 0
