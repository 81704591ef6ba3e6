-- What becomes of a master's rows from one moment to a later one.
use Rattle.std.specs.Prelude.{◌≡◌, true, List, ◌++◌, Some}
use Rattle.rep_values.specs.declared.name.SiteName.{SiteName}
use Rattle.rep_schema.specs.declared.schema.Schema.{Schema}
use Rattle.site_state.specs.declared.entry.Entry.{Entry}
use Rattle.site_state.specs.State.{SiteState}
use Rattle.site_state.specs.Contents.{tables_of}
use Rattle.site_events.specs.Cluster.{Cluster, site_of}
use Rattle.site_events.specs.Events.{Event, run}
use Rattle.event_laws.specs.Fitting.{IsFitStart}
use Rattle.convergence_laws.specs.Laws.{AreJoined}

-- the later site has journalled what the earlier one had, and more; each group of each row of a convergent table is the join
-- of its earlier values and the parts applied since
pub record IsJoinedSince (schema : Schema) (earlier later : SiteState) : Type 0 where
  pub newer : List Entry
  pub journal : later.journal ≡ newer ++ earlier.journal
  pub joined : AreJoined schema (tables_of earlier) newer (tables_of later)

-- so it is with a master after any events, and after any more
abbrev pub GroupsAreJoinedBetween : Type 0
GroupsAreJoinedBetween = (schema : Schema) (start : Cluster) (events more : List Event) → IsFitStart schema start → (site : SiteName) (earlier later : SiteState)
    → site_of site (run events start).sites ≡ Some earlier → site_of site (run more (run events start)).sites ≡ Some later
    → later.here.is_master ≡ true → IsJoinedSince schema earlier later
