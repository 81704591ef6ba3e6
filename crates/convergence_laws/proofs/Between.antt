-- From one moment to a later one the groups of a master's rows become joins.
use Rattle.std.proofs.Common.{◌≡◌, List, ◌++◌, Some, refl, sym, ap, ◌∙◌, subst}
use Rattle.rep_schema.specs.declared.schema.Schema.{Schema}
use Rattle.site_state.specs.State.{SiteState}
use Rattle.site_state.specs.Contents.{journal_content, tables_of}
use Rattle.site_events.specs.Cluster.{Cluster, site_of}
use Rattle.site_events.specs.Events.{Event, run}
use Rattle.event_laws.specs.Marks.{journal_in}
use Rattle.event_laws.proofs.Runs.{run-append}
use Rattle.event_laws.proofs.Sites.{found_all, found_name}
use Rattle.event_laws.proofs.MarkLaws.{IsOfSchema, run_schema}
use Rattle.convergence_laws.specs.Laws.{AreJoined, GroupsAreJoinedSince}
use Rattle.convergence_laws.specs.Between.{GroupsAreJoinedBetween}
use Rattle.convergence_laws.proofs.Growing.{HasAll, run_all}

pub groups_are_joined_between : GroupsAreJoinedSince → GroupsAreJoinedBetween
groups_are_joined_between since schema start events more is site earlier later found there master = record {
  newer = has.newer;
  journal = journal;
  joined = subst (AreJoined schema (tables_of earlier) has.newer) tables_later
      (subst (λ ts. AreJoined schema ts has.newer (journal_content schema later.here.site later.base later.journal).tables) tables
      (since schema start (more ++ events) is site later there_too master has.newer earlier.journal journal));
}
  where
    there_too : site_of site (run (more ++ events) start).sites ≡ Some later
    there_too = subst (λ (w : Cluster). site_of site w.sites ≡ Some later) (sym (run-append more events start)) there

    has : HasAll (site_of site (run events start).sites) later
    has = (run_all more (run events start)).each site later there

    journal : later.journal ≡ has.newer ++ earlier.journal
    journal = has.journal ∙ ap (λ o. has.newer ++ journal_in o) found

    of_schema : (es : List Event) (x : SiteState) → site_of site (run es start).sites ≡ Some x → x.schema ≡ schema
    of_schema es x at = found_all (IsOfSchema schema) site (run es start).sites x (run_schema schema start es is.start) at

    name : later.here.site ≡ earlier.here.site
    name = found_name site (run more (run events start)).sites later there ∙ sym (found_name site (run events start).sites earlier found)

    tables : (journal_content schema later.here.site later.base earlier.journal).tables ≡ tables_of earlier
    tables = rw (name, has.base earlier found master, of_schema events earlier found) refl

    tables_later : (journal_content schema later.here.site later.base later.journal).tables ≡ tables_of later
    tables_later = ap (λ (s : Schema). (journal_content s later.here.site later.base later.journal).tables) (sym (of_schema (more ++ events) later there_too))
