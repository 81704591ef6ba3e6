-- The laws of convergence hold of a world to which events lead from where masters begin alike.
use Rattle.std.proofs.Common.{◌≡◌, List, true, false, Some, None, sym, ap, ◌∙◌, subst}
use Rattle.std.specs.List.{list_any}
use Rattle.rep_values.specs.declared.name.SiteName.{SiteName}
use Rattle.rep_schema.specs.declared.schema.Schema.{Schema}
use Rattle.site_state.specs.State.{SiteState}
use Rattle.site_state.specs.Contents.{tables_of}
use Rattle.site_events.specs.Cluster.{site_of}
use Rattle.site_events.specs.Events.{run}
use Rattle.site_events.specs.Quiet.{are_quiet}
use Rattle.rep_schema.specs.Sites.{is_late_master}
use Rattle.event_laws.proofs.Sites.{found_all, found_name}
use Rattle.event_laws.proofs.MarkLaws.{IsOfSchema, run_schema}
use Rattle.convergence_laws.specs.Laws.{AreJoined, AreJoinedSince, GroupsAreJoined, GroupsAreJoinedSince}
use Rattle.convergence_laws.specs.Agreement.{LatestTellApart}
use Rattle.convergence_laws.specs.QuietAgreement.{drops_of_master, NothingWasDropped, MastersAgree, QuietMastersAgree}
use Rattle.convergence_laws.specs.Latest.{LatestValuesTellApart}
use Rattle.error_cause_laws.specs.Excuses.{ErrorsAreSo, RefusalsAreSo, IsExcusedOn}
use Rattle.error_cause_laws.specs.Laws.{ErrorsAreExcused}
use Rattle.error_cause_laws.specs.LostInserts.{NoRowIsOfALostInsert}
use Rattle.error_cause_laws.specs.LostInsertLaws.{MissingRowsAreOfInsertsInError}
use Rattle.world_state.specs.World.{WorldState}
use Rattle.world_laws.specs.SnapshotWorlds.{DeclaresSoFar, Goes}
use Rattle.world_laws.proofs.SnapshotScripts.{snapshots_hold_of}
use Rattle.convergent_worlds.specs.Convergence.{MastersAgreeWhenQuiet, EachErrorIsExcused, EachMissingRowIsLost, EachGroupIsJoined, EachGroupIsJoinedSince, EachHasGreatest}
use Rattle.world_laws.specs.AlikeWorlds.{GoesOnAlike, IsOfConvergence, Declaring, Going}

-- in Setup no site is there
no_site : (w : WorldState) → DeclaresSoFar w → (site : SiteName) (x : SiteState) → site_of site w.sites ≡ Some x → ⊥
no_site w so_far site x found = let none : site_of site w.sites ≡ None = ap (site_of site) so_far.setup.sites in cc (none, found)

module _ (w : WorldState) (a : GoesOnAlike w) where
  same : w.sites ≡ (run a.leads.events a.start).sites
  same = a.leads.simulates.sites

  in_run : (site : SiteName) (x : SiteState) → site_of site w.sites ≡ Some x → site_of site (run a.leads.events a.start).sites ≡ Some x
  in_run site x found = ap (site_of site) (sym same) ∙ found

  -- where a site is there, its schema is the world's
  here : (site : SiteName) (x : SiteState) → site_of site w.sites ≡ Some x → a.schema ≡ w.schema
  here site x found = sym (found_all (IsOfSchema a.schema) site (run a.leads.events a.start).sites x (run_schema a.schema a.start a.leads.events a.fit.start) (in_run site x found))
      ∙ (snapshots_hold_of w (Goes a.goes)).schemas site x found

  kept_by : NothingWasDropped w.schema w.sites → NothingWasDropped a.schema w.sites
  kept_by kept site x found master = subst (λ (s : Schema). list_any (drops_of_master s) x.journal ≡ false) (sym (here site x found)) (kept site x found master)

  agree_by : QuietMastersAgree → are_quiet w.sites ≡ true → NothingWasDropped a.schema w.sites → MastersAgree a.schema w.sites
  agree_by law = subst (λ (xs : List SiteState). are_quiet xs ≡ true → NothingWasDropped a.schema xs → MastersAgree a.schema xs) (sym same) (law a.schema a.start a.leads.events a.fit a.meshed a.alike.rows)

  agree : QuietMastersAgree → MastersAgreeWhenQuiet w
  agree law quiet kept one other x y table found = subst (λ (s : Schema). MastersAgree s w.sites) (here one x found) (agree_by law quiet (kept_by kept)) one other x y table found

  excused : ErrorsAreExcused → EachErrorIsExcused w
  excused law site x found master = subst (λ (s : Schema). ErrorsAreSo (IsExcusedOn s x.base) x.journal × RefusalsAreSo (IsExcusedOn s x.base) x) (here site x found)
      (law a.schema a.start a.leads.events a.fit a.meshed a.alike.keys site x (in_run site x found) master)

  lost : MissingRowsAreOfInsertsInError → EachMissingRowIsLost w
  lost law site x found master early =
      subst (λ (s : Schema). ErrorsAreSo (NoRowIsOfALostInsert s (λ table key. false)) x.journal × RefusalsAreSo (NoRowIsOfALostInsert s (λ table key. false)) x) (here site x found)
      (law a.schema a.start a.leads.events a.fit a.meshed a.alike.shared site x (in_run site x found) master
      (ap (is_late_master a.schema) (sym (found_name site w.sites x found)) ∙ ap (λ (s : Schema). is_late_master s x.here.site) (here site x found) ∙ early))

  joined : GroupsAreJoined → EachGroupIsJoined w
  joined law site x found master = subst (λ (s : Schema). AreJoined s x.base x.journal (tables_of x)) (here site x found) (law a.schema a.start a.leads.events a.fit site x (in_run site x found) master)

  since : GroupsAreJoinedSince → EachGroupIsJoinedSince w
  since law site x found master = subst (λ (s : Schema). AreJoinedSince s x.here.site x.base x.journal) (here site x found) (law a.schema a.start a.leads.events a.fit site x (in_run site x found) master)

  greatest : LatestValuesTellApart → EachHasGreatest w
  greatest law site x found master = subst (λ (s : Schema). LatestTellApart s x.base x.journal) (here site x found) (law a.schema a.start a.leads.events a.fit a.meshed a.alike.keys.filled site x (in_run site x found) master)

-- ---- in Setup and behind it

pub agree_of : QuietMastersAgree → (w : WorldState) → IsOfConvergence w → MastersAgreeWhenQuiet w
agree_of law w (Declaring so_far) quiet kept one other x y table found = absurd (no_site w so_far one x found)
agree_of law w (Going a) quiet kept one other x y table found = agree w a law quiet kept one other x y table found

pub excused_of : ErrorsAreExcused → (w : WorldState) → IsOfConvergence w → EachErrorIsExcused w
excused_of law w (Declaring so_far) site x found = absurd (no_site w so_far site x found)
excused_of law w (Going a) site x found = excused w a law site x found

pub lost_of : MissingRowsAreOfInsertsInError → (w : WorldState) → IsOfConvergence w → EachMissingRowIsLost w
lost_of law w (Declaring so_far) site x found = absurd (no_site w so_far site x found)
lost_of law w (Going a) site x found = lost w a law site x found

pub joined_of : GroupsAreJoined → (w : WorldState) → IsOfConvergence w → EachGroupIsJoined w
joined_of law w (Declaring so_far) site x found = absurd (no_site w so_far site x found)
joined_of law w (Going a) site x found = joined w a law site x found

pub since_of : GroupsAreJoinedSince → (w : WorldState) → IsOfConvergence w → EachGroupIsJoinedSince w
since_of law w (Declaring so_far) site x found = absurd (no_site w so_far site x found)
since_of law w (Going a) site x found = since w a law site x found

pub greatest_of : LatestValuesTellApart → (w : WorldState) → IsOfConvergence w → EachHasGreatest w
greatest_of law w (Declaring so_far) site x found = absurd (no_site w so_far site x found)
greatest_of law w (Going a) site x found = greatest w a law site x found
