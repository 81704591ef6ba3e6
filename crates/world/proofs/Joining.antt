-- A join that isn't refused: a late master that isn't there may join as a copy of a master that is, since each master is found by
-- its name, and the schema names it.
use Rattle.std.proofs.Common.{◌≡◌, List, [], ◌∷◌, Bool, true, false, Some, None, refl, sym, ap, ◌∙◌}
use Rattle.std.specs.Prelude.{◌&&◌, ◌||◌, not, Option}
use Rattle.std.specs.List.{list_any, AllByRecursion}
use Rattle.rep_values.specs.declared.name.SiteName.{SiteName}
use Rattle.rep_values.specs.declared.refusal.Refusal.{Refusal}
use Rattle.rep_values.specs.declared.refusal.Refusal.TheVariants as refusal
use Rattle.rep_values.specs.RefusalSteps.{refused, or_then, first_refusal, taken}
use Rattle.rep_values.proofs.RefusalSteps.{or_then-None, refused_not-None, taken-None}
use Rattle.rep_schema.specs.declared.schema.Schema.{Schema}
use Rattle.rep_schema.specs.declared.schema.SiteEntry.{SiteEntry}
use Rattle.rep_schema.specs.Shape.{is_master}
use Rattle.rep_schema.specs.Named.{is_site}
use Rattle.rep_schema.specs.Sites.{names_of, is_master_site, is_among, is_late_master}
use Rattle.site_state.specs.State.{SiteState}
use Rattle.site_events.specs.Cluster.{site_of}
use Rattle.site_events.specs.Quiet.{are_quiet}
use Rattle.site_events.specs.Joins.{may_join, with_joined, joined}
use Rattle.site_events.specs.Events.{is_master_in}
use Rattle.event_laws.proofs.DeclaredSites.{IsSiteOf, late_is_master}
use Rattle.event_laws.proofs.Names.{found_by_name}
use Rattle.script_parse.specs.declared.command.Command.TheVariants as command
use Rattle.world_state.specs.declared.phase.Phase.{Phase}
use Rattle.world_state.specs.declared.phase.Phase.TheVariants as phase
use Rattle.world_state.specs.World.{WorldState, is_there}
use Rattle.world_state.specs.Phases.{is_setup, is_suspended, has_block, behind_setup_step, phase_step}
use Rattle.world_state.specs.Refusals.{quiet_step, further_steps, world_refusal}
use Rattle.world_laws.proofs.UnrefusedLines.{IsNamedIn, are_quiet-None, joined-made}
use Rattle.world_laws.specs.SnapshotWorlds.{GoesOn}
use Rattle.world.specs.Following.{IsBuilt}
use Rattle.world.specs.Precheck.{precheck_steps}
use Rattle.world.proofs.Masters.{behind_goes, sites_of_schema, site_of_schema}

-- ---- the steps of its refusal

-- of what is behind Setup
pub behind_of : (p : Phase) (b : Bool) → refused (is_setup p || b) refusal.WrongPhase ≡ None → is_setup p ≡ false
behind_of phase.Setup b none = absurd (cc none)
behind_of phase.Running b none = refl
behind_of phase.Suspended b none = refl

-- where the names are right, what hinders quiet counts
pub names_pass : (w : WorldState) (site source : SiteName) → is_late_master w.schema site ≡ true → is_there w site ≡ false → is_master_in (site_of source w.sites) ≡ true
    → quiet_step w.sites w.schema.sites ≡ first_refusal (precheck_steps (command.Join site source) w)
names_pass w site source late absent there = go (is_late_master w.schema site) (is_there w site) (is_master_in (site_of source w.sites)) late absent there
  where
    step : Option Refusal
    step = quiet_step w.sites w.schema.sites

    last : (o : Option Refusal) → o ≡ or_then o None
    last None = refl
    last (Some why) = refl

    go : (b c d : Bool) → b ≡ true → c ≡ false → d ≡ true
        → step ≡ or_then (refused (not b) refusal.UnknownName) (or_then (refused c refusal.NameTaken) (or_then (refused (not d) refusal.UnknownName) (or_then step None)))
    go true false true late absent there = last step
    go true false false late absent there = absurd (cc there)
    go true true d late absent there = absurd (cc absent)
    go false c d late absent there = absurd (cc late)

-- the lists of a world that were seen
pub quiet_seen : (w seen : WorldState) (schema : Schema) (sites : List SiteState) (entries : List SiteEntry) → seen ≡ w → schema ≡ seen.schema → sites ≡ seen.sites → entries ≡ schema.sites
    → quiet_step sites entries ≡ quiet_step w.sites w.schema.sites
quiet_seen w seen schema sites entries world_is schema_is sites_are entries_are =
    ap (λ (xs : List SiteState). quiet_step xs entries) sites_are ∙ ap (quiet_step seen.sites) entries_are ∙ ap (λ (s : Schema). quiet_step seen.sites s.sites) schema_is
    ∙ ap (λ (v : WorldState). quiet_step v.sites v.schema.sites) world_is

-- ---- quiet

-- a master of a schema is among its names
among_master : (name : SiteName) (es : List SiteEntry) → list_any (λ (e : SiteEntry). is_site name e && is_master e) es ≡ true → is_among (names_of es) name ≡ true
among_master name [] any = any
among_master name (e ∷ es) any = go (is_site name e) (is_master e) any (among_master name es)
  where
    go : (b c : Bool) → ((b && c) || list_any (λ (e : SiteEntry). is_site name e && is_master e) es) ≡ true
        → (list_any (λ (e : SiteEntry). is_site name e && is_master e) es ≡ true → is_among (names_of es) name ≡ true) → (b || is_among (names_of es) name) ≡ true
    go true c any later = refl
    go false c any later = later any

-- so each site is the one of its name, and each master is named
each_named : (schema : Schema) (sites xs : List SiteState) → AllByRecursion (λ (x : SiteState). site_of x.here.site sites ≡ Some x) xs → AllByRecursion (IsSiteOf schema) xs
    → AllByRecursion (IsNamedIn sites schema.sites) xs
each_named schema sites [] found are = tt
each_named schema sites (x ∷ xs) found are =
    (((λ master. among_master x.here.site schema.sites (sym are.0.declared.is_master ∙ master)), found.0), each_named schema sites xs found.1 are.1)

-- where nothing hinders in declared order, all masters are quiet
quiet_in_world : (w : WorldState) → IsBuilt w → GoesOn w → quiet_step w.sites w.schema.sites ≡ None → are_quiet w.sites ≡ true
quiet_in_world w built g none =
    are_quiet-None w.sites w.schema.sites (each_named w.schema w.sites w.sites (found_by_name w.sites built.apart) (sites_of_schema w g)) none

-- ---- a join

-- a late master that isn't there may join as a copy of a master that is
pub record CanJoin (w : WorldState) (site source : SiteName) : Type 0 where
  pub behind : is_setup w.phase ≡ false
  pub from : SiteState
  pub found : site_of source w.sites ≡ Some from
  pub of_schema : from.schema ≡ w.schema
  pub absent : site_of site w.sites ≡ None
  pub late : is_late_master w.schema site ≡ true
  pub master : is_master_site w.schema site ≡ true
  pub may : may_join w.sites from site ≡ true
  pub sites : joined site source w.sites ≡ with_joined w.sites from site

all_three : (a b c : Bool) → a ≡ true → b ≡ true → c ≡ true → (a && b && c) ≡ true
all_three true true true first second third = refl
all_three true true false first second third = absurd (cc third)
all_three true false c first second third = absurd (cc second)
all_three false b c first second third = absurd (cc first)

pub can_join : (w : WorldState) (site source : SiteName) → IsBuilt w → world_refusal (command.Join site source) w ≡ None → CanJoin w site source
can_join w site source built passes = go (site_of source w.sites) refl there
  where
    parts : (phase_step (command.Join site source) w ≡ None) × (first_refusal (further_steps (command.Join site source) w) ≡ None)
    parts = or_then-None (phase_step (command.Join site source) w) (first_refusal (further_steps (command.Join site source) w)) passes

    behind : is_setup w.phase ≡ false
    behind = behind_of w.phase (has_block w) (or_then-None (behind_setup_step w) (refused (not (is_suspended w.phase)) refusal.WrongPhase) parts.0).0

    named : (refused (not (is_late_master w.schema site)) refusal.UnknownName ≡ None)
        × (or_then (taken (site_of site w.sites)) (or_then (refused (not (is_master_in (site_of source w.sites))) refusal.UnknownName) (or_then (quiet_step w.sites w.schema.sites) None)) ≡ None)
    named = or_then-None (refused (not (is_late_master w.schema site)) refusal.UnknownName)
        (or_then (taken (site_of site w.sites)) (or_then (refused (not (is_master_in (site_of source w.sites))) refusal.UnknownName) (or_then (quiet_step w.sites w.schema.sites) None))) parts.1

    late : is_late_master w.schema site ≡ true
    late = refused_not-None (is_late_master w.schema site) refusal.UnknownName named.0

    untaken : (taken (site_of site w.sites) ≡ None) × (or_then (refused (not (is_master_in (site_of source w.sites))) refusal.UnknownName) (or_then (quiet_step w.sites w.schema.sites) None) ≡ None)
    untaken = or_then-None (taken (site_of site w.sites)) (or_then (refused (not (is_master_in (site_of source w.sites))) refusal.UnknownName) (or_then (quiet_step w.sites w.schema.sites) None)) named.1

    sourced : (refused (not (is_master_in (site_of source w.sites))) refusal.UnknownName ≡ None) × (or_then (quiet_step w.sites w.schema.sites) None ≡ None)
    sourced = or_then-None (refused (not (is_master_in (site_of source w.sites))) refusal.UnknownName) (or_then (quiet_step w.sites w.schema.sites) None) untaken.1

    there : is_master_in (site_of source w.sites) ≡ true
    there = refused_not-None (is_master_in (site_of source w.sites)) refusal.UnknownName sourced.0

    absent : site_of site w.sites ≡ None
    absent = taken-None (site_of site w.sites) untaken.0

    g : GoesOn w
    g = behind_goes w built.of_convergence behind

    quiet : are_quiet w.sites ≡ true
    quiet = quiet_in_world w built g (or_then-None (quiet_step w.sites w.schema.sites) None sourced.1).0

    of_source : (x : SiteState) → site_of source w.sites ≡ Some x → x.here.is_master ≡ true → CanJoin w site source
    of_source x found is_one =
        let same : x.schema ≡ w.schema = (site_of_schema w g source x found).of_schema in
        let its : is_late_master x.schema site ≡ true = ap (λ (s : Schema). is_late_master s site) same ∙ late in
        record {
          behind = behind;
          from = x;
          found = found;
          of_schema = same;
          absent = absent;
          late = late;
          master = late_is_master w.schema site late;
          may = all_three x.here.is_master (is_late_master x.schema site) (are_quiet w.sites) is_one its quiet;
          sites = joined-made w.sites site source x absent found is_one its quiet;
        }

    go : (o : Option SiteState) → site_of source w.sites ≡ o → is_master_in o ≡ true → CanJoin w site source
    go None found is_one = absurd (cc is_one)
    go (Some x) found is_one = of_source x found is_one
