-- What isn't refused is done: a refresh gets what its queries pick, and a late master joins.
use Rattle.std.proofs.Common.{◌≡◌, ◌==◌, List, [], ◌∷◌, Bool, true, false, cond, Some, None, refl, sym, ap, ◌∙◌, arith}
use Rattle.std.specs.Prelude.{◌&&◌, ◌||◌, not, nat_lt, filter, Option}
use Rattle.std.specs.List.{list_all, AllByRecursion}
use Rattle.std.proofs.lemmas.Bool.Decides.{nat_tests}
use Rattle.rep_values.specs.declared.name.SiteName.{SiteName}
use Rattle.rep_values.specs.declared.refusal.Refusal.TheVariants as refusal
use Rattle.rep_values.proofs.RefusalSteps.{or_then-None, refused-None}
use Rattle.rep_schema.specs.declared.schema.SiteEntry.{SiteEntry}
use Rattle.rep_schema.specs.Sites.{names_of, is_among, is_late_master}
use Rattle.rep_values.specs.SiteNames.{is_same_site}
use Rattle.deferred_queue.proofs.Sites.{is_same_site-true}
use Rattle.site_state.specs.State.{SiteState}
use Rattle.site_state.specs.Contents.{tables_of}
use Rattle.site_state.specs.Refreshes.{site_refresh}
use Rattle.site_events.specs.Cluster.{site_of}
use Rattle.site_events.specs.Quiet.{unquiet_at, is_quiet_at, are_quiet}
use Rattle.site_events.specs.Joins.{with_joined, joined}
use Rattle.site_events.specs.Rules.{rows_ruled}
use Rattle.site_events.specs.Events.{master_of, found_site, refreshed_from, refreshed}
use Rattle.world_state.specs.Refusals.{unquiet_told, unquiet_step, quiet_step}

-- a snapshot site gets its rows from its master
pub refreshed-made : (sites : List SiteState) (x master : SiteState) → found_site sites (master_of x.schema x.here.site) ≡ Some master → x.here.is_master ≡ false
    → refreshed sites x ≡ site_refresh (rows_ruled x.schema (tables_of master) x.snapshots) master.moment x
refreshed-made sites x master found none =
    ap (λ (o : Option SiteState). refreshed_from o x) found ∙ ap (λ (b : Bool). cond b (site_refresh (rows_ruled x.schema (tables_of master) x.snapshots) master.moment x) x) (ap not none)

-- where no master hinders a join, each that the schema names is quiet
quiet_found : (sites : List SiteState) (es : List SiteEntry) (x : SiteState) → is_among (names_of es) x.here.site ≡ true → site_of x.here.site sites ≡ Some x → quiet_step sites es ≡ None
    → (x.here.is_master && nat_lt 0 (unquiet_at sites x)) ≡ false
quiet_found sites [] x among found none = absurd (cc among)
quiet_found sites (e ∷ es) x among found none = go (is_same_site e.name x.here.site) refl among (or_then-None (unquiet_step sites (site_of e.name sites)) (quiet_step sites es) none) (quiet_found sites es x)
  where
    own : e.name ≡ x.here.site → unquiet_step sites (site_of e.name sites) ≡ None → (x.here.is_master && nat_lt 0 (unquiet_at sites x)) ≡ false
    own same none = refused-None _ (refusal.NotQuiet x.here.site (unquiet_told sites x)) (rw found at rw same at none)

    go : (b : Bool) → is_same_site e.name x.here.site ≡ b → (b || is_among (names_of es) x.here.site) ≡ true → (unquiet_step sites (site_of e.name sites) ≡ None) × (quiet_step sites es ≡ None)
        → (is_among (names_of es) x.here.site ≡ true → site_of x.here.site sites ≡ Some x → quiet_step sites es ≡ None → (x.here.is_master && nat_lt 0 (unquiet_at sites x)) ≡ false)
        → (x.here.is_master && nat_lt 0 (unquiet_at sites x)) ≡ false
    go true same among both later = own (is_same_site-true e.name x.here.site same) both.0
    go false same among both later = later among found both.1

-- a site is the one of its name, and if it is a master the schema names it
abbrev pub IsNamedIn : List SiteState → List SiteEntry → SiteState → Type 0
IsNamedIn sites es x = (x.here.is_master ≡ true → is_among (names_of es) x.here.site ≡ true) × (site_of x.here.site sites ≡ Some x)

all_quiet : (sites : List SiteState) (es : List SiteEntry) (xs : List SiteState) → AllByRecursion (IsNamedIn sites es) xs → quiet_step sites es ≡ None
    → list_all (is_quiet_at sites) (filter (λ (x : SiteState). x.here.is_master) xs) ≡ true
all_quiet sites es [] named none = refl
all_quiet sites es (x ∷ xs) named none = go x.here.is_master refl (all_quiet sites es xs named.1 none)
  where
    rest : List SiteState
    rest = filter (λ (x : SiteState). x.here.is_master) xs

    not_hindered : nat_lt 0 (unquiet_at sites x) ≡ false → (unquiet_at sites x == 0) ≡ true
    not_hindered is = grind (arith, nat_tests, is)

    quiet : x.here.is_master ≡ true → (unquiet_at sites x == 0) ≡ true
    quiet master = not_hindered (ap (λ (b : Bool). b && nat_lt 0 (unquiet_at sites x)) (sym master) ∙ quiet_found sites es x (named.0.0 master) named.0.1 none)

    go : (b : Bool) → x.here.is_master ≡ b → list_all (is_quiet_at sites) rest ≡ true → list_all (is_quiet_at sites) (cond b (x ∷ rest) rest) ≡ true
    go true master later = rw (quiet master) later
    go false master later = later

-- a refusal that no master is the cause of says that all are quiet
pub are_quiet-None : (sites : List SiteState) (es : List SiteEntry) → AllByRecursion (IsNamedIn sites es) sites → quiet_step sites es ≡ None → are_quiet sites ≡ true
are_quiet-None sites es named none = all_quiet sites es sites named none

-- a late master that isn't there joins as a copy of a master where all are quiet
pub joined-made : (sites : List SiteState) (site source : SiteName) (x : SiteState) → site_of site sites ≡ None → site_of source sites ≡ Some x → x.here.is_master ≡ true → is_late_master x.schema site ≡ true
    → are_quiet sites ≡ true → joined site source sites ≡ with_joined sites x site
joined-made sites site source x absent found master late quiet = rw (absent, found, master, late, quiet) refl
