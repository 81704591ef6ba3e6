-- A world from which a master may be lent out: what is seen of it while none is, how one leaves it, and how it comes back.
use Rattle.std.proofs.Common.{arith, ◌≡◌, ℕ, zero, suc, ◌+◌, ◌<◌, ◌≤◌, List, [], ◌∷◌, length, get_or, Bool, true, false, cond, is_some, is_err, Some, None, Ok, Err, refl, sym, ap, ◌∙◌, subst}
use Rattle.std.specs.Prelude.{not, ◌||◌, if◌then◌else◌, slice_get, is_ok, Option, Result}
use Rattle.std.specs.List.{insert, remove}
use Rattle.std.proofs.lemmas.List.Edits.{length-remove}
use Rattle.std.proofs.lemmas.Option.{slice_get_read}
use Rattle.rep_values.specs.declared.name.SiteName.{SiteName}
use Rattle.rep_values.specs.declared.refusal.Refusal.TheVariants as refusal
use Rattle.rep_values.specs.RefusalSteps.{refused}
use Rattle.rep_values.proofs.RefusalSteps.{or_then-None, refused-None, refused_not-None}
use Rattle.rep_values.specs.SiteNames.{is_same_site}
use Rattle.deferred_queue.proofs.Sites.{is_same_site-true, is_same_site-refl}
use Rattle.site_state.specs.State.{SiteState}
use Rattle.site_state.specs.Steps.{begun}
use Rattle.site_events.specs.Cluster.{site_of, at_site}
use Rattle.site_events.specs.Events.{is_master_in}
use Rattle.event_laws.proofs.Sites.{found_changed, found_name}
use Rattle.event_laws.specs.Names.{SitesApart}
use Rattle.world_state.specs.World.{WorldState, is_there}
use Rattle.world_state.specs.Phases.{is_running, has_block}
use Rattle.world_state.specs.Pushes.{pushed_in}
use Rattle.world_laws.specs.Places.{site_place}
use Rattle.world.specs.Following.{IsBuilt}
use Rattle.world_push.specs.Lending.{live_phase_step, live_refusal, reaching, brought_from, live_opened, live_closed, given_back, PushEachInPart}
use Rattle.world_push.proofs.Delivering.{pushed_there}
use Rattle.world_push.proofs.PartlyPushed.{pushed_in_part, built_each}
use Rattle.world_push.proofs.LiveParts.{running_behind, lent_behind, lendings_keep_worlds_built, live_parts_keep_worlds_built}
use Rattle.world_run.specs.Lent.{LentSite, LentWorld, with_lent, name_lent, seen_with, StandsAt, IsLentFrom, site_here, MayComeBack, LentMastersMayComeBack}

-- ---- none is lent out

none_lent : (lent : Option LentSite) → name_lent lent ≡ None → lent ≡ None
none_lent None is = refl
none_lent (Some l) is = absurd (cc is)

module _ (lent : Option LentSite) (w : WorldState) (v : LentWorld) (seen : seen_with lent w ≡ v) (free : v.lent ≡ None) where
  none : lent ≡ None
  none = none_lent lent (ap (λ (u : LentWorld). u.lent) seen ∙ free)

  with_none : (y : WorldState) → with_lent lent y ≡ y
  with_none y = ap (λ (o : Option LentSite). with_lent o y) none

  -- the world that is seen is the world's
  pub seen_is : w ≡ v.world
  seen_is = sym (with_none w) ∙ ap (λ (u : LentWorld). u.world) seen

  -- so what holds of worlds is so of what is seen
  pub as_seen : (P : WorldState → WorldState → Type 0) (y : WorldState) → P w y → P v.world (with_lent lent y)
  as_seen P y holds = subst (λ (z : WorldState). P v.world z) (sym (with_none y)) (subst (λ (u : WorldState). P u y) seen_is holds)

  -- it is built
  pub built_within : IsBuilt (with_lent lent w) → IsBuilt w
  built_within built = subst IsBuilt (with_none w) built

  -- and stays so where some of what comes in before a master is lent out has come
  pub came_built : (name : SiteName) (y : WorldState) → IsBuilt (with_lent lent w) → live_refusal name v.world ≡ None → PushEachInPart (reaching name w) name w y → IsBuilt y
  came_built name y built passes parts = built_each (reaching name w) name w y parts (lent_behind name w (ap (live_refusal name) seen_is ∙ passes)) (built_within built)

  -- what is kept of it, whatever becomes of the world
  pub kept_free : (y : WorldState) → IsBuilt y → IsBuilt (with_lent lent y) × IsLentFrom lent y
  kept_free y built = (subst IsBuilt (sym (with_none y)) built, subst (λ (o : Option LentSite). IsLentFrom o y) (sym none) tt)

  -- and none is lent out then
  pub still_free : name_lent lent ≡ None
  still_free = ap name_lent none

-- ---- one site among the others

-- where the site of a name was taken out none has that name
alone_removed : (name : SiteName) (xs : List SiteState) → SitesApart xs → site_of name (remove xs (site_place name xs)) ≡ None
alone_removed name [] apart = refl
alone_removed name (y ∷ ys) apart = go (is_same_site y.here.site name) refl (alone_removed name ys apart.1)
  where
    go : (b : Bool) → is_same_site y.here.site name ≡ b → site_of name (remove ys (site_place name ys)) ≡ None → site_of name (remove (y ∷ ys) (cond (not b) (1 + site_place name ys) 0)) ≡ None
    go true is later = subst (λ (n : SiteName). site_of n ys ≡ None) (is_same_site-true y.here.site name is) apart.0
    go false is later = let one : 1 + site_place name ys ≡ suc (site_place name ys) = omega arith in rw one (rw is later)

-- a site that was taken out and is put in again stands as before
insert-removed : (xs : List SiteState) (place : ℕ) (x : SiteState) → slice_get xs place ≡ Some x → insert (remove xs place) place x ≡ xs
insert-removed [] place x found = absurd (cc found)
insert-removed (y ∷ ys) zero x found = let same : y ≡ x = cc found in ap (λ (z : SiteState). z ∷ ys) (sym same)
insert-removed (y ∷ ys) (suc place) x found = ap (λ (zs : List SiteState). y ∷ zs) (insert-removed ys place x found)

-- a site of another name is found beside it as without it
site_of-inserted : (name : SiteName) (xs : List SiteState) (place : ℕ) (x : SiteState) → is_same_site x.here.site name ≡ false → site_of name (insert xs place x) ≡ site_of name xs
site_of-inserted name [] zero x differs = rw differs refl
site_of-inserted name [] (suc place) x differs = rw differs refl
site_of-inserted name (y ∷ ys) zero x differs = rw differs refl
site_of-inserted name (y ∷ ys) (suc place) x differs = ap (λ (o : Option SiteState). cond (is_same_site y.here.site name) (Some y) o) (site_of-inserted name ys place x differs)

-- what comes for it stands where it stood
at_site-inserted : (name : SiteName) (xs : List SiteState) (place : ℕ) (x y : SiteState) → x.here.site ≡ name → site_of name xs ≡ None → at_site name (λ old. y) (insert xs place x) ≡ insert xs place y
at_site-inserted name [] zero x y named alone = rw (named, is_same_site-refl name) refl
at_site-inserted name [] (suc place) x y named alone = rw (named, is_same_site-refl name) refl
at_site-inserted name (z ∷ zs) zero x y named alone = rw (named, is_same_site-refl name) refl
at_site-inserted name (z ∷ zs) (suc place) x y named alone = go (is_same_site z.here.site name) alone (at_site-inserted name zs place x y named)
  where
    go : (b : Bool) → cond b (Some z) (site_of name zs) ≡ None → (site_of name zs ≡ None → at_site name (λ old. y) (insert zs place x) ≡ insert zs place y)
        → cond b (y ∷ insert zs place x) (z ∷ at_site name (λ old. y) (insert zs place x)) ≡ z ∷ insert zs place y
    go true alone later = absurd (cc alone)
    go false alone later = ap (λ (xs : List SiteState). z ∷ xs) (later alone)

-- the sites that are here are those of the world
pub site_of-here : (name : SiteName) (lent : Option LentSite) (w : WorldState) → IsLentFrom lent w → site_of name w.sites ≡ site_here name (seen_with lent w)
site_of-here name None w from = refl
site_of-here name (Some l) w from = go (is_same_site l.name name) refl
  where
    go : (b : Bool) → is_same_site l.name name ≡ b → site_of name w.sites ≡ cond b None (site_of name (insert w.sites l.place l.opened))
    go true same = subst (λ (n : SiteName). site_of n w.sites ≡ None) (is_same_site-true l.name name same) from.alone
    go false differs = sym (site_of-inserted name w.sites l.place l.opened (ap (λ (n : SiteName). is_same_site n name) from.named ∙ differs))

-- ---- a master that may be lent out

master_some : (o : Option SiteState) → is_master_in o ≡ true → is_some o ≡ true
master_some None is = absurd (cc is)
master_some (Some x) is = refl

which_some : (o : Option SiteState) → is_some o ≡ true → (x : SiteState) × (o ≡ Some x)
which_some None is = absurd (cc is)
which_some (Some x) is = (x, refl)

holds_first : (b c : Bool) → (not b || c) ≡ false → b ≡ true
holds_first true c is = refl
holds_first false c is = absurd (cc is)

-- a site that was there is there once all came in, and the phase is as before
brought_there : (names : List SiteName) (name : SiteName) (w : WorldState) → is_there w name ≡ true → is_there (brought_from names name w) name ≡ true
brought_there [] name w there = there
brought_there (from ∷ more) name w there = brought_there more name (pushed_in from name None w) (pushed_there from name name None w there)

brought_phase : (names : List SiteName) (name : SiteName) (w : WorldState) → (brought_from names name w).phase ≡ w.phase
brought_phase [] name w = refl
brought_phase (from ∷ more) name w = brought_phase more name (pushed_in from name None w) ∙ (pushed_in_part from name None w).beside.phase

module _ (name : SiteName) (w : WorldState) (passes : live_refusal name w ≡ None) where
  steps : (live_phase_step w ≡ None) × (refused (not (is_master_in (site_of name w.sites))) refusal.UnknownName ≡ None)
  steps = or_then-None (live_phase_step w) (refused (not (is_master_in (site_of name w.sites))) refusal.UnknownName) passes

  running : is_running w.phase ≡ true
  running = holds_first (is_running w.phase) (has_block w) (refused-None (not (is_running w.phase) || has_block w) refusal.WrongPhase steps.0)

  came_there : (x : SiteState) × (site_of name (brought_from (reaching name w) name w).sites ≡ Some x)
  came_there = which_some _ (brought_there (reaching name w) name w (master_some _ (refused_not-None (is_master_in (site_of name w.sites)) refusal.UnknownName steps.1)))

  -- it is there as it is opened
  pub opened_there : (x : SiteState) × (site_of name (live_opened name w).sites ≡ Some x)
  opened_there = (begun came_there.0, found_changed name begun (brought_from (reaching name w) name w).sites came_there.0 (λ x. refl) came_there.1)

  -- while it is Running
  opened_running : is_running (live_opened name w).phase ≡ true
  opened_running = ap is_running (brought_phase (reaching name w) name w) ∙ running

-- it may come back as turns leave it
pub lent_masters_may_come_back : LentMastersMayComeBack
lent_masters_may_come_back name old new x built passes opened lent found sessions turns y is =
    let there : site_of name (live_opened name old.world).sites ≡ Some x = subst (λ (w : WorldState). site_of name w.sites ≡ Some x) opened found in
    let left : IsBuilt (given_back name y (live_opened name old.world)) = subst (λ (z : SiteState). IsBuilt (given_back name z (live_opened name old.world))) (sym is)
    (live_parts_keep_worlds_built name old.world x sessions turns built passes there) in
    (name, (lent, subst (λ (w : WorldState). IsBuilt (given_back name y w)) (sym opened) left))

-- ---- it is taken out

-- it has a place
pub is_there_opened : (name : SiteName) (w y : WorldState) → live_refusal name w ≡ None → y ≡ live_opened name w → site_of name y.sites ≡ None → ⊥
is_there_opened name w y passes opened absent = absurd (cc (sym (opened_there name w passes).1 ∙ sym (ap (λ (u : WorldState). site_of name u.sites) opened) ∙ absent))

module _ (name : SiteName) (w y : WorldState) (built : IsBuilt w) (passes : live_refusal name w ≡ None) (opened : y ≡ live_opened name w) where
  y_built : IsBuilt y
  y_built = subst IsBuilt (sym opened) (lendings_keep_worlds_built name w built passes)

  module _ (place : ℕ) (is : place ≡ site_place name y.sites) (within : place < length y.sites) (site : SiteState) (found : site_of name y.sites ≡ Some site) (there : slice_get y.sites place ≡ Some site)
      (x kept : SiteState) (read : x ≡ get_or y.sites place x) (kept_is : kept ≡ x) (others : List SiteState) (taken : others ≡ remove y.sites place) where
    abbrev taken_out : LentSite
    taken_out = record { name = name; place = place; opened = kept }

    x_there : slice_get y.sites place ≡ Some x
    x_there = slice_get_read y.sites (length y.sites) place x refl within read

    x_found : site_of name y.sites ≡ Some x
    x_found = found ∙ sym there ∙ x_there

    sites_are : insert others place kept ≡ y.sites
    sites_are = ap (λ (zs : List SiteState). insert zs place kept) taken ∙ ap (insert (remove y.sites place) place) kept_is ∙ insert-removed y.sites place x x_there

    with_it : with_lent (Some taken_out) (record y { sites = others }) ≡ y
    with_it = ap (λ (zs : List SiteState). record y { sites = zs }) sites_are

    -- with it the world is as it was
    pub with_taken : with_lent (Some taken_out) (record y { sites = others }) ≡ live_opened name w
    with_taken = with_it ∙ opened

    -- it is the one of its name
    pub taken_found : site_of name (with_lent (Some taken_out) (record y { sites = others })).sites ≡ Some x
    taken_found = ap (site_of name) sites_are ∙ x_found

    -- and is lent out
    pub kept_lent : IsBuilt (with_lent (Some taken_out) (record y { sites = others })) × StandsAt taken_out (record y { sites = others })
    kept_lent = (
      subst IsBuilt (sym with_it) y_built,
      record {
        place = let fewer : length (remove y.sites place) + 1 ≡ length y.sites = length-remove y.sites place within in
            subst (λ (zs : List SiteState). place ≤ length zs) (sym taken) (omega arith);
        named = ap (λ (z : SiteState). z.here.site) kept_is ∙ found_name name y.sites x x_found;
        alone = ap (site_of name) (taken ∙ ap (remove y.sites) is) ∙ alone_removed name y.sites y_built.apart;
        running = ap (λ (u : WorldState). is_running u.phase) opened ∙ opened_running name w passes;
      },
    )

-- ---- it comes back

pub if_not_err : {T E X : Type 0} (r : Result T E) (a b : X) → is_err r ≡ false → (if is_ok r then a else b) ≡ a
if_not_err (Ok x) a b is = refl
if_not_err (Err e) a b is = absurd (cc is)

-- what is kept once it is back
pub kept_back : (lent : Option LentSite) (y : WorldState) → lent ≡ None → IsBuilt y → IsBuilt (with_lent lent y) × IsLentFrom lent y
kept_back lent y none built = subst (λ (o : Option LentSite). IsBuilt (with_lent o y) × IsLentFrom o y) (sym none) (built, tt)

module _ (lent : Option LentSite) (e : WorldState) (v : LentWorld) (seen : seen_with lent e ≡ v) (from : IsLentFrom lent e) (l : LentSite) (is : Some l ≡ lent) (w : WorldState) (same : w ≡ e) where
  sees : seen_with (Some l) w ≡ v
  sees = ap (λ (o : Option LentSite). seen_with o w) is ∙ ap (seen_with lent) same ∙ seen

  stands : StandsAt l w
  stands = subst (λ (o : Option LentSite). IsLentFrom o w) (sym is) (subst (IsLentFrom lent) (sym same) from)

  name_is : (name : SiteName) → v.lent ≡ Some name → l.name ≡ name
  name_is name named = let lends : Some l.name ≡ Some name = ap (λ (u : LentWorld). u.lent) sees ∙ named in cc lends

  module _ (x : SiteState) (sites : List SiteState) (put : sites ≡ insert w.sites l.place x) where
    -- the world with it in its place is the one to which it was given back
    back_is : (name : SiteName) → v.lent ≡ Some name → record w { sites = sites } ≡ given_back name x v.world
    back_is name named =
        ap (λ (zs : List SiteState). record w { sites = zs }) (put ∙ sym (at_site-inserted l.name w.sites l.place l.opened x stands.named stands.alone))
        ∙ ap (λ (n : SiteName). given_back n x (with_lent (Some l) w)) (name_is name named) ∙ ap (λ (u : LentWorld). given_back name x u.world) sees

    -- so it is built
    pub back_built : MayComeBack x v → IsBuilt (record w { sites = sites })
    back_built may = subst IsBuilt (sym (back_is may.0 may.1.0)) may.1.1

    -- and stays so as its marks go to some of the others
    pub closed_built : (y : WorldState) → MayComeBack x v → PushEachInPart (reaching l.name (record w { sites = sites })) l.name (record w { sites = sites }) y → IsBuilt y
    closed_built y may parts = built_each (reaching l.name (record w { sites = sites })) l.name (record w { sites = sites }) y parts (running_behind w.phase stands.running) (back_built may)

    -- once they went to all of them
    pub closed_is : (name : SiteName) → v.lent ≡ Some name → (y : WorldState) → y ≡ live_closed l.name (record w { sites = sites }) → y ≡ live_closed name (given_back name x v.world)
    closed_is name named y closed = closed ∙ ap (λ (n : SiteName). live_closed n (record w { sites = sites })) (name_is name named) ∙ ap (live_closed name) (back_is name named)
