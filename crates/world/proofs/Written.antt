-- A site at its place among the others, and worlds in which it changes.
use Rattle.std.proofs.Common.{◌≡◌, ℕ, List, length, get_or, set, Some, ap, subst, ◌∙◌}
use Rattle.std.specs.Prelude.{slice_get}
use Rattle.std.proofs.lemmas.List.{set-get_or}
use Rattle.std.proofs.lemmas.Option.{slice_get_read}
use Rattle.rep_values.specs.declared.name.SiteName.{SiteName}
use Rattle.site_state.specs.State.{SiteState}
use Rattle.site_events.specs.Cluster.{site_of, at_site}
use Rattle.world_state.specs.World.{WorldState, with_site}
use Rattle.world_laws.specs.Places.{site_place}
use Rattle.world_laws.proofs.Calling.{site_of-place, slice_set-place}
use Rattle.world.specs.Finding.{IsAt}

-- the site that was read at its place, in a list that was seen and is this one
module _ (name : SiteName) (xs seen : List SiteState) (place : ℕ) (x : SiteState) (seen_is : seen ≡ xs) (at : IsAt name seen place) (stands : x ≡ get_or xs place x) where
  there : slice_get xs place ≡ Some x
  there = slice_get_read xs (length seen) place x (ap length seen_is) at.within stands

  place_is : place ≡ site_place name xs
  place_is = at.is ∙ ap (site_place name) seen_is

  there_named : slice_get xs (site_place name xs) ≡ Some x
  there_named = subst (λ (k : ℕ). slice_get xs k ≡ Some x) place_is there

  -- it is the one of the name
  pub site_of-read : site_of name xs ≡ Some x
  site_of-read = site_of-place name xs ∙ there_named

  -- what was written there is a change of it
  pub at_site-written : (change : SiteState → SiteState) (y : SiteState) → y ≡ change x → set xs place y ≡ at_site name change xs
  at_site-written change y changed = ap (λ (k : ℕ). set xs k y) place_is ∙ ap (set xs (site_place name xs)) changed ∙ slice_set-place name change xs x there_named

-- the world of which the sites were read
module _ (name : SiteName) (w old : WorldState) (seen : List SiteState) (place : ℕ) (x : SiteState) (old_is : w ≡ old) (seen_is : seen ≡ w.sites) (at : IsAt name seen place)
    (stands : x ≡ get_or w.sites place x) where
  -- the site is there
  pub site_of-world : site_of name old.sites ≡ Some x
  site_of-world = subst (λ (v : WorldState). site_of name v.sites ≡ Some x) old_is (site_of-read name w.sites seen place x seen_is at stands)

  -- it has changed
  pub with_site-written : (change : SiteState → SiteState) (y : SiteState) → y ≡ change x → record w { sites = set w.sites place y } ≡ with_site name change old
  with_site-written change y changed =
      ap (λ (sites : List SiteState). record w { sites = sites }) (at_site-written name w.sites seen place x seen_is at stands change y changed) ∙ ap (with_site name change) old_is

  -- or it stayed
  pub world-kept : (y : SiteState) → y ≡ x → record w { sites = set w.sites place y } ≡ old
  world-kept y kept = ap (λ (sites : List SiteState). record w { sites = sites }) (ap (set w.sites place) (kept ∙ stands) ∙ set-get_or w.sites place x) ∙ old_is
