-- The place that is found by the names of the sites.
use Rattle.std.proofs.Common.{◌≡◌, ℕ, ◌<◌, ◌≤◌, List, length, Bool, true, false, cond, Some, None, refl, sym, ◌∙◌, arith, get_or, subst, inl, inr}
use Rattle.std.specs.Prelude.{Option, ◌⊎◌, nat_lt, slice_get}
use Rattle.std.specs.List.{position}
use Rattle.std.proofs.lemmas.Bool.{ltb-true, ltb-false}
use Rattle.std.proofs.lemmas.Option.{slice_get_cases, slice_get_past}
use Rattle.rep_values.specs.declared.name.SiteName.{SiteName}
use Rattle.rep_values.specs.SiteNames.{is_same_site}
use Rattle.site_state.specs.State.{SiteState}
use Rattle.world_laws.specs.Places.{site_place}
use Rattle.world_laws.proofs.Calling.{site_of-place}
use Rattle.world.specs.Finding.{IsAt, FindsSite}

-- what is found by the names of the sites
pub finds_site : (name : SiteName) (sites : List SiteState) (result : Option ℕ) → result ≡ position (λ (x : SiteState). is_same_site x.here.site name) sites → FindsSite name sites result
finds_site name sites result is = subst (FindsSite name sites) (sym is) (go (nat_lt place (length sites)) refl)
  where
    place : ℕ
    place = site_place name sites

    there : place < length sites → IsAt name sites place
    there within = by (slice_get_cases sites place).1
      where
        by : ((x : SiteState) × (place < length sites) × (slice_get sites place ≡ Some x) × (get_or sites place x ≡ x)) ⊎ ((length sites ≤ place) × (slice_get sites place ≡ None)) → IsAt name sites place
        by (inl some) = record { site = some.0; found = site_of-place name sites ∙ some.2; is = refl; within = within; there = some.2 }
        by (inr none) = absurd (omega (arith, none.0, within))

    go : (b : Bool) → nat_lt place (length sites) ≡ b → FindsSite name sites (cond b (Some place) None)
    go true is = there (ltb-true place (length sites) is)
    go false is = site_of-place name sites ∙ slice_get_past sites place (ltb-false place (length sites) is)
