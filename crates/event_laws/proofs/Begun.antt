-- At which masters a pass was begun, after events.
use Rattle.std.proofs.Common.{◌≡◌, List, [], ◌∷◌, Bool, true, false, cond, Some, None, refl}
use Rattle.std.specs.Prelude.{◌||◌, Option}
use Rattle.rep_values.specs.declared.name.SiteName.{SiteName}
use Rattle.rep_values.specs.SiteNames.{is_same_site}
use Rattle.site_state.specs.State.{SiteState}
use Rattle.rep_schema.specs.Sites.{is_among}
use Rattle.site_events.specs.Events.{without, master_of, without_found, begun_after}

-- another site is among more names only where it was before
pub is_among-more : (name site : SiteName) (names : List SiteName) → is_same_site name site ≡ false → is_among (name ∷ names) site ≡ true → is_among names site ≡ true
is_among-more name site names isnt is = go (is_same_site name site) isnt is
  where
    go : (b : Bool) → b ≡ false → (b || is_among names site) ≡ true → is_among names site ≡ true
    go true isnt is = absurd (cc isnt)
    go false isnt is = is

-- what is among names without one was among them
pub is_among-without : (gone site : SiteName) (names : List SiteName) → is_among (without gone names) site ≡ true → is_among names site ≡ true
is_among-without gone site [] is = cc
is_among-without gone site (n ∷ ns) is = go (is_same_site n gone) is (is_among-without gone site ns)
  where
    right : (b c : Bool) → c ≡ true → (b || c) ≡ true
    right true c is = refl
    right false c is = is

    either : (b c d : Bool) → (c ≡ true → d ≡ true) → (b || c) ≡ true → (b || d) ≡ true
    either true c d later is = refl
    either false c d later is = later is

    go : (b : Bool) → is_among (cond b (without gone ns) (n ∷ without gone ns)) site ≡ true → (is_among (without gone ns) site ≡ true → is_among ns site ≡ true) → (is_same_site n site || is_among ns site) ≡ true
    go true is later = right (is_same_site n site) (is_among ns site) (later is)
    go false is later = either (is_same_site n site) (is_among (without gone ns) site) (is_among ns site) later is

-- and it isn't that one
pub is_among-gone : (gone : SiteName) (names : List SiteName) → is_among (without gone names) gone ≡ false
is_among-gone gone [] = refl
is_among-gone gone (n ∷ ns) = go (is_same_site n gone) refl (is_among-gone gone ns)
  where
    go : (b : Bool) → is_same_site n gone ≡ b → is_among (without gone ns) gone ≡ false → is_among (cond b (without gone ns) (n ∷ without gone ns)) gone ≡ false
    go true is later = later
    go false is later = rw is later

-- what is among them after a refresh was before
pub is_among-refresh : (name site : SiteName) (o : Option SiteState) (names : List SiteName) → is_among (begun_after name o names) site ≡ true → is_among names site ≡ true
is_among-refresh name site None names is = is
is_among-refresh name site (Some x) names is = go (master_of x.schema name) is
  where
    go : (m : Option SiteName) → is_among (without_found m names) site ≡ true → is_among names site ≡ true
    go None is = is
    go (Some m) is = is_among-without m site names is
