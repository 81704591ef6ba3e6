-- The net has directions between a site and each of its senders, both ways.
use Rattle.std.proofs.Common.{◌≡◌, ◌≢◌, Bool, true, false, cond, List, [], ◌∷◌, map, Some, None, refl, ◌∙◌}
use Rattle.std.specs.Prelude.{◌&&◌, ◌||◌, filter, flat_map, Option}
use Rattle.std.specs.List.{list_any}
use Rattle.std.proofs.lemmas.Bool.{and_parts, and_from, or_left, or_right}
use Rattle.std.proofs.lemmas.List.Folds.{list_any-append}
use Rattle.rep_values.specs.declared.name.SiteName.{SiteName}
use Rattle.rep_schema.specs.declared.schema.Schema.{Schema}
use Rattle.rep_schema.specs.declared.schema.SiteEntry.{SiteEntry}
use Rattle.rep_schema.specs.Named.{is_site, site_named}
use Rattle.rep_schema.specs.Sites.{sends_to, names_of, senders_to, senders_of, are_linked, linked_pairs, is_among}
use Rattle.rep_values.specs.SiteNames.{is_same_site}
use Rattle.net_plan.specs.Directions.{new_direction, net_of, direction_of, HasDirection}
use Rattle.site_state.proofs.SchemaSites.{found_any}

-- ---- tests of lists

any_then : {X : Type 0} (p q : X → Bool) → ((x : X) → p x ≡ true → q x ≡ true) → (xs : List X) → list_any p xs ≡ true → list_any q xs ≡ true
any_then p q so [] any = any
any_then p q so (x ∷ xs) any = go (p x) refl any (any_then p q so xs)
  where
    go : (b : Bool) → p x ≡ b → (b || list_any p xs) ≡ true → (list_any p xs ≡ true → list_any q xs ≡ true) → (q x || list_any q xs) ≡ true
    go true is any later = or_left _ _ (so x is)
    go false is any later = or_right _ _ (later any)

among_any : (test : SiteEntry → Bool) (name : SiteName) (es : List SiteEntry) → is_among (names_of (filter test es)) name ≡ true → list_any (λ e. is_site name e && test e) es ≡ true
among_any test name [] among = among
among_any test name (e ∷ es) among = go (test e) (is_site name e) refl among (among_any test name es)
  where
    go : (b c : Bool) → is_site name e ≡ c → is_among (names_of (cond b (e ∷ filter test es) (filter test es))) name ≡ true
        → (is_among (names_of (filter test es)) name ≡ true → list_any (λ e. is_site name e && test e) es ≡ true)
        → ((c && b) || list_any (λ e. is_site name e && test e) es) ≡ true
    go true true is among later = refl
    go true false is among later = later (rw is at among)
    go false true is among later = later among
    go false false is among later = later among

-- ---- pairs

abbrev is_pair : SiteName → SiteName → SiteName × SiteName → Bool
is_pair from to pair = is_same_site pair.0 from && is_same_site pair.1 to

pair_has_direction : (from to : SiteName) (pairs : List (SiteName × SiteName)) → list_any (is_pair from to) pairs ≡ true → HasDirection (net_of pairs) from to
pair_has_direction from to [] any = absurd (cc any)
pair_has_direction from to (pair ∷ pairs) any = go (is_pair from to pair) any (pair_has_direction from to pairs)
  where
    go : (b : Bool) → (b || list_any (is_pair from to) pairs) ≡ true → (list_any (is_pair from to) pairs ≡ true → HasDirection (net_of pairs) from to)
        → cond b (Some (new_direction pair.0 pair.1)) (direction_of from to (net_of pairs)) ≢ None
    go true any later = λ none. cc none
    go false any later = later any

abbrev pairs_from : List SiteEntry → SiteEntry → List (SiteName × SiteName)
pairs_from es a = map (λ (b : SiteEntry). (a.name, b.name)) (filter (are_linked a) es)

pair_from : (from to : SiteName) (a : SiteEntry) → is_site from a ≡ true → (es : List SiteEntry) → list_any (λ e. is_site to e && are_linked a e) es ≡ true → list_any (is_pair from to) (pairs_from es a) ≡ true
pair_from from to a named [] any = any
pair_from from to a named (e ∷ es) any = go (are_linked a e) (is_site to e) refl any (pair_from from to a named es)
  where
    go : (b c : Bool) → is_site to e ≡ c → ((c && b) || list_any (λ e. is_site to e && are_linked a e) es) ≡ true
        → (list_any (λ e. is_site to e && are_linked a e) es ≡ true → list_any (is_pair from to) (pairs_from es a) ≡ true)
        → list_any (is_pair from to) (map (λ (b : SiteEntry). (a.name, b.name)) (cond b (e ∷ filter (are_linked a) es) (filter (are_linked a) es))) ≡ true
    go true true is any later = rw (named, is) refl
    go true false is any later = rw (named, is) (later any)
    go false true is any later = later any
    go false false is any later = later any

-- an entry of one name is linked to one of another
abbrev links : SiteName → List SiteEntry → SiteEntry → Bool
links to es a = list_any (λ e. is_site to e && are_linked a e) es

pair_of : (from to : SiteName) (all es : List SiteEntry) → list_any (λ a. is_site from a && links to all a) es ≡ true → list_any (is_pair from to) (flat_map (pairs_from all) es) ≡ true
pair_of from to all [] any = any
pair_of from to all (a ∷ es) any = list_any-append (is_pair from to) (pairs_from all a) (flat_map (pairs_from all) es) ∙ go (is_site from a && links to all a) refl any (pair_of from to all es)
  where
    go : (b : Bool) → (is_site from a && links to all a) ≡ b → (b || list_any (λ a. is_site from a && links to all a) es) ≡ true
        → (list_any (λ a. is_site from a && links to all a) es ≡ true → list_any (is_pair from to) (flat_map (pairs_from all) es) ≡ true)
        → (list_any (is_pair from to) (pairs_from all a) || list_any (is_pair from to) (flat_map (pairs_from all) es)) ≡ true
    go true is any later = let both = and_parts _ _ is in or_left _ _ (pair_from from to a both.0 all both.1)
    go false is any later = or_right _ _ (later any)

-- ---- a site and its sender

module _ (schema : Schema) (site origin : SiteName) where
  abbrev sites : List SiteEntry
  sites = schema.sites

  to_sender : (to : Option SiteEntry) → site_named schema site ≡ to → is_among (names_of (senders_to sites to)) origin ≡ true → list_any (λ a. is_site site a && links origin sites a) sites ≡ true
  to_sender None named among = absurd (cc among)
  to_sender (Some to) named among = found_any (links origin sites) site sites to named
      (any_then (λ e. is_site origin e && sends_to e to) (λ e. is_site origin e && are_linked to e)
      (λ e is. let both = and_parts (is_site origin e) (sends_to e to) is in and_from (is_site origin e) (are_linked to e) both.0 (or_right (sends_to to e) (sends_to e to) both.1)) sites (among_any (λ e. sends_to e to) origin sites among))

  from_sender : (to : Option SiteEntry) → site_named schema site ≡ to → is_among (names_of (senders_to sites to)) origin ≡ true → list_any (λ a. is_site origin a && links site sites a) sites ≡ true
  from_sender None named among = absurd (cc among)
  from_sender (Some to) named among =
      any_then (λ e. is_site origin e && sends_to e to) (λ e. is_site origin e && links site sites e)
      (λ e is. let both = and_parts (is_site origin e) (sends_to e to) is in and_from (is_site origin e) (links site sites e) both.0 (found_any (are_linked e) site sites to named (or_left (sends_to e to) (sends_to to e) both.1))) sites (among_any (λ e. sends_to e to) origin sites among)

  -- there is a direction from a site to each of its senders
  pub direction_to_sender : is_among (senders_of schema site) origin ≡ true → HasDirection (net_of (linked_pairs schema.sites)) site origin
  direction_to_sender among = pair_has_direction site origin (linked_pairs sites) (pair_of site origin sites sites (to_sender (site_named schema site) refl among))

  -- and from the sender to the site
  pub direction_from_sender : is_among (senders_of schema site) origin ≡ true → HasDirection (net_of (linked_pairs schema.sites)) origin site
  direction_from_sender among = pair_has_direction origin site (linked_pairs sites) (pair_of origin site sites sites (from_sender (site_named schema site) refl among))
