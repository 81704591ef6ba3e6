-- Pushes in part from one site after another: one more of them is done.
use Rattle.std.proofs.Common.{◌≡◌, ℕ, zero, suc, ◌+◌, ◌<◌, List, [], ◌∷◌, length, drop, get_or, Bool, true, false, cond, Some, None, refl, sym, ap, ◌∙◌, subst, arith}
use Rattle.std.specs.Prelude.{◌||◌, filter, slice_get}
use Rattle.std.proofs.lemmas.Option.{slice_get_read}
use Rattle.rep_lists.proofs.Places.{drop_from_found}
use Rattle.rep_values.specs.declared.name.SiteName.{SiteName}
use Rattle.rep_schema.specs.Sites.{senders_of, is_among}
use Rattle.rep_values.specs.SiteNames.{is_same_site}
use Rattle.deferred_queue.proofs.Sites.{is_same_site-refl}
use Rattle.site_state.specs.State.{SiteState}
use Rattle.site_events.specs.Cluster.{site_of}
use Rattle.world_state.specs.World.{WorldState, with_site}
use Rattle.world_state.specs.Phases.{is_setup}
use Rattle.world_state.specs.Pushes.{pushed_in, world_return_mark}
use Rattle.world_laws.proofs.Finding.{at_none}
use Rattle.world.specs.Following.{PushesInPart, IsBuilt}
use Rattle.world.proofs.Following.{in_part_linked}
use Rattle.world_push.specs.Lending.{reaches, reaching, brought_from, answered_to, PushEachInPart, AreLinkedTo}

-- ---- names

or_true : (b c : Bool) → c ≡ true → (b || c) ≡ true
or_true true c is = refl
or_true false c is = is

-- what stands at a place is among them
pub among_at : (names : List SiteName) (place : ℕ) (name : SiteName) → slice_get names place ≡ Some name → is_among names name ≡ true
among_at [] place name found = grind (arith, found)
among_at (n ∷ names) zero name found = let same : n ≡ name = cc found in rw (same, is_same_site-refl name) refl
among_at (n ∷ names) (suc place) name found = or_true (is_same_site n name) (is_among names name) (among_at names place name (grind (arith, found)))

-- what is among those that are left was among all
pub among_filter : (test : SiteName → Bool) (names : List SiteName) (name : SiteName) → is_among (filter test names) name ≡ true → is_among names name ≡ true
among_filter test [] name among = among
among_filter test (n ∷ names) name among = go (test n) (among_filter test names name) among
  where
    by : (b c d : Bool) → (c ≡ true → d ≡ true) → (b || c) ≡ true → (b || d) ≡ true
    by true c d later is = refl
    by false c d later is = later is

    go : (b : Bool) → (is_among (filter test names) name ≡ true → is_among names name ≡ true) → is_among (cond b (n ∷ filter test names) (filter test names)) name ≡ true → is_among (n ∷ names) name ≡ true
    go true later is = by (is_same_site n name) (is_among (filter test names) name) (is_among names name) later is
    go false later is = or_true (is_same_site n name) (is_among names name) (later is)

-- ---- directions

-- the senders of a site are linked to it
pub senders_linked : (name : SiteName) (w : WorldState) → IsBuilt w → is_setup w.phase ≡ false → AreLinkedTo (senders_of w.schema name) name w
senders_linked name w built behind from among = let both = built.linked behind name from among in (both.1, both.0)

-- so are those that reach it
pub reaching_linked : (name : SiteName) (w : WorldState) → IsBuilt w → is_setup w.phase ≡ false → AreLinkedTo (reaching name w) name w
reaching_linked name w built behind from among = senders_linked name w built behind from (among_filter (reaches name w) (senders_of w.schema name) from among)

-- ---- one more

module _ (names : List SiteName) (name : SiteName) (place : ℕ) (from : SiteName) (within : place < length names) (is : from ≡ get_or names place from) where
  there : slice_get names place ≡ Some from
  there = slice_get_read names (length names) place from refl within is

  next : drop place names ≡ from ∷ drop (place + 1) names
  next = drop_from_found names place from there

  -- it is one of them
  pub next_among : is_among names from ≡ true
  next_among = among_at names place from there

  -- what is left to come in
  pub brought_next : (w y z : WorldState) → y ≡ pushed_in from name None w → brought_from (drop place names) name w ≡ z → brought_from (drop (place + 1) names) name y ≡ z
  brought_next w y z come left =
      ap (brought_from (drop (place + 1) names) name) come ∙ sym (ap (λ (ns : List SiteName). brought_from ns name w) next) ∙ left

  -- the marks that are left to go back
  pub answered_next : (w y z : WorldState) → y ≡ world_return_mark name from w → answered_to (drop place names) name w ≡ z → answered_to (drop (place + 1) names) name y ≡ z
  answered_next w y z gone left =
      ap (answered_to (drop (place + 1) names) name) gone ∙ sym (ap (λ (ns : List SiteName). answered_to ns name w) next) ∙ left

  -- what becomes of those that are left becomes of all
  pub parts_next : (old w y : WorldState) → PushesInPart from name w y → ((z : WorldState) → PushEachInPart (drop place names) name w z → PushEachInPart names name old z)
      → (z : WorldState) → PushEachInPart (drop (place + 1) names) name y z → PushEachInPart names name old z
  parts_next old w y part all z rest = all z (subst (λ (ns : List SiteName). PushEachInPart ns name w z) (sym next) (y, (part, rest)))

  -- they are linked as before
  pub linked_next : (w y : WorldState) → PushesInPart from name w y → AreLinkedTo names name w → AreLinkedTo names name y
  linked_next w y part linked other among =
      let both = linked other among in (in_part_linked from name other name w y part both.0, in_part_linked from name name other w y part both.1)

-- ---- a site that isn't there

-- it doesn't change
pub absent_as_before : (name : SiteName) (change : SiteState → SiteState) (w old : WorldState) (seen : List SiteState) → w ≡ old → seen ≡ w.sites → site_of name seen ≡ None → old ≡ with_site name change old
absent_as_before name change w old seen old_is seen_is none =
    let same : seen ≡ old.sites = seen_is ∙ ap (λ (v : WorldState). v.sites) old_is in
    sym (ap (λ (sites : List SiteState). record old { sites = sites }) (at_none name change old.sites (ap (site_of name) (sym same) ∙ none)))
