-- How much each master has queued, gathered site by site.
use Rattle.std.proofs.Common.{◌≡◌, ℕ, ◌+◌, ◌<◌, List, [], ◌∷◌, ◌++◌, length, map, drop, get_or, Bool, true, false, cond, sym, ap, ◌∙◌, append_assoc}
use Rattle.std.specs.Prelude.{filter}
use Rattle.rep_lists.proofs.Places.{drop_from_place}
use Rattle.rep_calls.specs.declared.past.PastEntry.{PastEntry}
use Rattle.site_state.specs.State.{SiteState}
use Rattle.site_events.specs.Joins.{count_at, queue_counts}

module _ (sites : List SiteState) (place : ℕ) (x : SiteState) (within : place < length sites) (is : x ≡ get_or sites place x) where
  -- the masters behind it
  abbrev others : List SiteState
  others = filter (λ (y : SiteState). y.here.is_master) (drop (place + 1) sites)

  -- what they count, and it where it is a master
  abbrev counts_from : Bool → List PastEntry
  counts_from master = map count_at (cond master (x ∷ others) others)

  from_here : (master : Bool) → x.here.is_master ≡ master → queue_counts (drop place sites) ≡ counts_from master
  from_here master own = ap queue_counts (drop_from_place sites place x within is) ∙ ap counts_from own

  -- a master is counted next
  pub counted : (so_far more : List PastEntry) (given : PastEntry) → x.here.is_master ≡ true → given ≡ count_at x → more ≡ so_far ++ given ∷ [] → queue_counts sites ≡ so_far ++ queue_counts (drop place sites)
      → queue_counts sites ≡ more ++ queue_counts (drop (place + 1) sites)
  counted so_far more given master is_given pushed all =
      let rest : List PastEntry = queue_counts (drop (place + 1) sites) in
      all ∙ ap (λ (counts : List PastEntry). so_far ++ counts) (from_here true master) ∙ sym (append_assoc so_far (count_at x ∷ []) rest)
      ∙ ap (λ (one : PastEntry). (so_far ++ one ∷ []) ++ rest) (sym is_given) ∙ ap (λ (counts : List PastEntry). counts ++ rest) (sym pushed)

  -- no other site is
  pub not_counted : (so_far more : List PastEntry) → x.here.is_master ≡ false → more ≡ so_far → queue_counts sites ≡ so_far ++ queue_counts (drop place sites)
      → queue_counts sites ≡ more ++ queue_counts (drop (place + 1) sites)
  not_counted so_far more off same all =
      all ∙ ap (λ (counts : List PastEntry). so_far ++ counts) (from_here false off) ∙ ap (λ (counts : List PastEntry). counts ++ queue_counts (drop (place + 1) sites)) (sym same)
