-- Snapshots one by one, of which the logs may be too young.
use Rattle.std.proofs.Common.{◌≡◌, ◌+◌, ℕ, List, ◌∷◌, drop, Some, None, refl, sym, ap, ◌∙◌}
use Rattle.std.specs.Prelude.{Option, slice_get}
use Rattle.rep_lists.proofs.Places.{drop_from_found}
use Rattle.rep_values.specs.declared.refusal.Refusal.{Refusal}
use Rattle.rep_values.specs.declared.refusal.Refusal.TheVariants as refusal
use Rattle.rep_values.specs.RefusalSteps.{refused, or_then}
use Rattle.snapshot_query.specs.declared.snapshot.Snapshot.{Snapshot}
use Rattle.change_logs.specs.LogState.{LogState}
use Rattle.change_logs.specs.Noting.{purged_of, is_too_young}
use Rattle.world_state.specs.Refusals.{young_parents_step, young_step}

module _ (logs : List LogState) (ss : List Snapshot) (place : ℕ) (s : Snapshot) (there : slice_get ss place ≡ Some s) where
  -- what one of them says
  abbrev said : Option Refusal
  said = or_then (refused (is_too_young logs s) (refusal.LogTooYoung (purged_of s.table logs) s.mark)) (young_parents_step logs s.mark s.parent)

  from_here : young_step logs (drop place ss) ≡ or_then said (young_step logs (drop (place + 1) ss))
  from_here = ap (young_step logs) (drop_from_found ss place s there)
      ∙ nested (refused (is_too_young logs s) (refusal.LogTooYoung (purged_of s.table logs) s.mark)) (young_parents_step logs s.mark s.parent) (young_step logs (drop (place + 1) ss))
    where
      nested : (one other rest : Option Refusal) → or_then one (or_then other rest) ≡ or_then (or_then one other) rest
      nested None other rest = refl
      nested (Some why) other rest = refl

  -- where its log reaches back, the next ones count
  pub reaches_back : said ≡ None → young_step logs (drop (place + 1) ss) ≡ young_step logs (drop place ss)
  reaches_back none = sym (from_here ∙ ap (λ (o : Option Refusal). or_then o (young_step logs (drop (place + 1) ss))) none)

  -- where it doesn't, no other counts
  pub too_young : (why : Refusal) → said ≡ Some why → Some why ≡ young_step logs (drop place ss)
  too_young why is = sym (from_here ∙ ap (λ (o : Option Refusal). or_then o (young_step logs (drop (place + 1) ss))) is)
