-- Arrivals at their places, in rising order of position.
use Rattle.std.proofs.Common.{◌≡◌, ℕ, zero, suc, List, [], ◌∷◌, Some, refl, subst}
use Rattle.std.specs.Prelude.{slice_get}
use Rattle.std.specs.List.{AllByRecursion}
use Rattle.std.specs.declared.cmp.Ordering.TheVariants.{Less}
use Rattle.std.proofs.lemmas.Cmp.{nat_cmp_total, tied_itself}
use Rattle.std.proofs.lemmas.Option.{slice_get_within}
use Rattle.rep_lists.specs.Rising.{IsRising, find_at}
use Rattle.rep_lists.proofs.Each.{each_found}
use Rattle.site_state.specs.declared.arrival.Arrival.{Arrival}
use Rattle.site_state.specs.State.{arrival_beside}
use Rattle.sender_inbox.specs.Incoming.{by_position}

-- of the arrival at a place holds what holds of each
pub of_each : (P : Arrival → Type 0) (xs : List Arrival) (k : ℕ) (a : Arrival) → AllByRecursion P xs → slice_get xs k ≡ Some a → P a
of_each P xs k a all there =
    let found = each_found P xs k (slice_get_within xs k a there) all in
    let one = found.1 in
    let same : found.0 ≡ a = cc (one, there) in
    subst P same found.2

-- what stands at a place is found under its position
pub find_at-own : (xs : List Arrival) (k : ℕ) (a : Arrival) → IsRising by_position xs → slice_get xs k ≡ Some a → find_at (arrival_beside a.position) xs ≡ Some a
find_at-own [] k a rising there = cc
find_at-own (x ∷ xs) zero a rising there = let same : x ≡ a = cc in rw (same, tied_itself nat_cmp_total a.position) refl
find_at-own (x ∷ xs) (suc k) a rising there = rw (of_each (λ (y : Arrival). by_position x y ≡ Less) xs k a rising.0 there) (find_at-own xs k a rising.1 there)
