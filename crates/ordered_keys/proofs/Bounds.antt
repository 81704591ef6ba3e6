-- Entries whose moments are bounded, beside a mark.
use Rattle.std.proofs.Common.{◌≡◌, ℕ, ◌<◌, ◌≤◌, true, false, List, [], ◌∷◌, refl, ap, arith}
use Rattle.std.specs.Prelude.{nat_lt}
use Rattle.std.specs.List.{AllByRecursion}
use Rattle.std.proofs.lemmas.Bool.Decides.{nat_tests}
use Rattle.ordered_keys.specs.Keys.{entries_above}

module _ {E : Type 0} (moment : E → ℕ) (mark : ℕ) where
  -- a last moment up to the mark leaves none
  pub none_above : (last : ℕ) (es : List E) → AllByRecursion (λ e. moment e ≤ last) es → last ≤ mark → entries_above moment mark es ≡ []
  none_above last [] all up_to = refl
  none_above last (e ∷ es) all up_to =
      let here : nat_lt mark (moment e) ≡ false = grind (arith, nat_tests, all.0, up_to) in
      rw (here, none_above last es all.1 up_to) refl

  -- a first moment above it leaves all
  pub all_above : (first : ℕ) (es : List E) → AllByRecursion (λ e. first ≤ moment e) es → mark < first → entries_above moment mark es ≡ es
  all_above first [] all above = refl
  all_above first (e ∷ es) all above =
      let here : nat_lt mark (moment e) ≡ true = grind (arith, nat_tests, all.0, above) in
      rw here (ap (λ more. e ∷ more) (all_above first es all.1 above))
