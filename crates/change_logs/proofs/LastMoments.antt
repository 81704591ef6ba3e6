-- The last moment of a key, after a key was noted and after a purge.
use Rattle.std.proofs.Common.{◌≡◌, ◌≢◌, ℕ, Bool, true, false, cond, List, [], ◌∷◌, Some, None, refl, sym, ap, ◌∙◌}
use Rattle.std.specs.Prelude.{nat_lt, Option, option_map}
use Rattle.std.specs.List.{AllByRecursion, filter}
use Rattle.std.specs.Ordering.{ordering_reverse}
use Rattle.std.specs.declared.cmp.Ordering.{Ordering}
use Rattle.std.specs.declared.cmp.Ordering.TheVariants.{Less, Equal, Greater}
use Rattle.rep_lists.specs.Rising.{IsRising, find_at, found_here}
use Rattle.rep_lists.proofs.FoundByKey.{find_put_own, find_put_other}
use Rattle.rep_values.specs.Order.{key_cmp}
use Rattle.rep_values.specs.OrderLaws.{key_cmp_total, exact_keys}
use Rattle.rep_schema.specs.Tables.{Cells}
use Rattle.change_logs.specs.LogState.{LoggedKey, LogState, log_purged}
use Rattle.change_logs.specs.Noting.{beside_key}
use Rattle.change_logs.specs.Logs.{by_key, key_noted, moment_in}
use Rattle.change_logs.specs.LogLaws.{unless_up_to}
use Rattle.change_logs.proofs.KeysLeft.{all_left}

abbrev moment_found : Option LoggedKey → Option ℕ
moment_found found = option_map (λ (logged : LoggedKey). logged.moment) found

pub moment_in-noted : (moment : ℕ) (key : Cells) (log : LogState) → moment_in key (key_noted moment key log) ≡ Some moment
moment_in-noted moment key log = ap moment_found (find_put_own (λ (logged : LoggedKey). logged.key) key_cmp key_cmp_total (record { key = key; moment = moment }) log.keys)

pub moment_in-other : (moment : ℕ) (key other : Cells) (log : LogState) → key ≢ other → moment_in other (key_noted moment key log) ≡ moment_in other log
moment_in-other moment key other log differ =
    ap moment_found (find_put_other (λ (logged : LoggedKey). logged.key) key_cmp key_cmp_total (record { key = key; moment = moment }) other log.keys (λ tied. differ (exact_keys key other tied)))

-- what is above a logged key is above each key that it isn't below
above_key : (key : Cells) (x z : LoggedKey) → beside_key key x ≢ Less → by_key x z ≡ Less → beside_key key z ≡ Greater
above_key key x z past below = go (key_cmp x.key key) refl
  where
    go : (o : Ordering) → key_cmp x.key key ≡ o → key_cmp z.key key ≡ Greater
    go Less place = absurd (past place)
    go Equal place = key_cmp_total.antisymm z.key key ∙ ap ordering_reverse (sym (key_cmp_total.congr x.key key z.key place) ∙ below)
    go Greater place = key_cmp_total.antisymm z.key key ∙ ap ordering_reverse (key_cmp_total.trans key x.key z.key (key_cmp_total.antisymm key x.key ∙ ap ordering_reverse place) below)

find_behind : (key : Cells) (x : LoggedKey) (xs : List LoggedKey) → beside_key key x ≢ Less → AllByRecursion (λ z. by_key x z ≡ Less) xs → find_at (beside_key key) xs ≡ None
find_behind key x [] past all = refl
find_behind key x (z ∷ zs) past all = rw (above_key key x z past all.0)

module _ (mark : ℕ) (key : Cells) where
  abbrev stays : LoggedKey → Bool
  stays logged = nat_lt mark logged.moment

  left : (xs : List LoggedKey) → IsRising by_key xs → moment_found (find_at (beside_key key) (filter stays xs)) ≡ unless_up_to mark (moment_found (find_at (beside_key key) xs))
  left [] rising = refl
  left (x ∷ xs) rising = go (stays x) refl (beside_key key x) refl (left xs rising.1)
    where
      behind : beside_key key x ≢ Less → find_at (beside_key key) (filter stays xs) ≡ None
      behind past = find_behind key x (filter stays xs) past (all_left stays (λ z. by_key x z ≡ Less) xs rising.0)

      go : (b : Bool) → stays x ≡ b → (o : Ordering) → beside_key key x ≡ o → moment_found (find_at (beside_key key) (filter stays xs)) ≡ unless_up_to mark (moment_found (find_at (beside_key key) xs))
          → moment_found (find_at (beside_key key) (cond b (x ∷ filter stays xs) (filter stays xs))) ≡ unless_up_to mark (moment_found (found_here o x (find_at (beside_key key) xs)))
      go true eb Less eo later = rw eo later
      go true eb Equal eo later = rw (eo, eb) refl
      go true eb Greater eo later = rw eo refl
      go false eb Less eo later = later
      go false eb Equal eo later = rw (eb, behind (λ less. absurd (cc (eo, less)))) refl
      go false eb Greater eo later = rw (behind (λ less. absurd (cc (eo, less)))) refl

  pub moment_in-purged : (log : LogState) → IsRising by_key log.keys → moment_in key (log_purged mark log) ≡ unless_up_to mark (moment_in key log)
  moment_in-purged log rising = left log.keys rising
