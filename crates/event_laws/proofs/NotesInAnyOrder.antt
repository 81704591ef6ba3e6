-- Changed rows are noted in any order.
use Rattle.std.proofs.Common.{◌≡◌, ℕ, List, [], ◌∷◌, map, refl, sym, ap, ◌∙◌}
use Rattle.std.specs.Cmp.{IsTotalOrder}
use Rattle.std.proofs.lemmas.Map.Lookups.{CmpEqualImpliesEq}
use Rattle.std.specs.Ordering.{ordering_reverse}
use Rattle.std.specs.declared.cmp.Ordering.{Ordering}
use Rattle.std.specs.declared.cmp.Ordering.TheVariants.{Less, Equal, Greater}
use Rattle.rep_lists.specs.Rising.{put_at, put_here}
use Rattle.rep_values.specs.Order.{key_cmp}
use Rattle.rep_values.specs.OrderLaws.{key_cmp_total, exact_keys}
use Rattle.rep_schema.specs.declared.schema.Schema.{Schema}
use Rattle.rep_schema.specs.declared.change.Change.{Change}
use Rattle.rep_schema.specs.Tables.{Cells}
use Rattle.snapshot_query.specs.declared.snapshot.Snapshot.{Snapshot}
use Rattle.change_logs.specs.LogState.{LoggedKey, LogState}
use Rattle.change_logs.specs.Noting.{keys_changed, logged_each, logged_in, with_keys, touched_in}

-- ---- two puts

module _ {X K : Type 0} (key : X → K) (R : K → K → Ordering) (total : IsTotalOrder R) (exact : CmpEqualImpliesEq R) (make : K → X) (has : (k : K) → key (make k) ≡ k) where
  -- what is made for a key is put there
  abbrev pub put : K → List X → List X
  put k xs = put_at (λ x. R (key x) k) (make k) xs

  put_lower : (k j : K) (xs : List X) → R k j ≡ Less → put j (put k xs) ≡ put k (put j xs)
  put_lower k j [] less = rw (has k, less, has j, above) refl
    where
      above : R j k ≡ Greater
      above = total.antisymm j k ∙ ap ordering_reverse less
  put_lower k j (x ∷ xs) less = go (R (key x) k) refl (R (key x) j) refl (put_lower k j xs less)
    where
      above : R j k ≡ Greater
      above = total.antisymm j k ∙ ap ordering_reverse less

      made : R (key (make k)) j ≡ Less
      made = ap (λ l. R l j) (has k) ∙ less

      made_above : R (key (make j)) k ≡ Greater
      made_above = ap (λ l. R l k) (has j) ∙ above

      go : (a : Ordering) → R (key x) k ≡ a → (b : Ordering) → R (key x) j ≡ b → put j (put k xs) ≡ put k (put j xs)
          → put j (put_here a (make k) x xs (put k xs)) ≡ put k (put_here b (make j) x xs (put j xs))
      go Less is Less other later = rw (is, other) (ap (λ t. x ∷ t) later)
      go Less is Equal other later = absurd (cc (total.trans (key x) k j is less, other))
      go Less is Greater other later = absurd (cc (total.trans (key x) k j is less, other))
      go Equal is Less other later = rw (is, made) refl
      go Equal is Equal other later = absurd (cc (total.congr (key x) k j is, less, other))
      go Equal is Greater other later = absurd (cc (total.congr (key x) k j is, less, other))
      go Greater is Less other later = rw (is, made, other) refl
      go Greater is Equal other later = rw (made, other, made_above) refl
      go Greater is Greater other later = rw (made, other, made_above) refl

  pub put_either : (k j : K) (xs : List X) → put j (put k xs) ≡ put k (put j xs)
  put_either k j xs = go (R k j) refl
    where
      go : (o : Ordering) → R k j ≡ o → put j (put k xs) ≡ put k (put j xs)
      go Less is = put_lower k j xs is
      go Equal is = let same : k ≡ j = exact k j is in rw same refl
      go Greater is = sym (put_lower j k xs (total.antisymm j k ∙ ap ordering_reverse is))

-- ---- many of them

module _ {K L : Type 0} (put : K → L → L) (either : (k j : K) (l : L) → put j (put k l) ≡ put k (put j l)) where
  abbrev pub put_each : List K → L → L
  put_each [] l = l
  put_each (k ∷ ks) l = put_each ks (put k l)

  one_each : (ks : List K) (j : K) (l : L) → put_each ks (put j l) ≡ put j (put_each ks l)
  one_each [] j l = refl
  one_each (k ∷ ks) j l = ap (put_each ks) (either j k l) ∙ one_each ks j (put k l)

  pub each_either : (ks js : List K) (l : L) → put_each ks (put_each js l) ≡ put_each js (put_each ks l)
  each_either [] js l = refl
  each_either (k ∷ ks) js l = ap (put_each ks) (sym (one_each js k l)) ∙ each_either ks js (put k l)

-- ---- logs and snapshots

abbrev log_key : ℕ → Cells → List LoggedKey → List LoggedKey
log_key moment = put (λ (l : LoggedKey). l.key) key_cmp key_cmp_total exact_keys (λ (k : Cells). record { key = k; moment = moment }) (λ k. refl)

log_either : (moment : ℕ) (k j : Cells) (keys : List LoggedKey) → log_key moment j (log_key moment k keys) ≡ log_key moment k (log_key moment j keys)
log_either moment = put_either (λ (l : LoggedKey). l.key) key_cmp key_cmp_total exact_keys (λ (k : Cells). record { key = k; moment = moment }) (λ k. refl)

logged_each-is : (moment : ℕ) (ks : List Cells) (keys : List LoggedKey) → logged_each moment ks keys ≡ put_each (log_key moment) (log_either moment) ks keys
logged_each-is moment [] keys = refl
logged_each-is moment (k ∷ ks) keys = logged_each-is moment ks (log_key moment k keys)

logged_either : (moment : ℕ) (ks js : List Cells) (keys : List LoggedKey) → logged_each moment ks (logged_each moment js keys) ≡ logged_each moment js (logged_each moment ks keys)
logged_either moment ks js keys =
    logged_each-is moment ks (logged_each moment js keys) ∙ ap (put_each (log_key moment) (log_either moment) ks) (logged_each-is moment js keys)
    ∙ each_either (log_key moment) (log_either moment) ks js keys
    ∙ ap (put_each (log_key moment) (log_either moment) js) (sym (logged_each-is moment ks keys)) ∙ sym (logged_each-is moment js (logged_each moment ks keys))

abbrev touch_key : Cells → List Cells → List Cells
touch_key = put (λ (k : Cells). k) key_cmp key_cmp_total exact_keys (λ (k : Cells). k) (λ k. refl)

touch_either : (k j : Cells) (keys : List Cells) → touch_key j (touch_key k keys) ≡ touch_key k (touch_key j keys)
touch_either = put_either (λ (k : Cells). k) key_cmp key_cmp_total exact_keys (λ (k : Cells). k) (λ k. refl)

with_keys-is : (ks keys : List Cells) → with_keys ks keys ≡ put_each touch_key touch_either ks keys
with_keys-is [] keys = refl
with_keys-is (k ∷ ks) keys = with_keys-is ks (touch_key k keys)

touched_either : (ks js keys : List Cells) → with_keys ks (with_keys js keys) ≡ with_keys js (with_keys ks keys)
touched_either ks js keys =
    with_keys-is ks (with_keys js keys) ∙ ap (put_each touch_key touch_either ks) (with_keys-is js keys)
    ∙ each_either touch_key touch_either ks js keys
    ∙ ap (put_each touch_key touch_either js) (sym (with_keys-is ks keys)) ∙ sym (with_keys-is js (with_keys ks keys))

-- changes are noted in the logs in any order
pub logs_either : (schema : Schema) (moment : ℕ) (one other : List Change) (logs : List LogState)
    → map (logged_in schema moment one) (map (logged_in schema moment other) logs) ≡ map (logged_in schema moment other) (map (logged_in schema moment one) logs)
logs_either schema moment one other [] = refl
logs_either schema moment one other (log ∷ logs) = λ i.
    record log { keys = logged_either moment (keys_changed schema log.table one) (keys_changed schema log.table other) log.keys i } ∷ logs_either schema moment one other logs i

-- and at the snapshots
pub snapshots_either : (schema : Schema) (one other : List Change) (snapshots : List Snapshot)
    → map (touched_in schema one) (map (touched_in schema other) snapshots) ≡ map (touched_in schema other) (map (touched_in schema one) snapshots)
snapshots_either schema one other [] = refl
snapshots_either schema one other (snapshot ∷ snapshots) = λ i.
    record snapshot { touched = touched_either (keys_changed schema snapshot.table one) (keys_changed schema snapshot.table other) snapshot.touched i } ∷ snapshots_either schema one other snapshots i

-- where nothing changed, all is as before
pub logs_unchanged : (schema : Schema) (moment : ℕ) (logs : List LogState) → map (logged_in schema moment []) logs ≡ logs
logs_unchanged schema moment [] = refl
logs_unchanged schema moment (log ∷ logs) = ap (λ t. log ∷ t) (logs_unchanged schema moment logs)

pub snapshots_unchanged : (schema : Schema) (snapshots : List Snapshot) → map (touched_in schema []) snapshots ≡ snapshots
snapshots_unchanged schema [] = refl
snapshots_unchanged schema (snapshot ∷ snapshots) = ap (λ t. snapshot ∷ t) (snapshots_unchanged schema snapshots)
