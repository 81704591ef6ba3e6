-- The keys in the log of the parents rise, and so do the pending parents: each comes once.
use Rattle.std.proofs.Common.{◌≡◌, ℕ, ◌==◌, List, [], ◌∷◌, map, Bool, true, false, cond, Some, None}
use Rattle.std.specs.Prelude.{Option, filter, nat_lt}
use Rattle.std.specs.declared.cmp.Ordering.{Ordering}
use Rattle.std.specs.declared.cmp.Ordering.TheVariants.{Less}
use Rattle.rep_lists.specs.Rising.{IsRising, put_at}
use Rattle.rep_lists.proofs.Rising.{rising_put}
use Rattle.rep_values.specs.Order.{key_cmp}
use Rattle.rep_values.specs.OrderLaws.{key_cmp_total}
use Rattle.rep_schema.specs.declared.schema.Schema.{Schema}
use Rattle.rep_schema.specs.declared.change.Change.{Change}
use Rattle.rep_schema.specs.Tables.{Cells}
use Rattle.rep_schema.proofs.FilteredRows.{all_filter}
use Rattle.snapshot_query.specs.declared.parent.Parent.{Parent}
use Rattle.change_logs.specs.LogState.{LoggedKey, LogState, log_purged, purged_where}
use Rattle.change_logs.specs.Noting.{keys_changed, beside_key, logged_each, logged_in, log_of, keys_in}
use Rattle.site_events.specs.Rules.{parents_above}
use Rattle.event_laws.specs.WaitingRows.{logged_cmp, DoParentsRise}
use Rattle.event_laws.proofs.Keys.{table-purged_where}
use Rattle.event_laws.proofs.Moves.{all_map}

rising-logged_each : (moment : ℕ) (keys : List Cells) (ls : List LoggedKey) → IsRising logged_cmp ls → IsRising logged_cmp (logged_each moment keys ls)
rising-logged_each moment [] ls rising = rising
rising-logged_each moment (k ∷ keys) ls rising = rising-logged_each moment keys (put_at (beside_key k) (record { key = k; moment = moment }) ls)
    (rising_put (λ (l : LoggedKey). l.key) key_cmp key_cmp_total (record { key = k; moment = moment }) ls rising)

-- those of rising values that pass a test rise
rising-filtered : {X : Type 0} (cmp : X → X → Ordering) (test : X → Bool) (xs : List X) → IsRising cmp xs → IsRising cmp (filter test xs)
rising-filtered cmp test [] rising = tt
rising-filtered cmp test (x ∷ xs) rising = go (test x) (rising-filtered cmp test xs rising.1)
  where
    go : (b : Bool) → IsRising cmp (filter test xs) → IsRising cmp (cond b (x ∷ filter test xs) (filter test xs))
    go true later = (all_filter (λ y. cmp x y ≡ Less) test xs rising.0, later)
    go false later = later

rising-keys : (ls : List LoggedKey) → IsRising logged_cmp ls → IsRising key_cmp (map (λ (l : LoggedKey). l.key) ls)
rising-keys [] rising = tt
rising-keys (l ∷ ls) rising = (all_map (λ (k : LoggedKey). logged_cmp l k ≡ Less) (λ (k : Cells). key_cmp l.key k ≡ Less) (λ (k : LoggedKey). k.key) ls (λ k less. less) rising.0, rising-keys ls rising.1)

-- ---- the log of a table

module _ (schema : Schema) (moment : ℕ) (changes : List Change) (table : ℕ) where
  rising-logged : (logs : List LogState) → IsRising logged_cmp (keys_in (log_of table logs)) → IsRising logged_cmp (keys_in (log_of table (map (logged_in schema moment changes) logs)))
  rising-logged [] rising = tt
  rising-logged (log ∷ logs) rising = go (log.table == table) rising (rising-logged logs)
    where
      go : (b : Bool) → IsRising logged_cmp (keys_in (cond b (Some log) (log_of table logs)))
          → (IsRising logged_cmp (keys_in (log_of table logs)) → IsRising logged_cmp (keys_in (log_of table (map (logged_in schema moment changes) logs))))
          → IsRising logged_cmp (keys_in (cond b (Some (logged_in schema moment changes log)) (log_of table (map (logged_in schema moment changes) logs))))
      go true rising later = rising-logged_each moment (keys_changed schema log.table changes) log.keys rising
      go false rising later = later rising

pub parents_rise-logged : (schema : Schema) (moment : ℕ) (changes : List Change) (logs : List LogState) (parent : Option Parent) → DoParentsRise logs parent → DoParentsRise (map (logged_in schema moment changes) logs) parent
parents_rise-logged schema moment changes logs None rising = tt
parents_rise-logged schema moment changes logs (Some p) rising = rising-logged schema moment changes p.table logs rising

module _ (at moment table : ℕ) where
  rising-one : (log : LogState) → IsRising logged_cmp log.keys → IsRising logged_cmp (purged_where at moment log).keys
  rising-one log rising = go (log.table == at)
    where
      go : (b : Bool) → IsRising logged_cmp (cond b (log_purged moment log) log).keys
      go true = rising-filtered logged_cmp (λ (l : LoggedKey). nat_lt moment l.moment) log.keys rising
      go false = rising

  rising-purged : (logs : List LogState) → IsRising logged_cmp (keys_in (log_of table logs)) → IsRising logged_cmp (keys_in (log_of table (map (purged_where at moment) logs)))
  rising-purged [] rising = tt
  rising-purged (log ∷ logs) rising = rw (table-purged_where at moment log) (go (log.table == table) rising (rising-purged logs))
    where
      go : (b : Bool) → IsRising logged_cmp (keys_in (cond b (Some log) (log_of table logs)))
          → (IsRising logged_cmp (keys_in (log_of table logs)) → IsRising logged_cmp (keys_in (log_of table (map (purged_where at moment) logs))))
          → IsRising logged_cmp (keys_in (cond b (Some (purged_where at moment log)) (log_of table (map (purged_where at moment) logs))))
      go true rising later = rising-one log rising
      go false rising later = later rising

pub parents_rise-purged : (at moment : ℕ) (logs : List LogState) (parent : Option Parent) → DoParentsRise logs parent → DoParentsRise (map (purged_where at moment) logs) parent
parents_rise-purged at moment logs None rising = tt
parents_rise-purged at moment logs (Some p) rising = rising-purged at moment p.table logs rising

-- ---- what is looked up

pub rising_parents : (logs : List LogState) (mark : ℕ) (parent : Option Parent) → DoParentsRise logs parent → IsRising key_cmp (parents_above logs mark parent)
rising_parents logs mark None rising = tt
rising_parents logs mark (Some p) rising = rising-keys (filter (λ (l : LoggedKey). nat_lt mark l.moment) (keys_in (log_of p.table logs)))
    (rising-filtered logged_cmp (λ (l : LoggedKey). nat_lt mark l.moment) (keys_in (log_of p.table logs)) rising)
