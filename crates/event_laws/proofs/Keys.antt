-- Which keys are logged and touched after changes.
use Rattle.std.proofs.Common.{◌≡◌, ℕ, ◌<◌, ◌≤◌, ◌==◌, List, [], ◌∷◌, map, Bool, true, false, cond, Some, refl, arith}
use Rattle.std.specs.Prelude.{◌||◌, nat_lt, is_some, filter}
use Rattle.std.proofs.lemmas.Bool.Decides.{nat_tests}
use Rattle.std.specs.declared.cmp.Ordering.{Ordering}
use Rattle.std.specs.declared.cmp.Ordering.TheVariants.{Less, Equal, Greater}
use Rattle.rep_lists.specs.Rising.{put_at, put_here}
use Rattle.rep_values.specs.Order.{key_cmp}
use Rattle.rep_values.specs.OrderLaws.{exact_keys}
use Rattle.rep_schema.specs.declared.schema.Schema.{Schema}
use Rattle.rep_schema.specs.declared.change.Change.{Change}
use Rattle.rep_schema.specs.Tables.{Cells}
use Rattle.rep_schema.specs.Groups.{are_same}
use Rattle.rep_schema.proofs.ValuesAt.{are_same-Decides}
use Rattle.change_logs.specs.LogState.{LoggedKey, LogState, log_purged, purged_where}
use Rattle.change_logs.specs.Noting.{keys_changed, beside_key, logged_each, logged_in, with_keys, log_of, keys_in, purged_in, purged_of, logged_above}
use Rattle.refreshes.specs.Showing.{has_key}

-- ---- a key among keys

-- neither of two tests
pub neither : (b c : Bool) → (b || c) ≡ false → (b ≡ false) × (c ≡ false)
neither true c none = absurd (cc none)
neither false c none = (refl, none)

pub both_fail : (b c : Bool) → b ≡ false → c ≡ false → (b || c) ≡ false
both_fail b c first second = rw (first, second) refl

pub same_key : (key k : Cells) → are_same key k ≡ true → key ≡ k
same_key key k is = (are_same-Decides key k).0 is

pub same_own : (key : Cells) → are_same key key ≡ true
same_own key = (are_same-Decides key key).1 refl

-- a key that isn't among keys after a put isn't the one that was put, and wasn't among them
has_key-put : (key k : Cells) (keys : List Cells) → has_key key (put_at (λ x. key_cmp x k) k keys) ≡ false → (are_same key k ≡ false) × (has_key key keys ≡ false)
has_key-put key k [] none = ((neither (are_same key k) false none).0, refl)
has_key-put key k (x ∷ xs) none = go (key_cmp x k) refl (has_key-put key k xs) none
  where
    go : (o : Ordering) → key_cmp x k ≡ o → (has_key key (put_at (λ x. key_cmp x k) k xs) ≡ false → (are_same key k ≡ false) × (has_key key xs ≡ false))
        → has_key key (put_here o k x xs (put_at (λ x. key_cmp x k) k xs)) ≡ false → (are_same key k ≡ false) × ((are_same key x || has_key key xs) ≡ false)
    go Less is later none =
        let first = neither (are_same key x) (has_key key (put_at (λ x. key_cmp x k) k xs)) none in
        let rest = later first.1 in
        (rest.0, both_fail (are_same key x) (has_key key xs) first.0 rest.1)
    go Equal is later none =
        let first = neither (are_same key k) (has_key key xs) none in
        let same : x ≡ k = exact_keys x k is in
        (first.0, both_fail (are_same key x) (has_key key xs) (rw same first.0) first.1)
    go Greater is later none = neither (are_same key k) (are_same key x || has_key key xs) none

-- a key that isn't among keys with more of them is none of these, and wasn't among the keys
pub has_key-with_keys : (key : Cells) (more keys : List Cells) → has_key key (with_keys more keys) ≡ false → (has_key key more ≡ false) × (has_key key keys ≡ false)
has_key-with_keys key [] keys none = (refl, none)
has_key-with_keys key (k ∷ more) keys none =
    let rest = has_key-with_keys key more (put_at (λ x. key_cmp x k) k keys) none in
    let first = has_key-put key k keys rest.1 in
    (both_fail (are_same key k) (has_key key more) first.0 rest.0, first.1)

-- ---- a key logged above a mark

abbrev above_mark : ℕ → LoggedKey → Bool
above_mark mark l = nat_lt mark l.moment

logged_split : (mark : ℕ) (key : Cells) (l : LoggedKey) (ls : List LoggedKey) → has_key key (logged_above mark (l ∷ ls)) ≡ false
    → (above_mark mark l ≡ true → are_same key l.key ≡ false) × (has_key key (logged_above mark ls) ≡ false)
logged_split mark key l ls none = go (above_mark mark l) none
  where
    go : (b : Bool) → has_key key (map (λ (l : LoggedKey). l.key) (cond b (l ∷ filter (above_mark mark) ls) (filter (above_mark mark) ls))) ≡ false
        → (b ≡ true → are_same key l.key ≡ false) × (has_key key (logged_above mark ls) ≡ false)
    go true none = let both = neither (are_same key l.key) (has_key key (logged_above mark ls)) none in ((λ is. both.0), both.1)
    go false none = ((λ is. absurd (cc is)), none)

logged_join : (mark : ℕ) (key : Cells) (l : LoggedKey) (ls : List LoggedKey) → (above_mark mark l ≡ true → are_same key l.key ≡ false) → has_key key (logged_above mark ls) ≡ false
    → has_key key (logged_above mark (l ∷ ls)) ≡ false
logged_join mark key l ls one rest = go (above_mark mark l) one
  where
    go : (b : Bool) → (b ≡ true → are_same key l.key ≡ false)
        → has_key key (map (λ (l : LoggedKey). l.key) (cond b (l ∷ filter (above_mark mark) ls) (filter (above_mark mark) ls))) ≡ false
    go true one = both_fail (are_same key l.key) (has_key key (logged_above mark ls)) (one refl) rest
    go false one = rest

is_above : (mark moment : ℕ) → mark < moment → nat_lt mark moment ≡ true
is_above mark moment less = grind (arith, nat_tests)

logged-put : (mark moment : ℕ) (key k : Cells) (ls : List LoggedKey) → mark < moment → has_key key (logged_above mark (put_at (beside_key k) (record { key = k; moment = moment }) ls)) ≡ false
    → (are_same key k ≡ false) × (has_key key (logged_above mark ls) ≡ false)
logged-put mark moment key k [] less none = ((logged_split mark key (record { key = k; moment = moment }) [] none).0 (is_above mark moment less), refl)
logged-put mark moment key k (l ∷ ls) less none = go (beside_key k l) refl (logged-put mark moment key k ls less) none
  where
    new : LoggedKey
    new = record { key = k; moment = moment }

    go : (o : Ordering) → beside_key k l ≡ o
        → (has_key key (logged_above mark (put_at (beside_key k) new ls)) ≡ false → (are_same key k ≡ false) × (has_key key (logged_above mark ls) ≡ false))
        → has_key key (logged_above mark (put_here o new l ls (put_at (beside_key k) new ls))) ≡ false → (are_same key k ≡ false) × (has_key key (logged_above mark (l ∷ ls)) ≡ false)
    go Less is later none =
        let first = logged_split mark key l (put_at (beside_key k) new ls) none in
        let rest = later first.1 in
        (rest.0, logged_join mark key l ls first.0 rest.1)
    go Equal is later none =
        let first = logged_split mark key new ls none in
        let other : are_same key k ≡ false = first.0 (is_above mark moment less) in
        let same : l.key ≡ k = exact_keys l.key k is in
        (other, logged_join mark key l ls (λ above. rw same other) first.1)
    go Greater is later none =
        let first = logged_split mark key new (l ∷ ls) none in
        (first.0 (is_above mark moment less), first.1)

-- keys are logged at a moment above the mark: what isn't logged above it then is none of them, and wasn't before
logged-each : (mark moment : ℕ) (key : Cells) (keys : List Cells) (ls : List LoggedKey) → mark < moment → has_key key (logged_above mark (logged_each moment keys ls)) ≡ false
    → (has_key key keys ≡ false) × (has_key key (logged_above mark ls) ≡ false)
logged-each mark moment key [] ls less none = (refl, none)
logged-each mark moment key (k ∷ keys) ls less none =
    let rest = logged-each mark moment key keys (put_at (beside_key k) (record { key = k; moment = moment }) ls) less none in
    let first = logged-put mark moment key k ls less rest.1 in
    (both_fail (are_same key k) (has_key key keys) first.0 rest.0, first.1)

-- what a purge up to a moment takes isn't logged above a mark that isn't below it
logged-purged : (mark moment : ℕ) (key : Cells) (ls : List LoggedKey) → moment ≤ mark → has_key key (logged_above mark (filter (above_mark moment) ls)) ≡ false → has_key key (logged_above mark ls) ≡ false
logged-purged mark moment key [] le none = refl
logged-purged mark moment key (l ∷ ls) le none = go (above_mark moment l) refl none (logged-purged mark moment key ls le)
  where
    go : (b : Bool) → above_mark moment l ≡ b → has_key key (logged_above mark (cond b (l ∷ filter (above_mark moment) ls) (filter (above_mark moment) ls))) ≡ false
        → (has_key key (logged_above mark (filter (above_mark moment) ls)) ≡ false → has_key key (logged_above mark ls) ≡ false) → has_key key (logged_above mark (l ∷ ls)) ≡ false
    go true is none later = let first = logged_split mark key l (filter (above_mark moment) ls) none in logged_join mark key l ls first.0 (later first.1)
    go false is none later = logged_join mark key l ls (λ above. absurd (grind (arith, nat_tests, le, is, above))) (later none)

-- ---- the log of a table

-- the keys that the log of a table tells of, above a mark
abbrev pub told : ℕ → ℕ → List LogState → List Cells
told table mark logs = logged_above mark (keys_in (log_of table logs))

module _ (schema : Schema) (moment : ℕ) (changes : List Change) (table : ℕ) where
  -- a log that is there is there after changes
  pub is_some-logged : (logs : List LogState) → is_some (log_of table (map (logged_in schema moment changes) logs)) ≡ is_some (log_of table logs)
  is_some-logged [] = refl
  is_some-logged (log ∷ logs) = go (log.table == table) (is_some-logged logs)
    where
      go : (b : Bool) → is_some (log_of table (map (logged_in schema moment changes) logs)) ≡ is_some (log_of table logs)
          → is_some (cond b (Some (logged_in schema moment changes log)) (log_of table (map (logged_in schema moment changes) logs))) ≡ is_some (cond b (Some log) (log_of table logs))
      go true later = refl
      go false later = later

  -- and purged up to the same moment
  pub purged_of-logged : (logs : List LogState) → purged_of table (map (logged_in schema moment changes) logs) ≡ purged_of table logs
  purged_of-logged [] = refl
  purged_of-logged (log ∷ logs) = go (log.table == table) (purged_of-logged logs)
    where
      go : (b : Bool) → purged_of table (map (logged_in schema moment changes) logs) ≡ purged_of table logs
          → purged_in (cond b (Some (logged_in schema moment changes log)) (log_of table (map (logged_in schema moment changes) logs))) ≡ purged_in (cond b (Some log) (log_of table logs))
      go true later = refl
      go false later = later

  -- what a log doesn't tell of after changes at a moment above the mark wasn't changed, and it didn't tell of it before
  pub told-logged : (mark : ℕ) (key : Cells) (logs : List LogState) → is_some (log_of table logs) ≡ true → mark < moment → has_key key (told table mark (map (logged_in schema moment changes) logs)) ≡ false
      → (has_key key (keys_changed schema table changes) ≡ false) × (has_key key (told table mark logs) ≡ false)
  told-logged mark key [] there less none = absurd (cc there)
  told-logged mark key (log ∷ logs) there less none = go (log.table == table) refl (told-logged mark key logs) there none
    where
      go : (b : Bool) → (log.table == table) ≡ b
          → (is_some (log_of table logs) ≡ true → mark < moment → has_key key (told table mark (map (logged_in schema moment changes) logs)) ≡ false
          → (has_key key (keys_changed schema table changes) ≡ false) × (has_key key (told table mark logs) ≡ false))
          → is_some (cond b (Some log) (log_of table logs)) ≡ true
          → has_key key (logged_above mark (keys_in (cond b (Some (logged_in schema moment changes log)) (log_of table (map (logged_in schema moment changes) logs))))) ≡ false
          → (has_key key (keys_changed schema table changes) ≡ false) × (has_key key (logged_above mark (keys_in (cond b (Some log) (log_of table logs)))) ≡ false)
      go true is later there none =
          let same : log.table ≡ table = grind (arith, nat_tests) in
          logged-each mark moment key (keys_changed schema table changes) log.keys less (rw (← same) none)
      go false is later there none = later there less none

module _ (at moment : ℕ) where
  pub table-purged_where : (log : LogState) → (purged_where at moment log).table ≡ log.table
  table-purged_where log = go (log.table == at)
    where
      go : (b : Bool) → (cond b (log_purged moment log) log).table ≡ log.table
      go true = refl
      go false = refl

  one_purged : (mark : ℕ) (key : Cells) (log : LogState) → (purged_where at moment log).purged ≤ mark → has_key key (logged_above mark (purged_where at moment log).keys) ≡ false
      → (log.purged ≤ mark) × (has_key key (logged_above mark log.keys) ≡ false)
  one_purged mark key log le none = go (log.table == at) le none
    where
      go : (b : Bool) → (cond b (log_purged moment log) log).purged ≤ mark → has_key key (logged_above mark (cond b (log_purged moment log) log).keys) ≡ false
          → (log.purged ≤ mark) × (has_key key (logged_above mark log.keys) ≡ false)
      go true le none = (omega (arith, le), logged-purged mark moment key log.keys (omega (arith, le)) none)
      go false le none = (le, none)

  module _ (table : ℕ) where
    -- a log that is there is there after a purge
    pub is_some-purged : (logs : List LogState) → is_some (log_of table (map (purged_where at moment) logs)) ≡ is_some (log_of table logs)
    is_some-purged [] = refl
    is_some-purged (log ∷ logs) = rw (table-purged_where log) (go (log.table == table) (is_some-purged logs))
      where
        go : (b : Bool) → is_some (log_of table (map (purged_where at moment) logs)) ≡ is_some (log_of table logs)
            → is_some (cond b (Some (purged_where at moment log)) (log_of table (map (purged_where at moment) logs))) ≡ is_some (cond b (Some log) (log_of table logs))
        go true later = refl
        go false later = later

    -- where a log isn't purged above a mark, it wasn't before, and what it doesn't tell of above the mark it didn't
    pub told-purged : (mark : ℕ) (key : Cells) (logs : List LogState) → purged_of table (map (purged_where at moment) logs) ≤ mark → has_key key (told table mark (map (purged_where at moment) logs)) ≡ false
        → (purged_of table logs ≤ mark) × (has_key key (told table mark logs) ≡ false)
    told-purged mark key [] le none = (le, none)
    told-purged mark key (log ∷ logs) le none = go (log.table == table) (told-purged mark key logs) (rw (table-purged_where log) at le) (rw (table-purged_where log) at none)
      where
        go : (b : Bool) → (purged_of table (map (purged_where at moment) logs) ≤ mark → has_key key (told table mark (map (purged_where at moment) logs)) ≡ false
            → (purged_of table logs ≤ mark) × (has_key key (told table mark logs) ≡ false))
            → purged_in (cond b (Some (purged_where at moment log)) (log_of table (map (purged_where at moment) logs))) ≤ mark
            → has_key key (logged_above mark (keys_in (cond b (Some (purged_where at moment log)) (log_of table (map (purged_where at moment) logs))))) ≡ false
            → (purged_in (cond b (Some log) (log_of table logs)) ≤ mark) × (has_key key (logged_above mark (keys_in (cond b (Some log) (log_of table logs)))) ≡ false)
        go true later le none = one_purged mark key log le none
        go false later le none = later le none
