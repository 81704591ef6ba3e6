-- Entries by their keys and moments.
use Rattle.std.specs.Prelude.{ℕ, ◌+◌, nat_lt, List, map, filter, Result, Ok, Err}
use Rattle.std.specs.declared.cmp.Ordering.{Ordering}
use Rattle.rep_values.specs.declared.value.Value.{Value}
use Rattle.rep_values.specs.Order.{key_cmp}

-- two entries compared by key
abbrev pub by_key : {E : Type 0} → (E → List Value) → E → E → Ordering
by_key key d e = key_cmp (key d) (key e)

-- where an entry stands beside a key
abbrev pub beside_key : {E : Type 0} → (E → List Value) → List Value → E → Ordering
beside_key key k e = key_cmp (key e) k

-- the entries with a moment above a mark
abbrev pub entries_above : {E : Type 0} → (E → ℕ) → ℕ → List E → List E
entries_above moment mark es = filter (λ e. nat_lt mark (moment e)) es

-- and their keys
abbrev pub keys_above : {E : Type 0} → (E → List Value) → (E → ℕ) → ℕ → List E → List (List Value)
keys_above key moment mark es = map key (entries_above moment mark es)

-- a place that was found or not, as it is behind so many entries
abbrev pub place_behind : ℕ → Result ℕ ℕ → Result ℕ ℕ
place_behind before (Ok p) = Ok (before + p)
place_behind before (Err p) = Err (before + p)
