-- What a site noted of its changed rows.
use Rattle.std.specs.Prelude.{◌≡◌, ℕ, zero, suc, List, [], ◌∷◌, Some, None, slice_get, option_map}
use Rattle.std.specs.declared.cmp.Ordering.TheVariants.{Less}
use Rattle.rep_lists.specs.Rising.{IsRising}
use Rattle.rep_values.specs.Order.{key_cmp}
use Rattle.rep_schema.specs.declared.schema.Schema.{Schema}
use Rattle.rep_schema.specs.declared.change.Change.{Change}
use Rattle.rep_schema.specs.Tables.{Cells}
use Rattle.snapshot_query.specs.declared.query.Query.{Query}
use Rattle.snapshot_query.specs.declared.snapshot.Snapshot.{Snapshot}
use Rattle.change_logs.specs.LogState.{LogState}
use Rattle.change_logs.specs.Noting.{with_keys, touched_in, pending_keys}

-- the logs and the snapshots of a site, and how many changed rows can be noted there without memory
pub record NotesState : Type 0 where
  pub logs : List LogState
  pub snapshots : List Snapshot
  pub room : ℕ

-- a snapshot after one row of its table was changed at its site
abbrev pub key_touched : Cells → Snapshot → Snapshot
key_touched key snapshot = record snapshot { touched = with_keys (key ∷ []) snapshot.touched }

-- a snapshot as it is lent: without its parent and its touched keys
abbrev pub as_lent : Snapshot → Snapshot
as_lent snapshot = record snapshot { parent = None; touched = [] }

-- a snapshot with another query
abbrev pub with_query : Query → Snapshot → Snapshot
with_query query snapshot = record snapshot { query = query }

-- a snapshot whose query has no test
abbrev pub without_query : Snapshot → Snapshot
without_query snapshot = with_query (record { tests = [] }) snapshot

-- the snapshot at a place changes
abbrev pub at_place : ℕ → (Snapshot → Snapshot) → List Snapshot → List Snapshot
at_place place change [] = []
at_place zero change (s ∷ ss) = change s ∷ ss
at_place (suc place) change (s ∷ ss) = s ∷ at_place place change ss

-- the first of these keys is below the second, if there is one
abbrev pub IsBelowNext : List Cells → Type 0
IsBelowNext [] = Unit {0}
IsBelowNext (a ∷ []) = Unit {0}
IsBelowNext (a ∷ b ∷ keys) = key_cmp a b ≡ Less

-- once its query is back, a snapshot that was lent is as it was
abbrev pub LentReturn : Type 0
LentReturn = (place : ℕ) (lent : Snapshot) (snapshots : List Snapshot) → option_map as_lent (slice_get snapshots place) ≡ Some lent
    → at_place place (with_query lent.query) (at_place place without_query snapshots) ≡ snapshots

-- where the touched keys of a snapshot rise, so do the pending ones
abbrev pub PendingKeysRise : Type 0
PendingKeysRise = (logs : List LogState) (snapshot : Snapshot) → IsRising key_cmp snapshot.touched → IsRising key_cmp (pending_keys logs snapshot)

-- and they go on to rise while changed rows are noted
abbrev pub TouchedKeysRise : Type 0
TouchedKeysRise = (schema : Schema) (changes : List Change) (snapshot : Snapshot) → IsRising key_cmp snapshot.touched → IsRising key_cmp (touched_in schema changes snapshot).touched
