-- What some notes come to.
use Rattle.std.proofs.Common.{◌≡◌, ℕ, [], ◌∷◌, pos, Some, None, refl}
use Rattle.rep_values.specs.declared.value.Value.TheVariants.{Num}
use Rattle.rep_schema.specs.Tables.{Cells}
use Rattle.snapshot_query.specs.declared.snapshot.Snapshot.{Snapshot}
use Rattle.change_logs.specs.LogState.{LoggedKey, LogState}
use Rattle.change_logs.specs.Noting.{with_keys, pending_keys, renewed}
use Rattle.change_logs.specs.Noted.{key_touched, as_lent, without_query, with_query, at_place}

abbrev key : ℕ → Cells
key n = Num (pos n) ∷ []

abbrev at : ℕ → ℕ → LoggedKey
at moment n = record { key = key n; moment = moment }

-- a snapshot of table 3, refreshed at moment 4, where key 5 was changed since then
abbrev snapshot : Snapshot
snapshot = record { table = 3; query = record { tests = [] }; parent = None; mark = 4; touched = key 5 ∷ [] }

-- key 2 is noted, and key 5 again
touched_keys : key_touched (key 5) (key_touched (key 2) snapshot) ≡ record { table = 3; query = record { tests = [] }; parent = None; mark = 4; touched = key 2 ∷ key 5 ∷ [] }
touched_keys = refl

-- the master logged key 1 at the mark, and keys 4 and 5 above it
abbrev logs : LogState
logs = record { table = 3; keys = at 4 1 ∷ at 6 4 ∷ at 5 5 ∷ []; purged = 0 }

pending : pending_keys (logs ∷ []) snapshot ≡ key 4 ∷ key 5 ∷ []
pending = refl

not_logged : pending_keys [] snapshot ≡ key 5 ∷ []
not_logged = refl

-- keys that don't rise: a key comes before the first that isn't lower
among_any : with_keys (key 4 ∷ []) (key 2 ∷ key 6 ∷ key 1 ∷ []) ≡ key 2 ∷ key 4 ∷ key 6 ∷ key 1 ∷ []
among_any = refl

-- the one at the second place is lent, and comes back
back : at_place 1 (with_query snapshot.query) (at_place 1 without_query (snapshot ∷ snapshot ∷ [])) ≡ snapshot ∷ snapshot ∷ []
back = refl

-- what was lent, as a refresh leaves it
refreshed : renewed 7 (as_lent snapshot) ≡ renewed 7 snapshot
refreshed = refl

-- the same snapshot, which shows the rows whose parent is a row of table 1
abbrev by_parent : Snapshot
by_parent = record snapshot { parent = Some (record { table = 1; columns = 2 ∷ []; tests = record { tests = [] } }) }

lent_without_parent : as_lent by_parent ≡ as_lent snapshot
lent_without_parent = refl

parent_is_kept : (renewed 7 (without_query by_parent)).parent ≡ by_parent.parent
parent_is_kept = refl
