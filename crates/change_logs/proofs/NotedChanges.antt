-- Changed rows noted one after another.
use Rattle.std.proofs.Common.{◌≡◌, ℕ, ◌==◌, true, false, List, ◌∷◌, refl}
use Rattle.rep_schema.specs.declared.schema.Schema.{Schema}
use Rattle.rep_schema.specs.declared.change.Change.{Change}
use Rattle.snapshot_query.specs.declared.snapshot.Snapshot.{Snapshot}
use Rattle.change_logs.specs.Logs.{key_noted}
use Rattle.change_logs.specs.LogState.{LogState}
use Rattle.change_logs.specs.Noting.{key_changed, logged_in, touched_in}
use Rattle.change_logs.specs.Noted.{key_touched}

module _ (schema : Schema) (change : Change) (more : List Change) where
  -- the first is of the log's table
  pub logged_in-here : (moment : ℕ) (log : LogState) → (change.table == log.table) ≡ true → logged_in schema moment more (key_noted moment (key_changed schema change) log) ≡ logged_in schema moment (change ∷ more) log
  logged_in-here moment log here = rw here refl

  -- the first is of another table
  pub logged_in-past : (moment : ℕ) (log : LogState) → (change.table == log.table) ≡ false → logged_in schema moment more log ≡ logged_in schema moment (change ∷ more) log
  logged_in-past moment log past = rw past refl

  -- the first is of the snapshot's table
  pub touched_in-here : (snapshot : Snapshot) → (change.table == snapshot.table) ≡ true → touched_in schema more (key_touched (key_changed schema change) snapshot) ≡ touched_in schema (change ∷ more) snapshot
  touched_in-here snapshot here = rw here refl

  -- the first is of another table
  pub touched_in-past : (snapshot : Snapshot) → (change.table == snapshot.table) ≡ false → touched_in schema more snapshot ≡ touched_in schema (change ∷ more) snapshot
  touched_in-past snapshot past = rw past refl
