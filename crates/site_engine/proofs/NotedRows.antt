-- What changed rows leave of a site's snapshots and logs.
use Rattle.std.proofs.Common.{◌≡◌, ℕ, List, [], ◌∷◌, map, Err, refl, ap, sym, subst}
use Rattle.std.specs.Prelude.{◌≢◌, Result}
use Rattle.std.specs.List.{AllByRecursion}
use Rattle.rep_schema.specs.declared.schema.Schema.{Schema}
use Rattle.rep_schema.specs.declared.change.Change.{Change}
use Rattle.txn_effects.specs.Calls.{Effect}
use Rattle.txn_effects.specs.Transactions.{Failure}
use Rattle.snapshot_query.specs.declared.snapshot.Snapshot.{Snapshot}
use Rattle.change_logs.specs.LogState.{LogState}
use Rattle.site_state.specs.Contents.{changes_by}
use Rattle.change_logs.specs.Noting.{logged_in, touched_in, renewed}
use Rattle.site_state.specs.Fits.{SnapshotsApart}
use Rattle.change_logs.specs.Noted.{NotesState}
use Rattle.site_engine.specs.Noting.{RowsAreNoted}

-- ---- no rows

logged_nothing : (schema : Schema) (moment : ℕ) (logs : List LogState) → map (logged_in schema moment []) logs ≡ logs
logged_nothing schema moment [] = refl
logged_nothing schema moment (l ∷ ls) = ap (λ (rest : List LogState). l ∷ rest) (logged_nothing schema moment ls)

touched_nothing : (schema : Schema) (snapshots : List Snapshot) → map (touched_in schema []) snapshots ≡ snapshots
touched_nothing schema [] = refl
touched_nothing schema (s ∷ ss) = ap (λ (rest : List Snapshot). s ∷ rest) (touched_nothing schema ss)

-- where no row changed, notes that have the same logs and snapshots have them noted
pub noted_nothing : (schema : Schema) (moment : ℕ) (old new : NotesState) → new.logs ≡ old.logs → new.snapshots ≡ old.snapshots → RowsAreNoted schema moment [] old new
noted_nothing schema moment old new logs snapshots = record {
  logs = rw (logged_nothing schema moment old.logs) logs;
  snapshots = rw (touched_nothing schema old.snapshots) snapshots;
}

-- where a transaction fails, no row changed
pub noted_failed : (schema : Schema) (moment : ℕ) (r : Result Effect Failure) (failure : Failure) (old new : NotesState) → r ≡ Err failure → new.logs ≡ old.logs → new.snapshots ≡ old.snapshots → RowsAreNoted schema moment (changes_by r) old new
noted_failed schema moment r failure old new fails logs snapshots = rw fails (noted_nothing schema moment old new logs snapshots)

-- notes that have nothing noted have the same logs and snapshots
pub nothing_logged : (schema : Schema) (moment : ℕ) (logs : List LogState) → logs ≡ map (logged_in schema moment []) logs
nothing_logged schema moment logs = sym (logged_nothing schema moment logs)

pub nothing_touched : (schema : Schema) (snapshots : List Snapshot) → snapshots ≡ map (touched_in schema []) snapshots
nothing_touched schema snapshots = sym (touched_nothing schema snapshots)

-- ---- no table has two snapshots

module _ (change : Snapshot → Snapshot) (same : (s : Snapshot) → (change s).table ≡ s.table) where
  others_stay : (table : ℕ) (ss : List Snapshot) → AllByRecursion (λ (t : Snapshot). t.table ≢ table) ss → AllByRecursion (λ (t : Snapshot). t.table ≢ table) (map change ss)
  others_stay table [] others = tt
  others_stay table (s ∷ ss) others = (subst (λ (n : ℕ). n ≢ table) (sym (same s)) others.0, others_stay table ss others.1)

  apart-map : (ss : List Snapshot) → SnapshotsApart ss → SnapshotsApart (map change ss)
  apart-map [] apart = tt
  apart-map (s ∷ ss) apart = (subst (λ (n : ℕ). AllByRecursion (λ (t : Snapshot). t.table ≢ n) (map change ss)) (sym (same s)) (others_stay s.table ss apart.0), apart-map ss apart.1)

-- they stay so while rows change
pub apart_noted : (schema : Schema) (moment : ℕ) (changes : List Change) (old new : NotesState) → RowsAreNoted schema moment changes old new → SnapshotsApart old.snapshots → SnapshotsApart new.snapshots
apart_noted schema moment changes old new noted apart = subst SnapshotsApart (sym noted.snapshots) (apart-map (touched_in schema changes) (λ s. refl) old.snapshots apart)

-- and by a refresh
pub apart_renewed : (moment : ℕ) (old new : List Snapshot) → new ≡ map (renewed moment) old → SnapshotsApart old → SnapshotsApart new
apart_renewed moment old new is apart = subst SnapshotsApart (sym is) (apart-map (renewed moment) (λ s. refl) old apart)
