-- What a site's notes have after rows were changed.
use Rattle.std.specs.Prelude.{◌≡◌, ℕ, List, map}
use Rattle.rep_schema.specs.declared.schema.Schema.{Schema}
use Rattle.rep_schema.specs.declared.change.Change.{Change}
use Rattle.change_logs.specs.Noting.{logged_in, touched_in}
use Rattle.change_logs.specs.Noted.{NotesState}

-- changed rows are noted at a moment: in the logs of their tables, and at the snapshots
pub record RowsAreNoted (schema : Schema) (moment : ℕ) (changes : List Change) (old new : NotesState) : Type 0 where
  pub logs : new.logs ≡ map (logged_in schema moment changes) old.logs
  pub snapshots : new.snapshots ≡ map (touched_in schema changes) old.snapshots
