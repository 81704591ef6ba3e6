-- What the steps of running a statement take and tell.
use Rattle.std.specs.Prelude.{◌≡◌, ◌≢◌, ◌⊎◌, ℕ, true, false, not, ◌&&◌, List, [], ◌∷◌, Option, Some, None, Result, Err}
use Rattle.rep_values.specs.declared.refusal.Refusal.{Refusal}
use Rattle.rep_values.specs.declared.refusal.Refusal.TheVariants as refusal
use Rattle.rep_values.specs.declared.name.SiteName.{SiteName}
use Rattle.rep_values.specs.declared.literal.Literal.{Literal}
use Rattle.rep_values.specs.RefusalSteps.{refused, first_refusal}
use Rattle.rep_schema.specs.declared.schema.Schema.{Schema}
use Rattle.rep_schema.specs.declared.schema.Column.{Column}
use Rattle.rep_schema.specs.declared.change.Change.{Change}
use Rattle.rep_schema.specs.Tables.{Cells, Rows, columns_of}
use Rattle.rep_schema.specs.Kinds.{row_in_range}
use Rattle.txn_effects.specs.declared.local.LocalStop.{LocalStop}
use Rattle.local_txn.specs.declared.progress.BlockProgress.{BlockProgress}
use Rattle.rep_calls.specs.declared.statement.Set.{Set}
use Rattle.rep_calls.specs.declared.statement.Statement.{Statement}
use Rattle.txn_effects.specs.declared.local.Stamps.{Stamps}
use Rattle.txn_effects.specs.declared.side.Side.{Side}
use Rattle.txn_effects.specs.Literals.{key_literals_fit}
use Rattle.txn_effects.specs.Sets.{names_columns, sets_fit, sets_filled}
use Rattle.txn_effects.specs.ByColumn.{AreSets}
use Rattle.txn_effects.specs.declared.row_made.RowMade.{RowMade}
use Rattle.txn_effects.specs.Filled.{everywhere, is_modified, bound_from, next_stamp, made_with}
use Rattle.txn_effects.specs.Stamps.{capped}
use Rattle.txn_effects.specs.Convergent.{side_of, barred, rule_step}
use Rattle.txn_effects.specs.Statements.{BlockState, StatementOutcome, outcome_changes, statement_refusal, statement_changes, block_state_after}
use Rattle.txn_effects.specs.Locals.{BlockEffect}

-- the row that an insert makes, with a stamp that no row may have where the next one isn't in range
abbrev pub inserted_capped : List Column → SiteName → Stamps → Cells → RowMade
inserted_capped columns site stamps row = made_with columns site stamps.last everywhere (capped (next_stamp stamps 0)) row

-- the row that an update makes, with such a stamp
abbrev pub updated_capped : Schema → ℕ → SiteName → Stamps → Cells → Cells → RowMade
updated_capped schema table site stamps before row = made_with (columns_of schema table) site stamps.last (is_modified schema table before row)
    (capped (next_stamp stamps (bound_from (is_modified schema table before row) 0 (columns_of schema table) before))) row

-- the steps of an update whose sets are in order, up to the ranges of what is set
abbrev pub change_steps : Schema → Option Side → ℕ → Cells → Cells → List (Option Refusal)
change_steps schema side table before row =
    barred schema side table false ∷ rule_step schema table before row ∷ refused (not (row_in_range row)) refusal.ValueRange ∷ []

-- none of them refuses, and the row with the modified groups filled in is this one
pub record ChangesTo (schema : Schema) (footing : BlockProgress) (table : ℕ) (before row : Cells) (made : RowMade) : Type 0 where
  pub accepted : first_refusal (change_steps schema footing.side table before row) ≡ None
  pub gives : made ≡ updated_capped schema table footing.here.site footing.stamps before row

-- an update's key and sets are in order, and this is set of each column
pub record AreInOrder (schema : Schema) (table : ℕ) (key : List Literal) (sets : List Set) (found : List (Option Set)) : Type 0 where
  pub are : AreSets (columns_of schema table) sets found
  pub fits : (key_literals_fit schema (columns_of schema table) key && sets_fit (columns_of schema table) sets) ≡ true
  pub unfilled : sets_filled (columns_of schema table) sets ≡ false

-- the steps of an update that look at the statement alone
abbrev pub order_steps : Schema → ℕ → List Literal → List Set → List (Option Refusal)
order_steps schema table key sets =
    refused (not (names_columns (columns_of schema table) sets)) refusal.UnknownName ∷
    refused (not (key_literals_fit schema (columns_of schema table) key && sets_fit (columns_of schema table) sets)) refusal.RowShape ∷
    refused (sets_filled (columns_of schema table) sets) refusal.FilledBySite ∷ []

-- where a block stands, with the tables
abbrev pub block_state_of : BlockProgress → List Rows → BlockState
block_state_of footing tables = record { tables = tables; stamps = footing.stamps; side = footing.side }

-- where it stands behind a statement on a table that leaves this last stamp
abbrev pub progress_after : Schema → ℕ → ℕ → BlockProgress → BlockProgress
progress_after schema table last footing = record {
  here = footing.here;
  stamps = record { clock = footing.stamps.clock; last = last };
  side = Some (side_of schema table);
}

-- nothing refuses, these are the changes, and the block stands behind the statement
pub record RunsAs (schema : Schema) (table : ℕ) (refused : Option Refusal) (outcome : StatementOutcome) (made : List Change) (old new : BlockProgress) : Type 0 where
  pub accepted : refused ≡ None
  pub changes : made ≡ outcome_changes table outcome
  pub footing : new ≡ progress_after schema table outcome.last old

-- nothing refuses a statement of a block, these are its changes, and the block stands behind it
pub record StatementGoesOn (schema : Schema) (statement : Statement) (tables later : List Rows) (made : List Change) (old new : BlockProgress) : Type 0 where
  pub accepted : statement_refusal schema old.here (block_state_of old tables) statement ≡ None
  pub changes : made ≡ statement_changes schema old.here (block_state_of old tables) statement
  pub here : new.here ≡ old.here
  pub standing : block_state_of new later ≡ block_state_after schema old.here (block_state_of old tables) statement

-- with the refusal that there is; want of memory needs no cause
abbrev pub StatementStopsAs : Option Refusal → Refusal → Type 0
StatementStopsAs refused why = (why ≡ refusal.Memory) ⊎ (refused ≡ Some why)

-- a block that stops at this statement ends with it and why it is refused, or for want of memory, with 0
abbrev pub StopsAt : ℕ → Refusal → LocalStop → Type 0
StopsAt statement why stop = (stop ≡ record { statement = 0; refusal = refusal.Memory }) ⊎ ((why ≢ refusal.Memory) × (stop ≡ record { statement = statement; refusal = why }))

-- with the statement that is refused, and why; want of memory has statement 0 and needs no cause
abbrev pub EndsAs : Result BlockEffect LocalStop → LocalStop → Type 0
EndsAs outcome stop = (stop ≡ record { statement = 0; refusal = refusal.Memory }) ⊎ (outcome ≡ Err stop)
