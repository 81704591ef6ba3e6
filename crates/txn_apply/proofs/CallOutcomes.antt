-- What a call does, by what was found and settled.
use Rattle.std.proofs.Common.{◌≡◌, ℕ, ◌<◌, Bool, true, false, cond, List, [], ◌∷◌, length, Option, Some, None, Ok, Err, refl, sym, ap, ◌∙◌, subst}
use Rattle.std.specs.Prelude.{Result}
use Rattle.rep_values.specs.declared.name.SiteName.{SiteName}
use Rattle.rep_values.specs.declared.refusal.ApplyError.{ApplyError}
use Rattle.rep_values.specs.declared.refusal.ApplyError.TheVariants.{DeleteConflict, CheckFailed}
use Rattle.rep_schema.specs.declared.schema.Schema.{Schema}
use Rattle.rep_schema.specs.declared.change.Change.{Change}
use Rattle.rep_schema.specs.declared.check.Check.{Check}
use Rattle.rep_schema.specs.Shape.{HasShape}
use Rattle.rep_schema.specs.Tables.{Cells, Rows, columns_of, key_of, find_row, rows_of, RowFits, IsUniqueRow, AreTables}
use Rattle.rep_schema.specs.Groups.{are_same}
use Rattle.rep_schema.specs.Checks.{failed_check}
use Rattle.rep_schema.specs.Changes.{row_like}
use Rattle.rep_schema.proofs.FoundRows.{found_row, key_of-found}
use Rattle.rep_calls.specs.declared.call.Part.{Part}
use Rattle.rep_calls.specs.declared.call.Call.TheVariants.{Insert, Update, Delete}
use Rattle.conflict_detect.specs.Fits.{CallFits}
use Rattle.unique_resolve.specs.declared.settled.Settled.{Settled}
use Rattle.unique_resolve.specs.declared.settled.Settled.TheVariants.{Fits, Dropped, Conflict}
use Rattle.unique_resolve.specs.Numbers.{Numbers, AreCounters}
use Rattle.unique_resolve.specs.Settling.{settlement_of}
use Rattle.unique_resolve.proofs.Settlements.{RowFits-settled, key_of-settled, IsUniqueRow-settled, find_row-settled}
use Rattle.txn_effects.specs.Parts.{result_then, settled_parts}
use Rattle.rep_schema.specs.Putting.{changes_between}
use Rattle.txn_effects.specs.Calls.{KeysStandAlone, RowEffect, checked_effect, effect_by, Effect, call_effect}
use Rattle.txn_effects.proofs.PartEffects.{key_of-settled_parts, RowFits-settled_parts}
use Rattle.rep_schema.proofs.Making.{changes_between-same}
use Rattle.txn_apply.specs.Putting.{checked_row, row_to_put}

module _ (schema : Schema) (table : ℕ) where
  -- a row that is put is the one that was settled
  pub row_to_put-Some : (settled : Settled) (after : Cells) → Ok (Some after) ≡ row_to_put schema table settled → settled ≡ Fits after
  row_to_put-Some (Fits row) after puts = tested (failed_check schema table row) puts
    where
      tested : (check : Option Check) → Ok (Some after) ≡ checked_row check row → Fits row ≡ Fits after
      tested None e = cc
      tested (Some check) e = cc
  row_to_put-Some Dropped after puts = cc
  row_to_put-Some (Conflict name) after puts = cc

  module _ (before : Option Cells) (numbers : Numbers) where
    abbrev made : List Change → Result Effect ApplyError
    made changes = Ok (record { changes = changes; numbers = numbers })

    -- what comes of a settlement
    abbrev pub settled_changes : Settled → Result Effect ApplyError
    settled_changes settled = result_then {B = Effect} (effect_by schema table settled before numbers) (λ (x : RowEffect). Ok (record { changes = changes_between table before x.after; numbers = x.numbers }))

    -- of a row that is put
    pub settled_changes-Some : (settled : Settled) (after : Cells) → Ok (Some after) ≡ row_to_put schema table settled → settled_changes settled ≡ made (changes_between table before (Some after))
    settled_changes-Some (Fits row) after puts = tested (failed_check schema table row) puts
      where
        tested : (check : Option Check) → Ok (Some after) ≡ checked_row check row
            → result_then {B = Effect} (checked_effect check row numbers) (λ (x : RowEffect). Ok (record { changes = changes_between table before x.after; numbers = x.numbers })) ≡ made (changes_between table before (Some after))
        tested None e = let same : row ≡ after = cc in ap (λ r. made (changes_between table before (Some r))) same
        tested (Some check) e = cc
    settled_changes-Some Dropped after puts = cc
    settled_changes-Some (Conflict name) after puts = cc

    -- of one that is given up
    pub settled_changes-None : (settled : Settled) → Ok None ≡ row_to_put schema table settled → settled_changes settled ≡ made []
    settled_changes-None (Fits row) puts = tested (failed_check schema table row) puts
      where
        tested : (check : Option Check) → Ok None ≡ checked_row check row
            → result_then {B = Effect} (checked_effect check row numbers) (λ (x : RowEffect). Ok (record { changes = changes_between table before x.after; numbers = x.numbers })) ≡ made []
        tested None e = cc
        tested (Some check) e = cc
    settled_changes-None Dropped puts = ap made (changes_between-same table before)
    settled_changes-None (Conflict name) puts = cc

    -- and of one that violates a constraint or fails a check
    pub settled_changes-Err : (settled : Settled) (error : ApplyError) → Err error ≡ row_to_put schema table settled → settled_changes settled ≡ Err error
    settled_changes-Err (Fits row) error fails = tested (failed_check schema table row) fails
      where
        tested : (check : Option Check) → Err error ≡ checked_row check row
            → result_then {B = Effect} (checked_effect check row numbers) (λ (x : RowEffect). Ok (record { changes = changes_between table before x.after; numbers = x.numbers })) ≡ Err error
        tested None e = cc
        tested (Some check) e = let same : CheckFailed check.name ≡ error = cc in ap Err same
    settled_changes-Err Dropped error fails = cc
    settled_changes-Err (Conflict name) error fails = cc

module _ (schema : Schema) (tables : List Rows) (numbers : Numbers) (origin : SiteName) (table : ℕ) (shape : HasShape schema) (are : AreTables schema tables) (counters : AreCounters schema numbers)
    (below : table < length schema.tables) where
  -- the settled row fits, is unique, and has the key of the row that was to be put
  pub record CanBePut (row after : Cells) : Type 0 where
    pub fits : RowFits (columns_of schema table) after
    pub unique : IsUniqueRow schema table after (rows_of tables table)
    pub like : row_like (columns_of schema table) after (rows_of tables table) ≡ row_like (columns_of schema table) row (rows_of tables table)

  pub CanBePut-settled : (inserting : Bool) (row after : Cells) → RowFits (columns_of schema table) row → (settlement_of schema tables numbers origin table inserting row).settled ≡ Fits after → CanBePut row after
  CanBePut-settled inserting row after fits fit = record {
    fits = RowFits-settled schema tables numbers origin table inserting row after fit shape fits counters;
    unique = IsUniqueRow-settled schema tables numbers origin table inserting row after fit shape fits counters are below;
    like = ap (λ k. find_row (columns_of schema table) k (rows_of tables table)) (key_of-settled schema tables numbers origin table inserting row after fit shape fits counters);
  }

  -- a new row that fits has a key that no row has
  pub row_like-new : (row after : Cells) → (settlement_of schema tables numbers origin table true row).settled ≡ Fits after → row_like (columns_of schema table) row (rows_of tables table) ≡ None
  row_like-new row after fit = find_row-settled schema tables numbers origin table true row after fit refl

  -- so an insert that puts a row adds it
  pub call_effect-Insert : (row after : Cells) (change : Change) → RowFits (columns_of schema table) row
      → Ok (Some after) ≡ row_to_put schema table (settlement_of schema tables numbers origin table true row).settled
      → change ≡ record { table = table; before = row_like (columns_of schema table) after (rows_of tables table); after = Some after }
      → call_effect schema tables numbers origin (Insert table row) ≡ Ok (record { changes = change ∷ []; numbers = (settlement_of schema tables numbers origin table true row).numbers })
  call_effect-Insert row after change fits puts is =
      let fit = row_to_put-Some schema table (settlement_of schema tables numbers origin table true row).settled after puts in
      let none = row_like-new row after fit in
      let like = (CanBePut-settled true row after fits fit).like in
      settled_changes-Some schema table (row_like (columns_of schema table) row (rows_of tables table)) (settlement_of schema tables numbers origin table true row).numbers
      (settlement_of schema tables numbers origin table true row).settled after puts
      ∙ ap (λ changes. Ok (record { changes = changes; numbers = (settlement_of schema tables numbers origin table true row).numbers })) (rw (is, like, none) refl)

  module _ (apart : KeysStandAlone schema) (key : Cells) (parts : List Part) (fits : CallFits schema (Update table key parts)) (found row : Cells)
      (there : find_row (columns_of schema table) key (rows_of tables table) ≡ Some found) where
    -- the row that an update finds fits
    pub RowFits-found : RowFits (columns_of schema table) found
    RowFits-found = found_row (columns_of schema table) key found (rows_of tables table) there (RowFits (columns_of schema table)) (are.each table below).fit

    module _ (gives : settled_parts schema table parts found ≡ Ok row) where
      -- so does the row that its parts give
      pub RowFits-parts : RowFits (columns_of schema table) row
      RowFits-parts = RowFits-settled_parts schema table shape parts found row fits.content.parts_fit RowFits-found gives

      -- which has its key
      pub row_like-parts : row_like (columns_of schema table) row (rows_of tables table) ≡ Some found
      row_like-parts =
          let own : key_of (columns_of schema table) row ≡ key =
          key_of-settled_parts schema table apart below parts found row gives ∙ key_of-found (columns_of schema table) key found (rows_of tables table) there in
          ap (λ k. find_row (columns_of schema table) k (rows_of tables table)) own ∙ there

      abbrev settled : Settled
      settled = (settlement_of schema tables numbers origin table false row).settled

      abbrev later : Numbers
      later = (settlement_of schema tables numbers origin table false row).numbers

      -- an update does what comes of the settlement of that row
      pub call_effect-Update : call_effect schema tables numbers origin (Update table key parts) ≡ settled_changes schema table (Some found) later settled
      call_effect-Update = rw (there, gives) refl

      module _ (after : Cells) (puts : Ok (Some after) ≡ row_to_put schema table settled) where
        -- one that puts another row replaces it
        pub call_effect-Update_other : (change : Change) → are_same found after ≡ false
            → change ≡ record { table = table; before = row_like (columns_of schema table) after (rows_of tables table); after = Some after }
            → call_effect schema tables numbers origin (Update table key parts) ≡ Ok (record { changes = change ∷ []; numbers = later })
        call_effect-Update_other change other is =
            let like = (CanBePut-settled false row after RowFits-parts (row_to_put-Some schema table settled after puts)).like ∙ row_like-parts in
            call_effect-Update ∙ settled_changes-Some schema table (Some found) later settled after puts
            ∙ ap (λ changes. Ok (record { changes = changes; numbers = later })) (rw (is, like, other) refl)

        -- one that puts the very same row changes nothing
        pub call_effect-Update_same : are_same found after ≡ true → call_effect schema tables numbers origin (Update table key parts) ≡ Ok (record { changes = []; numbers = later })
        call_effect-Update_same same =
            call_effect-Update ∙ settled_changes-Some schema table (Some found) later settled after puts
            ∙ ap (λ changes. Ok (record { changes = changes; numbers = later })) (rw same refl)

module _ (schema : Schema) (tables : List Rows) (numbers : Numbers) (origin : SiteName) (table : ℕ) (row found : Cells)
    (there : find_row (columns_of schema table) (key_of (columns_of schema table) row) (rows_of tables table) ≡ Some found) where
  -- a delete of the row that is there
  pub call_effect-Delete : are_same found row ≡ true
      → call_effect schema tables numbers origin (Delete table row) ≡ Ok (record { changes = record { table = table; before = Some found; after = None } ∷ []; numbers = numbers })
  call_effect-Delete same = rw (there, same) refl

  -- a delete of another row
  pub call_effect-Delete_other : are_same found row ≡ false → call_effect schema tables numbers origin (Delete table row) ≡ Err DeleteConflict
  call_effect-Delete_other other = rw (there, other) refl
