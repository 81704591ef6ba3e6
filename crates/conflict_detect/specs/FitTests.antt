-- When a transaction fits a schema, as tests that compute.
use Rattle.std.specs.Prelude.{ℕ, Bool, true, ◌&&◌, ◌==◌, not, nat_lt, nat_le, List, [], ◌∷◌, length, map}
use Rattle.std.specs.List.{list_any, list_all}
use Rattle.rep_schema.specs.declared.schema.Schema.{Schema}
use Rattle.rep_schema.specs.Tables.{Cells, columns_of, key_columns}
use Rattle.rep_schema.specs.Fitting.{row_fits}
use Rattle.rep_schema.specs.Groups.{group_numbers_of, columns_in_group, are_same}
use Rattle.rep_calls.specs.declared.call.Part.{Part}
use Rattle.rep_calls.specs.declared.call.Call.{Call}
use Rattle.rep_calls.specs.declared.call.Call.TheVariants.{Insert, Update, Delete}
use Rattle.rep_calls.specs.declared.call.Txn.{Txn}
use Rattle.conflict_detect.specs.Fits.{table_of}

-- the group is one of the table's
abbrev pub is_group_of : Schema → ℕ → ℕ → Bool
is_group_of schema table group = list_any (λ g. g == group) (group_numbers_of schema table)

-- each number is above the one before it, and the first above n
abbrev pub rise_above : ℕ → List ℕ → Bool
rise_above n [] = true
rise_above n (x ∷ xs) = nat_lt n x && rise_above x xs

-- each number is above the one before it
abbrev pub rise : List ℕ → Bool
rise [] = true
rise (x ∷ xs) = rise_above x xs

-- the part's group is the table's, its values match the group's columns, and old and new ones differ
abbrev pub part_fits : Schema → ℕ → Part → Bool
part_fits schema table part =
    let columns = columns_in_group schema table part.group in
    is_group_of schema table part.group && row_fits columns part.old && row_fits columns part.new && not (are_same part.old part.new)

-- the key matches the key columns, there is a part, each fits, and their groups rise
abbrev pub update_fits : Schema → ℕ → Cells → List Part → Bool
update_fits schema table key parts =
    row_fits (key_columns (columns_of schema table)) key && nat_le 1 (length parts)
    && list_all (part_fits schema table) parts && rise (map (λ part. part.group) parts)

abbrev pub content_fits : Schema → Call → Bool
content_fits schema (Insert table row) = row_fits (columns_of schema table) row
content_fits schema (Update table key parts) = update_fits schema table key parts
content_fits schema (Delete table row) = row_fits (columns_of schema table) row

-- the call's table is the schema's, and its row, or its key and parts, fit the table
abbrev pub call_fits : Schema → Call → Bool
call_fits schema call = nat_lt (table_of call) (length schema.tables) && content_fits schema call

-- each call of the transaction fits
abbrev pub txn_fits : Schema → Txn → Bool
txn_fits schema txn = list_all (call_fits schema) txn.calls
