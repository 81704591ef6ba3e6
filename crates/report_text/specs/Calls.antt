-- The lines of calls.
use Rattle.std.specs.Prelude.{ℕ, ◌+◌, Option, None, Some, slice_get, List, [], ◌∷◌, ◌++◌, map, decimal, codes}
use Rattle.std.specs.List.{flat_map}
use Rattle.rep_schema.specs.declared.schema.Schema.{Schema}
use Rattle.rep_schema.specs.declared.schema.TableEntry.{TableEntry}
use Rattle.rep_schema.specs.Named.{group_name}
use Rattle.rep_calls.specs.declared.call.Call.{Call}
use Rattle.rep_calls.specs.declared.call.Call.TheVariants.{Insert, Update, Delete}
use Rattle.rep_calls.specs.declared.call.Part.{Part}
use Rattle.report_text.specs.Sheet.{line}
use Rattle.report_text.specs.Texts.{value_text}

abbrev pub name_of_entry : Option TableEntry → List ℕ
name_of_entry None = []
name_of_entry (Some entry) = entry.name.0

-- the name of the table at a place
abbrev pub table_name : Schema → ℕ → List ℕ
table_name schema table = name_of_entry (slice_get schema.tables table)

-- group G old VALUES new VALUES
abbrev pub part_words : Schema → ℕ → Part → List (List ℕ)
part_words schema table part =
    codes "group" ∷ group_name schema table part.group ∷ codes "old" ∷ (map value_text part.old ++ (codes "new" ∷ map value_text part.new))

-- insert T VALUES, delete T VALUES, or update T KEY and each part
abbrev pub call_words : Schema → Call → List (List ℕ)
call_words schema (Insert table row) = codes "insert" ∷ table_name schema table ∷ map value_text row
call_words schema (Update table key parts) = codes "update" ∷ table_name schema table ∷ (map value_text key ++ flat_map (part_words schema table) parts)
call_words schema (Delete table row) = codes "delete" ∷ table_name schema table ∷ map value_text row

-- call I and the call
abbrev pub call_text : Schema → ℕ → Call → List ℕ
call_text schema number call = line (codes "call") (decimal number ∷ call_words schema call)

-- the lines of calls, which count from a number
abbrev pub calls_from : Schema → ℕ → List Call → List ℕ
calls_from schema number [] = []
calls_from schema number (call ∷ calls) = call_text schema number call ++ calls_from schema (number + 1) calls

-- the lines of a transaction's calls
abbrev pub calls_text : Schema → List Call → List ℕ
calls_text schema calls = calls_from schema 1 calls
