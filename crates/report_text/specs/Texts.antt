-- The lines of a report.
use Rattle.std.specs.Prelude.{ℕ, ◌+◌, Bool, cond, List, [], ◌∷◌, ◌++◌, map, length, decimal, codes}
use Rattle.std.specs.Fmt.{signed_decimal}
use Rattle.std.specs.List.{flat_map}
use Rattle.rep_values.specs.declared.value.Value.{Value}
use Rattle.rep_values.specs.declared.value.Value.TheVariants as value
use Rattle.rep_schema.specs.declared.schema.Schema.{Schema}
use Rattle.rep_schema.specs.declared.schema.TableEntry.{TableEntry}
use Rattle.rep_schema.specs.Tables.{Rows}
use Rattle.rep_schema.specs.Sites.{has_table}
use Rattle.report_text.specs.declared.printed.PushCount.{PushCount}
use Rattle.report_text.specs.Sheet.{line, quoted}

-- commit SITE NUMBER
abbrev pub commit_text : List ℕ → ℕ → List ℕ
commit_text site number = line (codes "commit") (site ∷ decimal number ∷ [])

-- commit SITE none
abbrev pub nothing_committed_text : List ℕ → List ℕ
nothing_committed_text site = line (codes "commit") (site ∷ codes "none" ∷ [])

-- purge SITE N
abbrev pub purge_text : List ℕ → ℕ → List ℕ
purge_text site count = line (codes "purge") (site ∷ decimal count ∷ [])

-- purge-log SITE TABLE N
abbrev pub purge_log_text : List ℕ → List ℕ → ℕ → List ℕ
purge_log_text site table count = line (codes "purge-log") (site ∷ table ∷ decimal count ∷ [])

-- refresh SITE fast keys K rows R
abbrev pub refresh_fast_text : List ℕ → ℕ → ℕ → List ℕ
refresh_fast_text site keys rows = line (codes "refresh") (site ∷ codes "fast" ∷ codes "keys" ∷ decimal keys ∷ codes "rows" ∷ decimal rows ∷ [])

-- refresh SITE complete rows R
abbrev pub refresh_complete_text : List ℕ → ℕ → List ℕ
refresh_complete_text site rows = line (codes "refresh") (site ∷ codes "complete" ∷ codes "rows" ∷ decimal rows ∷ [])

-- join SITE from SOURCE rows N
abbrev pub join_text : List ℕ → List ℕ → ℕ → List ℕ
join_text site source count = line (codes "join") (site ∷ codes "from" ∷ source ∷ codes "rows" ∷ decimal count ∷ [])

-- execute SITE ORIGIN POSITION done
abbrev pub execute_text : List ℕ → List ℕ → ℕ → List ℕ
execute_text site origin position = line (codes "execute") (site ∷ origin ∷ decimal position ∷ codes "done" ∷ [])

-- drop-error SITE ORIGIN POSITION
abbrev pub drop_error_text : List ℕ → List ℕ → ℕ → List ℕ
drop_error_text site origin position = line (codes "drop-error") (site ∷ origin ∷ decimal position ∷ [])

-- A B sent N done D errors E low M
abbrev pub push_words : List ℕ → List ℕ → PushCount → List (List ℕ)
push_words from to count =
    from ∷ to ∷ codes "sent" ∷ decimal count.sent ∷ codes "done" ∷ decimal count.done
    ∷ codes "errors" ∷ decimal count.errors ∷ codes "low" ∷ decimal count.low ∷ []

-- push A B sent N done D errors E low M
abbrev pub push_text : List ℕ → List ℕ → PushCount → List ℕ
push_text from to count = line (codes "push") (push_words from to count)

-- push-calls A B sent N done D errors E low M
abbrev pub push_calls_text : List ℕ → List ℕ → PushCount → List ℕ
push_calls_text from to count = line (codes "push-calls") (push_words from to count)

-- sent SITE NUMBER
abbrev pub sent_text : List ℕ → ℕ → List ℕ
sent_text site number = line (codes "sent") (site ∷ decimal number ∷ [])

-- sent SITE none
abbrev pub nothing_sent_text : List ℕ → List ℕ
nothing_sent_text site = line (codes "sent") (site ∷ codes "none" ∷ [])

-- execute-calls SITE ORIGIN POSITION done
abbrev pub execute_calls_text : List ℕ → List ℕ → ℕ → List ℕ
execute_calls_text site origin position = line (codes "execute-calls") (site ∷ origin ∷ decimal position ∷ codes "done" ∷ [])

-- malformed LINE RULE
abbrev pub malformed_text : ℕ → ℕ → List ℕ
malformed_text number rule = line (codes "malformed") (decimal number ∷ decimal rule ∷ [])

-- a number in decimal, a text between quotes
abbrev pub value_text : Value → List ℕ
value_text (value.Num z) = signed_decimal z
value_text (value.Words text) = quoted text

-- row VALUES
abbrev pub row_text : List Value → List ℕ
row_text values = line (codes "row") (map value_text values)

-- table T COUNT, and its rows
abbrev pub table_text : List ℕ → List (List Value) → List ℕ
table_text name rows = line (codes "table") (name ∷ decimal (length rows) ∷ []) ++ flat_map row_text rows

-- each table that is held, with its rows; they count from a number
abbrev pub each_table : List Bool → ℕ → List TableEntry → List Rows → List ℕ
each_table held number [] rows = []
each_table held number (t ∷ ts) [] = []
each_table held number (t ∷ ts) (r ∷ rs) = cond (has_table held number) (table_text t.name.0 r) [] ++ each_table held (number + 1) ts rs

-- tables SITE, and each table that it holds in declared order
abbrev pub tables_text : List ℕ → List Bool → Schema → List Rows → List ℕ
tables_text site held schema tables = line (codes "tables") (site ∷ []) ++ each_table held 0 schema.tables tables

-- each table, with its rows
abbrev pub all_tables : List TableEntry → List Rows → List ℕ
all_tables [] rows = []
all_tables (t ∷ ts) [] = []
all_tables (t ∷ ts) (r ∷ rs) = table_text t.name.0 r ++ all_tables ts rs

-- calls SITE, and each table that procedures write in declared order
abbrev pub proc_tables_text : List ℕ → Schema → List Rows → List ℕ
proc_tables_text site schema tables = line (codes "calls") (site ∷ []) ++ all_tables schema.tables tables

-- key VALUES moment M
abbrev pub logged_key_text : List Value → ℕ → List ℕ
logged_key_text values moment = line (codes "key") (map value_text values ++ (codes "moment" ∷ decimal moment ∷ []))
