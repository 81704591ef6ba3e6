-- The forms of all other commands, one row each, with what stands behind the first word.
use Rattle.std.specs.Prelude.{ℕ, ◌&&◌, Bool, not, List, Option, Some, None, codes}
use Rattle.rep_values.specs.declared.literal.Literal.{Literal}
use Rattle.rep_values.specs.declared.name.SiteName.{SiteName}
use Rattle.rep_values.specs.declared.name.TableName.{TableName}
use Rattle.rep_calls.specs.declared.statement.Set.{Set}
use Rattle.rep_calls.specs.declared.statement.Statement.TheVariants as statement
use Rattle.script_lex.specs.declared.token.Token.{Token}
use Rattle.script_words.specs.Words.{is_mark, is_named, is_valued, is_chosen}
use Rattle.script_words.specs.Reading.{Reading, ◌>>=◌, row, ◌⊛◌, ◌⊘◌, optional, either, one_or_more, separated}
use Rattle.script_words.specs.Parts.{name, whole_number, value, choice}
use Rattle.script_parse.specs.declared.command.TestWords.{TestWords}
use Rattle.script_parse.specs.declared.command.Command.{Command}
use Rattle.script_parse.specs.declared.command.Command.TheVariants as command
use Rattle.script_parse.specs.Parts.{site, table, where_tests, set_part, fates, links, refreshes, shown_words}

-- a snapshot of a table, with tests of its rows
abbrev pub snapshot_of : SiteName → TableName → Option (List TestWords) → Command
snapshot_of site table tests = command.Snapshot site table None tests

-- snapshot NAME NAME [where TEST [and TEST]..]
abbrev pub snapshot_row : Reading Command
snapshot_row = row snapshot_of ⊛ site ⊛ table ⊛ where_tests

-- a snapshot of a table, with tests of the rows of the parents' table
abbrev pub subsnapshot_of : SiteName → TableName → TableName → List (List ℕ) → Option (List TestWords) → Command
subsnapshot_of site table parents columns tests = command.Snapshot site table (Some (record { table = parents; columns = columns })) tests

-- a name in front of the word where
abbrev pub is_column_name : Token → Bool
is_column_name t = is_named t && not (is_mark (codes "where") t)

-- subsnapshot NAME NAME parent NAME by NAME+ [where TEST [and TEST]..]
abbrev pub subsnapshot_row : Reading Command
subsnapshot_row = row subsnapshot_of ⊛ site ⊛ table ⊘ codes "parent" ⊛ table ⊘ codes "by" ⊛ one_or_more is_column_name name ⊛ where_tests

-- row NAME VALUE+
abbrev pub row_row : Reading Command
row_row = row command.Row ⊛ table ⊛ one_or_more is_valued value

-- resume
abbrev pub resume_row : Reading Command
resume_row = row command.Resume

-- the insert of values into a table
abbrev pub insert_of : TableName → List Literal → Command
insert_of t values = command.Statement (statement.Insert t values)

-- insert NAME VALUE+
abbrev pub insert_row : Reading Command
insert_row = row insert_of ⊛ table ⊛ one_or_more is_valued value

-- the update of a table's row
abbrev pub update_of : TableName → List Literal → List Set → Command
update_of t key sets = command.Statement (statement.Update t key sets)

-- update NAME VALUE+ : SET [, SET]..
abbrev pub update_row : Reading Command
update_row = row update_of ⊛ table ⊛ one_or_more is_valued value ⊘ codes ":" ⊛ separated (codes ",") set_part

-- the delete of a table's row
abbrev pub delete_of : TableName → List Literal → Command
delete_of t key = command.Statement (statement.Delete t key)

-- delete NAME VALUE+
abbrev pub delete_row : Reading Command
delete_row = row delete_of ⊛ table ⊛ one_or_more is_valued value

-- txn NAME
abbrev pub txn_row : Reading Command
txn_row = row command.Txn ⊛ site

-- commit
abbrev pub commit_row : Reading Command
commit_row = row command.Commit

-- abandon
abbrev pub abandon_row : Reading Command
abandon_row = row command.Abandon

-- push NAME NAME [count WHOLE]
abbrev pub push_row : Reading Command
push_row = row command.Push ⊛ site ⊛ site ⊛ optional (codes "count") whole_number

-- clear or FATE+, behind two sites
abbrev pub fates_behind : SiteName → SiteName → Reading Command
fates_behind from to =
    either (codes "clear") (row (command.ClearFates from to) ⊘ codes "clear") (row (command.Fates from to) ⊛ one_or_more (is_chosen fates) (choice fates))

-- fate NAME NAME FATE+ or fate NAME NAME clear
abbrev pub fate_row : Reading Command
fate_row ts = site ts >>= λ from. site from.1 >>= λ to. fates_behind from.0 to.0 to.1

-- link NAME NAME up|down
abbrev pub link_row : Reading Command
link_row = row command.Link ⊛ site ⊛ site ⊛ choice links

-- clock NAME WHOLE
abbrev pub clock_row : Reading Command
clock_row = row command.Clock ⊛ site ⊛ whole_number

-- purge NAME
abbrev pub purge_row : Reading Command
purge_row = row command.Purge ⊛ site

-- execute NAME NAME WHOLE
abbrev pub execute_row : Reading Command
execute_row = row command.Execute ⊛ site ⊛ site ⊛ whole_number

-- drop-error NAME NAME WHOLE
abbrev pub drop_error_row : Reading Command
drop_error_row = row command.DropError ⊛ site ⊛ site ⊛ whole_number

-- refresh NAME fast|complete|force
abbrev pub refresh_row : Reading Command
refresh_row = row command.Refresh ⊛ site ⊛ choice refreshes

-- purge-log NAME NAME
abbrev pub purge_log_row : Reading Command
purge_log_row = row command.PurgeLog ⊛ site ⊛ table

-- suspend
abbrev pub suspend_row : Reading Command
suspend_row = row command.Suspend

-- join NAME NAME
abbrev pub join_row : Reading Command
join_row = row command.Join ⊛ site ⊛ site

-- show tables|queue|errors|marks|journal|log|calls NAME
abbrev pub show_row : Reading Command
show_row = row command.Show ⊛ choice shown_words ⊛ site
