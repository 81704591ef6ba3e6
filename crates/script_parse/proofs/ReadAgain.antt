-- Commands are read as they are written.
use Rattle.std.proofs.Common.{◌≡◌, ◌≢◌, ℕ, List, [], ◌∷◌, Option, Some, None, Ok, refl}
use Rattle.std.specs.List.{AllByRecursion}
use Rattle.rep_values.specs.declared.literal.Literal.{Literal}
use Rattle.rep_values.specs.declared.name.SiteName.{SiteName}
use Rattle.rep_values.specs.declared.name.TableName.{TableName}
use Rattle.rep_schema.specs.declared.schema.Column.{Column}
use Rattle.rep_declare.specs.declared.declaration.Declare.{Declare}
use Rattle.rep_declare.specs.declared.declaration.Declare.TheVariants as declare
use Rattle.rep_calls.specs.declared.statement.Set.{Set}
use Rattle.rep_calls.specs.declared.statement.Statement.{Statement}
use Rattle.rep_calls.specs.declared.statement.Statement.TheVariants as statement
use Rattle.net_plan.specs.declared.fate.Fate.{Fate}
use Rattle.script_lex.specs.declared.token.Symbol.TheVariants as symbol
use Rattle.script_lex.specs.declared.token.Token.{Token}
use Rattle.script_lex.specs.declared.token.Token.TheVariants as token
use Rattle.script_words.specs.Reading.{one, mark}
use Rattle.script_words.specs.Spelled.{value_token}
use Rattle.script_words.proofs.Again.{value_again, number_again, values_again, all_values_again, all_names_again}
use Rattle.script_parse.specs.declared.command.ParentWords.{ParentWords}
use Rattle.script_parse.specs.declared.command.TestWords.{TestWords}
use Rattle.script_parse.specs.declared.command.Link.{Link}
use Rattle.script_parse.specs.declared.command.Link.TheVariants as link
use Rattle.script_parse.specs.declared.command.Refresh.{Refresh}
use Rattle.script_parse.specs.declared.command.Refresh.TheVariants as refresh
use Rattle.script_parse.specs.declared.command.Shown.{Shown}
use Rattle.script_parse.specs.declared.command.Shown.TheVariants as shown
use Rattle.script_parse.specs.declared.command.Command.{Command}
use Rattle.script_parse.specs.declared.command.Command.TheVariants as command
use Rattle.script_parse.specs.declared.proc_line.ActionWords.{ActionWords}
use Rattle.script_parse.specs.declared.proc_line.CallWords.{CallWords}
use Rattle.script_parse.specs.declared.proc_line.ProcLine.{ProcLine}
use Rattle.script_parse.specs.declared.proc_line.ProcLine.TheVariants as proc_line
use Rattle.script_parse.specs.Parsed.{command_of}
use Rattle.script_parse.specs.Spelled.{number_token, where_tokens, set_tokens, separated_tokens, spelled, IsName, IsSmall, AreNames, AreValues, AreTests, IsColumnName, AreParents, IsSet, IsDeclaration, IsStatement, IsPlainColumn, IsAction, IsProcLine, IsWellFormed}
use Rattle.script_parse.proofs.ProcPartsAgain.{plain_columns_again, action_again, any_values_again, any_sites_again}
use Rattle.script_parse.proofs.PartsAgain.{column_names_again, columns_again, method_again, unique_method_again, rel_again, tests_again, sets_again, fates_again, fate_is_no_clear}

-- Declarations.

table_again : (name : TableName) (columns : List Column) → IsName name.0 → columns ≢ [] → AllByRecursion (λ c. IsName c.name) columns
    → command_of (spelled (command.Declare (declare.Table name columns))) ≡ Ok (command.Declare (declare.Table name columns))
unfolding one command_of
table_again name [] formed some all = absurd (some refl)
table_again name (c ∷ cs) formed some all = rw (formed, columns_again c cs all) refl

group_again : (table : TableName) (group : List ℕ) (columns : List (List ℕ)) → IsName table.0 → IsName group → AreNames columns
    → command_of (spelled (command.Declare (declare.Group table group columns))) ≡ Ok (command.Declare (declare.Group table group columns))
unfolding one command_of
group_again table group [] formed named columns = absurd (columns.0 refl)
group_again table group (c ∷ cs) formed named columns = rw (formed, named, all_names_again c cs columns.1) refl

unique_again : (table : TableName) (constraint : List ℕ) (columns : List (List ℕ)) → IsName table.0 → IsName constraint → AreNames columns
    → command_of (spelled (command.Declare (declare.Unique table constraint columns))) ≡ Ok (command.Declare (declare.Unique table constraint columns))
unfolding one command_of
unique_again table constraint [] formed named columns = absurd (columns.0 refl)
unique_again table constraint (c ∷ cs) formed named columns = rw (formed, named, all_names_again c cs columns.1) refl

declaration_again : (d : Declare) → IsDeclaration d → command_of (spelled (command.Declare d)) ≡ Ok (command.Declare d)
unfolding one command_of
declaration_again (declare.Site name) formed = rw formed refl
declaration_again (declare.LateSite name) formed = rw formed refl
declaration_again (declare.SnapSite name master) formed = rw (formed.0, formed.1) refl
declaration_again (declare.Table name columns) formed = table_again name columns formed.0 formed.1 formed.2
declaration_again (declare.Group table group columns) formed = group_again table group columns formed.0 formed.1 formed.2
declaration_again (declare.Method table group method) formed = rw (formed.0, formed.1, method_again method formed.2) refl
declaration_again (declare.Priority group v level) formed =
    rw (formed.0, value_again v (number_token level ∷ []) formed.1, number_again level [] formed.2) refl
declaration_again (declare.SiteLevel site level) formed = rw (formed.0, number_again level [] formed.1) refl
declaration_again (declare.Unique table constraint columns) formed = unique_again table constraint columns formed.0 formed.1 formed.2
declaration_again (declare.UniqueMethod table constraint method) formed = rw (formed.0, formed.1, unique_method_again method formed.2) refl
declaration_again (declare.Check table check column r v) formed =
    rw (formed.0, formed.1, formed.2, rel_again r (value_token v ∷ []), value_again v [] formed.3) refl
declaration_again (declare.Convergent table) formed = rw formed refl

-- Statements and rows.

row_again : (table : TableName) (values : List Literal) → IsName table.0 → AreValues values
    → command_of (spelled (command.Row table values)) ≡ Ok (command.Row table values)
unfolding one command_of
row_again table [] formed values = absurd (values.0 refl)
row_again table (v ∷ vs) formed values = rw (formed, all_values_again v vs values.1) refl

insert_again : (table : TableName) (values : List Literal) → IsName table.0 → AreValues values
    → command_of (spelled (command.Statement (statement.Insert table values))) ≡ Ok (command.Statement (statement.Insert table values))
unfolding one command_of
insert_again table [] formed values = absurd (values.0 refl)
insert_again table (v ∷ vs) formed values = rw (formed, all_values_again v vs values.1) refl

update_again : (table : TableName) (key : List Literal) (sets : List Set) → IsName table.0 → AreValues key → sets ≢ [] → AllByRecursion IsSet sets
    → command_of (spelled (command.Statement (statement.Update table key sets))) ≡ Ok (command.Statement (statement.Update table key sets))
unfolding one mark command_of
update_again table [] sets formed values some all = absurd (values.0 refl)
update_again table (v ∷ vs) [] formed values some all = absurd (some refl)
update_again table (v ∷ vs) (s ∷ ss) formed values some all =
    let behind : List Token = token.Symbol symbol.Colon ∷ separated_tokens (token.Symbol symbol.Comma) set_tokens (s ∷ ss) in
    rw (formed, values_again v vs behind values.1 refl, sets_again s ss all) refl

delete_again : (table : TableName) (key : List Literal) → IsName table.0 → AreValues key
    → command_of (spelled (command.Statement (statement.Delete table key))) ≡ Ok (command.Statement (statement.Delete table key))
unfolding one command_of
delete_again table [] formed values = absurd (values.0 refl)
delete_again table (v ∷ vs) formed values = rw (formed, all_values_again v vs values.1) refl

statement_again : (s : Statement) → IsStatement s → command_of (spelled (command.Statement s)) ≡ Ok (command.Statement s)
statement_again (statement.Insert table values) formed = insert_again table values formed.0 formed.1
statement_again (statement.Update table key sets) formed = update_again table key sets formed.0 formed.1 formed.2 formed.3
statement_again (statement.Delete table key) formed = delete_again table key formed.0 formed.1

-- Other commands with a choice, a list or a group.

plain_snapshot_again : (site : SiteName) (table : TableName) (tests : Option (List TestWords)) → IsName site.0 → IsName table.0 → AreTests tests
    → command_of (spelled (command.Snapshot site table None tests)) ≡ Ok (command.Snapshot site table None tests)
unfolding one mark command_of
plain_snapshot_again site table None here of formed = rw (here, of) refl
plain_snapshot_again site table (Some []) here of formed = absurd (formed.0 refl)
plain_snapshot_again site table (Some (t ∷ ts)) here of formed = rw (here, of, tests_again t ts formed.1) refl

subsnapshot_again : (site : SiteName) (table : TableName) (parents : TableName) (columns : List (List ℕ)) (tests : Option (List TestWords)) → IsName site.0 → IsName table.0 → IsName parents.0
    → (columns ≢ []) × AllByRecursion IsColumnName columns → AreTests tests
    → command_of (spelled (command.Snapshot site table (Some (record { table = parents; columns = columns })) tests)) ≡ Ok (command.Snapshot site table (Some (record { table = parents; columns = columns })) tests)
unfolding one mark command_of
subsnapshot_again site table parents [] tests here of its named formed = absurd (named.0 refl)
subsnapshot_again site table parents (c ∷ cs) None here of its named formed = rw (here, of, its, column_names_again c cs [] named.1 refl) refl
subsnapshot_again site table parents (c ∷ cs) (Some []) here of its named formed = absurd (formed.0 refl)
subsnapshot_again site table parents (c ∷ cs) (Some (t ∷ ts)) here of its named formed =
    rw (here, of, its, column_names_again c cs (where_tokens (Some (t ∷ ts))) named.1 refl, tests_again t ts formed.1) refl

snapshot_again : (site : SiteName) (table : TableName) (parent : Option ParentWords) (tests : Option (List TestWords)) → IsName site.0 → IsName table.0 → AreParents parent → AreTests tests
    → command_of (spelled (command.Snapshot site table parent tests)) ≡ Ok (command.Snapshot site table parent tests)
snapshot_again site table None tests here of are formed = plain_snapshot_again site table tests here of formed
snapshot_again site table (Some p) tests here of are formed = subsnapshot_again site table p.table p.columns tests here of are.0 (are.1, are.2) formed

push_again : (from to : SiteName) (count : Option ℕ) → IsName from.0 → IsName to.0
    → command_of (spelled (command.Push from to count)) ≡ Ok (command.Push from to count)
unfolding one mark command_of
push_again from to None sends takes = rw (sends, takes) refl
push_again from to (Some n) sends takes = rw (sends, takes) refl

all_fates_again : (from to : SiteName) (fates : List Fate) → IsName from.0 → IsName to.0 → fates ≢ []
    → command_of (spelled (command.Fates from to fates)) ≡ Ok (command.Fates from to fates)
unfolding one command_of
all_fates_again from to [] sends takes some = absurd (some refl)
all_fates_again from to (f ∷ fs) sends takes some = rw (sends, takes, fate_is_no_clear f, fates_again f fs) refl

link_again : (from to : SiteName) (l : Link) → IsName from.0 → IsName to.0 → command_of (spelled (command.Link from to l)) ≡ Ok (command.Link from to l)
unfolding one command_of
link_again from to link.Up sends takes = rw (sends, takes) refl
link_again from to link.Down sends takes = rw (sends, takes) refl

refresh_again : (site : SiteName) (how : Refresh) → IsName site.0 → command_of (spelled (command.Refresh site how)) ≡ Ok (command.Refresh site how)
unfolding one command_of
refresh_again site refresh.Fast formed = rw formed refl
refresh_again site refresh.Complete formed = rw formed refl
refresh_again site refresh.Force formed = rw formed refl

show_again : (what : Shown) (site : SiteName) → IsName site.0 → command_of (spelled (command.Show what site)) ≡ Ok (command.Show what site)
unfolding one command_of
show_again shown.Tables site formed = rw formed refl
show_again shown.Queue site formed = rw formed refl
show_again shown.Errors site formed = rw formed refl
show_again shown.Marks site formed = rw formed refl
show_again shown.Journal site formed = rw formed refl
show_again shown.Log site formed = rw formed refl
show_again shown.Calls site formed = rw formed refl

-- Lines about procedures.

proc_table_again : (table : TableName) (columns : List Column) → IsName table.0 → columns ≢ [] → AllByRecursion IsPlainColumn columns
    → command_of (spelled (command.Procedures (proc_line.Table table columns))) ≡ Ok (command.Procedures (proc_line.Table table columns))
unfolding one command_of
proc_table_again table [] formed some all = absurd (some refl)
proc_table_again table (c ∷ cs) formed some all = rw (formed, plain_columns_again c cs all) refl

procedure_again : (p : List ℕ) (table : TableName) (does : ActionWords) → IsName p → IsName table.0 → IsAction does
    → command_of (spelled (command.Procedures (proc_line.Procedure p table does))) ≡ Ok (command.Procedures (proc_line.Procedure p table does))
unfolding one command_of
procedure_again p table does named of formed = rw (named, of, action_again does formed) refl

call_again : (call : CallWords) → IsName call.procedure → AllByRecursion IsSmall call.values
    → command_of (spelled (command.Procedures (proc_line.Call call))) ≡ Ok (command.Procedures (proc_line.Call call))
unfolding one command_of
call_again call named small = rw (named, any_values_again call.values small) refl

send_again : (to : List SiteName) → AllByRecursion (λ (s : SiteName). IsName s.0) to
    → command_of (spelled (command.Procedures (proc_line.Send to))) ≡ Ok (command.Procedures (proc_line.Send to))
unfolding one command_of
send_again to named = rw (any_sites_again to named) refl

call_fates_again : (from to : SiteName) (fates : List Fate) → IsName from.0 → IsName to.0 → fates ≢ []
    → command_of (spelled (command.Procedures (proc_line.Fates from to fates))) ≡ Ok (command.Procedures (proc_line.Fates from to fates))
unfolding one command_of
call_fates_again from to [] sends takes some = absurd (some refl)
call_fates_again from to (f ∷ fs) sends takes some = rw (sends, takes, fates_again f fs) refl

proc_line_again : (line : ProcLine) → IsProcLine line → command_of (spelled (command.Procedures line)) ≡ Ok (command.Procedures line)
unfolding one command_of
proc_line_again (proc_line.Table table columns) formed = proc_table_again table columns formed.0 formed.1 formed.2
proc_line_again (proc_line.Procedure p table does) formed = procedure_again p table does formed.0 formed.1 formed.2
proc_line_again (proc_line.Calls site) formed = rw formed refl
proc_line_again (proc_line.Call call) formed = call_again call formed.0 formed.1
proc_line_again (proc_line.Send to) formed = send_again to formed
proc_line_again (proc_line.Push from to) formed = rw (formed.0, formed.1) refl
proc_line_again (proc_line.Fates from to fates) formed = call_fates_again from to fates formed.0 formed.1 formed.2
proc_line_again (proc_line.Execute site origin position) formed = rw (formed.0, formed.1) refl

-- what a command is written as is read again
pub reads_again : (c : Command) → IsWellFormed c → command_of (spelled c) ≡ Ok c
unfolding one mark command_of
reads_again command.Nothing formed = refl
reads_again (command.Declare d) formed = declaration_again d formed
reads_again (command.Snapshot site table parent tests) formed = snapshot_again site table parent tests formed.0 formed.1 formed.2 formed.3
reads_again (command.Row table values) formed = row_again table values formed.0 formed.1
reads_again command.Resume formed = refl
reads_again (command.Statement s) formed = statement_again s formed
reads_again (command.Txn site) formed = rw formed refl
reads_again command.Commit formed = refl
reads_again command.Abandon formed = refl
reads_again (command.Push from to count) formed = push_again from to count formed.0 formed.1
reads_again (command.Fates from to fates) formed = all_fates_again from to fates formed.0 formed.1 formed.2
reads_again (command.ClearFates from to) formed = rw (formed.0, formed.1) refl
reads_again (command.Link from to l) formed = link_again from to l formed.0 formed.1
reads_again (command.Clock site time) formed = rw formed refl
reads_again (command.Purge site) formed = rw formed refl
reads_again (command.Execute site origin position) formed = rw (formed.0, formed.1) refl
reads_again (command.DropError site origin position) formed = rw (formed.0, formed.1) refl
reads_again (command.Refresh site how) formed = refresh_again site how formed
reads_again (command.PurgeLog master table) formed = rw (formed.0, formed.1) refl
reads_again command.Suspend formed = refl
reads_again (command.Join site source) formed = rw (formed.0, formed.1) refl
reads_again (command.Show what site) formed = show_again what site formed
reads_again (command.Procedures line) formed = proc_line_again line formed
