-- Lines whose commands are worked out by hand.
use Rattle.std.proofs.Common.{◌≡◌, pos, negsuc, [], ◌∷◌, Some, None, refl, true, false, Ok, Err}
use Rattle.std.specs.Prelude.{codes, replicate}
use Rattle.rep_values.specs.declared.literal.Literal.TheVariants as literal
use Rattle.rep_schema.specs.declared.schema.Kind.TheVariants as kind
use Rattle.rep_schema.specs.declared.check.Rel.TheVariants as rel
use Rattle.rep_declare.specs.declared.declaration.Declare.TheVariants as declare
use Rattle.rep_declare.specs.declared.declaration.MethodWords.TheVariants as method_words
use Rattle.rep_declare.specs.declared.declaration.UniqueWords.TheVariants as unique_words
use Rattle.rep_calls.specs.declared.statement.How.TheVariants as how
use Rattle.rep_calls.specs.declared.statement.Statement.TheVariants as statement
use Rattle.net_plan.specs.declared.fate.Fate.TheVariants as fate
use Rattle.script_lex.specs.Forms.{has_form, longest_up_to}
use Rattle.script_lex.specs.Tokens.{token_of, tokens_from}
use Rattle.script_lex.specs.Lines.{lexed}
use Rattle.script_words.specs.Reading.{one, mark, many}
use Rattle.script_parse.specs.declared.command.Link.TheVariants as link
use Rattle.script_parse.specs.declared.command.Shown.TheVariants as shown
use Rattle.script_parse.specs.declared.command.Refresh.TheVariants as refresh_how
use Rattle.script_parse.specs.declared.command.Command.TheVariants as command
use Rattle.script_parse.specs.declared.proc_line.ActionWords.TheVariants as action_words
use Rattle.script_parse.specs.declared.proc_line.ProcLine.TheVariants as proc_line
use Rattle.script_parse.specs.Columns.{column_among}
use Rattle.script_parse.specs.Parts.{site_of, table_of, row_test, set_part}
use Rattle.script_parse.specs.Parsed.{command_of, parsed}

-- Setup.

site_line : parsed (codes "site A") ≡ Ok (command.Declare (declare.Site (site_of (codes "A"))))
unfolding lexed tokens_from longest_up_to has_form token_of one mark many command_of column_among row_test set_part
site_line = refl

late_site_line : parsed (codes "latesite D") ≡ Ok (command.Declare (declare.LateSite (site_of (codes "D"))))
unfolding lexed tokens_from longest_up_to has_form token_of one mark many command_of column_among row_test set_part
late_site_line = refl

table_line : parsed (codes "table T ID:NUMBER:key key : TEXT AT:DATE C:STAMP BY:SITE") ≡ Ok (command.Declare (declare.Table (table_of (codes "T"))
    (record { name = codes "ID"; kind = kind.Number; key = true } ∷ record { name = codes "key"; kind = kind.Words; key = false } ∷
    record { name = codes "AT"; kind = kind.Date; key = false } ∷ record { name = codes "C"; kind = kind.Stamp; key = false } ∷
    record { name = codes "BY"; kind = kind.Site; key = false } ∷ [])))
unfolding lexed tokens_from longest_up_to has_form token_of one mark many command_of column_among row_test set_part
table_line = refl

group_line : parsed (codes "group T q QTY group") ≡ Ok (command.Declare (declare.Group (table_of (codes "T")) (codes "q") (codes "QTY" ∷ codes "group" ∷ [])))
unfolding lexed tokens_from longest_up_to has_form token_of one mark many command_of column_among row_test set_part
group_line = refl

method_line : parsed (codes "method T q priority COLOR rank") ≡ Ok (command.Declare (declare.Method (table_of (codes "T")) (codes "q") (method_words.Priority (codes "COLOR") (codes "rank"))))
unfolding lexed tokens_from longest_up_to has_form token_of one mark many command_of column_among row_test set_part
method_line = refl

latest_line : parsed (codes "method T n latest CHG") ≡ Ok (command.Declare (declare.Method (table_of (codes "T")) (codes "n") (method_words.Latest (codes "CHG"))))
unfolding lexed tokens_from longest_up_to has_form token_of one mark many command_of column_among row_test set_part
latest_line = refl

site_priority_line : parsed (codes "method T n site-priority BY") ≡ Ok (command.Declare (declare.Method (table_of (codes "T")) (codes "n") (method_words.SitePriority (codes "BY"))))
unfolding lexed tokens_from longest_up_to has_form token_of one mark many command_of column_among row_test set_part
site_priority_line = refl

additive_line : parsed (codes "method T q additive") ≡ Ok (command.Declare (declare.Method (table_of (codes "T")) (codes "q") method_words.Additive))
unfolding lexed tokens_from longest_up_to has_form token_of one mark many command_of column_among row_test set_part
additive_line = refl

priority_line : parsed (codes "priority rank 'red' -5") ≡ Ok (command.Declare (declare.Priority (codes "rank") (literal.Words (codes "red")) (negsuc 4)))
unfolding lexed tokens_from longest_up_to has_form token_of one mark many command_of column_among row_test set_part
priority_line = refl

site_level_line : parsed (codes "site-level NYC 3") ≡ Ok (command.Declare (declare.SiteLevel (site_of (codes "NYC")) (pos 3)))
unfolding lexed tokens_from longest_up_to has_form token_of one mark many command_of column_among row_test set_part
site_level_line = refl

unique_line : parsed (codes "unique T u NAME ZIP") ≡ Ok (command.Declare (declare.Unique (table_of (codes "T")) (codes "u") (codes "NAME" ∷ codes "ZIP" ∷ [])))
unfolding lexed tokens_from longest_up_to has_form token_of one mark many command_of column_among row_test set_part
unique_line = refl

unique_method_line : parsed (codes "unique-method T key discard") ≡ Ok (command.Declare (declare.UniqueMethod (table_of (codes "T")) (codes "key") unique_words.Discard))
unfolding lexed tokens_from longest_up_to has_form token_of one mark many command_of column_among row_test set_part
unique_method_line = refl

append_line : parsed (codes "unique-method T u append-sequence NAME") ≡ Ok (command.Declare (declare.UniqueMethod (table_of (codes "T")) (codes "u") (unique_words.AppendSequence (codes "NAME"))))
unfolding lexed tokens_from longest_up_to has_form token_of one mark many command_of column_among row_test set_part
append_line = refl

check_line : parsed (codes "check T low Q >= 0") ≡ Ok (command.Declare (declare.Check (table_of (codes "T")) (codes "low") (codes "Q") rel.Ge (literal.Num (pos 0))))
unfolding lexed tokens_from longest_up_to has_form token_of one mark many command_of column_among row_test set_part
check_line = refl

convergent_line : parsed (codes "convergent T") ≡ Ok (command.Declare (declare.Convergent (table_of (codes "T"))))
unfolding lexed tokens_from longest_up_to has_form token_of one mark many command_of column_among row_test set_part
convergent_line = refl

row_line : parsed (codes "row T 1 'a'") ≡ Ok (command.Row (table_of (codes "T")) (literal.Num (pos 1) ∷ literal.Words (codes "a") ∷ []))
unfolding lexed tokens_from longest_up_to has_form token_of one mark many command_of column_among row_test set_part
row_line = refl

resume_line : parsed (codes "  resume ") ≡ Ok command.Resume
unfolding lexed tokens_from longest_up_to has_form token_of one mark many command_of column_among row_test set_part
resume_line = refl

-- Blocks.

txn_line : parsed (codes "txn NYC_2") ≡ Ok (command.Txn (site_of (codes "NYC_2")))
unfolding lexed tokens_from longest_up_to has_form token_of one mark many command_of column_among row_test set_part
txn_line = refl

insert_line : parsed (codes "insert T 007 -0 -12 '''a b'") ≡ Ok (command.Statement (statement.Insert (table_of (codes "T"))
    (literal.Num (pos 7) ∷ literal.Num (pos 0) ∷ literal.Num (negsuc 11) ∷ literal.Words [] ∷ literal.Words (codes "a b") ∷ [])))
unfolding lexed tokens_from longest_up_to has_form token_of one mark many command_of column_among row_test set_part
insert_line = refl

update_line : parsed (codes "update T 'A' 1 : QTY + -4, NAME = 'x'") ≡ Ok (command.Statement (statement.Update (table_of (codes "T")) (literal.Words (codes "A") ∷ literal.Num (pos 1) ∷ [])
    (record { column = codes "QTY"; how = how.Add (negsuc 3) } ∷ record { column = codes "NAME"; how = how.To (literal.Words (codes "x")) } ∷ [])))
unfolding lexed tokens_from longest_up_to has_form token_of one mark many command_of column_among row_test set_part
update_line = refl

delete_line : parsed (codes "delete T 5") ≡ Ok (command.Statement (statement.Delete (table_of (codes "T")) (literal.Num (pos 5) ∷ [])))
unfolding lexed tokens_from longest_up_to has_form token_of one mark many command_of column_among row_test set_part
delete_line = refl

commit_line : parsed (codes "commit") ≡ Ok command.Commit
unfolding lexed tokens_from longest_up_to has_form token_of one mark many command_of column_among row_test set_part
commit_line = refl

abandon_line : parsed (codes "abandon") ≡ Ok command.Abandon
unfolding lexed tokens_from longest_up_to has_form token_of one mark many command_of column_among row_test set_part
abandon_line = refl

-- Travelling.

push_line : parsed (codes "push A count") ≡ Ok (command.Push (site_of (codes "A")) (site_of (codes "count")) None)
unfolding lexed tokens_from longest_up_to has_form token_of one mark many command_of column_among row_test set_part
push_line = refl

counted_push_line : parsed (codes "push A B count 3") ≡ Ok (command.Push (site_of (codes "A")) (site_of (codes "B")) (Some 3))
unfolding lexed tokens_from longest_up_to has_form token_of one mark many command_of column_among row_test set_part
counted_push_line = refl

fates_line : parsed (codes "fate A B lose pass") ≡ Ok (command.Fates (site_of (codes "A")) (site_of (codes "B")) (fate.Lose ∷ fate.Pass ∷ []))
unfolding lexed tokens_from longest_up_to has_form token_of one mark many command_of column_among row_test set_part
fates_line = refl

clear_line : parsed (codes "fate A B clear") ≡ Ok (command.ClearFates (site_of (codes "A")) (site_of (codes "B")))
unfolding lexed tokens_from longest_up_to has_form token_of one mark many command_of column_among row_test set_part
clear_line = refl

link_line : parsed (codes "link A B down") ≡ Ok (command.Link (site_of (codes "A")) (site_of (codes "B")) link.Down)
unfolding lexed tokens_from longest_up_to has_form token_of one mark many command_of column_among row_test set_part
link_line = refl

clock_line : parsed (codes "clock A 500") ≡ Ok (command.Clock (site_of (codes "A")) 500)
unfolding lexed tokens_from longest_up_to has_form token_of one mark many command_of column_among row_test set_part
clock_line = refl

purge_line : parsed (codes "purge A") ≡ Ok (command.Purge (site_of (codes "A")))
unfolding lexed tokens_from longest_up_to has_form token_of one mark many command_of column_among row_test set_part
purge_line = refl

execute_line : parsed (codes "execute A B 2") ≡ Ok (command.Execute (site_of (codes "A")) (site_of (codes "B")) 2)
unfolding lexed tokens_from longest_up_to has_form token_of one mark many command_of column_among row_test set_part
execute_line = refl

drop_error_line : parsed (codes "drop-error A B 2") ≡ Ok (command.DropError (site_of (codes "A")) (site_of (codes "B")) 2)
unfolding lexed tokens_from longest_up_to has_form token_of one mark many command_of column_among row_test set_part
drop_error_line = refl

suspend_line : parsed (codes "suspend") ≡ Ok command.Suspend
unfolding lexed tokens_from longest_up_to has_form token_of one mark many command_of column_among row_test set_part
suspend_line = refl

show_line : parsed (codes "show marks B") ≡ Ok (command.Show shown.Marks (site_of (codes "B")))
unfolding lexed tokens_from longest_up_to has_form token_of one mark many command_of column_among row_test set_part
show_line = refl

-- Lines that are passed over.

comment_is_passed_over : parsed (codes "# push A B !") ≡ Ok command.Nothing
unfolding lexed command_of
comment_is_passed_over = refl

spaces_are_passed_over : parsed (codes "   ") ≡ Ok command.Nothing
unfolding lexed command_of
spaces_are_passed_over = refl

-- The first rule that is broken.

odd_byte_in_long_line : parsed (replicate 1025 9) ≡ Err 1
unfolding lexed
odd_byte_in_long_line = refl

tab : parsed (35 ∷ 9 ∷ []) ≡ Err 3
unfolding lexed
tab = refl

-- rule 4 over the whole line comes before rule 5
odd_symbol_before_word : parsed (codes "frob !") ≡ Err 4
unfolding lexed tokens_from longest_up_to has_form token_of
odd_symbol_before_word = refl

no_command : parsed (codes "frob A") ≡ Err 5
unfolding lexed tokens_from longest_up_to has_form token_of one mark many command_of column_among row_test set_part
no_command = refl

no_word_first : parsed (codes "'site' A") ≡ Err 5
unfolding lexed tokens_from longest_up_to has_form token_of one mark many command_of column_among row_test set_part
no_word_first = refl

case_matters : parsed (codes "Site A") ≡ Err 5
unfolding lexed tokens_from longest_up_to has_form token_of one mark many command_of column_among row_test set_part
case_matters = refl

dash_in_name : parsed (codes "site Q-5") ≡ Err 6
unfolding lexed tokens_from longest_up_to has_form token_of one mark many command_of column_among row_test set_part
dash_in_name = refl

third_site : parsed (codes "push A B C") ≡ Err 6
unfolding lexed tokens_from longest_up_to has_form token_of one mark many command_of column_among row_test set_part
third_site = refl

no_column : parsed (codes "table T") ≡ Err 6
unfolding lexed tokens_from longest_up_to has_form token_of one mark many command_of column_among row_test set_part
no_column = refl

no_type : parsed (codes "table T ID:number") ≡ Err 6
unfolding lexed tokens_from longest_up_to has_form token_of one mark many command_of column_among row_test set_part
no_type = refl

count_is_whole : parsed (codes "push A B count -0") ≡ Err 6
unfolding lexed tokens_from longest_up_to has_form token_of one mark many command_of column_among row_test set_part
count_is_whole = refl

no_method : parsed (codes "method T q add") ≡ Err 6
unfolding lexed tokens_from longest_up_to has_form token_of one mark many command_of column_among row_test set_part
no_method = refl

method_without_column : parsed (codes "method T q latest") ≡ Err 6
unfolding lexed tokens_from longest_up_to has_form token_of one mark many command_of column_among row_test set_part
method_without_column = refl

level_is_a_number : parsed (codes "site-level A 'x'") ≡ Err 6
unfolding lexed tokens_from longest_up_to has_form token_of one mark many command_of column_among row_test set_part
level_is_a_number = refl

clear_and_a_fate : parsed (codes "fate A B clear pass") ≡ Err 6
unfolding lexed tokens_from longest_up_to has_form token_of one mark many command_of column_among row_test set_part
clear_and_a_fate = refl

a_fate_and_clear : parsed (codes "fate A B pass clear") ≡ Err 6
unfolding lexed tokens_from longest_up_to has_form token_of one mark many command_of column_among row_test set_part
a_fate_and_clear = refl

no_set : parsed (codes "update T 1 :") ≡ Err 6
unfolding lexed tokens_from longest_up_to has_form token_of one mark many command_of column_among row_test set_part
no_set = refl

sets_without_comma : parsed (codes "update T 1 : A = 1 B = 2") ≡ Err 6
unfolding lexed tokens_from longest_up_to has_form token_of one mark many command_of column_among row_test set_part
sets_without_comma = refl

sum_of_a_text : parsed (codes "update T 1 : A + 'x'") ≡ Err 6
unfolding lexed tokens_from longest_up_to has_form token_of one mark many command_of column_among row_test set_part
sum_of_a_text = refl

shown_other : parsed (codes "show sites A") ≡ Err 6
unfolding lexed tokens_from longest_up_to has_form token_of one mark many command_of column_among row_test set_part
shown_other = refl

-- Forms of snapshots.

snapshot_site : parsed (codes "snapsite S A") ≡ Ok (command.Declare (declare.SnapSite (site_of (codes "S")) (site_of (codes "A"))))
unfolding lexed tokens_from longest_up_to has_form token_of one mark many command_of column_among row_test set_part
snapshot_site = refl

snapshot : parsed (codes "snapshot S T where Q > 5 and Q < 9") ≡ Ok (command.Snapshot (site_of (codes "S")) (table_of (codes "T")) None (Some (
    record { column = codes "Q"; rel = rel.Gt; value = literal.Num (pos 5) } ∷ record { column = codes "Q"; rel = rel.Lt; value = literal.Num (pos 9) } ∷ [])))
unfolding lexed tokens_from longest_up_to has_form token_of one mark many command_of column_among row_test set_part
snapshot = refl

subsnapshot : parsed (codes "subsnapshot S ORD parent CUST by AREA CUST where ZONE = 1") ≡ Ok (command.Snapshot (site_of (codes "S")) (table_of (codes "ORD"))
    (Some (record { table = table_of (codes "CUST"); columns = codes "AREA" ∷ codes "CUST" ∷ [] })) (Some (record { column = codes "ZONE"; rel = rel.Eq; value = literal.Num (pos 1) } ∷ [])))
unfolding lexed tokens_from longest_up_to has_form token_of one mark many command_of column_among row_test set_part
subsnapshot = refl

-- the names end at the word where, and one has to stand in front of it
no_columns : parsed (codes "subsnapshot S ORD parent CUST by where ZONE = 1") ≡ Err 6
unfolding lexed tokens_from longest_up_to has_form token_of one mark many command_of column_among row_test set_part
no_columns = refl

snapshot_word : parsed (codes "snapshot") ≡ Err 6
unfolding lexed tokens_from longest_up_to has_form token_of one mark many command_of column_among row_test set_part
snapshot_word = refl

refresh : parsed (codes "refresh S fast") ≡ Ok (command.Refresh (site_of (codes "S")) refresh_how.Fast)
unfolding lexed tokens_from longest_up_to has_form token_of one mark many command_of column_among row_test set_part
refresh = refl

purged_log : parsed (codes "purge-log A T") ≡ Ok (command.PurgeLog (site_of (codes "A")) (table_of (codes "T")))
unfolding lexed tokens_from longest_up_to has_form token_of one mark many command_of column_among row_test set_part
purged_log = refl

shown_log : parsed (codes "show log A") ≡ Ok (command.Show shown.Log (site_of (codes "A")))
unfolding lexed tokens_from longest_up_to has_form token_of one mark many command_of column_among row_test set_part
shown_log = refl

-- Forms of masters that join.

joining : parsed (codes "join D A") ≡ Ok (command.Join (site_of (codes "D")) (site_of (codes "A")))
unfolding lexed tokens_from longest_up_to has_form token_of one mark many command_of column_among row_test set_part
joining = refl

join_word : parsed (codes "join") ≡ Err 6
unfolding lexed tokens_from longest_up_to has_form token_of one mark many command_of column_among row_test set_part
join_word = refl

late_site_and_more : parsed (codes "latesite D E") ≡ Err 6
unfolding lexed tokens_from longest_up_to has_form token_of one mark many command_of column_among row_test set_part
late_site_and_more = refl

-- Forms of procedures.

shown_calls : parsed (codes "show calls A") ≡ Ok (command.Show shown.Calls (site_of (codes "A")))
unfolding lexed tokens_from longest_up_to has_form token_of one mark many command_of column_among row_test set_part
shown_calls = refl

proc_table : parsed (codes "proctable PRICE ID:NUMBER:key AT:DATE") ≡ Ok (command.Procedures (proc_line.Table (table_of (codes "PRICE"))
    (record { name = codes "ID"; kind = kind.Number; key = true } ∷ record { name = codes "AT"; kind = kind.Date; key = false } ∷ [])))
unfolding lexed tokens_from longest_up_to has_form token_of one mark many command_of column_among row_test set_part
proc_table = refl

-- no site fills a column in
proc_table_with_stamp : parsed (codes "proctable PRICE ID:NUMBER:key C:STAMP") ≡ Err 6
unfolding lexed tokens_from longest_up_to has_form token_of one mark many command_of column_among row_test set_part
proc_table_with_stamp = refl

procedure_put : parsed (codes "procedure PUT PRICE put") ≡ Ok (command.Procedures (proc_line.Procedure (codes "PUT") (table_of (codes "PRICE")) action_words.Put))
unfolding lexed tokens_from longest_up_to has_form token_of one mark many command_of column_among row_test set_part
procedure_put = refl

procedure_add : parsed (codes "procedure UP PRICE add AMT where ZONE = 1") ≡ Ok (command.Procedures (proc_line.Procedure (codes "UP") (table_of (codes "PRICE"))
    (action_words.Add (codes "AMT") (Some (record { column = codes "ZONE"; rel = rel.Eq; value = literal.Num (pos 1) } ∷ [])))))
unfolding lexed tokens_from longest_up_to has_form token_of one mark many command_of column_among row_test set_part
procedure_add = refl

procedure_drop : parsed (codes "procedure OUT PRICE drop") ≡ Ok (command.Procedures (proc_line.Procedure (codes "OUT") (table_of (codes "PRICE")) (action_words.Drop None)))
unfolding lexed tokens_from longest_up_to has_form token_of one mark many command_of column_among row_test set_part
procedure_drop = refl

procedure_without_action : parsed (codes "procedure UP PRICE") ≡ Err 6
unfolding lexed tokens_from longest_up_to has_form token_of one mark many command_of column_among row_test set_part
procedure_without_action = refl

procedure_add_nowhere : parsed (codes "procedure UP PRICE add where") ≡ Ok (command.Procedures (proc_line.Procedure (codes "UP") (table_of (codes "PRICE")) (action_words.Add (codes "where") None)))
unfolding lexed tokens_from longest_up_to has_form token_of one mark many command_of column_among row_test set_part
procedure_add_nowhere = refl

calls_line : parsed (codes "calls A") ≡ Ok (command.Procedures (proc_line.Calls (site_of (codes "A"))))
unfolding lexed tokens_from longest_up_to has_form token_of one mark many command_of column_among row_test set_part
calls_line = refl

call_line : parsed (codes "call PUT 1 'a'") ≡ Ok (command.Procedures (proc_line.Call (record { procedure = codes "PUT"; values = literal.Num (pos 1) ∷ literal.Words (codes "a") ∷ [] })))
unfolding lexed tokens_from longest_up_to has_form token_of one mark many command_of column_among row_test set_part
call_line = refl

call_without_values : parsed (codes "call OUT") ≡ Ok (command.Procedures (proc_line.Call (record { procedure = codes "OUT"; values = [] })))
unfolding lexed tokens_from longest_up_to has_form token_of one mark many command_of column_among row_test set_part
call_without_values = refl

call_of_a_word : parsed (codes "call PUT 1 a") ≡ Err 6
unfolding lexed tokens_from longest_up_to has_form token_of one mark many command_of column_among row_test set_part
call_of_a_word = refl

send_to_all : parsed (codes "send") ≡ Ok (command.Procedures (proc_line.Send []))
unfolding lexed tokens_from longest_up_to has_form token_of one mark many command_of column_among row_test set_part
send_to_all = refl

send_to_two : parsed (codes "send B C") ≡ Ok (command.Procedures (proc_line.Send (site_of (codes "B") ∷ site_of (codes "C") ∷ [])))
unfolding lexed tokens_from longest_up_to has_form token_of one mark many command_of column_among row_test set_part
send_to_two = refl

push_calls_line : parsed (codes "push-calls A B") ≡ Ok (command.Procedures (proc_line.Push (site_of (codes "A")) (site_of (codes "B"))))
unfolding lexed tokens_from longest_up_to has_form token_of one mark many command_of column_among row_test set_part
push_calls_line = refl

push_calls_have_no_count : parsed (codes "push-calls A B count 1") ≡ Err 6
unfolding lexed tokens_from longest_up_to has_form token_of one mark many command_of column_among row_test set_part
push_calls_have_no_count = refl

fate_calls_line : parsed (codes "fate-calls A B lose pass") ≡ Ok (command.Procedures (proc_line.Fates (site_of (codes "A")) (site_of (codes "B")) (fate.Lose ∷ fate.Pass ∷ [])))
unfolding lexed tokens_from longest_up_to has_form token_of one mark many command_of column_among row_test set_part
fate_calls_line = refl

fate_calls_are_not_cleared : parsed (codes "fate-calls A B clear") ≡ Err 6
unfolding lexed tokens_from longest_up_to has_form token_of one mark many command_of column_among row_test set_part
fate_calls_are_not_cleared = refl

execute_calls_line : parsed (codes "execute-calls B A 2") ≡ Ok (command.Procedures (proc_line.Execute (site_of (codes "B")) (site_of (codes "A")) 2))
unfolding lexed tokens_from longest_up_to has_form token_of one mark many command_of column_among row_test set_part
execute_calls_line = refl

shown_log_and_more : parsed (codes "show log A B") ≡ Err 6
unfolding lexed tokens_from longest_up_to has_form token_of one mark many command_of column_among row_test set_part
shown_log_and_more = refl
