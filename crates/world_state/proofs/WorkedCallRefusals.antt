-- Lines about procedures that are refused, each for the first reason that applies.
use Rattle.std.specs.Prelude.{◌≡◌, refl, ℕ, codes, ◌++◌, List, [], ◌∷◌, Option, Some, None, length, replicate}
use Rattle.rep_values.specs.declared.name.TableName.{TableName}
use Rattle.rep_values.specs.declared.literal.Literal.{Literal}
use Rattle.rep_values.specs.declared.refusal.Refusal.TheVariants as refusal
use Rattle.rep_values.specs.declared.refusal.Limit.TheVariants as limit
use Rattle.rep_schema.specs.declared.schema.Column.{Column}
use Rattle.rep_schema.specs.declared.check.Rel.TheVariants as rel
use Rattle.rep_schema.specs.Groups.{group_columns_of}
use Rattle.rep_declare.specs.Refusals.{columns_step}
use Rattle.rep_declare.specs.declared.declaration.Declare.TheVariants as declare
use Rattle.schema_rules.specs.Rules.{broken_rule}
use Rattle.site_state.proofs.WorkedSites.{a, b, c, d, key_column, number_column, add}
use Rattle.script_parse.specs.declared.command.TestWords.{TestWords}
use Rattle.script_parse.specs.declared.command.Command.{Command}
use Rattle.script_parse.specs.declared.command.Command.TheVariants as command
use Rattle.script_parse.specs.declared.command.Shown.TheVariants as shown_word
use Rattle.script_parse.specs.declared.proc_line.ActionWords.TheVariants as words
use Rattle.script_parse.specs.declared.proc_line.CallWords.{CallWords}
use Rattle.script_parse.specs.declared.proc_line.ProcLine.TheVariants as line
use Rattle.world_state.specs.declared.call_block.CallBlock.{CallBlock}
use Rattle.world_state.specs.World.{WorldState, first_world}
use Rattle.world_state.specs.CallBlocks.{called_more}
use Rattle.world_state.specs.Refusals.{world_refusal}
use Rattle.world_state.proofs.WorkedScripts.{t, master_line, late_line, snapshot_site_line, id_and_q, resume, suspend, txn, commit, statement, after, stepped, told}
use Rattle.world_state.proofs.WorkedRefusals.{at_line, text}
use Rattle.world_state.proofs.WorkedCalls.{of_procs, price, price_table, procedure, procedures, calls, call, num, put, up, send, push_calls, fate_calls, execute_calls, prices_at, three}

-- ---- Setup's lines

abbrev a_table : TableName → Command
a_table name = of_procs (line.Table name (key_column (codes "ID") ∷ []))

-- each list of tables knows the names of the other
table_names : told 1 (price_table ∷ command.Declare (declare.Table price (key_column (codes "ID") ∷ [])) ∷ price_table ∷ id_and_q ∷ a_table t ∷ []) first_world
    ≡ at_line 2 refusal.NameTaken ∷ at_line 3 refusal.NameTaken ∷ at_line 5 refusal.NameTaken ∷ []
unfolding group_columns_of columns_step broken_rule
table_names = refl

-- other lines don't know tables of procedures
unknown_elsewhere : told 1 (master_line a ∷ price_table ∷ command.Declare (declare.Group price (codes "g") (codes "AMT" ∷ [])) ∷ command.Row price (num 1 ∷ num 1 ∷ num 1 ∷ [])
    ∷ command.Declare (declare.Convergent price) ∷ []) first_world
    ≡ at_line 3 refusal.UnknownName ∷ at_line 4 refusal.UnknownName ∷ at_line 5 refusal.UnknownName ∷ []
unfolding group_columns_of columns_step broken_rule
unknown_elsewhere = refl

-- nor do procedures know other tables
procedure_names : told 1 (price_table ∷ id_and_q ∷ of_procs (line.Procedure (codes "PUT") t words.Put) ∷ procedure (codes "PUT") words.Put ∷ procedure (codes "PUT") words.Put
    ∷ of_procs (line.Procedure (codes "PUT") t words.Put) ∷ []) first_world
    ≡ at_line 3 refusal.UnknownName ∷ at_line 5 refusal.NameTaken ∷ at_line 6 refusal.NameTaken ∷ []
unfolding group_columns_of columns_step broken_rule
procedure_names = refl

abbrev test_of : List ℕ → Literal → Option (List TestWords)
test_of column value = Some (record { column = column; rel = rel.Eq; value = value } ∷ [])

-- the column of an add comes before those of its tests, names come before shapes, and shapes before ranges
procedure_steps : told 1 (price_table ∷ procedure (codes "P") (words.Add (codes "NO") (test_of (codes "ZONE") (text (codes "x")))) ∷ procedure (codes "P") (words.Add (codes "ID") (test_of (codes "NO") (num 1)))
    ∷ procedure (codes "P") (words.Add (codes "ID") (test_of (codes "ZONE") (num 1000000000000001))) ∷ procedure (codes "P") (words.Add (codes "AMT") (test_of (codes "ZONE") (text (codes "x"))))
    ∷ procedure (codes "P") (words.Add (codes "AMT") (test_of (codes "ZONE") (num 1000000000000001))) ∷ procedure (codes "P") (words.Drop (test_of (codes "NO") (num 1))) ∷ []) first_world
    ≡ at_line 2 refusal.UnknownName ∷ at_line 3 refusal.UnknownName ∷ at_line 4 refusal.RowShape ∷ at_line 5 refusal.RowShape ∷ at_line 6 refusal.ValueRange ∷ at_line 7 refusal.UnknownName ∷ []
unfolding group_columns_of columns_step broken_rule
procedure_steps = refl

abbrev nine_columns : ℕ → List Column
nine_columns k = number_column (k ∷ 49 ∷ []) ∷ number_column (k ∷ 50 ∷ []) ∷ number_column (k ∷ 51 ∷ []) ∷ number_column (k ∷ 52 ∷ []) ∷ number_column (k ∷ 53 ∷ [])
    ∷ number_column (k ∷ 54 ∷ []) ∷ number_column (k ∷ 55 ∷ []) ∷ number_column (k ∷ 56 ∷ []) ∷ number_column (k ∷ 57 ∷ []) ∷ []

abbrev thirty_columns : List Column
thirty_columns = key_column (codes "ID") ∷ number_column (codes "Q") ∷ number_column (codes "R") ∷ nine_columns 65 ++ nine_columns 66 ++ nine_columns 67

thirty_are_taken : world_refusal (of_procs (line.Table price thirty_columns)) first_world ≡ None
thirty_are_taken = refl

the_thirty_first_is_not : world_refusal (of_procs (line.Table price (number_column (codes "S") ∷ thirty_columns))) first_world ≡ Some (refusal.LimitReached limit.Columns)
the_thirty_first_is_not = refl

-- rule 2 is broken by a table of procedures without a key, and a lower one comes first
no_key : told 1 (of_procs (line.Table price (number_column (codes "AMT") ∷ [])) ∷ resume ∷ master_line a ∷ resume ∷ []) first_world
    ≡ at_line 2 (refusal.SchemaRule 1) ∷ at_line 4 (refusal.SchemaRule 2) ∷ []
unfolding group_columns_of columns_step broken_rule
no_key = refl

-- ---- blocks

before_setup_ends : told 1 (calls a ∷ put 1 1 1 ∷ send [] ∷ push_calls a b ∷ fate_calls a b [] ∷ execute_calls a b 1 ∷ command.Show shown_word.Calls a ∷ []) first_world
    ≡ at_line 1 refusal.WrongPhase ∷ at_line 2 refusal.WrongPhase ∷ at_line 3 refusal.WrongPhase ∷ at_line 4 refusal.WrongPhase ∷ at_line 5 refusal.WrongPhase ∷ at_line 6 refusal.WrongPhase
    ∷ at_line 7 refusal.WrongPhase ∷ []
unfolding group_columns_of columns_step broken_rule
before_setup_ends = refl

abbrev made : WorldState
made = after three

-- only a call or a send stands in a block of calls
in_a_block : told 1 (calls a ∷ calls a ∷ txn a ∷ commit ∷ command.Abandon ∷ statement (add 1 1) ∷ suspend ∷ resume ∷ push_calls a b ∷ command.Show shown_word.Calls a ∷ send [] ∷ send [] ∷ []) made
    ≡ at_line 2 refusal.WrongPhase ∷ at_line 3 refusal.WrongPhase ∷ at_line 4 refusal.WrongPhase ∷ at_line 5 refusal.WrongPhase ∷ at_line 6 refusal.WrongPhase ∷ at_line 7 refusal.WrongPhase
    ∷ at_line 8 refusal.WrongPhase ∷ at_line 9 refusal.WrongPhase ∷ at_line 10 refusal.WrongPhase ∷ at_line 12 refusal.WrongPhase ∷ []
unfolding group_columns_of columns_step broken_rule
in_a_block = refl

-- and in the block of a transaction there are no calls
in_a_transaction : told 1 (txn a ∷ calls a ∷ put 1 1 1 ∷ send [] ∷ commit ∷ []) made ≡ at_line 2 refusal.WrongPhase ∷ at_line 3 refusal.WrongPhase ∷ at_line 4 refusal.WrongPhase ∷ []
unfolding group_columns_of columns_step broken_rule
in_a_transaction = refl

-- while transactions are suspended no block of calls is opened, and all else goes on
suspended_calls : told 1 (calls a ∷ put 1 1 1 ∷ send [] ∷ suspend ∷ calls d ∷ push_calls a b ∷ []) made ≡ at_line 5 refusal.Suspended ∷ []
unfolding group_columns_of columns_step broken_rule
suspended_calls = refl

-- ---- sends

-- a refused name is told with the line of the send, before any call; the block is closed
names_first : told 1 (calls a ∷ call (codes "NO") [] ∷ send (d ∷ []) ∷ send [] ∷ calls a ∷ send (b ∷ b ∷ []) ∷ calls a ∷ send (a ∷ []) ∷ calls a ∷ send (c ∷ b ∷ []) ∷ []) made
    ≡ at_line 3 refusal.UnknownName ∷ at_line 4 refusal.WrongPhase ∷ at_line 6 refusal.UnknownName ∷ at_line 8 refusal.UnknownName ∷ []
unfolding group_columns_of columns_step broken_rule
names_first = refl

-- a refused call is told with its own line, the first of them alone
first_refused_call : told 1 (calls a ∷ put 1 1 1 ∷ call (codes "PUT") (num 1 ∷ []) ∷ call (codes "NO") [] ∷ send [] ∷ calls a ∷ put 1 1 1000000000000001 ∷ call (codes "NO") [] ∷ send (b ∷ [])
    ∷ calls a ∷ call (codes "UP") [] ∷ send [] ∷ calls a ∷ call (codes "UP") (text (codes "x") ∷ []) ∷ send [] ∷ calls a ∷ call (codes "OUT") (num 1 ∷ []) ∷ send [] ∷ []) made
    ≡ at_line 3 refusal.RowShape ∷ at_line 7 refusal.ValueRange ∷ at_line 11 refusal.RowShape ∷ at_line 14 refusal.RowShape ∷ at_line 17 refusal.RowShape ∷ []
unfolding group_columns_of columns_step broken_rule
first_refused_call = refl

-- an add that leaves its range is looked for where no call of the block is refused, and then nothing is done
add_out_of_range : told 1 (calls a ∷ put 1 1 1000000000000000 ∷ up 1 ∷ call (codes "NO") [] ∷ send [] ∷ calls a ∷ put 1 1 1000000000000000 ∷ up 1 ∷ put 2 2 2 ∷ send [] ∷ []) made
    ≡ at_line 4 refusal.UnknownName ∷ at_line 8 refusal.ValueRange ∷ []
unfolding group_columns_of columns_step broken_rule
add_out_of_range = refl

refused_send_does_nothing : prices_at a (stepped 1 (calls a ∷ put 2 2 2 ∷ put 1 1 1000000000000000 ∷ up 1 ∷ send [] ∷ []) made) ≡ [] ∷ []
unfolding group_columns_of columns_step broken_rule
refused_send_does_nothing = refl

-- ---- a block keeps one call more than it may have, and that one is refused

abbrev one_call : CallWords
one_call = record { procedure = codes "OUT"; values = [] }

abbrev block_of : ℕ → CallBlock
block_of count = record { site = a; lines = replicate count 1; calls = replicate count one_call }

keeps_one_too_many : length (called_more 1 one_call (block_of 1000)).calls ≡ 1001
keeps_one_too_many = refl

keeps_no_more : length (called_more 1 one_call (block_of 1001)).calls ≡ 1001
keeps_no_more = refl

-- ---- names of pushes, fates, executions and shows

abbrev with_others : WorldState
with_others = after (master_line a ∷ master_line b ∷ late_line d ∷ snapshot_site_line c a ∷ price_table ∷ procedures ++ resume ∷ [])

no_two_masters : told 1 (push_calls a a ∷ push_calls a c ∷ push_calls c a ∷ push_calls d a ∷ fate_calls a d [] ∷ fate_calls a a [] ∷ execute_calls c a 1 ∷ execute_calls a a 1 ∷ calls c ∷ calls d
    ∷ command.Show shown_word.Calls c ∷ command.Show shown_word.Calls d ∷ execute_calls b a 1 ∷ push_calls a b ∷ command.Show shown_word.Calls b ∷ []) with_others
    ≡ at_line 1 refusal.UnknownName ∷ at_line 2 refusal.UnknownName ∷ at_line 3 refusal.UnknownName ∷ at_line 4 refusal.UnknownName ∷ at_line 5 refusal.UnknownName ∷ at_line 6 refusal.UnknownName
    ∷ at_line 7 refusal.UnknownName ∷ at_line 8 refusal.UnknownName ∷ at_line 9 refusal.UnknownName ∷ at_line 10 refusal.UnknownName ∷ at_line 11 refusal.UnknownName ∷ at_line 12 refusal.UnknownName
    ∷ at_line 13 refusal.NoSuchError ∷ []
unfolding group_columns_of columns_step broken_rule
no_two_masters = refl

-- a late master that joined is none for calls either
joined_master : told 1 (suspend ∷ command.Join d a ∷ resume ∷ calls d ∷ push_calls a d ∷ calls a ∷ send (d ∷ []) ∷ []) with_others
    ≡ at_line 4 refusal.UnknownName ∷ at_line 5 refusal.UnknownName ∷ at_line 7 refusal.UnknownName ∷ []
unfolding group_columns_of columns_step broken_rule
joined_master = refl
