-- Calls of procedures in worlds: price lists that are put and raised, lost, held, in error and executed.
use Rattle.std.specs.Prelude.{◌≡◌, refl, ℕ, codes, pos, ◌++◌, List, [], ◌∷◌, Option, Some, None}
use Rattle.rep_values.specs.declared.name.SiteName.{SiteName}
use Rattle.rep_values.specs.declared.name.TableName.{TableName}
use Rattle.rep_values.specs.declared.literal.Literal.{Literal}
use Rattle.rep_values.specs.declared.literal.Literal.TheVariants as literal
use Rattle.rep_values.specs.declared.refusal.ApplyError.TheVariants as error
use Rattle.rep_values.specs.declared.refusal.Refusal.TheVariants as refusal
use Rattle.rep_schema.specs.declared.check.Rel.TheVariants as rel
use Rattle.rep_schema.specs.Groups.{group_columns_of}
use Rattle.rep_schema.specs.Tables.{Cells, Rows}
use Rattle.rep_declare.specs.Refusals.{columns_step}
use Rattle.schema_rules.specs.Rules.{broken_rule}
use Rattle.net_plan.specs.declared.fate.Fate.{Fate}
use Rattle.net_plan.specs.declared.fate.Fate.TheVariants.{Pass, Lose, Late}
use Rattle.error_queue.specs.declared.entry.ErrorEntry.{ErrorEntry}
use Rattle.site_state.proofs.WorkedSites.{a, b, c, n, key_column, number_column}
use Rattle.proc_state.specs.State.{ProcState, proc_tables}
use Rattle.script_parse.specs.declared.command.TestWords.{TestWords}
use Rattle.script_parse.specs.declared.command.Command.{Command}
use Rattle.script_parse.specs.declared.command.Command.TheVariants as command
use Rattle.script_parse.specs.declared.proc_line.ActionWords.{ActionWords}
use Rattle.script_parse.specs.declared.proc_line.ActionWords.TheVariants as words
use Rattle.script_parse.specs.declared.proc_line.ProcLine.{ProcLine}
use Rattle.script_parse.specs.declared.proc_line.ProcLine.TheVariants as line
use Rattle.world_state.specs.World.{WorldState, first_world}
use Rattle.world_state.specs.Procs.{proc_of}
use Rattle.world_state.specs.CallBlocks.{sent_number}
use Rattle.world_state.specs.CallPushes.{calls_push_count, calls_push_errors}
use Rattle.world_state.specs.Refusals.{world_refusal}
use Rattle.world_state.proofs.WorkedScripts.{master_line, resume, suspend, push, link_down, after, then_lines, told, counted}

-- ---- lines

abbrev pub of_procs : ProcLine → Command
of_procs l = command.Procedures l

abbrev pub price : TableName
price = record { 0 = codes "PRICE" }

-- PRICE has a key ID, and the numbers ZONE and AMT
abbrev pub price_table : Command
price_table = of_procs (line.Table price (key_column (codes "ID") ∷ number_column (codes "ZONE") ∷ number_column (codes "AMT") ∷ []))

abbrev pub procedure : List ℕ → ActionWords → Command
procedure name does = of_procs (line.Procedure name price does)

abbrev pub in_zone : ℕ → Option (List TestWords)
in_zone zone = Some (record { column = codes "ZONE"; rel = rel.Eq; value = literal.Num (pos zone) } ∷ [])

-- PUT puts a row, UP raises the prices in zone 1, and OUT drops those in zone 2
abbrev pub procedures : List Command
procedures = procedure (codes "PUT") words.Put ∷ procedure (codes "UP") (words.Add (codes "AMT") (in_zone 1)) ∷ procedure (codes "OUT") (words.Drop (in_zone 2)) ∷ []

abbrev pub calls : SiteName → Command
calls site = of_procs (line.Calls site)

abbrev pub call : List ℕ → List Literal → Command
call name values = of_procs (line.Call (record { procedure = name; values = values }))

abbrev pub num : ℕ → Literal
num k = literal.Num (pos k)

abbrev pub put : ℕ → ℕ → ℕ → Command
put id zone amount = call (codes "PUT") (num id ∷ num zone ∷ num amount ∷ [])

abbrev pub up : ℕ → Command
up amount = call (codes "UP") (num amount ∷ [])

abbrev pub out : Command
out = call (codes "OUT") []

abbrev pub send : List SiteName → Command
send to = of_procs (line.Send to)

abbrev pub push_calls : SiteName → SiteName → Command
push_calls from to = of_procs (line.Push from to)

abbrev pub fate_calls : SiteName → SiteName → List Fate → Command
fate_calls from to fates = of_procs (line.Fates from to fates)

abbrev pub execute_calls : SiteName → SiteName → ℕ → Command
execute_calls site origin position = of_procs (line.Execute site origin position)

-- ---- what is shown

abbrev pub tables_in : Option ProcState → List Rows
tables_in None = []
tables_in (Some x) = proc_tables x

-- the tables of procedures at a site
abbrev pub prices_at : SiteName → WorldState → List Rows
prices_at site w = tables_in (proc_of site w.procs.sites)

abbrev pub price_row : ℕ → ℕ → ℕ → Cells
price_row id zone amount = n id ∷ n zone ∷ n amount ∷ []

abbrev pub three : List Command
three = master_line a ∷ master_line b ∷ master_line c ∷ price_table ∷ procedures ++ resume ∷ []

-- ---- two rows for all, and a rise for B alone

abbrev sending : List Command
sending = calls a ∷ put 1 1 100 ∷ put 2 2 100 ∷ send [] ∷ calls a ∷ up 5 ∷ send (b ∷ []) ∷ []

abbrev sent : WorldState
sent = then_lines sending (after three)

no_line_is_refused : told 1 (three ++ sending ++ push_calls a b ∷ push_calls a c ∷ []) first_world ≡ []
unfolding group_columns_of columns_step broken_rule
no_line_is_refused = refl

first_send : sent_number (then_lines (calls a ∷ put 1 1 100 ∷ put 2 2 100 ∷ []) (after three)).procs ≡ 1
unfolding group_columns_of columns_step broken_rule
first_send = refl

second_send : sent_number (then_lines (calls a ∷ put 1 1 100 ∷ put 2 2 100 ∷ send [] ∷ calls a ∷ up 5 ∷ []) (after three)).procs ≡ 2
unfolding group_columns_of columns_step broken_rule
second_send = refl

-- it is no number where there are no calls
send_of_no_calls : sent_number (then_lines (calls a ∷ []) (after three)).procs ≡ 0
unfolding group_columns_of columns_step broken_rule
send_of_no_calls = refl

both_come_to_b : calls_push_count a b sent.procs ≡ counted 2 2 0 2
unfolding group_columns_of columns_step broken_rule
both_come_to_b = refl

one_comes_to_c : calls_push_count a c (then_lines (push_calls a b ∷ []) sent).procs ≡ counted 1 1 0 1
unfolding group_columns_of columns_step broken_rule
one_comes_to_c = refl

prices_of_b : prices_at b (then_lines (push_calls a b ∷ []) sent) ≡ (price_row 1 1 105 ∷ price_row 2 2 100 ∷ []) ∷ []
unfolding group_columns_of columns_step broken_rule
prices_of_b = refl

prices_of_c : prices_at c (then_lines (push_calls a b ∷ push_calls a c ∷ []) sent) ≡ (price_row 1 1 100 ∷ price_row 2 2 100 ∷ []) ∷ []
unfolding group_columns_of columns_step broken_rule
prices_of_c = refl

no_block_stays_open : told 1 (three ++ sending ++ suspend ∷ []) first_world ≡ []
unfolding group_columns_of columns_step broken_rule
no_block_stays_open = refl

-- ---- a lost packet, and fates of this net alone

the_rise_waits_for_the_rows : calls_push_count a b (then_lines (fate_calls a b (Lose ∷ Pass ∷ []) ∷ []) sent).procs ≡ counted 2 0 0 0
unfolding group_columns_of columns_step broken_rule
the_rise_waits_for_the_rows = refl

then_both_are_done : calls_push_count a b (then_lines (fate_calls a b (Lose ∷ Pass ∷ []) ∷ push_calls a b ∷ []) sent).procs ≡ counted 2 2 0 2
unfolding group_columns_of columns_step broken_rule
then_both_are_done = refl

other_fates_are_of_rows : calls_push_count a b (then_lines (command.Fates a b (Lose ∷ Lose ∷ []) ∷ []) sent).procs ≡ counted 2 2 0 2
unfolding group_columns_of columns_step broken_rule
other_fates_are_of_rows = refl

-- ---- links are of both nets

link_is_down : world_refusal (push_calls a b) (then_lines (link_down a b ∷ []) sent) ≡ Some refusal.LinkDown
unfolding group_columns_of columns_step broken_rule
link_is_down = refl

mark_is_lost : calls_push_count a b (then_lines (link_down b a ∷ push_calls a b ∷ []) sent).procs ≡ counted 2 0 0 2
unfolding group_columns_of columns_step broken_rule
mark_is_lost = refl

-- ---- held calls come with a mark, and the next push to that site applies them

abbrev held : WorldState
held = then_lines (calls c ∷ put 7 1 7 ∷ send (b ∷ []) ∷ fate_calls c b (Late ∷ []) ∷ push_calls c b ∷ []) (after three)

a_push_of_rows_releases_none : prices_at b (then_lines (push c b ∷ push_calls a b ∷ []) held) ≡ [] ∷ []
unfolding group_columns_of columns_step broken_rule
a_push_of_rows_releases_none = refl

another_push_applies_them : calls_push_count a b (then_lines (push_calls b c ∷ []) held).procs ≡ counted 0 1 0 0
unfolding group_columns_of columns_step broken_rule
another_push_applies_them = refl

-- ---- a rise that is too high at B

abbrev highest : ℕ
highest = 1000000000000000

abbrev risen : WorldState
risen = then_lines (calls a ∷ put 1 1 100 ∷ send (b ∷ []) ∷ push_calls a b ∷ calls b ∷ put 1 1 highest ∷ send (c ∷ []) ∷ calls a ∷ put 3 1 7 ∷ up 5 ∷ send (b ∷ []) ∷ []) (after three)

error_counts : calls_push_count a b risen.procs ≡ counted 1 0 1 2
unfolding group_columns_of columns_step broken_rule
error_counts = refl

abbrev calls_failed : List ErrorEntry → List ℕ
calls_failed [] = []
calls_failed (e ∷ es) = e.call ∷ calls_failed es

second_call_fails : calls_failed (calls_push_errors a b risen.procs) ≡ 2 ∷ []
unfolding group_columns_of columns_step broken_rule
second_call_fails = refl

abbrev in_error : WorldState
in_error = then_lines (push_calls a b ∷ []) risen

-- the row that the first call puts is gone again
error_leaves_the_rows : prices_at b in_error ≡ (price_row 1 1 highest ∷ []) ∷ []
unfolding group_columns_of columns_step broken_rule
error_leaves_the_rows = refl

later_calls_go_on : calls_push_count a b (then_lines (calls a ∷ put 4 2 1 ∷ send (b ∷ []) ∷ []) in_error).procs ≡ counted 1 1 0 3
unfolding group_columns_of columns_step broken_rule
later_calls_go_on = refl

still_too_high : world_refusal (execute_calls b a 2) in_error ≡ Some (refusal.StillFails error.ValueRange)
unfolding group_columns_of columns_step broken_rule
still_too_high = refl

executed_once : told 1 (calls b ∷ put 1 1 0 ∷ send (c ∷ []) ∷ execute_calls b a 2 ∷ execute_calls b a 2 ∷ []) in_error ≡ record { line = 5; refusal = refusal.NoSuchError } ∷ []
unfolding group_columns_of columns_step broken_rule
executed_once = refl

executed_rows : prices_at b (then_lines (calls b ∷ put 1 1 0 ∷ send (c ∷ []) ∷ execute_calls b a 2 ∷ []) in_error) ≡ (price_row 1 1 5 ∷ price_row 3 1 12 ∷ []) ∷ []
unfolding group_columns_of columns_step broken_rule
executed_rows = refl

-- ---- rows that are dropped, and a master by itself

dropped_rows : prices_at a (then_lines (sending ++ calls a ∷ out ∷ send [] ∷ []) (after three)) ≡ (price_row 1 1 105 ∷ []) ∷ []
unfolding group_columns_of columns_step broken_rule
dropped_rows = refl

abbrev alone : WorldState
alone = after (master_line a ∷ price_table ∷ procedures ++ resume ∷ calls a ∷ put 1 1 1 ∷ [])

lone_master_queues_too : sent_number alone.procs ≡ 1
unfolding group_columns_of columns_step broken_rule
lone_master_queues_too = refl

lone_master_applies : prices_at a (then_lines (send [] ∷ []) alone) ≡ (price_row 1 1 1 ∷ []) ∷ []
unfolding group_columns_of columns_step broken_rule
lone_master_applies = refl
