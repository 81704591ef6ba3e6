-- A transaction in error, executed and dropped, and the lines that are told.
use Rattle.std.specs.Prelude.{◌≡◌, refl, codes, ◌++◌, List, [], ◌∷◌, None}
use Rattle.rep_values.specs.declared.refusal.ApplyError.TheVariants as error
use Rattle.rep_values.specs.declared.refusal.Refusal.TheVariants as refusal
use Rattle.rep_schema.specs.Groups.{group_columns_of}
use Rattle.rep_declare.specs.Refusals.{columns_step}
use Rattle.schema_rules.specs.Rules.{broken_rule}
use Rattle.site_state.specs.declared.entry.Entry.TheVariants as entry
use Rattle.site_state.proofs.WorkedSites.{a, b, row, set_to, moved, of_calls}
use Rattle.script_parse.specs.declared.command.Command.{Command}
use Rattle.world_state.specs.World.{WorldState}
use Rattle.world_state.specs.PushAnswers.{push_count, push_errors}
use Rattle.world_state.proofs.WorkedScripts.{master_line, id_and_q, row_line, resume, block, push, execute, drop_error, after, then_lines, stepped, told, counted, journal_at, rows_at}

-- the second call of a block conflicts with an update at the other site
abbrev script : List Command
script = master_line a ∷ master_line b ∷ id_and_q ∷ row_line 1 10 ∷ row_line 2 20 ∷ resume ∷ block b (set_to 2 21 ∷ []) ++ block a (set_to 1 11 ∷ set_to 2 22 ∷ [])

abbrev conflict : WorldState
conflict = after script

error_counts : push_count a b None conflict ≡ counted 1 0 1 1
unfolding group_columns_of columns_step broken_rule
error_counts = refl

error_is_listed : push_errors a b None conflict ≡ record { origin = a; position = 1; call = 2; error = error.UpdateConflict (codes "shadow"); txn = of_calls (moved 255 1 10 11 ∷ moved 255 2 20 22 ∷ []) } ∷ []
unfolding group_columns_of columns_step broken_rule
error_is_listed = refl

-- a second push brings nothing, though the error stands
old_error_is_not_listed : push_errors a b None (then_lines (push a b ∷ []) conflict) ≡ []
unfolding group_columns_of columns_step broken_rule
old_error_is_not_listed = refl

second_push_counts_none : push_count a b None (then_lines (push a b ∷ []) conflict) ≡ counted 0 0 0 1
unfolding group_columns_of columns_step broken_rule
second_push_counts_none = refl

abbrev pushed : WorldState
pushed = then_lines (push a b ∷ []) conflict

-- the row is set back, and then the whole block is executed
abbrev executed_lines : List Command
executed_lines = execute b a 1 ∷ block b (set_to 2 20 ∷ []) ++ execute b a 1 ∷ []

execution_that_fails_is_told : told 15 executed_lines pushed ≡ record { line = 15; refusal = refusal.StillFails (error.UpdateConflict (codes "shadow")) } ∷ []
unfolding group_columns_of columns_step broken_rule
execution_that_fails_is_told = refl

executed_rows : rows_at b (stepped 15 executed_lines pushed) ≡ (row 1 11 ∷ row 2 22 ∷ []) ∷ []
unfolding group_columns_of columns_step broken_rule
executed_rows = refl

abbrev dropped_lines : List Command
dropped_lines = drop_error b a 1 ∷ drop_error b a 1 ∷ execute b a 1 ∷ []

dropped_once : told 16 dropped_lines pushed ≡ record { line = 17; refusal = refusal.NoSuchError } ∷ record { line = 18; refusal = refusal.NoSuchError } ∷ []
unfolding group_columns_of columns_step broken_rule
dropped_once = refl

dropped_journal : journal_at b (stepped 16 dropped_lines pushed)
    ≡ entry.Dropped a 1 ∷ entry.Error a 1 2 (error.UpdateConflict (codes "shadow")) (of_calls (moved 255 1 10 11 ∷ moved 255 2 20 22 ∷ [])) ∷ entry.Local 1 (of_calls (moved 255 2 20 21 ∷ [])) ∷ []
unfolding group_columns_of columns_step broken_rule
dropped_journal = refl
