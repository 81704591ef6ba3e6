-- Lines that are refused, each for the first reason that applies.
use Rattle.std.specs.Prelude.{◌≡◌, refl, ℕ, false, codes, pos, List, [], ◌∷◌, Some, None, length, replicate}
use Rattle.rep_values.specs.declared.refusal.Refusal.{Refusal}
use Rattle.rep_values.specs.declared.refusal.Refusal.TheVariants as refusal
use Rattle.rep_values.specs.declared.refusal.Limit.TheVariants as limit
use Rattle.rep_values.specs.declared.literal.Literal.{Literal}
use Rattle.rep_values.specs.declared.literal.Literal.TheVariants as literal
use Rattle.rep_values.specs.declared.name.SiteName.{SiteName}
use Rattle.rep_schema.specs.Groups.{group_columns_of}
use Rattle.rep_declare.specs.Refusals.{columns_step}
use Rattle.schema_rules.specs.Rules.{broken_rule}
use Rattle.rep_schema.specs.declared.schema.Kind.TheVariants as kind
use Rattle.rep_declare.specs.declared.declaration.Declare.TheVariants as declare
use Rattle.site_state.proofs.WorkedSites.{a, b, c, named, key_column, add, delete}
use Rattle.rep_schema.specs.declared.check.Rel.TheVariants as rel
use Rattle.world_state.specs.declared.block.Block.{Block}
use Rattle.world_state.specs.declared.refused.Refused.{Refused}
use Rattle.script_parse.specs.declared.command.Command.{Command}
use Rattle.script_parse.specs.declared.command.Command.TheVariants as command
use Rattle.world_state.specs.World.{WorldState, first_world}
use Rattle.world_state.specs.Blocks.{stated_more}
use Rattle.world_state.specs.Refusals.{world_refusal}
use Rattle.world_state.specs.Answers.{commit_number}
use Rattle.world_state.proofs.WorkedScripts.{t, master_line, table_line, id_and_q, row_line, resume, suspend, txn, commit, statement, push, execute, link_down, after, then_lines, stepped, told, shown}

abbrev pub at_line : ℕ → Refusal → Refused
at_line number why = record { line = number; refusal = why }

abbrev num : ℕ → Literal
num k = literal.Num (pos k)

abbrev pub text : List ℕ → Literal
text bytes = literal.Words bytes

abbrev row_of : Literal → Literal → Command
row_of key value = command.Row t (key ∷ value ∷ [])

-- ---- a script in which most lines are refused

abbrev refused_lines : List Command
refused_lines =
    push a b ∷ resume ∷ master_line a ∷ master_line a ∷ master_line b
    ∷ table_line (key_column (codes "ID") ∷ record { name = codes "C"; kind = kind.Words; key = false } ∷ [])
    ∷ command.Declare (declare.Unique t (codes "u") (codes "C" ∷ []))
    ∷ row_of (num 1) (text (codes "a")) ∷ row_of (num 1) (text (codes "b")) ∷ row_of (num 2) (text (codes "a")) ∷ row_of (text (codes "x")) (text (codes "y"))
    ∷ resume ∷ execute b a 1 ∷ suspend ∷ txn a ∷ resume ∷ txn a ∷ statement (delete 9) ∷ commit ∷ txn a ∷ commit ∷ push a c ∷ []

each_is_told : told 1 refused_lines first_world
    ≡ at_line 1 refusal.WrongPhase ∷ at_line 2 (refusal.SchemaRule 1) ∷ at_line 4 refusal.NameTaken ∷ at_line 9 refusal.KeyTaken ∷ at_line 10 (refusal.UniqueTaken (codes "u")) ∷ at_line 11 refusal.RowShape
    ∷ at_line 13 refusal.NoSuchError ∷ at_line 15 refusal.Suspended ∷ at_line 18 refusal.NoRow ∷ at_line 22 refusal.UnknownName ∷ []
unfolding group_columns_of columns_step broken_rule
each_is_told = refl

-- ---- a refused commit closes its block, and leaves the site

abbrev two : WorldState
two = after (master_line a ∷ master_line b ∷ id_and_q ∷ row_line 1 10 ∷ resume ∷ [])

abbrev uncommitted : WorldState
uncommitted = stepped 6 (txn a ∷ statement (add 1 1) ∷ statement (add 9 1) ∷ commit ∷ []) two

block_is_closed : uncommitted.block ≡ None
unfolding group_columns_of columns_step broken_rule
block_is_closed = refl

site_is_as_before : uncommitted.sites ≡ two.sites
unfolding group_columns_of columns_step broken_rule
site_is_as_before = refl

refused_statement_is_told : told 6 (txn a ∷ statement (add 1 1) ∷ statement (add 9 1) ∷ commit ∷ commit ∷ []) two ≡ at_line 8 refusal.NoRow ∷ at_line 10 refusal.WrongPhase ∷ []
unfolding group_columns_of columns_step broken_rule
refused_statement_is_told = refl

-- ---- what a commit tells

block_that_changes_nothing_has_no_number : commit_number (then_lines (txn a ∷ statement (add 1 0) ∷ []) two) ≡ 0
unfolding group_columns_of columns_step broken_rule
block_that_changes_nothing_has_no_number = refl

block_that_changes_a_row_has_one : commit_number (then_lines (txn a ∷ statement (add 1 1) ∷ []) two) ≡ 1
unfolding group_columns_of columns_step broken_rule
block_that_changes_a_row_has_one = refl

-- ---- phases

abbrev in_block : WorldState
in_block = then_lines (txn a ∷ []) two

no_push_in_a_block : world_refusal (push a b) in_block ≡ Some refusal.WrongPhase
unfolding group_columns_of columns_step broken_rule
no_push_in_a_block = refl

no_second_block : world_refusal (txn a) in_block ≡ Some refusal.WrongPhase
unfolding group_columns_of columns_step broken_rule
no_second_block = refl

no_declaration_behind_setup : world_refusal (master_line c) two ≡ Some refusal.WrongPhase
unfolding group_columns_of columns_step broken_rule
no_declaration_behind_setup = refl

no_statement_without_a_block : world_refusal (statement (add 1 1)) two ≡ Some refusal.WrongPhase
unfolding group_columns_of columns_step broken_rule
no_statement_without_a_block = refl

no_resume_while_running : world_refusal resume two ≡ Some refusal.WrongPhase
unfolding group_columns_of columns_step broken_rule
no_resume_while_running = refl

suspended_before_the_name : world_refusal (txn c) (then_lines (suspend ∷ []) two) ≡ Some refusal.Suspended
unfolding group_columns_of columns_step broken_rule
suspended_before_the_name = refl

push_goes_on_while_suspended : world_refusal (push a b) (then_lines (suspend ∷ []) two) ≡ None
unfolding group_columns_of columns_step broken_rule
push_goes_on_while_suspended = refl

suspended_once : world_refusal suspend (then_lines (suspend ∷ []) two) ≡ Some refusal.WrongPhase
unfolding group_columns_of columns_step broken_rule
suspended_once = refl

abandoned_block_changes_nothing : (then_lines (statement (add 1 1) ∷ command.Abandon ∷ []) in_block).sites ≡ two.sites
unfolding group_columns_of columns_step broken_rule
abandoned_block_changes_nothing = refl

abandoned_block_is_closed : (then_lines (command.Abandon ∷ []) in_block).block ≡ None
unfolding group_columns_of columns_step broken_rule
abandoned_block_is_closed = refl

-- a table that has a row keeps its shape, and that is said before a name that is taken
shape_before_rows : world_refusal (command.Declare (declare.Group t (codes "shadow") (codes "Q" ∷ []))) (after (master_line a ∷ id_and_q ∷ row_line 1 10 ∷ [])) ≡ Some refusal.WrongPhase
unfolding group_columns_of columns_step broken_rule
shape_before_rows = refl

check_before_rows : world_refusal (command.Declare (declare.Check t (codes "c") (codes "Q") rel.Gt (num 0))) (after (master_line a ∷ id_and_q ∷ row_line 1 10 ∷ [])) ≡ Some refusal.WrongPhase
unfolding group_columns_of columns_step broken_rule
check_before_rows = refl

name_that_is_taken : world_refusal (command.Declare (declare.Group t (codes "shadow") (codes "Q" ∷ []))) (after (master_line a ∷ id_and_q ∷ [])) ≡ Some refusal.NameTaken
unfolding group_columns_of columns_step broken_rule
name_that_is_taken = refl

-- ---- names, links and ranges

nobody_pushes_to_itself : world_refusal (push a a) two ≡ Some refusal.UnknownName
unfolding group_columns_of columns_step broken_rule
nobody_pushes_to_itself = refl

link_is_down : world_refusal (push a b) (then_lines (link_down a b ∷ []) two) ≡ Some refusal.LinkDown
unfolding group_columns_of columns_step broken_rule
link_is_down = refl

other_direction_is_up : world_refusal (push b a) (then_lines (link_down a b ∷ []) two) ≡ None
unfolding group_columns_of columns_step broken_rule
other_direction_is_up = refl

no_link_to_itself : world_refusal (link_down a a) two ≡ Some refusal.UnknownName
unfolding group_columns_of columns_step broken_rule
no_link_to_itself = refl

no_error_of_a_stranger : world_refusal (execute a a 1) two ≡ Some refusal.UnknownName
unfolding group_columns_of columns_step broken_rule
no_error_of_a_stranger = refl

clock_in_range : world_refusal (command.Clock a 1000000000000000) two ≡ None
unfolding group_columns_of columns_step broken_rule
clock_in_range = refl

clock_out_of_range : world_refusal (command.Clock a 1000000000000001) two ≡ Some refusal.ValueRange
unfolding group_columns_of columns_step broken_rule
clock_out_of_range = refl

clock_is_set : shown 9 (λ x. x.stamps.clock) a (then_lines (command.Clock a 5 ∷ []) two) ≡ 5
unfolding group_columns_of columns_step broken_rule
clock_is_set = refl

name_before_the_range : world_refusal (command.Clock c 1000000000000001) two ≡ Some refusal.UnknownName
unfolding group_columns_of columns_step broken_rule
name_before_the_range = refl

abbrev site_number : ℕ → SiteName
site_number k = named (65 ∷ k ∷ [])

ninth_master : told 1 (master_line (site_number 49) ∷ master_line (site_number 50) ∷ master_line (site_number 51) ∷ master_line (site_number 52) ∷ master_line (site_number 53) ∷ master_line (site_number 54)
    ∷ master_line (site_number 55) ∷ master_line (site_number 56) ∷ master_line (site_number 57) ∷ []) first_world ≡ at_line 9 (refusal.LimitReached limit.Masters) ∷ []
unfolding group_columns_of columns_step broken_rule
ninth_master = refl

-- ---- a block keeps one statement more than it may have

abbrev block_of : ℕ → Block
block_of count = record { site = a; lines = replicate count 1; statements = replicate count (add 1 1) }

keeps_one_too_many : length (stated_more 1 (add 1 1) (block_of 1000)).statements ≡ 1001
keeps_one_too_many = refl

keeps_no_more : length (stated_more 1 (add 1 1) (block_of 1001)).statements ≡ 1001
keeps_no_more = refl
