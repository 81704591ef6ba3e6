-- What another master's transaction rests on comes first, and the rounds of a push bring what waited.
use Rattle.std.specs.Prelude.{◌≡◌, refl, ◌++◌, List, [], ◌∷◌, Some, None}
use Rattle.rep_values.specs.declared.refusal.Refusal.TheVariants as refusal
use Rattle.rep_schema.specs.Groups.{group_columns_of}
use Rattle.rep_declare.specs.Refusals.{columns_step}
use Rattle.schema_rules.specs.Rules.{broken_rule}
use Rattle.net_plan.specs.declared.fate.Fate.TheVariants.{Lose}
use Rattle.site_state.proofs.WorkedSites.{a, b, c, d, row, add, insert}
use Rattle.script_parse.specs.declared.command.Command.{Command}
use Rattle.script_parse.specs.declared.command.Command.TheVariants as command
use Rattle.world_state.specs.World.{WorldState}
use Rattle.world_state.specs.PushAnswers.{push_count}
use Rattle.world_state.specs.Refusals.{world_refusal}
use Rattle.world_state.proofs.WorkedScripts.{master_line, id_and_q, added_up, resume, block, push, push_some, execute, after, then_lines, counted, rows_at}

abbrev three_masters : List Command
three_masters = master_line a ∷ master_line b ∷ master_line c ∷ id_and_q ∷ added_up ++ resume ∷ []

-- ---- an update of a row that came from a third site

abbrev updated : WorldState
updated = after (three_masters ++ block a (insert 1 10 ∷ []) ++ push a b ∷ block b (add 1 5 ∷ []))

update_waits : push_count b c None updated ≡ counted 1 0 0 0
unfolding group_columns_of columns_step broken_rule
update_waits = refl

rounds_bring_it : push_count a c None (then_lines (push b c ∷ []) updated) ≡ counted 1 2 0 1
unfolding group_columns_of columns_step broken_rule
rounds_bring_it = refl

abbrev brought : WorldState
brought = then_lines (push b c ∷ push a c ∷ []) updated

no_error_to_execute : world_refusal (execute c b 1) brought ≡ Some refusal.NoSuchError
unfolding group_columns_of columns_step broken_rule
no_error_to_execute = refl

back_at_the_first : push_count b a None brought ≡ counted 1 1 0 1
unfolding group_columns_of columns_step broken_rule
back_at_the_first = refl

all_have_it : rows_at c (then_lines (push b a ∷ []) brought) ++ rows_at a (then_lines (push b a ∷ []) brought) ≡ (row 1 15 ∷ []) ∷ (row 1 15 ∷ []) ∷ []
unfolding group_columns_of columns_step broken_rule
all_have_it = refl

-- ---- a gap: what was seen is the greatest finished number, though the one before was lost

abbrev gap : WorldState
gap = after (three_masters ++ block a (insert 1 10 ∷ []) ++ block a (insert 2 20 ∷ []) ++ (command.Fates a b (Lose ∷ [])) ∷ push a b ∷ block b (add 2 1 ∷ []))

gap_waits : push_count b c None gap ≡ counted 1 0 0 0
unfolding group_columns_of columns_step broken_rule
gap_waits = refl

one_by_count : push_count a c (Some 1) (then_lines (push b c ∷ []) gap) ≡ counted 1 1 0 1
unfolding group_columns_of columns_step broken_rule
one_by_count = refl

then_the_rest : push_count a c None (then_lines (push b c ∷ push_some a c 1 ∷ []) gap) ≡ counted 1 2 0 2
unfolding group_columns_of columns_step broken_rule
then_the_rest = refl

-- ---- a chain that takes two rounds: c waits for b, b's own update waits for a, and a's comes last

abbrev chain : WorldState
chain = after (master_line c ∷ master_line b ∷ master_line a ∷ master_line d ∷ id_and_q ∷ added_up ++ resume ∷ block a (insert 1 10 ∷ []) ++ push a b ∷ block b (add 1 5 ∷ []) ++ push a c ∷ push b c ∷ block c (add 1 7 ∷ []) ++ push c d ∷ push b d ∷ [])

nothing_yet : rows_at d chain ≡ [] ∷ []
unfolding group_columns_of columns_step broken_rule
nothing_yet = refl

two_rounds_bring_all : push_count a d None chain ≡ counted 1 3 0 1
unfolding group_columns_of columns_step broken_rule
two_rounds_bring_all = refl

rows_of_the_chain : rows_at d (then_lines (push a d ∷ []) chain) ≡ (row 1 22 ∷ []) ∷ []
unfolding group_columns_of columns_step broken_rule
rows_of_the_chain = refl
