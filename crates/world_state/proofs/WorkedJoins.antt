-- A late master joins.
use Rattle.std.specs.Prelude.{◌≡◌, refl, ℕ, ◌++◌, List, [], ◌∷◌, Some, None}
use Rattle.rep_values.specs.declared.name.SiteName.{SiteName}
use Rattle.rep_values.specs.declared.refusal.Refusal.{Refusal}
use Rattle.rep_values.specs.declared.refusal.Refusal.TheVariants as refusal
use Rattle.rep_schema.specs.Groups.{group_columns_of}
use Rattle.rep_declare.specs.Refusals.{columns_step}
use Rattle.schema_rules.specs.Rules.{broken_rule}
use Rattle.site_state.proofs.WorkedSites.{a, b, c, d, row, add}
use Rattle.world_state.specs.declared.refused.Refused.{Refused}
use Rattle.script_parse.specs.declared.command.Command.{Command}
use Rattle.script_parse.specs.declared.command.Command.TheVariants as command
use Rattle.world_state.specs.World.{WorldState}
use Rattle.world_state.specs.PushAnswers.{push_count}
use Rattle.world_state.specs.Refusals.{world_refusal}
use Rattle.world_state.specs.Answers.{join_count}
use Rattle.world_state.proofs.WorkedScripts.{master_line, late_line, id_and_q, added_up, row_line, resume, suspend, block, push, after, then_lines, told, counted, rows_at}

abbrev at_line : ℕ → Refusal → Refused
at_line number why = record { line = number; refusal = why }

abbrev join : SiteName → SiteName → Command
join site source = command.Join site source

abbrev with_late : List Command
with_late = master_line a ∷ master_line b ∷ late_line d ∷ id_and_q ∷ added_up ++ row_line 1 10 ∷ resume ∷ []

abbrev queued : WorldState
queued = then_lines (block a (add 1 5 ∷ []) ++ suspend ∷ []) (after with_late)

join_waits_for_quiet : told 13 (join d a ∷ push a b ∷ join d a ∷ resume ∷ block b (add 1 2 ∷ [])) queued ≡ at_line 13 (refusal.NotQuiet b 1) ∷ []
unfolding group_columns_of columns_step broken_rule
join_waits_for_quiet = refl

join_takes_over_one_row : join_count a queued ≡ 1
unfolding group_columns_of columns_step broken_rule
join_takes_over_one_row = refl

abbrev joined : WorldState
joined = then_lines (push a b ∷ join d a ∷ resume ∷ block b (add 1 2 ∷ [])) queued

joined_master_takes : push_count b d None joined ≡ counted 1 1 0 1
unfolding group_columns_of columns_step broken_rule
joined_master_takes = refl

joined_rows : rows_at d (then_lines (push b d ∷ []) joined) ≡ (row 1 17 ∷ []) ∷ []
unfolding group_columns_of columns_step broken_rule
joined_rows = refl

joins_that_are_refused : told 9 (push a d ∷ join d a ∷ suspend ∷ join d b ∷ join d b ∷ []) (after with_late) ≡ at_line 9 refusal.UnknownName ∷ at_line 10 refusal.WrongPhase ∷ at_line 13 refusal.NameTaken ∷ []
unfolding group_columns_of columns_step broken_rule
joins_that_are_refused = refl

joined_before_the_source : world_refusal (join d c) (then_lines (suspend ∷ []) joined) ≡ Some refusal.NameTaken
unfolding group_columns_of columns_step broken_rule
joined_before_the_source = refl

no_early_master_joins : world_refusal (join b a) (after (with_late ++ suspend ∷ [])) ≡ Some refusal.UnknownName
unfolding group_columns_of columns_step broken_rule
no_early_master_joins = refl

no_absent_source : world_refusal (join d d) (after (with_late ++ suspend ∷ [])) ≡ Some refusal.UnknownName
unfolding group_columns_of columns_step broken_rule
no_absent_source = refl
